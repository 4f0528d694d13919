-- What the lines of a checkable tell.
use Rattle.std.proofs.Common.{◌≡◌, ℕ, ◌==◌, Bool, true, false, cond, List, [], ◌∷◌, ◌++◌, map, Some, None, refl, sym, ap, ap₂, ◌∙◌}
use Rattle.std.proofs.lemmas.Bool.Decides.{Decides-eqb}
use Rattle.std.proofs.lemmas.Option.{same_Some}
use Rattle.serde_json.specs.Data.{Data, null, boolean, number, string, array, object, Items, no_items, item}
use Rattle.serde_json.specs.Find.{as_array, as_str}
use Rattle.log_text.specs.EntryReading.{entry_two_read}
use Rattle.log_text.specs.Fronts.{◌>>=◌}
use Rattle.log_text.specs.SiteNames.{PlainNames, names_of}
use Rattle.log_text.proofs.FieldLaws.{bind_some}
use Rattle.site_model.specs.PlainSite.{PlainSite}
use Rattle.site_model.specs.declared.entry.Entry.{Entry}
use Rattle.site_keep.specs.Reading.{before, entries_among, entry_in, line_read, own}
use Rattle.site_keep.specs.Shape.{line_items}
use Rattle.site_keep.specs.States.{AreLinesOf}

abbrev told_by : ℕ → Entry → ℕ × Entry
told_by k e = (k, e)

own_sound : (k : ℕ) (x : ℕ × Entry) (e : Entry) → own k x ≡ Some e → x ≡ told_by k e
own_sound k x e h = by (x.0 == k) refl h
  where
    by : (b : Bool) → (x.0 == k) ≡ b → cond b (Some x.1) None ≡ Some e → x ≡ told_by k e
    by true t h = ap₂ told_by ((Decides-eqb x.0 k).0 t) (same_Some x.1 e h)
    by false t h = absurd cc

own_complete : (k : ℕ) (e : Entry) → own k (told_by k e) ≡ Some e
own_complete k e = ap (λ b. cond b (Some e) None) ((Decides-eqb k k).1 refl)

pub str_sound : (d : Data) (text : List ℕ) → as_str d ≡ Some text → d ≡ string text
str_sound null text h = absurd cc
str_sound (boolean b) text h = absurd cc
str_sound (number n) text h = absurd cc
str_sound (string s) text h = ap string (same_Some s text h)
str_sound (array ds) text h = absurd cc
str_sound (object ms) text h = absurd cc

pub array_sound : (d : Data) (ds : Items) → as_array d ≡ Some ds → d ≡ array ds
array_sound null ds h = absurd cc
array_sound (boolean b) ds h = absurd cc
array_sound (number n) ds h = absurd cc
array_sound (string s) ds h = absurd cc
array_sound (array es) ds h = ap array (same_Some es ds h)
array_sound (object ms) ds h = absurd cc

entry_sound : (s : PlainSite) (k : ℕ) (d : Data) (e : Entry) → entry_in (names_of s) k d ≡ Some e → (line : List ℕ) × (d ≡ string line) × (entry_two_read (names_of s) (line ++ 10 ∷ []) ≡ Some (told_by k e))
unfolding entry_in
entry_sound s k d e h =
    let a = bind_some (as_str d) (line_read (names_of s) k) e h in
    let b = bind_some (entry_two_read (names_of s) (a.0 ++ 10 ∷ [])) (own k) e a.2 in
    (a.0, str_sound d a.0 a.1, b.1 ∙ ap Some (own_sound k b.0 e b.2))

pub entry_complete : (names : PlainNames) (k : ℕ) (line : List ℕ) (e : Entry) → entry_two_read names (line ++ 10 ∷ []) ≡ Some (told_by k e) → entry_in names k (string line) ≡ Some e
unfolding entry_in
entry_complete names k line e h = ap (λ o. o >>= own k) h ∙ own_complete k e

pub lines_sound : (s : PlainSite) (k : ℕ) (ds : Items) (h : List Entry) → entries_among (names_of s) k ds ≡ Some h → (lines : List (List ℕ)) × (ds ≡ line_items lines) × AreLinesOf s k lines h
lines_sound s k no_items h e = ([], refl, ap (map (λ x. Some (told_by k x))) (same_Some [] h e))
lines_sound s k (item d ds) h e =
    let a = bind_some (entry_in (names_of s) k d) (λ x. entries_among (names_of s) k ds >>= before x) h e in
    let b = bind_some (entries_among (names_of s) k ds) (before a.0) h a.2 in
    let one = entry_sound s k d a.0 a.1 in
    let more = lines_sound s k ds b.0 b.1 in
    (one.0 ∷ more.0, ap₂ item one.1 more.1, ap₂ (λ x xs. x ∷ xs) one.2 more.2 ∙ ap (map (λ x. Some (told_by k x))) (same_Some (a.0 ∷ b.0) h b.2))

pub lines_complete : (s : PlainSite) (k : ℕ) (lines : List (List ℕ)) (h : List Entry) → AreLinesOf s k lines h → entries_among (names_of s) k (line_items lines) ≡ Some h
lines_complete s k [] [] e = refl
lines_complete s k [] (x ∷ h) e = absurd cc
lines_complete s k (line ∷ lines) [] e = absurd cc
lines_complete s k (line ∷ lines) (x ∷ h) e =
    let first : entry_two_read (names_of s) (line ++ 10 ∷ []) ≡ Some (told_by k x) = cc in
    let rest : AreLinesOf s k lines h = cc in
    ap (λ o. o >>= λ y. (entries_among (names_of s) k (line_items lines) >>= before y)) (entry_complete (names_of s) k line x first) ∙ ap (λ o. o >>= before x) (lines_complete s k lines h rest)

-- the lines tell which entries these are
pub same_lines : (s : PlainSite) (k : ℕ) (lines : List (List ℕ)) (g h : List Entry) → AreLinesOf s k lines g → AreLinesOf s k lines h → g ≡ h
same_lines s k lines g h a b = same_Some g h (sym (lines_complete s k lines g a) ∙ lines_complete s k lines h b)
