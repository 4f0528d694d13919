-- What is read of a state file, step by step, is what makes bytes one.
use Rattle.std.proofs.Common.{◌≡◌, ◌≢◌, ◌⊎◌, ℕ, suc, ◌==◌, ◌<◌, Bool, true, false, cond, List, [], ◌∷◌, codes, map, length, slice_get, set, Option, Some, None, All, Contains, IsUtf8, bytes_eq, inl, inr, refl, sym, ap, ap₂, ◌∙◌, arith, subst}
use Rattle.std.specs.List.{AllByRecursion}
use Rattle.std.specs.Option.{unwrap_or}
use Rattle.std.proofs.lemmas.Bool.Decides.{Decides-eqb}
use Rattle.std.proofs.lemmas.List.{length-set}
use Rattle.std.proofs.lemmas.List.Elements.{All-from_recursion, All-map, All-nil}
use Rattle.std.proofs.lemmas.List.Kept.{AllPairs-cons}
use Rattle.std.proofs.lemmas.Option.{same_Some, slice_get_within}
use Rattle.std.proofs.lemmas.Slice.Eq.{bytes_eq-Decides}
use Rattle.serde_json.specs.Data.{Data, null, boolean, number, string, array, object, unsigned, negative, float, Items, no_items, item, no_members, member}
use Rattle.serde_json.specs.Find.{as_array, as_number, as_str, as_u64}
use Rattle.checkable_core.specs.Histories.{IsHistory}
use Rattle.checkable_core.specs.HistoryTests.{is_history_from}
use Rattle.checkable_core.proofs.Tests.{history}
use Rattle.log_text.specs.Fronts.{◌>>=◌}
use Rattle.log_text.specs.SiteNames.{names_of}
use Rattle.log_text.proofs.FieldLaws.{bind_some}
use Rattle.run_meaning.specs.Turns.{Histories}
use Rattle.run_meaning.proofs.Lists.{length_map}
use Rattle.site_model.specs.Names.{place_of}
use Rattle.site_model.specs.PlainSite.{PlainCheck, PlainSite}
use Rattle.site_model.specs.Sound.{AreDistinct, HasNames}
use Rattle.site_model.specs.declared.entry.Entry.{Entry}
use Rattle.site_keep.specs.Reading.{Told, checkables_in, checkables_with, checked, entries_among, entries_in, histories_of_told, histories_told, if_first, is_untold, none_told, state_read, told_in, told_read, with_all, with_entries, with_history, with_named, with_one, with_parts}
use Rattle.site_keep.specs.Shape.{Saved, line_items, saved_data, saved_items, state_data, two_members, value_of}
use Rattle.site_keep.specs.States.{AreLinesOf, HasLines, IsState}
use Rattle.site_keep.proofs.LineLaws.{array_sound, lines_complete, lines_sound, same_lines, str_sound}
use Rattle.site_keep.proofs.PlaceLaws.{all_at, all_by_place, at_contained, contains_at, map_at, one_by_one, place_at, place_found, same_at_each, same_place, set_elsewhere, set_here, some_at}
use Rattle.site_keep.proofs.ShapeLaws.{two_complete, two_sound, value_found, value_tells}

-- One checkable.

-- with the entries of this one more is told so
pub record Step (s : PlainSite) (told : Told) (x : Saved) (next : Told) : Type 0 where
  pub place : ℕ
  pub history : List Entry
  pub at : slice_get s.names place ≡ Some x.name
  pub free : slice_get told place ≡ Some None
  pub lines : AreLinesOf s place x.lines history
  pub lawful : IsHistory s history
  pub is : next ≡ set told place (Some history)

checked_sound : (s : PlainSite) (g h : List Entry) → checked s g ≡ Some h → (g ≡ h) × IsHistory s h
checked_sound s g h e = by (is_history_from s 0 0 g) refl e
  where
    by : (b : Bool) → is_history_from s 0 0 g ≡ b → cond b (Some g) None ≡ Some h → (g ≡ h) × IsHistory s h
    by true t e = (same_Some g h e, subst (IsHistory s) (same_Some g h e) ((history s g).0 t))
    by false t e = absurd cc

checked_complete : (s : PlainSite) (h : List Entry) → IsHistory s h → checked s h ≡ Some h
checked_complete s h lawful = ap (λ b. cond b (Some h) None) ((history s h).1 lawful)

-- the entries of the checkable at a place
record Placed (s : PlainSite) (told : Told) (d : Data) (k : ℕ) (next : Told) : Type 0 where
  pub lines : List (List ℕ)
  pub history : List Entry
  pub shape : d ≡ array (line_items lines)
  pub free : slice_get told k ≡ Some None
  pub tell : AreLinesOf s k lines history
  pub lawful : IsHistory s history
  pub is : next ≡ set told k (Some history)

placed_by : (s : PlainSite) (told : Told) (d : Data) (k : ℕ) (next : Told) (o : Option (Option (List Entry))) → slice_get told k ≡ o
    → cond (is_untold o) (entries_in (names_of s) k d >>= checked s >>= with_history told k) None ≡ Some next → Placed s told d k next
unfolding entries_in
placed_by s told d k next None free e = absurd cc
placed_by s told d k next (Some (Some h)) free e = absurd cc
placed_by s told d k next (Some None) free e =
    let a = bind_some (as_array d >>= entries_among (names_of s) k >>= checked s) (with_history told k) next e in
    let b = bind_some (as_array d >>= entries_among (names_of s) k) (checked s) a.0 a.1 in
    let c = bind_some (as_array d) (entries_among (names_of s) k) b.0 b.1 in
    let lawful = checked_sound s b.0 a.0 b.2 in
    let lines = lines_sound s k c.0 b.0 c.2 in
    record {
      lines = lines.0;
      history = a.0;
      shape = array_sound d c.0 c.1 ∙ ap array lines.1;
      free = free;
      tell = subst (AreLinesOf s k lines.0) lawful.0 lines.2;
      lawful = lawful.1;
      is = sym (same_Some (set told k (Some a.0)) next a.2);
    }

placed_sound : (s : PlainSite) (told : Told) (d : Data) (k : ℕ) (next : Told) → with_entries s told d k ≡ Some next → Placed s told d k next
unfolding with_entries
placed_sound s told d k next e = placed_by s told d k next (slice_get told k) refl e

placed_complete : (s : PlainSite) (told : Told) (lines : List (List ℕ)) (k : ℕ) (h : List Entry) → slice_get told k ≡ Some None → AreLinesOf s k lines h → IsHistory s h
    → with_entries s told (array (line_items lines)) k ≡ Some (set told k (Some h))
unfolding with_entries entries_in
placed_complete s told lines k h free tell lawful =
    ap (λ o. cond (is_untold o) (entries_among (names_of s) k (line_items lines) >>= checked s >>= with_history told k) None) free
    ∙ ap (λ o. o >>= checked s >>= with_history told k) (lines_complete s k lines h tell)
    ∙ ap (λ o. o >>= with_history told k) (checked_complete s h lawful)

one_sound : (s : PlainSite) (told : Told) (d : Data) (next : Told) → with_one s told d ≡ Some next → (x : Saved) × (d ≡ saved_data x) × Step s told x next
unfolding with_one
one_sound s told d next e =
    let a = bind_some (two_members (codes "entries") (codes "name") d) (with_parts s told) next e in
    let b = bind_some (as_str a.0.1) (with_named s told a.0.0) next a.2 in
    let c = bind_some (place_of b.0 s.names) (with_entries s told a.0.0) next b.2 in
    let p : Placed s told a.0.0 c.0 next = placed_sound s told a.0.0 c.0 next c.2 in
    let x : Saved = record { name = b.0; lines = p.lines } in (
      x,
      two_sound (codes "entries") (codes "name") d a.0.0 a.0.1 a.1 ∙ ap₂ (λ entries name. object (member (codes "entries") entries (member (codes "name") name no_members))) p.shape (str_sound a.0.1 b.0 b.1),
      record { place = c.0; history = p.history; at = place_at s.names b.0 c.0 c.1; free = p.free; lines = p.tell; lawful = p.lawful; is = p.is },
    )

one_complete : (s : PlainSite) → AreDistinct s.names → (told : Told) (x : Saved) (next : Told) → Step s told x next → with_one s told (saved_data x) ≡ Some next
unfolding with_one
one_complete s apart told x next t =
    ap (λ o. o >>= with_parts s told) (two_complete (codes "entries") (codes "name") (array (line_items x.lines)) (string x.name))
    ∙ ap (λ o. o >>= with_entries s told (array (line_items x.lines))) (place_found s.names x.name t.place apart t.at)
    ∙ placed_complete s told x.lines t.place t.history t.free t.lines t.lawful
    ∙ ap Some (sym t.is)

-- All of them.

abbrev pub Steps : PlainSite → Told → List Saved → Told → Type 0
Steps s told [] final = told ≡ final
Steps s told (x ∷ xs) final = (next : Told) × Step s told x next × Steps s next xs final

all_sound : (s : PlainSite) (told : Told) (ds : Items) (final : Told) → with_all s told ds ≡ Some final → (xs : List Saved) × (ds ≡ saved_items xs) × Steps s told xs final
all_sound s told no_items final e = ([], refl, same_Some told final e)
all_sound s told (item d ds) final e =
    let a = bind_some (with_one s told d) (λ next. with_all s next ds) final e in
    let one = one_sound s told d a.0 a.1 in
    let more = all_sound s a.0 ds final a.2 in
    (one.0 ∷ more.0, ap₂ item one.1 more.1, (a.0, one.2, more.2))

all_complete : (s : PlainSite) → AreDistinct s.names → (told : Told) (xs : List Saved) (final : Told) → Steps s told xs final → with_all s told (saved_items xs) ≡ Some final
all_complete s apart told [] final e = ap Some e
all_complete s apart told (x ∷ xs) final (next, step, rest) =
    ap (λ o. o >>= λ t. with_all s t (saved_items xs)) (one_complete s apart told x next step) ∙ all_complete s apart next xs final rest

step_length : (s : PlainSite) (told : Told) (x : Saved) (next : Told) → Step s told x next → length next ≡ length told
step_length s told x next t = ap length t.is ∙ length-set told t.place (Some t.history)

steps_length : (s : PlainSite) (told : Told) (xs : List Saved) (final : Told) → Steps s told xs final → length final ≡ length told
steps_length s told [] final e = ap length (sym e)
steps_length s told (x ∷ xs) final (next, step, rest) = steps_length s next xs final rest ∙ step_length s told x next step

-- What becomes of one place.

abbrev AreOthers : List ℕ → List Saved → Type 0
AreOthers name xs = AllByRecursion (λ x. x.name ≢ name) xs

record Named (s : PlainSite) (told : Told) (xs : List Saved) (final : Told) (k : ℕ) (name : List ℕ) : Type 0 where
  pub index : ℕ
  pub one : Saved
  pub among : slice_get xs index ≡ Some one
  pub same : one.name ≡ name
  pub free : slice_get told k ≡ Some None
  pub history : List Entry
  pub lawful : IsHistory s history
  pub is : slice_get final k ≡ Some (Some history)

abbrev Fate : PlainSite → Told → List Saved → Told → ℕ → List ℕ → Type 0
Fate s told xs final k name = (AreOthers name xs × (slice_get final k ≡ slice_get told k)) ⊎ Named s told xs final k name

none≢some : {P : Type 0} (h : List Entry) (o : Option (Option (List Entry))) → o ≡ Some None → o ≡ Some (Some h) → P
none≢some h o a b = let e : Some None ≡ Some (Some h) = sym a ∙ b in absurd cc

fate : (s : PlainSite) → AreDistinct s.names → (told : Told) (xs : List Saved) (final : Told) → Steps s told xs final → (k : ℕ) (name : List ℕ) → slice_get s.names k ≡ Some name → k < length told → Fate s told xs final k name
fate s apart told [] final e k name at within = inl (tt, ap (λ t. slice_get t k) (sym e))
fate s apart told (x ∷ xs) final (next, step, rest) k name at within = by (bytes_eq x.name name) refl (fate s apart next xs final rest k name at (omega (arith, step_length s told x next step, within)))
  where
    by : (b : Bool) → bytes_eq x.name name ≡ b → Fate s next xs final k name → Fate s told (x ∷ xs) final k name
    by true t more =
        let same : x.name ≡ name = (bytes_eq-Decides x.name name).0 t in
        let here : k ≡ step.place = same_place s.names name k step.place apart at (step.at ∙ ap Some same) in
        let free : slice_get told k ≡ Some None = ap (slice_get told) here ∙ step.free in
        let put : slice_get next k ≡ Some (Some step.history) =
        ap₂ slice_get step.is here ∙ set_here told step.place (Some step.history) (slice_get_within told step.place None step.free) in
        elim more [
          | inl u ↦ inr (record { index = 0; one = x; among = refl; same = same; free = free; history = step.history; lawful = step.lawful; is = u.1 ∙ put })
          | inr u ↦ none≢some step.history (slice_get next k) u.free put
        ]
    by false t more =
        let other : x.name ≢ name = λ e. let yes : bytes_eq x.name name ≡ true = (bytes_eq-Decides x.name name).1 e in absurd cc in
        let elsewhere : k ≢ step.place = λ e. other (same_Some x.name name (sym step.at ∙ ap (slice_get s.names) (sym e) ∙ at)) in
        let kept : slice_get next k ≡ slice_get told k = ap (λ t. slice_get t k) step.is ∙ set_elsewhere told step.place k (Some step.history) elsewhere in
        elim more [
          | inl u ↦ inl ((other, u.0), u.1 ∙ kept)
          | inr u ↦ inr (record { index = suc u.index; one = u.one; among = u.among; same = u.same; free = sym kept ∙ u.free; history = u.history; lawful = u.lawful; is = u.is })
        ]

-- each that is named has the entries of its lines
abbrev HasEntries : PlainSite → Told → Saved → Type 0
HasEntries s final x = (k : ℕ) → slice_get s.names k ≡ Some x.name → (h : List Entry) × (slice_get final k ≡ Some (Some h)) × AreLinesOf s k x.lines h

named_lines : (s : PlainSite) → AreDistinct s.names → (told : Told) (xs : List Saved) (final : Told) → Steps s told xs final → AllByRecursion (HasEntries s final) xs
named_lines s apart told [] final e = tt
named_lines s apart told (x ∷ xs) final (next, step, rest) = (first, named_lines s apart next xs final rest)
  where
    put : slice_get next step.place ≡ Some (Some step.history)
    put = ap (λ t. slice_get t step.place) step.is ∙ set_here told step.place (Some step.history) (slice_get_within told step.place None step.free)

    first : HasEntries s final x
    first k at =
        let here : k ≡ step.place = same_place s.names x.name k step.place apart at step.at in
        elim (fate s apart next xs final rest step.place x.name step.at (slice_get_within next step.place (Some step.history) put)) [
          | inl u ↦ (step.history, ap (slice_get final) here ∙ u.1 ∙ put, subst (λ i. AreLinesOf s i x.lines step.history) (sym here) step.lines)
          | inr u ↦ none≢some step.history (slice_get next step.place) u.free put
        ]

names_once : (s : PlainSite) → AreDistinct s.names → (told : Told) (xs : List Saved) (final : Told) → Steps s told xs final → AreDistinct (map (λ (x : Saved). x.name) xs)
names_once s apart told [] final e = λ i j d lt within. absurd (omega (arith, within))
names_once s apart told (x ∷ xs) final (next, step, rest) =
    AllPairs-cons (λ a b. a ≢ b) x.name (map (λ (y : Saved). y.name) xs) others (names_once s apart next xs final rest)
  where
    put : slice_get next step.place ≡ Some (Some step.history)
    put = ap (λ t. slice_get t step.place) step.is ∙ set_here told step.place (Some step.history) (slice_get_within told step.place None step.free)

    turned : (ys : List Saved) → AreOthers x.name ys → AllByRecursion (λ (y : Saved). x.name ≢ y.name) ys
    turned [] h = tt
    turned (y ∷ ys) h = (λ e. h.0 (sym e), turned ys h.1)

    others : All (λ b. x.name ≢ b) (map (λ (y : Saved). y.name) xs)
    others = elim (fate s apart next xs final rest step.place x.name step.at (slice_get_within next step.place (Some step.history) put)) [
      | inl u ↦ All-map (λ b. x.name ≢ b) (λ (y : Saved). y.name) xs (All-from_recursion (λ (y : Saved). x.name ≢ y.name) xs (turned xs u.0))
      | inr u ↦ none≢some step.history (slice_get next step.place) u.free put
    ]

names_own : (s : PlainSite) (told : Told) (xs : List Saved) (final : Told) → Steps s told xs final → AllByRecursion (λ (x : Saved). Contains s.names x.name) xs
names_own s told [] final e = tt
names_own s told (x ∷ xs) final (next, step, rest) = (contains_at s.names x.name step.place step.at, names_own s next xs final rest)

-- The state file.

none_at : (s : PlainSite) (k : ℕ) → k < length s.checkables → slice_get (none_told s) k ≡ Some None
none_at s k within = let c = some_at s.checkables k within in map_at (λ (c : PlainCheck). None) s.checkables k c.0 c.1

many_told : (s : PlainSite) → length (none_told s) ≡ length s.checkables
many_told s = length_map (λ (c : PlainCheck). None) s.checkables

many_names : (s : PlainSite) → HasNames s → length s.names ≡ length s.checkables
many_names s n = ap length n.named ∙ length_map (λ (c : PlainCheck). c.name) s.checkables

no_history : (s : PlainSite) → IsHistory s []
no_history s = record { numbers = refl; moments = tt; entries = All-nil _ }

abbrev told_or : Option (List Entry) → List Entry
told_or h = unwrap_or h []

steps_state : (s : PlainSite) → HasNames s → (bytes : List ℕ) → IsUtf8 bytes → (xs : List Saved) (final : Told) → value_of bytes ≡ Some (state_data xs) → Steps s (none_told s) xs final → IsState s bytes (histories_told final)
steps_state s n bytes text xs final shape steps = record {
  told = xs;
  text = text;
  shape = (value_tells bytes (state_data xs) shape).1;
  once = names_once s n.distinct (none_told s) xs final steps;
  own = All-from_recursion (λ (x : Saved). Contains s.names x.name) xs (names_own s (none_told s) xs final steps);
  whole = length_map told_or final ∙ long;
  lawful = All-from_recursion (IsHistory s) (histories_told final) (all_by_place (IsHistory s) (histories_told final) lawful);
  named = All-from_recursion (HasLines s (histories_told final)) xs (each xs (named_lines s n.distinct (none_told s) xs final steps));
  unnamed = unnamed;
}
  where
    long : length final ≡ length s.checkables
    long = steps_length s (none_told s) xs final steps ∙ many_told s

    ends : (k : ℕ) (name : List ℕ) → slice_get s.names k ≡ Some name → Fate s (none_told s) xs final k name
    ends k name at = fate s n.distinct (none_told s) xs final steps k name at (omega (arith, slice_get_within s.names k name at, many_names s n, many_told s))

    within_of : (k : ℕ) (name : List ℕ) → slice_get s.names k ≡ Some name → k < length s.checkables
    within_of k name at = omega (arith, slice_get_within s.names k name at, many_names s n)

    lawful : (k : ℕ) (h : List Entry) → slice_get (histories_told final) k ≡ Some h → IsHistory s h
    lawful k h at =
        let within : k < length s.names = omega (arith, slice_get_within (histories_told final) k h at, length_map told_or final, long, many_names s n) in
        let name = some_at s.names k within in
        elim (ends k name.0 name.1) [
          | inl u ↦ subst (IsHistory s) (same_Some [] h (sym (map_at told_or final k None (u.1 ∙ none_at s k (within_of k name.0 name.1))) ∙ at)) (no_history s)
          | inr u ↦ subst (IsHistory s) (same_Some u.history h (sym (map_at told_or final k (Some u.history) u.is) ∙ at)) u.lawful
        ]

    each : (ys : List Saved) → AllByRecursion (HasEntries s final) ys → AllByRecursion (HasLines s (histories_told final)) ys
    each [] h = tt
    each (y ∷ ys) h = (one y h.0, each ys h.1)
      where
        one : (x : Saved) → HasEntries s final x → HasLines s (histories_told final) x
        one x entries k g at here =
            let own = entries k at in
            subst (AreLinesOf s k x.lines) (same_Some own.0 g (sym (map_at told_or final k (Some own.0) own.1) ∙ here)) own.2

    unnamed : (k : ℕ) (name : List ℕ) → slice_get s.names k ≡ Some name → All (λ (x : Saved). x.name ≢ name) xs → slice_get (histories_told final) k ≡ Some []
    unnamed k name at others = elim (ends k name at) [
      | inl u ↦ map_at told_or final k None (u.1 ∙ none_at s k (within_of k name at))
      | inr u ↦ absurd (all_at (λ (x : Saved). x.name ≢ name) xs u.index u.one (one_by_one (λ (x : Saved). x.name ≢ name) xs others) u.among u.same)
    ]

version_sound : (d : Data) (n : ℕ) → (as_number d >>= as_u64) ≡ Some n → d ≡ number (unsigned n)
version_sound null n e = absurd cc
version_sound (boolean b) n e = absurd cc
version_sound (number (unsigned m)) n e = ap (λ x. number (unsigned x)) (same_Some m n e)
version_sound (number (negative z)) n e = absurd cc
version_sound (number (float x)) n e = absurd cc
version_sound (string s) n e = absurd cc
version_sound (array ds) n e = absurd cc
version_sound (object ms) n e = absurd cc

first_by : (o : Option Items) (n : ℕ) (ds : Items) (b : Bool) → (n == 1) ≡ b → cond b o None ≡ Some ds → (n ≡ 1) × (o ≡ Some ds)
first_by o n ds true t e = ((Decides-eqb n 1).0 t, e)
first_by o n ds false t e = absurd cc

checkables_sound : (d : Data) (ds : Items) → checkables_in d ≡ Some ds → d ≡ object (member (codes "checkables") (array ds) (member (codes "version") (number (unsigned 1)) no_members))
unfolding checkables_in
checkables_sound d ds e =
    let a = bind_some (two_members (codes "checkables") (codes "version") d) checkables_with ds e in
    let b = bind_some (as_number a.0.1 >>= as_u64) (if_first (as_array a.0.0)) ds a.2 in
    let c = first_by (as_array a.0.0) b.0 ds (b.0 == 1) refl b.2 in
    two_sound (codes "checkables") (codes "version") d a.0.0 a.0.1 a.1
    ∙ ap₂ (λ checkables version. object (member (codes "checkables") checkables (member (codes "version") version no_members))) (array_sound a.0.0 ds c.1) (version_sound a.0.1 b.0 b.1 ∙ ap (λ n. number (unsigned n)) c.0)

pub checkables_complete : (xs : List Saved) → checkables_in (state_data xs) ≡ Some (saved_items xs)
unfolding checkables_in
checkables_complete xs = ap (λ o. o >>= checkables_with) (two_complete (codes "checkables") (codes "version") (array (saved_items xs)) (number (unsigned 1)))

pub state_sound : (s : PlainSite) → HasNames s → (bytes : List ℕ) (hs : Histories) → state_read s bytes ≡ Some hs → IsState s bytes hs
state_sound s n bytes hs e =
    let b = bind_some (told_read s bytes) histories_of_told hs e in
    let a = bind_some (value_of bytes) (told_in s) b.0 b.1 in
    let c = bind_some (checkables_in a.0) (with_all s (none_told s)) b.0 a.2 in
    let all = all_sound s (none_told s) c.0 b.0 c.2 in
    let shape : value_of bytes ≡ Some (state_data all.0) =
    a.1 ∙ ap Some (checkables_sound a.0 c.0 c.1 ∙ ap (λ ds. object (member (codes "checkables") (array ds) (member (codes "version") (number (unsigned 1)) no_members))) all.1) in
    subst (IsState s bytes) (same_Some (histories_told b.0) hs b.2) (steps_state s n bytes (value_tells bytes a.0 a.1).0 all.0 b.0 shape all.2)

-- The other way.

abbrev Ready : PlainSite → Saved → Type 0
Ready s x = (k : ℕ) × (h : List Entry) × (slice_get s.names k ≡ Some x.name) × AreLinesOf s k x.lines h × IsHistory s h

abbrev AreApart : List Saved → Type 0
AreApart [] = Unit {0}
AreApart (x ∷ xs) = AreOthers x.name xs × AreApart xs

abbrev AreFree : PlainSite → Told → List Saved → Type 0
AreFree s told xs = AllByRecursion (λ x. (k : ℕ) → slice_get s.names k ≡ Some x.name → slice_get told k ≡ Some None) xs

still_free : (s : PlainSite) (told : Told) (x : Saved) (k : ℕ) (h : List Entry) → slice_get s.names k ≡ Some x.name → (xs : List Saved) → AreOthers x.name xs → AreFree s told xs → AreFree s (set told k (Some h)) xs
still_free s told x k h at [] others free = tt
still_free s told x k h at (y ∷ ys) others free = (first, still_free s told x k h at ys others.1 free.1)
  where
    first : (j : ℕ) → slice_get s.names j ≡ Some y.name → slice_get (set told k (Some h)) j ≡ Some None
    first j there =
        let elsewhere : j ≢ k = λ e. others.0 (same_Some y.name x.name (sym there ∙ ap (slice_get s.names) e ∙ at)) in
        set_elsewhere told k j (Some h) elsewhere ∙ free.0 j there

steps_of : (s : PlainSite) (told : Told) (xs : List Saved) → AllByRecursion (Ready s) xs → AreApart xs → AreFree s told xs → (final : Told) × Steps s told xs final
steps_of s told [] ready apart free = (told, refl)
steps_of s told (x ∷ xs) ready apart free =
    let r = ready.0 in
    let next : Told = set told r.0 (Some r.1) in
    let step : Step s told x next = record { place = r.0; history = r.1; at = r.2; free = free.0 r.0 r.2; lines = r.3; lawful = r.4; is = refl } in
    let more = steps_of s next xs ready.1 apart.1 (still_free s told x r.0 r.1 r.2 xs apart.0 free.1) in
    (more.0, (next, step, more.1))

apart_from : (xs : List Saved) → AreDistinct (map (λ (x : Saved). x.name) xs) → AreApart xs
apart_from [] h = tt
apart_from (x ∷ xs) h = (all_by_place (λ (y : Saved). y.name ≢ x.name) xs first, apart_from xs (λ i j d lt within. h (suc i) (suc j) d (omega (arith, lt)) (omega (arith, within))))
  where
    names : List (List ℕ)
    names = map (λ (y : Saved). y.name) xs

    first : (k : ℕ) (y : Saved) → slice_get xs k ≡ Some y → y.name ≢ x.name
    first k y at = λ e.
        let there : slice_get (x.name ∷ names) (suc k) ≡ Some x.name = map_at (λ (z : Saved). z.name) xs k y at ∙ ap Some e in
        let same : 0 ≡ suc k = same_place (x.name ∷ names) x.name 0 (suc k) h refl there in
        absurd (omega (arith, same))

free_of : (s : PlainSite) → HasNames s → (xs : List Saved) → AreFree s (none_told s) xs
free_of s n [] = tt
free_of s n (x ∷ xs) = (λ k at. none_at s k (omega (arith, slice_get_within s.names k x.name at, many_names s n)), free_of s n xs)

pub state_complete : (s : PlainSite) → HasNames s → (bytes : List ℕ) (hs : Histories) → IsState s bytes hs → state_read s bytes ≡ Some hs
state_complete s n bytes hs h =
    ap (λ o. o >>= told_in s >>= histories_of_told) (value_found bytes (state_data h.told) h.text h.shape)
    ∙ ap (λ o. o >>= with_all s (none_told s) >>= histories_of_told) (checkables_complete h.told)
    ∙ ap (λ o. o >>= histories_of_told) (all_complete s n.distinct (none_told s) h.told final steps)
    ∙ ap Some (same_at_each (histories_told final) hs many same)
  where
    ready : (xs : List Saved) → AllByRecursion (λ (x : Saved). Contains s.names x.name) xs → AllByRecursion (HasLines s hs) xs → AllByRecursion (Ready s) xs
    ready [] own named = tt
    ready (x ∷ xs) own named =
        let place = at_contained s.names x.name own.0 in
        let entries = some_at hs place.0 (omega (arith, slice_get_within s.names place.0 x.name place.1, many_names s n, h.whole)) in
        ((place.0, entries.0, place.1, named.0 place.0 entries.0 place.1 entries.1, all_at (IsHistory s) hs place.0 entries.0 (one_by_one (IsHistory s) hs h.lawful) entries.1), ready xs own.1 named.1)

    made : (final : Told) × Steps s (none_told s) h.told final
    made = steps_of s (none_told s) h.told (ready h.told (one_by_one (λ (x : Saved). Contains s.names x.name) h.told h.own) (one_by_one (HasLines s hs) h.told h.named)) (apart_from h.told h.once) (free_of s n h.told)

    final : Told
    final = made.0

    steps : Steps s (none_told s) h.told final
    steps = made.1

    long : length final ≡ length s.checkables
    long = steps_length s (none_told s) h.told final steps ∙ many_told s

    many : length (histories_told final) ≡ length hs
    many = length_map told_or final ∙ long ∙ sym h.whole

    same : (k : ℕ) (g e : List Entry) → slice_get (histories_told final) k ≡ Some g → slice_get hs k ≡ Some e → g ≡ e
    same k g e at there =
        let within : k < length s.names = omega (arith, slice_get_within hs k e there, h.whole, many_names s n) in
        let name = some_at s.names k within in
        let inside : k < length s.checkables = omega (arith, within, many_names s n) in
        elim (fate s n.distinct (none_told s) h.told final steps k name.0 name.1 (omega (arith, inside, many_told s))) [
          | inl u ↦
              same_Some g [] (sym at ∙ map_at told_or final k None (u.1 ∙ none_at s k inside))
              ∙ same_Some [] e (sym (h.unnamed k name.0 name.1 (All-from_recursion (λ (x : Saved). x.name ≢ name.0) h.told u.0)) ∙ there)
          | inr u ↦
              let named_at : slice_get s.names k ≡ Some u.one.name = name.1 ∙ ap Some (sym u.same) in
              let own = all_at (HasEntries s final) h.told u.index u.one (named_lines s n.distinct (none_told s) h.told final steps) u.among k named_at in
              let lines : AreLinesOf s k u.one.lines e = all_at (HasLines s hs) h.told u.index u.one (one_by_one (HasLines s hs) h.told h.named) u.among k e named_at there in
              same_Some g own.0 (sym at ∙ map_at told_or final k (Some own.0) own.1) ∙ same_lines s k u.one.lines own.0 e own.2 lines
        ]
