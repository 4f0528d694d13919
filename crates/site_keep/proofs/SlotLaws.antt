-- Places of checkables, one after the other.
use Rattle.std.proofs.Common.{◌≡◌, ◌≢◌, ℕ, ◌==◌, ◌<◌, Bool, true, false, cond, List, [], ◌∷◌, ◌++◌, map, length, get_or, set, All, slice_get, is_some, Option, Some, None, option_map, refl, sym, ap, ap₂, ◌∙◌, arith, subst, append_assoc}
use Rattle.std.specs.List.{AllByRecursion}
use Rattle.std.proofs.lemmas.Bool.Decides.{Decides-eqb}
use Rattle.std.proofs.lemmas.List.{length-set, map-set}
use Rattle.std.proofs.lemmas.List.Elements.{All-push}
use Rattle.std.proofs.lemmas.Option.{same_Some, slice_get-get_or, slice_get-map, slice_get_within}
use Rattle.serde_json.specs.Data.{Data, Items, item}
use Rattle.checkable_core.specs.Contents.{Contents}
use Rattle.checkable_core.specs.Histories.{IsHistory}
use Rattle.checkable_core.specs.HistoryTests.{is_history_from}
use Rattle.checkable_core.proofs.Tests.{history}
use Rattle.checkable_core.specs.declared.restore_fault.RestoreFault.{RestoreFault}
use Rattle.checkable_core.specs.declared.restore_fault.RestoreFault.TheVariants as restore
use Rattle.log_text.specs.Fronts.{◌>>=◌}
use Rattle.log_text.specs.SiteNames.{PlainNames, names_of}
use Rattle.site_model.specs.PlainSite.{PlainCheck, PlainSite}
use Rattle.site_model.specs.declared.entry.Entry.{Entry}
use Rattle.site_keep.specs.Causes.{of_history}
use Rattle.site_keep.specs.Given.{Fails}
use Rattle.site_keep.specs.Reading.{Told, before, checkables_in, checked, entries_among, entries_in, entry_in, histories_of_told, histories_told, is_untold, none_told, state_read, told_in, told_read, with_all, with_entries, with_history, with_lawful, with_one}
use Rattle.site_keep.specs.Shape.{value_of}
use Rattle.site_keep.specs.Slots.{told_of, AreSlots, IsOf}
use Rattle.site_keep.specs.declared.keep_error.KeepError.{KeepError}
use Rattle.site_keep.specs.declared.keep_error.KeepError.TheVariants as error
use Rattle.site_keep.proofs.PlaceLaws.{all_at, one_by_one, set_elsewhere, set_here}

abbrev Slots : Type 0
Slots = List (Option Contents)

-- One place.

pub told_set : (slots : Slots) (k : ℕ) (book : Contents) → told_of (set slots k (Some book)) ≡ set (told_of slots) k (Some book.entries)
told_set slots k book = map-set (option_map (λ (b : Contents). b.entries)) slots k (Some book)

pub slots_set : (s : PlainSite) (slots : Slots) (k : ℕ) (book : Contents) → AreSlots s slots → IsOf s k book → AreSlots s (set slots k (Some book))
slots_set s slots k book are own = record { whole = length-set slots k (Some book) ∙ are.whole; each = λ j b at. by j b at (j == k) refl }
  where
    by : (j : ℕ) (b : Contents) → slice_get (set slots k (Some book)) j ≡ Some (Some b) → (t : Bool) → (j == k) ≡ t → IsOf s j b
    by j b at true t =
        let same : j ≡ k = (Decides-eqb j k).0 t in
        let within : k < length slots = omega (arith, same, slice_get_within (set slots k (Some book)) j (Some b) at, length-set slots k (Some book)) in
        let here : Some book ≡ Some b = same_Some (Some book) (Some b) (sym (set_here slots k (Some book) within) ∙ ap (slice_get (set slots k (Some book))) (sym same) ∙ at) in
        subst (λ i. IsOf s i b) (sym same) (subst (IsOf s k) (same_Some book b here) own)
    by j b at false t =
        let apart : j ≢ k = λ e. let yes : (j == k) ≡ true = (Decides-eqb j k).1 e in absurd cc in
        are.each j b (sym (set_elsewhere slots k j (Some book) apart) ∙ at)

untold_of : (slots : Slots) (k : ℕ) (o : Option Contents) → k < length slots → o ≡ get_or slots k o → slice_get (told_of slots) k ≡ Some (option_map (λ (b : Contents). b.entries) o)
untold_of slots k o within is =
    slice_get-map (option_map (λ (b : Contents). b.entries)) slots k ∙ ap (option_map (option_map (λ (b : Contents). b.entries))) (slice_get-get_or slots k o within ∙ ap Some (sym is))

taken_by : (o : Option Contents) → is_some o ≡ true → is_untold (Some (option_map (λ (b : Contents). b.entries) o)) ≡ false
taken_by None h = absurd cc
taken_by (Some b) h = refl

free_by : (o : Option Contents) → is_some o ≡ false → is_untold (Some (option_map (λ (b : Contents). b.entries) o)) ≡ true
free_by None h = refl
free_by (Some b) h = absurd cc

pub is_taken : (slots : Slots) (k : ℕ) (o : Option Contents) → k < length slots → o ≡ get_or slots k o → is_some o ≡ true → is_untold (slice_get (told_of slots) k) ≡ false
is_taken slots k o within is h = ap is_untold (untold_of slots k o within is) ∙ taken_by o h

pub is_free : (slots : Slots) (k : ℕ) (o : Option Contents) → k < length slots → o ≡ get_or slots k o → is_some o ≡ false → is_untold (slice_get (told_of slots) k) ≡ true
is_free slots k o within is h = ap is_untold (untold_of slots k o within is) ∙ free_by o h

pub at_taken : (s : PlainSite) (told : Told) (k : ℕ) (h : List Entry) → is_untold (slice_get told k) ≡ false → with_lawful s told k h ≡ None
unfolding with_lawful
at_taken s told k h taken = ap (λ b. cond b (checked s h >>= with_history told k) None) taken

not_checked : (s : PlainSite) (h : List Entry) → (IsHistory s h → ⊥) → checked s h ≡ None
not_checked s h bad = by (is_history_from s 0 0 h) refl
  where
    by : (b : Bool) → is_history_from s 0 0 h ≡ b → cond b (Some h) None ≡ None
    by true t = absurd (bad ((history s h).0 t))
    by false t = refl

pub at_bad_history : (s : PlainSite) (told : Told) (k : ℕ) (h : List Entry) → is_untold (slice_get told k) ≡ true → (IsHistory s h → ⊥) → with_lawful s told k h ≡ None
unfolding with_lawful
at_bad_history s told k h free bad =
    ap (λ b. cond b (checked s h >>= with_history told k) None) free ∙ ap (λ o. o >>= with_history told k) (not_checked s h bad)

pub at_good : (s : PlainSite) (told : Told) (k : ℕ) (h : List Entry) → is_untold (slice_get told k) ≡ true → IsHistory s h → with_lawful s told k h ≡ Some (set told k (Some h))
unfolding with_lawful
at_good s told k h free lawful =
    ap (λ b. cond b (checked s h >>= with_history told k) None) free ∙ ap (λ b. cond b (Some h) None >>= with_history told k) ((history s h).1 lawful)

pub fault_fails : (s : PlainSite) (told : Told) (k : ℕ) (h : List Entry) (fault : RestoreFault) → is_untold (slice_get told k) ≡ true → (fault ≡ restore.BadHistory → IsHistory s h → ⊥)
    → Fails (of_history fault) (with_lawful s told k h)
fault_fails s told k h restore.BadHistory free bad = at_bad_history s told k h free (bad refl)
fault_fails s told k h restore.OutOfMemory free bad = tt

-- The entries of a place.

pub entries_given : (s : PlainSite) (told : Told) (d : Data) (k : ℕ) (h : List Entry) → entries_in (names_of s) k d ≡ Some h → with_entries s told d k ≡ with_lawful s told k h
unfolding with_entries with_lawful
entries_given s told d k h read = ap (λ o. cond (is_untold (slice_get told k)) (o >>= checked s >>= with_history told k) None) read

none_either : (b : Bool) (o : Option Told) → o ≡ None → cond b o None ≡ None
none_either true o none = none
none_either false o none = refl

at_bad_lines : (s : PlainSite) (told : Told) (d : Data) (k : ℕ) → entries_in (names_of s) k d ≡ None → with_entries s told d k ≡ None
unfolding with_entries
at_bad_lines s told d k bad =
    none_either (is_untold (slice_get told k)) (entries_in (names_of s) k d >>= checked s >>= with_history told k) (ap (λ o. o >>= checked s >>= with_history told k) bad)

pub lines_fail : (s : PlainSite) (told : Told) (d : Data) (k : ℕ) (e : KeepError) → Fails e (entries_in (names_of s) k d) → Fails e (with_entries s told d k)
lines_fail s told d k error.BadState bad = at_bad_lines s told d k bad
lines_fail s told d k error.OutOfMemory bad = tt

-- Entries, one after the other.

abbrev pub joined : List Entry → List Entry → Option (List Entry)
joined front es = Some (front ++ es)

joined_more : (front : List Entry) (e : Entry) (o : Option (List Entry)) → (o >>= before e >>= joined front) ≡ (o >>= joined (front ++ e ∷ []))
joined_more front e None = refl
joined_more front e (Some es) = ap Some (sym (append_assoc front (e ∷ []) es))

pub entry_more : (names : PlainNames) (k : ℕ) (front : List Entry) (d : Data) (ds : Items) (e : Entry) (total : Option (List Entry)) → entry_in names k d ≡ Some e
    → (entries_among names k (item d ds) >>= joined front) ≡ total → (entries_among names k ds >>= joined (front ++ e ∷ [])) ≡ total
entry_more names k front d ds e total read h =
    sym (joined_more front e (entries_among names k ds)) ∙ sym (ap (λ o. o >>= (λ x. entries_among names k ds >>= before x) >>= joined front) read) ∙ h

pub entry_bad : (names : PlainNames) (k : ℕ) (front : List Entry) (d : Data) (ds : Items) (total : Option (List Entry)) → entry_in names k d ≡ None
    → (entries_among names k (item d ds) >>= joined front) ≡ total → total ≡ None
entry_bad names k front d ds total bad h = sym h ∙ ap (λ o. o >>= (λ x. entries_among names k ds >>= before x) >>= joined front) bad

pub joined_none : (o : Option (List Entry)) → (o >>= joined []) ≡ o
joined_none None = refl
joined_none (Some es) = refl

-- Checkables, one after the other.

pub one_more : (s : PlainSite) (told next : Told) (d : Data) (ds : Items) (total : Option Told) → with_one s told d ≡ Some next → with_all s told (item d ds) ≡ total → with_all s next ds ≡ total
one_more s told next d ds total read h = sym (ap (λ o. o >>= λ t. with_all s t ds) read) ∙ h

pub one_bad : (s : PlainSite) (told : Told) (d : Data) (ds : Items) (total : Option Told) → with_one s told d ≡ None → with_all s told (item d ds) ≡ total → total ≡ None
one_bad s told d ds total bad h = sym h ∙ ap (λ o. o >>= λ t. with_all s t ds) bad

-- Empty places.

abbrev pub IsEmpty : Option Contents → Type 0
IsEmpty slot = slot ≡ None

pub empty_more : (slots : Slots) → All IsEmpty slots → All IsEmpty (slots ++ None ∷ [])
empty_more slots h = All-push IsEmpty slots None h refl

told_none : (slots : Slots) (cs : List PlainCheck) → AllByRecursion IsEmpty slots → length slots ≡ length cs → told_of slots ≡ map (λ c. None) cs
told_none [] [] h e = refl
told_none [] (c ∷ cs) h e = absurd (omega (arith, e))
told_none (slot ∷ slots) [] h e = absurd (omega (arith, e))
told_none (slot ∷ slots) (c ∷ cs) h e = ap₂ (λ t ts. t ∷ ts) (ap (option_map (λ (b : Contents). b.entries)) h.0) (told_none slots cs h.1 (omega (arith, e)))

no_slot : (slots : Slots) → AllByRecursion IsEmpty slots → (k : ℕ) (book : Contents) → slice_get slots k ≡ Some (Some book) → ⊥
no_slot slots h k book at = let e : Some book ≡ None = all_at IsEmpty slots k (Some book) h at in absurd cc

pub slots_none : (s : PlainSite) (slots : Slots) → All IsEmpty slots → length slots ≡ length s.checkables → (told_of slots ≡ none_told s) × AreSlots s slots
slots_none s slots empty many = (
  told_none slots s.checkables (one_by_one IsEmpty slots empty) many,
  record { whole = many; each = λ k book at. absurd (no_slot slots (one_by_one IsEmpty slots empty) k book at) },
)

-- The whole.

pub told_is : (s : PlainSite) (bytes : List ℕ) (d : Data) (ds : Items) → value_of bytes ≡ Some d → checkables_in d ≡ Some ds → told_read s bytes ≡ with_all s (none_told s) ds
told_is s bytes d ds value checkables = ap (λ o. o >>= told_in s) value ∙ ap (λ o. o >>= with_all s (none_told s)) checkables

pub told_without_value : (s : PlainSite) (bytes : List ℕ) → value_of bytes ≡ None → told_read s bytes ≡ None
told_without_value s bytes value = ap (λ o. o >>= told_in s) value

pub told_without_checkables : (s : PlainSite) (bytes : List ℕ) (d : Data) → value_of bytes ≡ Some d → checkables_in d ≡ None → told_read s bytes ≡ None
told_without_checkables s bytes d value checkables = ap (λ o. o >>= told_in s) value ∙ ap (λ o. o >>= with_all s (none_told s)) checkables

pub state_made : (s : PlainSite) (bytes : List ℕ) (told : Told) → told_read s bytes ≡ Some told → state_read s bytes ≡ Some (histories_told told)
state_made s bytes told read = ap (λ o. o >>= histories_of_told) read

pub state_without : (s : PlainSite) (bytes : List ℕ) → told_read s bytes ≡ None → state_read s bytes ≡ None
state_without s bytes read = ap (λ o. o >>= histories_of_told) read
