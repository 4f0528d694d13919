-- What was read since the walk began.
use Rattle.std.proofs.Common.{◌≡◌, ℕ, Bool, true, false, List, [], ◌∷◌, ◌++◌, length, map, drop, Option, Some, None, refl, sym, ap, subst, ◌∙◌, append_assoc, append-nil}
use Rattle.std.specs.List.{AllByRecursion, IsDistinct}
use Rattle.std.specs.Str.{bytes_eq}
use Rattle.std.proofs.lemmas.List.{append_cancel_right}
use Rattle.std.proofs.lemmas.Slice.Eq.{bytes_eq-Decides}
use Rattle.site_base.specs.declared.diag_kind.DiagKind.{DiagKind}
use Rattle.site_base.specs.declared.place.Place.{Place}
use Rattle.site_edge.specs.Lists.{Adds}
use Rattle.conf_sources.specs.Reading.{Kept}
use Rattle.site_conf.specs.Reads.{file_names, HaveRead, flagged_as, IsReadOnce}
use Rattle.conf_sources.specs.Sources.{file_name, full_name, is_library, same_source}
use Rattle.site_conf.specs.Sound.{IsSound}
use Rattle.site_conf.specs.Walks.{WalkState, with_number, with_fault, with_kept}
use Rattle.conf_sources.specs.declared.source.Source.{Source}
use Rattle.conf_sources.specs.declared.source.Source.TheVariants.{File, Library}

-- What is added to a list that is told.

adds_on : {A : Type 0} (a b : List A) (o p q : Option (List A)) → Adds a o p → Adds b p q → Adds (a ++ b) o q
adds_on a b None p q e f = subst (λ x. Adds b x q) e f
adds_on a b (Some xs) p q e f = let h : q ≡ Some (xs ++ a ++ b) = subst (λ x. Adds b x q) e f in h ∙ ap Some (append_assoc xs a b)

-- Steps of the walk.

names_more : (ss : List Source) (s : Source) → file_names (ss ++ s ∷ []) ≡ file_names ss ++ file_name s
names_more [] s = append-nil (file_name s)
names_more (t ∷ ss) s = ap (λ l. file_name t ++ l) (names_more ss s) ∙ sym (append_assoc (file_name t) (file_names ss) (file_name s))

pub read_more : (before a b : Option (List (List ℕ))) (source : Source) (k : Kept) (s t : WalkState) → t ≡ with_kept source k s → HaveRead before s a → Adds (file_name source) a b → HaveRead before t b
read_more before a b source k s t e h f =
    subst (λ x. HaveRead before x b) (sym e) (record { added = subst (λ l. Adds l before b) (sym (names_more s.sources source)) (adds_on (file_names s.sources) (file_name source) before a b h.added f) })

-- steps that meet no file read none
pub number_read : (before now : Option (List (List ℕ))) (n : ℕ) (s t : WalkState) → t ≡ with_number n s → HaveRead before s now → HaveRead before t now
number_read before now n s t e h = subst (λ x. HaveRead before x now) (sym e) (record { added = h.added })

pub fault_read : (before now : Option (List (List ℕ))) (at : Place) (k : DiagKind) (name : List ℕ) (s t : WalkState) → t ≡ with_fault at k name s → HaveRead before s now → HaveRead before t now
fault_read before now at k name s t e h = subst (λ x. HaveRead before x now) (sym e) (record { added = h.added })

-- Files and parts of the library by their names.

files_are : (ss : List Source) → flagged_as false (map full_name ss) (map is_library ss) ≡ file_names ss
files_are [] = refl
files_are (File n ∷ ss) = ap (λ l. n ∷ l) (files_are ss)
files_are (Library n ∷ ss) = files_are ss

files_apart : (n : List ℕ) (ss : List Source) → AllByRecursion (λ y. same_source (File n) y ≡ false) ss → AllByRecursion (λ m. bytes_eq n m ≡ false) (flagged_as false (map full_name ss) (map is_library ss))
files_apart n [] a = tt
files_apart n (File m ∷ ss) a = (a.0, files_apart n ss a.1)
files_apart n (Library m ∷ ss) a = files_apart n ss a.1

files_differ : (ss : List Source) → IsDistinct same_source ss → IsDistinct bytes_eq (flagged_as false (map full_name ss) (map is_library ss))
unfolding IsDistinct
files_differ [] d = tt
files_differ (File n ∷ ss) d = (files_apart n ss d.0, files_differ ss d.1)
files_differ (Library n ∷ ss) d = files_differ ss d.1

framed_apart : (n m : List ℕ) (b : Bool) → bytes_eq n m ≡ false → bytes_eq (full_name (Library n)) (full_name (Library m)) ≡ b → b ≡ false
framed_apart n m false h e = refl
framed_apart n m true h e =
    let framed : full_name (Library n) ≡ full_name (Library m) = (bytes_eq-Decides (full_name (Library n)) (full_name (Library m))).0 e in
    let inner : n ++ 62 ∷ [] ≡ m ++ 62 ∷ [] = ap (drop 1) framed in
    sym ((bytes_eq-Decides n m).1 (append_cancel_right n m (62 ∷ []) inner)) ∙ h

parts_apart : (n : List ℕ) (ss : List Source) → AllByRecursion (λ y. same_source (Library n) y ≡ false) ss
    → AllByRecursion (λ m. bytes_eq (full_name (Library n)) m ≡ false) (flagged_as true (map full_name ss) (map is_library ss))
parts_apart n [] a = tt
parts_apart n (Library m ∷ ss) a = (framed_apart n m (bytes_eq (full_name (Library n)) (full_name (Library m))) a.0 refl, parts_apart n ss a.1)
parts_apart n (File m ∷ ss) a = parts_apart n ss a.1

parts_differ : (ss : List Source) → IsDistinct same_source ss → IsDistinct bytes_eq (flagged_as true (map full_name ss) (map is_library ss))
unfolding IsDistinct
parts_differ [] d = tt
parts_differ (Library n ∷ ss) d = (parts_apart n ss d.0, parts_differ ss d.1)
parts_differ (File n ∷ ss) d = parts_differ ss d.1

-- each file that was met was read once
pub read_once : (old new : Option (List (List ℕ))) (s : WalkState) → IsSound s → HaveRead old s new → IsReadOnce old new s.names s.library
read_once old new s h r =
    let sources : List Source = s.sources in
    let Named : Bool → List (List ℕ) → Type 0 = λ b l. IsDistinct bytes_eq (flagged_as b l s.library) in
    let Flagged : Bool → List Bool → Type 0 = λ b f. IsDistinct bytes_eq (flagged_as b (map full_name sources) f) in
    let same : flagged_as false s.names s.library ≡ file_names sources = ap (λ l. flagged_as false l s.library) h.named ∙ ap (λ f. flagged_as false (map full_name sources) f) h.flagged ∙ files_are sources in
    record {
      known = h.library;
      files = subst (Named false) (sym h.named) (subst (Flagged false) (sym h.flagged) (files_differ sources h.distinct));
      parts = subst (Named true) (sym h.named) (subst (Flagged true) (sym h.flagged) (parts_differ sources h.distinct));
      added = subst (λ l. Adds l old new) (sym same) r.added;
    }
