-- One entry more that is heard.
use Rattle.std.proofs.Common.{◌≡◌, ◌<◌, ◌≤◌, ℕ, zero, suc, List, [], ◌∷◌, ◌++◌, length, map, get_or, All, IfSome, Option, Some, None, refl, sym, ap, ◌∙◌, subst, arith}
use Rattle.std.proofs.lemmas.List.{length-append}
use Rattle.std.proofs.lemmas.List.Elements.{All-from_recursion}
use Rattle.std.specs.List.{AllByRecursion}
use Rattle.site_model.specs.PlainSite.{check_view}
use Rattle.site_model.specs.declared.check_spec.CheckSpec.{CheckSpec}
use Rattle.log_text.specs.Fronts.{◌>>=◌}
use Rattle.site_model.specs.declared.sight.Sight.{Sight}
use Rattle.site_audit.specs.Hearing.{entries_heard, entry_said, heard_with, hearing, one_heard}
use Rattle.site_audit.specs.Spots.{sight_spot, spots_of}
use Rattle.site_audit.specs.Telling.{after_entry, after_entries}
use Rattle.site_audit.specs.declared.block.EntryLine.{EntryLine}
use Rattle.site_audit.specs.declared.hearing.Heard.{Heard}
use Rattle.site_audit.specs.Told.{nothing_heard}
use Rattle.site_audit.specs.declared.telling.Open.{Open}
use Rattle.site_audit.specs.declared.telling.Said.{Said}
use Rattle.site_audit.specs.declared.tracks.Spot.{Spot}

module _ (callers : ℕ) (names : List (List ℕ)) (os : List (Option Open)) (x : EntryLine) (xs left : List EntryLine) (h : Heard) (all : Option Heard) (are : left ≡ x ∷ xs) (so_far : entries_heard callers names os left h ≡ all) where
  pub more_heard : (more : Heard) (now : List (Option Open)) → Some more ≡ one_heard callers names os h x → now ≡ after_entry os x → entries_heard callers names now xs more ≡ all
  more_heard more now is after =
      ap (λ (ps : List (Option Open)). entries_heard callers names ps xs more) after
      ∙ (ap (λ r. r >>= entries_heard callers names (after_entry os x) xs) is ∙ (sym (ap (λ ys. entries_heard callers names os ys h) are) ∙ so_far))

  pub none_heard : None ≡ one_heard callers names os h x → None ≡ all
  none_heard is = ap (λ r. r >>= entries_heard callers names (after_entry os x) xs) is ∙ (sym (ap (λ ys. entries_heard callers names os ys h) are) ∙ so_far)

pub orders_go_on : (os now : List (Option Open)) (x : EntryLine) (xs left : List EntryLine) (all : List (Option Open)) → left ≡ x ∷ xs → after_entries os left ≡ all → now ≡ after_entry os x → after_entries now xs ≡ all
orders_go_on os now x xs left all are so_far after = ap (λ (ps : List (Option Open)). after_entries ps xs) after ∙ (sym (ap (after_entries os) are) ∙ so_far)

-- what holds of a value that is there
pub of_some : {A : Type 0} (P : A → Type 0) (o : Option A) (x : A) → o ≡ Some x → IfSome o P → P x
of_some P o x e h = subst (λ r. IfSome r P) e h

-- All spots are of what is said.

abbrev pub AreHeard : Heard → Type 0
AreHeard h = AllByRecursion (λ x. x.thing < length h.said) h.spots

more_said : (n m : ℕ) (xs : List Spot) → n ≤ m → AllByRecursion (λ x. x.thing < n) xs → AllByRecursion (λ x. x.thing < m) xs
more_said n m [] l h = tt
more_said n m (x ∷ xs) l h = let a = h.0 in (omega (arith, a, l), more_said n m xs l h.1)

both_said : (n : ℕ) (xs ys : List Spot) → AllByRecursion (λ x. x.thing < n) xs → AllByRecursion (λ x. x.thing < n) ys → AllByRecursion (λ x. x.thing < n) (xs ++ ys)
both_said n [] ys h g = g
both_said n (x ∷ xs) ys h g = (h.0, both_said n xs ys h.1 g)

sights_said : (n k caller : ℕ) (xs : List Sight) → k < n → AllByRecursion (λ x. x.thing < n) (map (sight_spot k caller) xs)
sights_said n k caller [] l = tt
sights_said n k caller (x ∷ xs) l = (l, sights_said n k caller xs l)

hearing_kept : (h : Heard) (x : EntryLine) (s : Said) → AreHeard h → AreHeard (hearing h x s)
hearing_kept h x s all =
    let n = length-append h.said (s ∷ []) in
    let l : length h.said < length (h.said ++ s ∷ []) = omega (arith, n) in
    both_said (length (h.said ++ s ∷ [])) h.spots (spots_of (length h.said) x s) (more_said (length h.said) (length (h.said ++ s ∷ [])) h.spots (omega (arith, l)) all)
    (l, (l, sights_said (length (h.said ++ s ∷ [])) (length h.said) x.entry.caller x.entry.sights l))

abbrev AreAllHeard : Option Heard → Type 0
AreAllHeard o = IfSome o AreHeard

entries_kept : (callers : ℕ) (names : List (List ℕ)) (os : List (Option Open)) (xs : List EntryLine) (h : Heard) → AreHeard h → AreAllHeard (entries_heard callers names os xs h)
entries_kept callers names os [] h all = all
entries_kept callers names os (x ∷ xs) h all = by (entry_said callers names os x) (λ g w. entries_kept callers names (after_entry os x) xs g w)
  where
    by : (o : Option Said) → ((g : Heard) → AreHeard g → AreAllHeard (entries_heard callers names (after_entry os x) xs g)) → AreAllHeard (heard_with h x o >>= entries_heard callers names (after_entry os x) xs)
    by None again = tt
    by (Some s) again = again (hearing h x s) (hearing_kept h x s all)

pub all_heard : (callers : ℕ) (names : List (List ℕ)) (os : List (Option Open)) (xs : List EntryLine) (h : Heard) → Some h ≡ entries_heard callers names os xs nothing_heard → All (λ x. x.thing < length h.said) h.spots
all_heard callers names os xs h e = All-from_recursion (λ x. x.thing < length h.said) h.spots (subst AreAllHeard (sym e) (entries_kept callers names os xs nothing_heard tt))

-- Names by their places.

pub name_there : (cs : List CheckSpec) (k : ℕ) (c : CheckSpec) → k < length cs → c ≡ get_or cs k c → (check_view c).name ≡ get_or (map (λ x. x.name) (map check_view cs)) k []
name_there [] k c l is = absurd (omega (arith, l))
name_there (d ∷ cs) zero c l is = ap (λ (x : CheckSpec). (check_view x).name) is
name_there (d ∷ cs) (suc k) c l is = name_there cs k c (omega (arith, l)) is

abbrev none_named : List ℕ
none_named = []

pub no_name_there : (cs : List CheckSpec) (k : ℕ) → length cs ≤ k → none_named ≡ get_or (map (λ x. x.name) (map check_view cs)) k []
no_name_there [] k l = refl
no_name_there (d ∷ cs) zero l = absurd (omega (arith, l))
no_name_there (d ∷ cs) (suc k) l = no_name_there cs k (omega (arith, l))
