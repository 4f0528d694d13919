-- A commit, from what its waves tell.
use Rattle.std.proofs.Common.{◌≡◌, ◌<◌, ℕ, zero, suc, List, [], ◌∷◌, ◌++◌, drop, map, arith, refl, sym, ap, ◌∙◌}
use Rattle.site_base.specs.declared.diag.Diag.{Diag}
use Rattle.site_model.specs.PlainSite.{PlainObject}
use Rattle.eval_meaning.specs.Load.{Loaded}
use Rattle.commit_meaning.specs.Commits.{commit, committed, first_told, refused, unless_told, waves}
use Rattle.commit_meaning.specs.Waves.{diags_of}

-- what the waves from a number on tell first
abbrev pub told_from : Loaded → ℕ → List Diag
told_from load k = first_told (map (diags_of load) (drop k waves))

-- it is what the next of them tells, or else what the others do
next_told : (load : Loaded) (k : ℕ) → k < 6 → told_from load k ≡ first_told (diags_of load (suc k) ∷ map (diags_of load) (drop (suc k) waves))
next_told load zero h = refl
next_told load (suc zero) h = refl
next_told load (suc (suc zero)) h = refl
next_told load (suc (suc (suc zero))) h = refl
next_told load (suc (suc (suc (suc zero)))) h = refl
next_told load (suc (suc (suc (suc (suc zero))))) h = refl
next_told load (suc (suc (suc (suc (suc (suc k)))))) h = absurd (omega (arith, h))

pub nothing_told : (load : Loaded) (k : ℕ) → k < 6 → diags_of load (suc k) ≡ [] → told_from load k ≡ told_from load (suc k)
nothing_told load k h none = next_told load k h ∙ ap (λ ds. first_told (ds ∷ map (diags_of load) (drop (suc k) waves))) none

only_told : (ds : List Diag) → first_told (ds ∷ []) ≡ ds
only_told [] = refl
only_told (d ∷ ds) = refl

-- of the last wave there is nothing behind it
pub last_told : (load : Loaded) → told_from load 5 ≡ diags_of load 6
last_told load = only_told (diags_of load 6)

some_first : (ds : List Diag) (more : List (List Diag)) → ¬ (ds ≡ []) → first_told (ds ∷ more) ≡ ds
some_first [] more some = absurd (some refl)
some_first (d ∷ ds) more some = refl

pub something_told : (load : Loaded) (k : ℕ) → k < 6 → ¬ (diags_of load (suc k) ≡ []) → told_from load k ≡ diags_of load (suc k)
something_told load k h some = next_told load k h ∙ some_first (diags_of load (suc k)) (map (diags_of load) (drop (suc k) waves)) some

-- ---- the whole

none_before : (xs ys : List (List Diag)) → first_told xs ≡ [] → first_told (xs ++ ys) ≡ first_told ys
none_before [] ys h = refl
none_before ([] ∷ xs) ys h = none_before xs ys h
none_before ((d ∷ ds) ∷ xs) ys h = absurd cc

some_before : (xs ys : List (List Diag)) → ¬ (first_told xs ≡ []) → first_told (xs ++ ys) ≡ first_told xs
some_before [] ys h = absurd (h refl)
some_before ([] ∷ xs) ys h = some_before xs ys h
some_before ((d ∷ ds) ∷ xs) ys h = refl

refused_by : {S : Type 0} (s : S) (ds : List Diag) → ¬ (ds ≡ []) → unless_told s ds ≡ refused ds
refused_by s [] some = absurd (some refl)
refused_by s (d ∷ ds) some = refl

module _ {S : Type 0} (phases : List PlainObject → List (List Diag)) (last : List PlainObject → S) (load : Loaded) where
  pub refused_in_waves : (ds : List Diag) → ds ≡ told_from load 0 → ¬ (ds ≡ []) → refused ds ≡ commit phases last load
  unfolding commit
  refused_in_waves ds told some =
      sym (refused_by (last (committed load)) ds some)
      ∙ ap (unless_told (last (committed load))) (told ∙ sym (some_before (map (diags_of load) waves) (phases (committed load)) (λ e. some (told ∙ e))))

  pub left_to_phases : told_from load 0 ≡ [] → unless_told (last (committed load)) (first_told (phases (committed load))) ≡ commit phases last load
  unfolding commit
  left_to_phases none = sym (ap (unless_told (last (committed load))) (none_before (map (diags_of load) waves) (phases (committed load)) none))
