-- What is told of visits, one after another.
use Rattle.std.proofs.Common.{◌≡◌, ◌+◌, ℕ, zero, suc, List, [], ◌∷◌, ◌++◌, take, Bool, true, false, cond, nat_lt, slice_get, refl, sym, ap, ◌∙◌, arith, append_assoc, append-nil}
use Rattle.std.specs.List.{flat_map}
use Rattle.std.proofs.lemmas.Bool.Decides.{nat_tests}
use Rattle.site_base.specs.declared.diag.Diag.{Diag}
use Rattle.site_base.specs.declared.diag_kind.DiagKind.TheVariants.{TooManyFiles}
use Rattle.conf_sources.specs.Sources.{Told}
use Rattle.conf_sources.specs.declared.source.Source.{Source}
use Rattle.site_conf.specs.Walks.{WalkState}
use Rattle.walk_laws.specs.Visits.{Visit, fault_at, faults_of, most_visits, of_inclusions, one_too_many, told_of}

-- how many visits there were, whether they ended, and what was told of them
pub record Tally : Type 0 where
  pub count : ℕ
  pub ended : Bool
  pub told : List Diag

abbrev pub tally_of : WalkState → Tally
tally_of s = record { count = s.count; ended = s.ended; told = of_inclusions s.diags }

module _ (all : Told) (met : List Source) where
  abbrev pub visited : Visit → Tally → Tally
  visited v y =
      cond y.ended y
      (cond (nat_lt y.count 10000) (record { count = y.count + 1; ended = y.ended; told = y.told ++ faults_of all met v }) (record { count = y.count; ended = true; told = y.told ++ fault_at v.at TooManyFiles v.source ∷ [] }))

  abbrev pub run : List Visit → Tally → Tally
  run [] y = y
  run (v ∷ vs) y = run vs (visited v y)

  pub run_append : (vs ws : List Visit) (y : Tally) → run (vs ++ ws) y ≡ run ws (run vs y)
  run_append [] ws y = refl
  run_append (v ∷ vs) ws y = run_append vs ws (visited v y)

  visited_ended : (v : Visit) (y : Tally) → y.ended ≡ true → visited v y ≡ y
  visited_ended v y e = ap (λ b. cond b y (cond (nat_lt y.count 10000) (record { count = y.count + 1; ended = y.ended; told = y.told ++ faults_of all met v }) (record { count = y.count; ended = true; told = y.told ++ fault_at v.at TooManyFiles v.source ∷ [] }))) e

  -- after the end nothing is told
  pub run_ended : (vs : List Visit) (y : Tally) → y.ended ≡ true → run vs y ≡ y
  run_ended [] y e = refl
  run_ended (v ∷ vs) y e = ap (run vs) (visited_ended v y e) ∙ run_ended vs y e

  -- ---- all of it at once

  -- of so many more visits
  abbrev told_more : ℕ → List Visit → List Diag
  told_more left vs = flat_map (faults_of all met) (take left vs) ++ one_too_many (slice_get vs left)

  abbrev Told_is : ℕ → List Visit → Type 0
  Told_is left vs = (n : ℕ) (ds : List Diag) → n + left ≡ 10000 → (run vs (record { count = n; ended = false; told = ds })).told ≡ ds ++ told_more left vs

  none_left : (v : Visit) (vs : List Visit) → Told_is zero (v ∷ vs)
  none_left v vs n ds e = ap (λ b. (run vs (cond b (record { count = n + 1; ended = false; told = ds ++ faults_of all met v }) (record { count = n; ended = true; told = ds ++ fault_at v.at TooManyFiles v.source ∷ [] }))).told) full ∙ ap (λ (y : Tally). y.told) (run_ended vs (record { count = n; ended = true; told = ds ++ fault_at v.at TooManyFiles v.source ∷ [] }) refl)
    where
      full : nat_lt n 10000 ≡ false
      full = grind (arith, nat_tests, e)

  some_left : (left : ℕ) (v : Visit) (vs : List Visit) → Told_is left vs → Told_is (suc left) (v ∷ vs)
  some_left left v vs h n ds e =
      ap (λ b. (run vs (cond b (record { count = n + 1; ended = false; told = ds ++ faults_of all met v }) (record { count = n; ended = true; told = ds ++ fault_at v.at TooManyFiles v.source ∷ [] }))).told) room
      ∙ h (n + 1) (ds ++ faults_of all met v) next
      ∙ append_assoc ds (faults_of all met v) (told_more left vs)
      ∙ ap (λ l. ds ++ l) (sym (append_assoc (faults_of all met v) (flat_map (faults_of all met) (take left vs)) (one_too_many (slice_get vs left))))
    where
      room : nat_lt n 10000 ≡ true
      room = grind (arith, nat_tests, e)

      next : n + 1 + left ≡ 10000
      next = omega (arith, e)

  none_more : (left : ℕ) (ds : List Diag) → ds ++ told_more left [] ≡ ds
  none_more zero ds = append-nil ds
  none_more (suc left) ds = append-nil ds

  told_is : (left : ℕ) (vs : List Visit) → Told_is left vs
  told_is left [] = λ n ds e. sym (none_more left ds)
  told_is zero (v ∷ vs) = none_left v vs
  told_is (suc left) (v ∷ vs) = some_left left v vs (told_is left vs)

  pub run_told : (vs : List Visit) (ds : List Diag) → (run vs (record { count = 0; ended = false; told = ds })).told ≡ ds ++ told_of all met vs
  run_told vs ds = told_is most_visits vs 0 ds refl
