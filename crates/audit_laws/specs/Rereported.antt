-- The reports of a turn told again: one for each that was taken, in whatever order, and after them one for each that was refused.
use Rattle.std.specs.Prelude.{◌≡◌, ℕ, List, [], ◌∷◌, ◌++◌, map, Some}
use Rattle.run_meaning.specs.Dealing.{checkable_of, ordered_result, report_refusals, still, taken_reports, Taken}
use Rattle.run_meaning.specs.Shares.{orders_refused}
use Rattle.run_meaning.specs.Turns.{Outstanding, Reported}

-- the orders of these reports, and of those that are taken
abbrev pub orders_of : List Reported → List ℕ
orders_of rs = map (λ r. r.order) rs

abbrev pub orders_taken : List Taken → List ℕ
orders_taken ts = map (λ t. t.order) ts

-- report by report, what it is taken as while its order is outstanding
abbrev pub AreTakenAs : List Outstanding → List Reported → List Taken → Type 0
AreTakenAs os [] [] = Unit {0}
AreTakenAs os [] (t ∷ ts) = ⊥
AreTakenAs os (r ∷ rs) [] = ⊥
AreTakenAs os (r ∷ rs) (t ∷ ts) =
    (checkable_of r.order os ≡ Some t.asked.checkable) × (t.order ≡ r.order) × (t.asked.event ≡ ordered_result r.status r.output) × AreTakenAs os rs ts

-- a report of each refused order, with status 0 and no output
abbrev pub refused_again : ℕ → Reported
refused_again order = record { order = order; status = 0; output = [] }

abbrev pub told_again : List Outstanding → List Reported → List Reported → List Reported
told_again os reports told = told ++ map refused_again (orders_refused (report_refusals os reports))

-- these are taken so, the same are refused, and the same orders stay outstanding
pub record AreRereported (os : List Outstanding) (reports told : List Reported) (takens : List Taken) : Type 0 where
  pub taken : taken_reports os (told_again os reports told) ≡ takens
  pub refusals : report_refusals os (told_again os reports told) ≡ report_refusals os reports
  pub outstanding : still (told_again os reports told) os ≡ still reports os
