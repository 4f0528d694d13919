-- Each turn changes one run, and what it comes to goes over all of them.
use Rattle.std.proofs.Common.{ℕ, Bool, ◌++◌, List, filter, map, refl, sym, ap, subst, ◌∙◌, arith, IsPermutation}
use Rattle.std.proofs.lemmas.List.{map-append}
use Rattle.std.proofs.lemmas.List.Elements.{filter-append}
use Rattle.std.proofs.lemmas.List.Sorted.{IsPermutation-refl, IsPermutation-append}
use Rattle.downtime_book.specs.declared.downtime.Downtime.{Downtime}
use Rattle.downtime_book.specs.Downtime.{is_live, after_result}
use Rattle.downtime_book.proofs.Together.{met_more, met_whole}
use Rattle.downtime_book.proofs.runs.meet_result.Goals as goal

abbrev Kept : ℕ → Bool → List Downtime → List Downtime → Type 0
Kept moment problem xs ys = IsPermutation (filter (is_live moment) (map (after_result moment problem) xs)) ys

both : (moment : ℕ) (problem : Bool) (xs ys us vs : List Downtime) → Kept moment problem xs ys → Kept moment problem us vs → Kept moment problem (xs ++ us) (ys ++ vs)
both moment problem xs ys us vs e f =
    let after = after_result moment problem in
    let all = ap (filter (is_live moment)) (map-append after xs us) ∙ filter-append (is_live moment) (map after xs) (map after us) in
    subst (λ (l : List Downtime). IsPermutation l (ys ++ vs)) (sym all) (IsPermutation-append _ _ _ _ e f)

pub loop-run-init : goal.loop-run-init
loop-run-init c = record { done = IsPermutation-refl _; rest = refl; long = refl }

pub loop-run-preserved : goal.loop-run-preserved
loop-run-preserved c =
    met_more (Kept c.args.moment c.args.problem) (both c.args.moment c.args.problem) c.args.runs.now c.loop-run.runs c.loop-run.run-index c.run-item.result _ c.loop-run.invariant (omega arith) c.run-item.is (rw (← c.run-item.is) at c.meet_result.ensures)

pub returns-clause-length : goal.returns-clause-length
returns-clause-length c = c.loop-run.invariant.long

pub returns-clause-met : goal.returns-clause-met
returns-clause-met c = met_whole (Kept c.args.moment c.args.problem) c.args.runs.now c.loop-run.runs c.loop-run.run-index (omega arith) c.loop-run.invariant
