-- What is past goes, and what a problem triggers is put in order and leaves what is past then.
use Rattle.std.proofs.Common.{◌≡◌, Bool, List, true, false, map, filter, IsPermutation, sym, ap, ◌∙◌, subst}
use Rattle.std.specs.List.{All}
use Rattle.std.proofs.lemmas.List.Kept.{IsNonDecreasingBy-filter}
use Rattle.std.proofs.lemmas.List.Sorted.{IsPermutation-refl}
use Rattle.downtime_book.specs.declared.downtime.Downtime.{Downtime}
use Rattle.downtime_book.specs.Contents.{IsInOrder}
use Rattle.downtime_book.specs.Downtime.{until, is_live, is_triggered_by, after_result}
use Rattle.downtime_book.specs.Firsts.{downtimes_of}
use Rattle.downtime_book.proofs.Lists.{IsPermutation-filter}
use Rattle.downtime_book.proofs.Steps.{met_live, met_none, met_ok}
use Rattle.downtime_book.proofs.sorted_run.SortedRun.meet_result.Goals as goal
use Rattle.downtime_book.proofs.sorted_run.SortedRun.meet_result.Goals.{else-problem-via-then-problem+else-waits, else-problem-via-else-problem}

pub invariant_of-self : goal.invariant_of-self
invariant_of-self c = record {
  ordered = subst IsInOrder (sym c.drop_past-then-waits.ensures.live) (IsNonDecreasingBy-filter until (is_live c.args.moment) _ c.meet_problem.ensures.ordered);
  told = c.drop_past-then-waits.ensures.told c.meet_problem.ensures.told;
}

pub invariant_of-self-else-waits : goal.invariant_of-self-else-waits
invariant_of-self-else-waits c = record {
  ordered = subst IsInOrder (sym c.drop_past.ensures.live) (IsNonDecreasingBy-filter until (is_live c.args.moment) _ c.self.invariant.ordered);
  told = c.drop_past.ensures.told c.self.invariant.told;
}

pub invariant_of-self-else-problem : goal.invariant_of-self-else-problem
invariant_of-self-else-problem c = record {
  ordered = subst IsInOrder (sym c.drop_past.ensures.live) (IsNonDecreasingBy-filter until (is_live c.args.moment) _ c.self.invariant.ordered);
  told = c.drop_past.ensures.told c.self.invariant.told;
}

pub returns-then-waits : goal.returns-then-waits
returns-then-waits c =
    let m = c.args.moment in
    let now = c.args.self.now in
    let live = downtimes_of c.drop_past.new.placed.items in
    let kept = c.drop_past.ensures.live ∙ ap (filter (is_live m)) c.self.view_is in
    let met = IsPermutation-filter (is_live m) _ _ c.meet_problem.ensures.met in
    let same = ap (λ (p : Bool). filter (is_live m) (map (after_result m p) now)) c.if-problem.true ∙ met_live m true now ∙ ap (λ (l : List Downtime). filter (is_live m) (map (after_result m true) l)) (sym kept) in
    let left = subst (λ (l : List Downtime). IsPermutation (filter (is_live m) (map (after_result m true) live)) l) (sym c.drop_past-then-waits.ensures.live) met in
    subst (λ (l : List Downtime). IsPermutation l (downtimes_of c.drop_past-then-waits.new.placed.items)) (sym same) left

pub returns-else-problem : goal.returns-else-problem
returns-else-problem c =
    let m = c.args.moment in
    let p = c.args.problem in
    let now = c.args.self.now in
    let kept = c.drop_past.ensures.live ∙ ap (filter (is_live m)) c.self.view_is in
    let IsMet : List Downtime → _ = λ (l : List Downtime). IsPermutation l c.else-problem.self in
    elim c.else-problem.branch [
      | else-problem-via-then-problem+else-waits w ↦
          let none = w.waits.ensures w.if-waits.false (c.drop_past.ensures.told c.self.invariant.told) in
          let out = subst (λ (l : List Downtime). All (λ d. is_triggered_by m d ≡ false) l) kept none in
          subst IsMet (sym (met_none m p now out ∙ sym kept ∙ sym w.self-is)) (IsPermutation-refl c.else-problem.self)
      | else-problem-via-else-problem w ↦
          let calm = ap (λ (b : Bool). filter (is_live m) (map (after_result m b) now)) w.if-problem.false in
          subst IsMet (sym (calm ∙ met_ok m now ∙ sym kept ∙ sym w.self-is)) (IsPermutation-refl c.else-problem.self)
    ]
