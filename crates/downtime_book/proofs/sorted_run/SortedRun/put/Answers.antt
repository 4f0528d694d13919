-- A downtime goes in where the order asks for it, and all are told what comes first then.
use Rattle.std.proofs.Common.{◌≡◌, ◌≤◌, nat_le, length, insert, List, ◌∷◌, ◌∙◌, sym, ap, subst, IsPermutation, rules, tests, arith}
use Rattle.std.proofs.lemmas.List.Sorted.{IsPartitionPoint-from_clause, IsPartitionedBy-leb, IsPermutation-insert, IsPermutation-map}
use Rattle.downtime_book.specs.declared.downtime.Downtime.{Downtime}
use Rattle.downtime_book.specs.declared.placed.Placed.{Placed}
use Rattle.downtime_book.specs.Downtime.{until}
use Rattle.downtime_book.specs.Contents.{IsInOrder}
use Rattle.downtime_book.specs.Firsts.{AreTold, downtimes_of}
use Rattle.downtime_book.proofs.Order.{insert_in_order, not_err, placed_in_order}
use Rattle.downtime_book.proofs.sorted_run.SortedRun.put.Goals as goal

pub invariant_of-self-2 : goal.invariant_of-self-2
invariant_of-self-2 c =
    let ps = c.self.inside.placed.items in
    let last = c.until-until.result in
    let place = c.partition_point-place.result in
    let one : Placed = record { downtime = c.args.downtime; firsts = c.none.result } in
    let point = IsPartitionPoint-from_clause (λ (p : Placed). nat_le (until p.downtime) last) ps place c.partition_point-place.ensures.partitioned (IsPartitionedBy-leb (λ (p : Placed). until p.downtime) ps last (placed_in_order ps c.self.invariant.ordered)) (λ a r f' k. search (rules, tests)) in
    let long = c.self.inside.placed.ok.0 in
    let within : place ≤ length ps = omega (arith, long, c.partition_point-place.ensures.bound) in
    let order = insert_in_order ps place one last c.until-until.ensures c.self.invariant.ordered within point in
    let put = not_err c.insert.result _ c.insert.ensures.items (sym c.is_err.ensures.value ∙ c.if-is_err.false) in
    let whole = c.make_contiguous.ensures.writes_back c.tell.new.placed (omega (arith, c.make_contiguous.ensures.len)) in
    let same : downtimes_of c.tell.new.placed ≡ downtimes_of (insert ps place one) = c.tell.ensures.same ∙ ap downtimes_of (c.make_contiguous.ensures.value ∙ put) in
    record {
      ordered = subst (λ (l : List Placed). IsInOrder (downtimes_of l)) (sym whole) (subst IsInOrder (sym same) order);
      told = subst AreTold (sym whole) c.tell.ensures.told;
    }

pub returns-clause-ok : goal.returns-clause-ok
returns-clause-ok c =
    let ps = c.self.inside.placed.items in
    let d = c.args.downtime in
    let place = c.partition_point-place.result in
    let one : Placed = record { downtime = d; firsts = c.none.result } in
    let put = not_err c.insert.result _ c.insert.ensures.items (sym c.is_err.ensures.value ∙ c.if-is_err.false) in
    let whole = c.make_contiguous.ensures.writes_back c.tell.new.placed (omega (arith, c.make_contiguous.ensures.len)) in
    let same : downtimes_of c.tell.new.placed ≡ downtimes_of (insert ps place one) = c.tell.ensures.same ∙ ap downtimes_of (c.make_contiguous.ensures.value ∙ put) in
    let moved : IsPermutation (d ∷ downtimes_of ps) (downtimes_of (insert ps place one)) = IsPermutation-map (λ (p : Placed). p.downtime) _ _ (IsPermutation-insert ps place one) in
    let here = subst (λ (l : List Downtime). IsPermutation (d ∷ l) (downtimes_of (insert ps place one))) c.self.view_is moved in
    subst (λ (l : List Placed). IsPermutation (d ∷ c.args.self.now) (downtimes_of l)) (sym whole) (subst (λ (l : List Downtime). IsPermutation (d ∷ c.args.self.now) l) (sym same) here)
