-- What stands from the first one on that isn't past is what is live.
use Rattle.std.proofs.Common.{rules, arith}
use Rattle.std.proofs.lemmas.List.Sorted.{IsPartitionPoint-from_clause}
use Rattle.downtime_book.specs.declared.placed.Placed.{Placed}
use Rattle.downtime_book.proofs.Order.{is_past, past_first, live_from}
use Rattle.downtime_book.proofs.keeping.first_live.Goals as goal

pub returns-clause-bound : goal.returns-clause-bound
returns-clause-bound c =
    let long = c.args.placed.now.ok.0 in
    omega (arith, long, c.partition_point.ensures.bound)

pub returns-clause-live : goal.returns-clause-live
returns-clause-live c =
    let m = c.args.moment in
    let ps = c.args.placed.now.items in
    let k = c.partition_point.result in
    let point = IsPartitionPoint-from_clause (λ (p : Placed). is_past m p.downtime) ps k c.partition_point.ensures.partitioned (past_first m ps c.requires) (λ a r f' k. search rules) in
    let long = c.args.placed.now.ok.0 in
    live_from m ps k point (omega (arith, long, c.partition_point.ensures.bound))
