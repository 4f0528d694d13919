-- Each turn puts what the problem makes of a downtime in its place.
use Rattle.std.proofs.Common.{true, get_or, ◌∙◌, sym, ap, arith}
use Rattle.std.proofs.lemmas.List.{length-map, map-set}
use Rattle.downtime_book.specs.declared.placed.Placed.{Placed}
use Rattle.downtime_book.specs.Downtime.{after_result}
use Rattle.downtime_book.specs.Firsts.{downtimes_of}
use Rattle.downtime_book.proofs.Lists.{met_more}
use Rattle.downtime_book.proofs.Order.{at_place}
use Rattle.downtime_book.proofs.keeping.trigger_all.Goals as goal

pub loop-one-preserved : goal.loop-one-preserved
loop-one-preserved c =
    let m = c.args.moment in
    let ps = c.loop-one.placed in
    let i = c.loop-one.one-index in
    let one = c.one-item.result in
    let met : Placed = record { downtime = c.meet_problem.new.self; firsts = (get_or ps i one).firsts } in
    let at = sym (at_place ps i one) in
    let is = ap (λ (p : Placed). p.downtime) c.one-item.is ∙ at in
    let after = c.meet_problem.ensures ∙ sym (ap (λ (p : Placed). after_result m true p.downtime) c.one-item.is) in
    let long = length-map c.args.placed.now (λ (p : Placed). p.downtime) in
    map-set (λ (p : Placed). p.downtime) ps i met ∙ met_more (after_result m true) (downtimes_of c.args.placed.now) (downtimes_of ps) i one.downtime met.downtime c.loop-one.invariant (omega (arith, long, c.loop-one-test.true)) is after
