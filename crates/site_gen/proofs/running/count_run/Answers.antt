-- One turn after the other.
use Rattle.std.proofs.Common.{ap, arith}
use Rattle.site_model.specs.PlainSite.{site_view}
use Rattle.site_gen.proofs.Going.{at_first, at_last}
use Rattle.site_gen.proofs.running.count_run.Goals as goal

pub loop-number-init : goal.loop-number-init
loop-number-init c =
    let made = c.in_ok-engine.ensures in
    at_first c.args.hosts (site_view c.args.site) c.in_ok-engine.engine (ap site_view made.site) made.zone made.fresh made.start

pub run_turn-requires-clause-fresh : goal.run_turn-requires-clause-fresh
run_turn-requires-clause-fresh c = c.loop-number.invariant.fresh

pub run_turn-requires-clause-few : goal.run_turn-requires-clause-few
run_turn-requires-clause-few c =
    let m = c.loop-number.invariant.turns in
    let l = c.loop-number-test.true in
    omega (arith, m, l)

pub loop-number-preserved : goal.loop-number-preserved
loop-number-preserved c = c.in_ok-run_turn.ensures (site_view c.args.site) c.loop-number.invariant

pub returns : goal.returns
returns c = at_last c.args.hosts (site_view c.args.site) c.loop-number.number c.loop-number.engine c.loop-number.counts c.loop-number-test.false c.requires.sound.names c.loop-number.invariant
