-- The run goes on with the turn.
use Rattle.std.proofs.Common.{arith}
use Rattle.site_gen.specs.Going.{stage_before}
use Rattle.site_gen.proofs.Going.{at_next, next_log}
use Rattle.site_gen.proofs.Telling.{told}
use Rattle.site_gen.proofs.running.run_turn.Goals as goal

pub returns : goal.returns
returns c = λ s so_far.
    let k = c.args.number in
    let old = c.args.engine.now in
    let turn = c.in_ok-turn.turn in
    let out = c.in_ok-out.ensures in
    let begun = (stage_before c.args.hosts s old.run.zone k).begun in
    let small = c.requires.number in
    at_next c.args.hosts s k old c.turn_one.new.self c.args.counts.now c.add_turn.new.self turn so_far (omega (arith, small)) c.in_ok-turn.ensures (out.stage begun) out.site out.zone out.fresh
    (told c.args.counts.now c.add_turn.new.self c.in_ok-out.out (next_log c.args.hosts s k old turn) (out.tells begun) c.in_ok-add_turn.ensures)
