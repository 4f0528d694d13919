use Rattle.post_turn.specs.Passes.{IsPassOf}
use Rattle.engine_tests.proofs.threads.acts.Given as goal

abbrev pub invariant-loop-serial : goal.invariant-loop-serial
invariant-loop-serial g l = IsPassOf l.post l.pass
