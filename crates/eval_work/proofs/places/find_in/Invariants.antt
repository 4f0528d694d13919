use Rattle.std.proofs.Common.{◌≡◌, drop}
use Rattle.eval_work.specs.Placing.{place_in}
use Rattle.eval_work.proofs.places.find_in.Given as goal

abbrev pub invariant-loop-entry : goal.invariant-loop-entry
invariant-loop-entry l = place_in l.kind (drop l.entry-index l.list) ≡ place_in l.kind l.list
