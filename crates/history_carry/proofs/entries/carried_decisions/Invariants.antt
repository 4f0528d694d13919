-- The decisions that were carried so far.
use Rattle.std.proofs.Common.{◌≡◌, take}
use Rattle.std.specs.List.{filter_map}
use Rattle.history_carry.specs.Entries.{carried_decision}
use Rattle.history_carry.proofs.entries.carried_decisions.Given as goal

abbrev pub invariant-loop-decision : goal.invariant-loop-decision
invariant-loop-decision l = l.carried.items ≡ filter_map (carried_decision l.moves) (take l.decision-index l.decisions)
