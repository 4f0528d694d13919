-- With those that are left all are counted.
use Rattle.std.proofs.Common.{◌≡◌, drop}
use Rattle.site_gen.specs.Counting.{with_decisions}
use Rattle.site_gen.proofs.counts.Counts.add_decisions.Given as goal

abbrev pub invariant-loop-decision : goal.invariant-loop-decision
invariant-loop-decision l = with_decisions l.self (drop l.decision-index l.decisions) ≡ with_decisions l.initial.self l.decisions
