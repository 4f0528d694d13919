use Rattle.std.proofs.Common.{◌≡◌, ◌++◌, drop}
use Rattle.apply_rules.proofs.instance.copy_pairs.Given as goal

abbrev pub invariant-loop-name : goal.invariant-loop-name
invariant-loop-name l = l.copy.items ++ drop l.name-index l.pairs ≡ l.pairs
