use Rattle.std.proofs.Common.{◌≡◌, ◌++◌, drop}
use Rattle.task_keys.specs.ValueKeys.{pairs_key}
use Rattle.task_keys.proofs.values.push_pairs.Given as goal

abbrev pub invariant-loop-name : goal.invariant-loop-name
invariant-loop-name l = l.out ++ pairs_key (drop l.name-index l.pairs) ≡ l.fn.out ++ pairs_key l.pairs
