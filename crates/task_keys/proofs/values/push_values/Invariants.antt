use Rattle.std.proofs.Common.{◌≡◌, ◌++◌, drop}
use Rattle.task_keys.specs.ValueKeys.{values_key}
use Rattle.task_keys.proofs.values.push_values.Given as goal

abbrev pub invariant-loop-value : goal.invariant-loop-value
invariant-loop-value l = l.out ++ values_key (drop l.value-index l.values) ≡ l.fn.out ++ values_key l.values
