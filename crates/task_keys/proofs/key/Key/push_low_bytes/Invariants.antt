use Rattle.std.proofs.Common.{◌≡◌, ◌++◌, ◌<◌, ◌^◌, ◌+◌}
use Rattle.task_keys.specs.Keys.{low_bytes}
use Rattle.task_keys.proofs.key.Key.push_low_bytes.Given as goal

abbrev pub invariant-loop-left : goal.invariant-loop-left
invariant-loop-left l = record {
  few : l.left < 8;
  small : l.rest < 256 ^ (l.left + 1);
  bytes : l.self ++ low_bytes l.left l.rest ≡ l.fn.self ++ low_bytes 7 l.fn.number;
}

abbrev pub decreases-loop-left : goal.decreases-loop-left
decreases-loop-left l = l.left
