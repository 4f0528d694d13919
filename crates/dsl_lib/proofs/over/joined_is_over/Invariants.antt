use Rattle.std.proofs.Common.{◌+◌, ◌≤◌, drop, length}
use Rattle.dsl_lib.specs.Limits.{separated_bytes}
use Rattle.dsl_lib.proofs.over.joined_is_over.Given as goal

-- what is left and what is to come make no more than all of it
abbrev pub invariant-loop-item : goal.invariant-loop-item
invariant-loop-item l = (l.most + length l.separator) + separated_bytes l.separator (drop l.item-index l.rest) ≤ l.left + separated_bytes l.separator l.items
