use Rattle.std.proofs.Common.{◌≡◌, ◌++◌, drop, not}
use Rattle.std.specs.List.{filter}
use Rattle.dsl_ops.specs.Seen.{found_in}
use Rattle.dsl_ops.proofs.membership.left_without.Given as goal

-- those so far, with those of what is left, are all of them
abbrev pub invariant-loop-item : goal.invariant-loop-item
invariant-loop-item l = l.items ++ filter (λ v. not (found_in l.store.cells l.seen v)) (drop l.item-index l.left) ≡ filter (λ v. not (found_in l.store.cells l.seen v)) l.left
