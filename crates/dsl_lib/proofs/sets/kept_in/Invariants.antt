use Rattle.std.proofs.Common.{◌≡◌, ◌++◌, drop}
use Rattle.std.specs.List.{filter}
use Rattle.dsl_ops.specs.Seen.{found_in}
use Rattle.dsl_lib.proofs.sets.kept_in.Given as goal

-- those so far, with those of what is left, are all of them
abbrev pub invariant-loop-value : goal.invariant-loop-value
invariant-loop-value l = l.kept ++ filter (found_in l.store.cells l.seen) (drop l.value-index l.values) ≡ filter (found_in l.store.cells l.seen) l.values
