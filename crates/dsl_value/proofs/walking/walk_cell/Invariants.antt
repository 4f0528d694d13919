use Rattle.std.proofs.Common.{◌≡◌, ◌+◌, [], length}
use Rattle.dsl_value.specs.Walks.{most, walk}
use Rattle.dsl_value.specs.Paths.{IsPath, going, left_of}
use Rattle.dsl_value.specs.declared.value.Value.TheVariants.{Ref}
use Rattle.dsl_value.proofs.walking.walk_cell.Given as goal

-- what is left to walk gives what all of it gives
abbrev pub invariant-loop-next : goal.invariant-loop-next
invariant-loop-next l = IsPath (length l.store.cells) l.path × (going l.store.cells l.path ≡ walk (most + 1) l.store.cells [] (Ref l.cell) 0)

abbrev pub decreases-loop-next : goal.decreases-loop-next
decreases-loop-next l = left_of l.path
