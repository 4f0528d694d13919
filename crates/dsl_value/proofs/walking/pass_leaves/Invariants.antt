use Rattle.std.proofs.Common.{◌≡◌, ◌-◌, ◌≤◌, length}
use Rattle.dsl_value.specs.Contents.{plain, cell_at}
use Rattle.dsl_value.specs.Walks.{most}
use Rattle.dsl_value.specs.Paths.{IsPath, going, left_of}
use Rattle.dsl_value.specs.Entering.{frame, cell_of}
use Rattle.dsl_value.proofs.walking.pass_leaves.Given as goal

-- what is left to walk gives the same, and what is walked is in the same cell
abbrev pub invariant-loop-value : goal.invariant-loop-value
invariant-loop-value l = IsPath (length l.store.cells) l.path
    × ((going l.store.cells l.path ≡ going l.store.cells l.fn.path)
    × ((left_of l.path ≤ left_of l.fn.path)
    × (plain l.content ≡ cell_at l.store.cells (cell_of (frame l.path.top)))))

abbrev pub decreases-loop-value : goal.decreases-loop-value
decreases-loop-value l = most - l.path.cost
