use Rattle.std.proofs.Common.{◌≡◌, drop, map}
use Rattle.dsl_value.specs.Contents.{with_cells}
use Rattle.eval_work.specs.Kept.{HasGlobals, IsLater, PairsNamed}
use Rattle.eval_work.specs.Works.{plain_pair}
use Rattle.item_start.specs.Bound.{bound_in}
use Rattle.item_start.proofs.binding.bind_trees.Given as goal

abbrev pub invariant-loop-name : goal.invariant-loop-name
invariant-loop-name l =
    (bound_in (map plain_pair (drop l.name-index l.names)) l.bound.items l.store.cells ≡ bound_in (map plain_pair l.names) l.fn.bound.items l.fn.store.cells)
    × (l.store ≡ with_cells l.fn.store l.store.cells)
    × PairsNamed l.store l.bound.items
    × HasGlobals l.store
    × IsLater l.fn.store l.store
