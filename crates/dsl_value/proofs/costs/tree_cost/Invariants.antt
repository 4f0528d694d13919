use Rattle.std.proofs.Common.{◌≡◌, ◌+◌}
use Rattle.site_base.specs.View.{view}
use Rattle.dsl_value.specs.Loads.{cost}
use Rattle.dsl_value.specs.Costs.{costs_of, works_of}
use Rattle.dsl_value.proofs.costs.tree_cost.Given as goal

-- what is counted, with what is left, is all of it
abbrev pub invariant-loop-left : goal.invariant-loop-left
invariant-loop-left l = l.units + costs_of l.open.items ≡ cost (view l.tree)

abbrev pub decreases-loop-left : goal.decreases-loop-left
decreases-loop-left l = works_of l.open.items
