use Rattle.std.proofs.Common.{◌≤◌}
use Rattle.site_base.specs.View.{items_view}
use Rattle.site_base.specs.Weight.{items_weight}
use Rattle.dsl_value.specs.Loading.{SameArray}
use Rattle.dsl_value.proofs.loading.add_bare_items.Given as goal

-- what is added, with what is left, comes to the same array
abbrev pub invariant-loop-next : goal.invariant-loop-next
invariant-loop-next l = SameArray l.values.items (items_view l.left) l.fn.values.items (items_view l.fn.items) × (items_weight l.left ≤ items_weight l.fn.items)

abbrev pub decreases-loop-next : goal.decreases-loop-next
decreases-loop-next l = items_weight l.left
