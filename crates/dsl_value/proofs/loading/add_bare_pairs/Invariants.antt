use Rattle.std.proofs.Common.{◌≤◌}
use Rattle.site_base.specs.View.{pairs_view}
use Rattle.site_base.specs.Weight.{pairs_weight}
use Rattle.dsl_value.specs.Loading.{SameDict}
use Rattle.dsl_value.proofs.loading.add_bare_pairs.Given as goal

-- what is added, with what is left, comes to the same dictionary
abbrev pub invariant-loop-key : goal.invariant-loop-key
invariant-loop-key l = SameDict l.pairs.items (pairs_view l.left) l.fn.pairs.items (pairs_view l.fn.items) × (pairs_weight l.left ≤ pairs_weight l.fn.items)

abbrev pub decreases-loop-key : goal.decreases-loop-key
decreases-loop-key l = pairs_weight l.left
