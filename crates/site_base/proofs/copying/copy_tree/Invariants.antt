use Rattle.std.proofs.Common.{◌≡◌, ◌+◌}
use Rattle.site_base.specs.View.{view}
use Rattle.site_base.specs.Copying.{wrapped, value_of, work_of, work_outside}
use Rattle.site_base.proofs.copying.copy_tree.Given as goal

-- what is made so far, with what is left, is all of it
abbrev pub invariant-loop-step : goal.invariant-loop-step
invariant-loop-step l = wrapped l.open.items (value_of l.step) ≡ view l.tree

abbrev pub decreases-loop-step : goal.decreases-loop-step
decreases-loop-step l = work_outside l.open.items + work_of l.step
