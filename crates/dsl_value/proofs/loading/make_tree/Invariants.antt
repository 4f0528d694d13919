use Rattle.std.proofs.Common.{◌≡◌, ◌+◌, map}
use Rattle.site_base.specs.View.{view}
use Rattle.dsl_value.specs.Contents.{plain}
use Rattle.dsl_value.specs.Loading.{loaded, wrapped, value_of, work_of, work_outside}
use Rattle.dsl_value.proofs.loading.make_tree.Given as goal

-- what is made so far, with what is left, is all of it
abbrev pub invariant-loop-step : goal.invariant-loop-step
invariant-loop-step l = wrapped l.before l.open.items (value_of l.before (map plain l.made.items) l.step) ≡ loaded l.before (map plain l.fn.made.items) (view l.tree)

abbrev pub decreases-loop-step : goal.decreases-loop-step
decreases-loop-step l = work_outside l.open.items + work_of l.step
