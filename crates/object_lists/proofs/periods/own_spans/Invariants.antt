-- The spans so far, and those of the periods that are left, are all.
use Rattle.std.proofs.Common.{◌≡◌, ◌++◌, map, drop}
use Rattle.object_lists.specs.Listed.{lent_view}
use Rattle.object_lists.specs.Periods.{own_spans}
use Rattle.object_lists.proofs.periods.own_spans.Given as goal

abbrev pub invariant-loop-period : goal.invariant-loop-period
invariant-loop-period l = l.own.items ++ map own_spans (lent_view (drop l.period-index l.periods)) ≡ map own_spans (lent_view l.periods)
