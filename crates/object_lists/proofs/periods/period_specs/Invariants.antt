-- The periods so far, and those that are left, are all.
use Rattle.std.proofs.Common.{◌≡◌, ◌++◌, map, drop}
use Rattle.object_lists.specs.Listed.{lent_view}
use Rattle.object_lists.specs.Periods.{period_of}
use Rattle.object_lists.proofs.periods.period_specs.Given as goal

abbrev pub invariant-loop-place : goal.invariant-loop-place
invariant-loop-place l =
    l.specs.items ++ map (period_of l.listed.names l.own.items) (lent_view (drop l.place l.listed.objects.items)) ≡ map (period_of l.listed.names l.own.items) (lent_view l.listed.objects.items)
