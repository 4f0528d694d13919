-- With the segments that are left, what is gathered so far comes to all.
use Rattle.std.specs.Vec.Iter.{into_iter_items}
use Rattle.site_model.specs.PlainSite.{site_view}
use Rattle.kept_runs.proofs.Gathered.{Gathers}
use Rattle.kept_runs.proofs.gathering.gather.Given as goal

abbrev pub invariant-loop-segment : goal.invariant-loop-segment
invariant-loop-segment l = Gathers (site_view l.site) l.fn.lines.items l.fn.segments l.lines.items (into_iter_items l.segment-iterator)
