-- What stands, in front of the ranges of what is left, is all.
use Rattle.std.proofs.Common.{◌≡◌, drop}
use Rattle.site_base.specs.View.{pairs_view}
use Rattle.time_range.specs.Ranges.{with_front, ranges_of}
use Rattle.time_range.proofs.ranges.ranges_of.Given as goal

abbrev pub invariant-loop-key : goal.invariant-loop-key
invariant-loop-key l = with_front l.ranges (ranges_of (pairs_view (drop l.key-index l.pairs))) ≡ ranges_of (pairs_view l.pairs)
