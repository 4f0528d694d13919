-- What is left comes behind the segments so far.
use Rattle.std.proofs.Common.{◌≡◌, ◌++◌, map}
use Rattle.site_posts.specs.Segments.{segment_of}
use Rattle.round_check.proofs.checking.segments_of.Given as goal

abbrev pub invariant-loop-checkable : goal.invariant-loop-checkable
invariant-loop-checkable l = l.segments.items ++ map segment_of l.checkable-iterator ≡ map segment_of l.fn.gathered.entries
