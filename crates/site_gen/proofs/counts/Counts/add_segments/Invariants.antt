-- With those that are left all are counted.
use Rattle.std.proofs.Common.{◌≡◌, drop}
use Rattle.site_gen.specs.Counting.{entries_in, with_entries}
use Rattle.site_gen.proofs.counts.Counts.add_segments.Given as goal

abbrev pub invariant-loop-segment : goal.invariant-loop-segment
invariant-loop-segment l = with_entries l.self (entries_in (drop l.segment-index l.segments)) ≡ with_entries l.initial.self (entries_in l.segments)
