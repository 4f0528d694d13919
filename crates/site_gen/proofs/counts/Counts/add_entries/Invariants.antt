-- With those that are left all are counted.
use Rattle.std.proofs.Common.{◌≡◌, drop}
use Rattle.site_gen.specs.Counting.{with_entries}
use Rattle.site_gen.proofs.counts.Counts.add_entries.Given as goal

abbrev pub invariant-loop-entry : goal.invariant-loop-entry
invariant-loop-entry l = with_entries l.self (drop l.entry-index l.entries) ≡ with_entries l.initial.self l.entries
