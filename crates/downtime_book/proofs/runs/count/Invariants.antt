-- So far those of the runs that were passed are counted.
use Rattle.std.proofs.Common.{◌≡◌, length, take}
use Rattle.downtime_book.specs.Contents.{together}
use Rattle.downtime_book.proofs.runs.count.Given as goal

abbrev pub invariant-loop-run : goal.invariant-loop-run
invariant-loop-run l = l.total ≡ length (together (take l.run-index l.runs))
