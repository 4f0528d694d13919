-- So far those from the place on are told, and all downtimes are as they were.
use Rattle.std.proofs.Common.{◌≡◌, ◌≤◌, length, drop}
use Rattle.downtime_book.specs.Firsts.{AreTold, downtimes_of, firsts_of}
use Rattle.downtime_book.proofs.keeping.tell.Given as goal

abbrev pub invariant-loop-place : goal.invariant-loop-place
invariant-loop-place l = record {
  same : downtimes_of l.placed ≡ downtimes_of l.initial.placed;
  place : l.place ≤ length l.placed;
  firsts : l.firsts ≡ firsts_of (downtimes_of (drop l.place l.placed));
  told : AreTold (drop l.place l.placed);
}

abbrev pub decreases-loop-place : goal.decreases-loop-place
decreases-loop-place l = l.place
