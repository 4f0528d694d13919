-- So far each run is without what was cancelled and what is past.
use Rattle.std.proofs.Common.{◌≡◌, ◌==◌, not, List, filter}
use Rattle.downtime_book.specs.declared.downtime.Downtime.{Downtime}
use Rattle.downtime_book.specs.Downtime.{is_live}
use Rattle.downtime_book.proofs.Together.{Met}
use Rattle.downtime_book.proofs.runs.cancel.Given as goal

abbrev pub invariant-loop-run : goal.invariant-loop-run
invariant-loop-run l =
    Met (λ (xs ys : List Downtime). ys ≡ filter (is_live l.moment) (filter (λ (d : Downtime). not (d.number == l.number)) xs)) l.initial.runs l.runs l.run-index
