-- So far each run has met the result and is without what is past.
use Rattle.std.proofs.Common.{List, filter, map, IsPermutation}
use Rattle.downtime_book.specs.declared.downtime.Downtime.{Downtime}
use Rattle.downtime_book.specs.Downtime.{is_live, after_result}
use Rattle.downtime_book.proofs.Together.{Met}
use Rattle.downtime_book.proofs.runs.meet_result.Given as goal

abbrev pub invariant-loop-run : goal.invariant-loop-run
invariant-loop-run l =
    Met (λ (xs ys : List Downtime). IsPermutation (filter (is_live l.moment) (map (after_result l.moment l.problem) xs)) ys) l.initial.runs l.runs l.run-index
