-- So far each downtime is as the problem left it.
use Rattle.std.proofs.Common.{◌≡◌, true, ◌++◌, map, take, drop}
use Rattle.downtime_book.specs.Downtime.{after_result}
use Rattle.downtime_book.specs.Firsts.{downtimes_of}
use Rattle.downtime_book.proofs.keeping.trigger_all.Given as goal

abbrev pub invariant-loop-one : goal.invariant-loop-one
invariant-loop-one l =
    let before = downtimes_of l.initial.placed in
    let i = l.one-index in
    downtimes_of l.placed ≡ map (after_result l.moment true) (take i before) ++ drop i before
