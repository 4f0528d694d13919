-- What is told so far, with what is missing of the rows that are left, is all.
use Rattle.std.proofs.Common.{◌≡◌, ◌++◌, drop}
use Rattle.site_base.specs.View.{pairs_view}
use Rattle.object_types.specs.Checks.{missing_faults}
use Rattle.object_types.proofs.checking.push_missing.Given as goal

abbrev pub invariant-loop-row : goal.invariant-loop-row
invariant-loop-row l =
    l.out ++ missing_faults l.item (drop l.row-index l.rows) (pairs_view l.pairs) ≡ l.fn.out ++ missing_faults l.item l.rows (pairs_view l.pairs)
