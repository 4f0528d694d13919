use Rattle.std.proofs.Common.{◌≡◌, drop, slice_get}
use Rattle.dsl_value.specs.Rows.{joined}
use Rattle.dsl_value.proofs.pair_rows.pair_among.Given as goal

-- the pair is among the rows that are left
abbrev pub invariant-loop-row : goal.invariant-loop-row
invariant-loop-row l = slice_get (joined (drop l.row-index l.rows)) l.left ≡ slice_get (joined l.rows) l.place
