use Rattle.std.proofs.Common.{◌≡◌, drop}
use Rattle.object_types.specs.Schema.{row_among}
use Rattle.object_types.proofs.lookups.row_among.Given as goal

abbrev pub invariant-loop-row : goal.invariant-loop-row
invariant-loop-row l = row_among (drop l.row-index l.rows) l.name ≡ row_among l.rows l.name
