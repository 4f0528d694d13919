use Rattle.std.proofs.Common.{◌≡◌, drop}
use Rattle.object_types.specs.Names.{attribute_name}
use Rattle.object_types.specs.Schema.{row_among}
use Rattle.object_values.proofs.attributes.row_among.Given as goal

abbrev pub invariant-loop-row : goal.invariant-loop-row
invariant-loop-row l = row_among (drop l.row-index l.rows) (attribute_name l.attribute) ≡ row_among l.rows (attribute_name l.attribute)
