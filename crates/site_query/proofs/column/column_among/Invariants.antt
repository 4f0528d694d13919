use Rattle.std.proofs.Common.{◌≡◌, drop}
use Rattle.site_query.specs.Names.{column_name, spelled_among}
use Rattle.site_query.proofs.column.column_among.Given as goal

abbrev pub invariant-loop-column : goal.invariant-loop-column
invariant-loop-column l = spelled_among column_name (drop l.column-index l.columns) l.name ≡ spelled_among column_name l.columns l.name
