use Rattle.std.proofs.Common.{◌≡◌, ◌++◌}
use Rattle.std.specs.Vec.Iter.{into_iter_items}
use Rattle.dsl_value.specs.Rows.{joined}
use Rattle.dsl_value.proofs.pair_rows.joined_rows.Given as goal

-- the pairs so far, with those of the rows that are left
abbrev pub invariant-loop-row : goal.invariant-loop-row
invariant-loop-row l = l.pairs.items ++ joined (into_iter_items l.row-iterator) ≡ joined l.fn.rows.items
