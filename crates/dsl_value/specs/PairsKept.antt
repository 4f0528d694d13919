-- How pairs are kept.
use Rattle.dsl_value.specs.Pairs.{Pairs}
use Rattle.dsl_value.specs.declared.sorted_pairs.Kept.{Kept}
use Rattle.dsl_value.specs.declared.sorted_pairs.Kept.TheVariants as kept

-- the pairs that are kept in one row or in several
abbrev pub pairs_kept : Kept → Pairs
pairs_kept (kept.Row v) = v.items
pairs_kept (kept.Rows r) = r
