-- Names whose values were made once in a store.
use Rattle.std.specs.Prelude.{◌≡◌, []}
use Rattle.dsl_value.specs.Contents.{Contents, with_cells}
use Rattle.eval_work.specs.Kept.{HasGlobals, IsLater, PairsNamed}
use Rattle.item_start.specs.Bound.{bound_in}
use Rattle.rule_expressions.specs.Seen.{names_of}
use Rattle.rule_expressions.specs.declared.prepared.Prepared.{Prepared}

-- the names of a subject with their values, made behind the cells of a store
pub record IsPrepared (s : Contents) (p : Prepared) : Type 0 where
  pub store : p.store ≡ with_cells s (bound_in (names_of p.subject) [] s.cells).cells
  pub bound : p.bound.items ≡ (bound_in (names_of p.subject) [] s.cells).pairs
  pub named : PairsNamed p.store p.bound.items
  pub globals : HasGlobals p.store
  pub later : IsLater s p.store
