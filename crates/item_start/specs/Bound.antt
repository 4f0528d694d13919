-- Trees that are bound to names, in a store alone.
use Rattle.std.specs.Prelude.{List, [], ◌∷◌, ◌++◌}
use Rattle.dsl_value.specs.Pairs.{Pairs}
use Rattle.dsl_value.specs.Contents.{PlainCell}
use Rattle.dsl_value.specs.Loads.{load, grown, given}
use Rattle.commit_meaning.specs.Starts.{Trees}

-- names with their values, and the cells of the store in which these are
pub record Bound : Type 0 where
  pub pairs : Pairs
  pub cells : List PlainCell

-- each name with the value that is made of its tree, behind the pairs and the cells that are there
abbrev pub bound_in : Trees → Pairs → List PlainCell → Bound
bound_in [] ps cs = record { pairs = ps; cells = cs }
bound_in (t ∷ ts) ps cs = bound_in ts (ps ++ (t.0, given 0 cs (load t.1)) ∷ []) (grown 0 cs (load t.1))
