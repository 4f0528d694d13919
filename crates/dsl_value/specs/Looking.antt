-- What a walk sees of a value.
use Rattle.std.specs.Prelude.{◌≡◌, ℕ, ◌≤◌, List, Result, Ok, Err}
use Rattle.site_base.specs.View.{view}
use Rattle.dsl_value.specs.Contents.{PlainCell}
use Rattle.dsl_value.specs.Walks.{most, Walker, walked, value_walked, outcome, Stops}
use Rattle.dsl_value.specs.declared.value.Value.{Value}
use Rattle.dsl_value.specs.declared.value.Value.TheVariants as value
use Rattle.dsl_value.specs.declared.looking.Look.{Look}
use Rattle.dsl_value.specs.declared.looking.Look.TheVariants as looks
use Rattle.dsl_value.specs.declared.tree_fault.TreeFault.{TreeFault}

-- a leaf has its tree, and where a walk stops it stops with this fault, wherever the value stands
abbrev pub Looked : Value → ℕ → Result Look TreeFault → Type 0
Looked v c (Ok (looks.Leaf t c1)) = ((inside : List ℕ → Walker) (cells : List PlainCell) (open_cells : List ℕ) → value_walked inside cells open_cells v c ≡ walked (view t) c1) × ((c ≤ c1) × (c1 ≤ most))
Looked v c (Ok (looks.Cell k)) = v ≡ value.Ref k
Looked v c (Err e) = (inside : List ℕ → Walker) (cells : List PlainCell) (open_cells : List ℕ) → Stops e (outcome (value_walked inside cells open_cells v c))
