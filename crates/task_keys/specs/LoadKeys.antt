-- The keys of what a load leaves.
use Rattle.std.specs.Prelude.{◌≡◌, ℕ, List, ◌∷◌, ◌++◌, map}
use Rattle.dsl_value.specs.Contents.{PlainCell, array, dict}
use Rattle.dsl_value.specs.PlainStores.{Closure}
use Rattle.eval_meaning.specs.Load.{Loaded}
use Rattle.eval_meaning.specs.Registered.{PlainTemplate}
use Rattle.task_keys.specs.Keys.{text_key}
use Rattle.task_keys.specs.SyntaxKeys.{function_key, statements_key}
use Rattle.task_keys.specs.ValueKeys.{values_key, pairs_key}

abbrev pub cell_key : PlainCell → List ℕ
cell_key (array vs) = 0 ∷ values_key vs
cell_key (dict ps) = 1 ∷ pairs_key ps

abbrev pub closure_key : Closure → List ℕ
closure_key f = function_key f.func ++ pairs_key f.captured

abbrev pub template_key : PlainTemplate → List ℕ
template_key t = text_key t.kind ++ (text_key t.name ++ (pairs_key t.captured ++ statements_key t.body))

-- The stores of both have so many frozen cells, and their cells, functions and templates have the same keys, in order.
pub record HaveSameKeys (load other : Loaded) : Type 0 where
  pub base : load.store.base ≡ other.store.base
  pub cells : map cell_key load.store.cells ≡ map cell_key other.store.cells
  pub functions : map closure_key load.store.functions ≡ map closure_key other.store.functions
  pub templates : map template_key load.templates ≡ map template_key other.templates
