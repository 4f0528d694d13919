-- A tree while it is put into a store.
use Rattle.std.specs.Prelude.{◌≡◌, ℕ, ◌+◌, ◌*◌, List, [], ◌∷◌, ◌++◌}
use Rattle.site_base.specs.Data.{Data, Items, Pairs as TreePairs}
use Rattle.site_base.specs.View.{view, items_view, pairs_view}
use Rattle.site_base.specs.Weight.{weight, items_weight, pairs_weight}
use Rattle.dsl_value.specs.Contents.{PlainCell, array, dict}
use Rattle.dsl_value.specs.Pairs.{Pairs, dict_of}
use Rattle.dsl_value.specs.Loads.{Made, in_cell, load, load_items, load_pairs, grown, given}
use Rattle.dsl_value.specs.declared.value.Value.{Value}
use Rattle.dsl_value.specs.declared.loading.Open.{Open}
use Rattle.dsl_value.specs.declared.loading.Open.TheVariants as opens
use Rattle.dsl_value.specs.declared.loading.Step.{Step}
use Rattle.dsl_value.specs.declared.loading.Step.TheVariants as steps

-- a value, with all cells
abbrev pub among : Value → List PlainCell → Made Value
among v cells = record { value = v; cells = cells }

-- the value of a tree that is loaded after the cells so far, with all cells then
abbrev pub loaded : ℕ → List PlainCell → Data → Made Value
loaded before cells d = record { value = given before cells (load d); cells = grown before cells (load d) }

-- an array of values and of those of the trees that are left
abbrev pub array_of : ℕ → List PlainCell → List Value → Items → Made Value
array_of before cells vs ds = in_cell before array (record { value = vs ++ given before cells (load_items ds); cells = grown before cells (load_items ds) })

-- a dictionary of pairs and of those that are left
abbrev pub dict_of_pairs : ℕ → List PlainCell → Pairs → TreePairs → Made Value
dict_of_pairs before cells qs ps = in_cell before (λ all. dict (dict_of all [])) (record { value = qs ++ given before cells (load_pairs ps); cells = grown before cells (load_pairs ps) })

-- an array, or a dictionary, comes to the same as with more of it left, whatever cells are there
abbrev pub SameArray : List Value → Items → List Value → Items → Type 0
SameArray vs ds more_vs more_ds = (before : ℕ) (cells : List PlainCell) → array_of before cells vs ds ≡ array_of before cells more_vs more_ds

abbrev pub SameDict : Pairs → TreePairs → Pairs → TreePairs → Type 0
SameDict qs ps more_qs more_ps = (before : ℕ) (cells : List PlainCell) → dict_of_pairs before cells qs ps ≡ dict_of_pairs before cells more_qs more_ps

-- what an open array or dictionary becomes once the part that is loaded next has this value, and these are all cells
abbrev pub filled : ℕ → Open → Made Value → Made Value
filled before (opens.Array values left) m = array_of before m.cells (values.items ++ m.value ∷ []) (items_view left.now)
filled before (opens.Dict pairs key left) m = dict_of_pairs before m.cells (pairs.items ++ (key, m.value) ∷ []) (pairs_view left.now)

-- the same through all that are open, the outermost first
abbrev pub wrapped : ℕ → List Open → Made Value → Made Value
wrapped before [] m = m
wrapped before (o ∷ os) m = filled before o (wrapped before os m)

-- the value that a step stands for, with all cells then
abbrev pub value_of : ℕ → List PlainCell → Step → Made Value
value_of before cells (steps.Made v) = among v cells
value_of before cells (steps.Inside o next) = filled before o (loaded before cells (view next.now))

-- how much is left to do in an open array or dictionary, and in a step
abbrev pub work_in : Open → ℕ
work_in (opens.Array values left) = 1 + 2 * items_weight left.now
work_in (opens.Dict pairs key left) = 1 + 2 * pairs_weight left.now

abbrev pub work_of : Step → ℕ
work_of (steps.Made v) = 1
work_of (steps.Inside o next) = work_in o + 2 * weight next.now

abbrev pub work_outside : List Open → ℕ
work_outside [] = 0
work_outside (o ∷ os) = work_in o + work_outside os
