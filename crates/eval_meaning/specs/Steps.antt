-- The steps of which evaluations are made.
use Rattle.std.specs.Prelude.{◌≡◌, ℕ, ◌<◌, ◌≤◌, ◌-◌, List, [], ◌∷◌, ◌++◌, Bool, true, Option}
use Rattle.site_base.specs.declared.place.Place.{Place}
use Rattle.dsl_syntax.specs.Syntax.{MaybeLoop, Statements}
use Rattle.dsl_value.specs.Pairs.{Pairs}
use Rattle.dsl_value.specs.Contents.{PlainCell, cell_at, with_cell, is_array}
use Rattle.dsl_value.specs.PlainStores.{Closure}
use Rattle.dsl_value.specs.declared.value.Value.{Value}
use Rattle.eval_meaning.specs.States.{State, Loading}
use Rattle.eval_meaning.specs.Registered.{PlacedName}
use Rattle.eval_meaning.specs.Registration.{changed, is_among, resolved_target, target_types, types, with_constant, with_item, with_rule, with_template}
use Rattle.eval_meaning.specs.Views.{View}

-- How what a load has come to changes: another part of the order is left, or a constant, a template, an item or a rule is registered. Items and
-- rules are of one of the types, and a rule goes to a type to which rules of its own type go.
pub data Registers (m : Loading) : Loading → Type 0 where
  ordered : (order : List ℕ) → Registers m (record m { order = order })
  constant : (n : List ℕ) → Registers m (with_constant n m)
  template : (l : Place) (kind n : List ℕ) (captured : Pairs) (b : Statements) → Registers m (with_template l kind n captured b m)
  object : (view : View) (l : Place) (kind n : List ℕ) (captured : Pairs) (b : Statements) → is_among kind types ≡ true → Registers m (with_item view l kind n captured b m)
  rule : (l : Place) (kind : List ℕ) (n : Option PlacedName) (to : Option (List ℕ)) (each : MaybeLoop) (captured : Pairs) (b : Statements) → is_among kind types ≡ true → is_among (resolved_target kind to) (target_types kind) ≡ true → Registers m (with_rule l kind n to each captured b m)

-- How an evaluation changes its state, but for reads: the frame; a step is counted; space is charged; a new cell, a new function, and another
-- content of the same kind in a cell that isn't frozen; and what a load has come to.
pub data IsStep (s : State) : State → Type 0 where
  framed : (this : Value) (locals : Pairs) (in_file : Bool) → IsStep s (record s { this = this; locals = locals; in_file = in_file })
  counted : 0 < s.steps → IsStep s (record s { steps = s.steps - 1 })
  charged : (n : ℕ) → n ≤ s.space → IsStep s (record s { space = s.space - n })
  made : (n : ℕ) (c : PlainCell) → 0 < n → n ≤ s.space → IsStep s (record s { space = s.space - n; cells = s.cells ++ c ∷ [] })
  function_kept : (f : Closure) → IsStep s (record s { functions = s.functions ++ f ∷ [] })
  written_to : (n k : ℕ) (c : PlainCell) → n ≤ s.space → s.base ≤ k → is_array c ≡ is_array (cell_at s.cells k) → IsStep s (record s { space = s.space - n; cells = with_cell s.cells k c })
  loaded_to : (f : Loading → Loading) → ((m : Loading) → Registers m (f m)) → IsStep s (record s { task = changed f s.task })
