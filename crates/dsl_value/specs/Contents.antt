-- Cells, functions and stores as plain values.
use Rattle.std.specs.Prelude.{ℕ, Bool, List, [], ◌∷◌, ◌++◌, slice_set, slice_index_or, slice_get, true, false, T, Option}
use Rattle.std.specs.Arc.{arc_value}
use Rattle.dsl_syntax.specs.declared.func.Func.{Func}
use Rattle.dsl_value.specs.Pairs.{Pairs, is_sorted, put, without}
use Rattle.dsl_value.specs.declared.value.Value.{Value}
use Rattle.dsl_value.specs.declared.cell.Cell.{Cell}
use Rattle.dsl_value.specs.declared.cell.Cell.TheVariants as cell
use Rattle.dsl_value.specs.declared.function.Function.{Function}

-- what an array or a dictionary contains
pub data PlainCell : Type 0 where
  array : List Value → PlainCell
  dict : Pairs → PlainCell

abbrev pub plain : Cell → PlainCell
plain (cell.Array v) = array v.items
plain (cell.Dict v) = dict v

-- a function and what it captured
pub record PlainFunction : Type 0 where
  pub func : Func
  pub captured : Pairs

abbrev pub function : Function → PlainFunction
function f = record { func = arc_value f.func; captured = f.captured.items }

-- cells and functions side by side
pub record Contained : Type 0 where
  pub cells : List PlainCell
  pub functions : List PlainFunction

-- what a store contains: cells, of which those below the base are frozen, and functions
pub record Contents : Type 0 where
  pub cells : List PlainCell
  pub base : ℕ
  pub functions : List PlainFunction

-- the cell of an index
abbrev pub cell_at : List PlainCell → ℕ → PlainCell
cell_at cells k = slice_index_or cells k (array [])

abbrev pub with_cell : List PlainCell → ℕ → PlainCell → List PlainCell
with_cell cells k c = slice_set cells k c

abbrev pub is_array : PlainCell → Bool
is_array (array vs) = true
is_array (dict ps) = false

abbrev pub is_dict : PlainCell → Bool
is_dict (array vs) = false
is_dict (dict ps) = true

abbrev pub values_of : PlainCell → List Value
values_of (array vs) = vs
values_of (dict ps) = []

abbrev pub pairs_of : PlainCell → Pairs
pairs_of (array vs) = []
pairs_of (dict ps) = ps

-- an array with one more value
abbrev pub pushed : PlainCell → Value → PlainCell
pushed (array vs) v = array (vs ++ v ∷ [])
pushed (dict ps) v = dict ps

-- an array with another value at a place
abbrev pub with_value : PlainCell → ℕ → Value → PlainCell
with_value (array vs) k v = array (slice_set vs k v)
with_value (dict ps) k v = dict ps

-- a dictionary with a value at a key
abbrev pub with_pair : PlainCell → List ℕ → Value → PlainCell
with_pair (array vs) key v = array vs
with_pair (dict ps) key v = dict (put key v ps)

-- a dictionary without a key
abbrev pub without_pair : PlainCell → List ℕ → PlainCell
without_pair (array vs) key = array vs
without_pair (dict ps) key = dict (without key ps)

-- a dictionary's keys rise
abbrev pub IsInOrder : PlainCell → Type 0
IsInOrder (array vs) = Unit {0}
IsInOrder (dict ps) = T (is_sorted ps)

-- the function of an index
abbrev pub function_at : List PlainFunction → ℕ → Option PlainFunction
function_at functions k = slice_get functions k

-- a store with other cells
abbrev pub with_cells : Contents → List PlainCell → Contents
with_cells s cells = record { cells = cells; base = s.base; functions = s.functions }
