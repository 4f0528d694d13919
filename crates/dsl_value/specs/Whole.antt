-- What a store keeps of itself.
use Rattle.std.specs.Prelude.{ℕ, ◌<◌, ◌≤◌, ◌^◌, ◌++◌, List, length, T}
use Rattle.std.specs.List.{AllByRecursion}
use Rattle.dsl_value.specs.Pairs.{Pairs, is_sorted}
use Rattle.dsl_value.specs.Contents.{PlainCell, array, dict, PlainFunction, Contained}
use Rattle.dsl_value.specs.declared.value.Value.{Value}
use Rattle.dsl_value.specs.declared.value.Value.TheVariants as value

-- where a value names a cell or a function, it is one of the first so many
abbrev pub Names : ℕ → ℕ → Value → Type 0
Names cells functions value.Null = Unit {0}
Names cells functions (value.Bool b) = Unit {0}
Names cells functions (value.Number n) = Unit {0}
Names cells functions (value.Str t) = Unit {0}
Names cells functions (value.Ref k) = k < cells
Names cells functions (value.Func k) = k < functions

abbrev pub NamesAll : ℕ → ℕ → Pairs → Type 0
NamesAll cells functions = AllByRecursion (λ p. Names cells functions p.1)

-- so does each value of a cell, and a dictionary's keys rise
abbrev pub Stands : ℕ → ℕ → PlainCell → Type 0
Stands cells functions (array vs) = AllByRecursion (Names cells functions) vs
Stands cells functions (dict ps) = NamesAll cells functions ps × T (is_sorted ps)

abbrev pub Captures : ℕ → ℕ → PlainFunction → Type 0
Captures cells functions f = NamesAll cells functions f.captured

-- each value in cells and functions names one of them
pub record IsWhole (cs : List PlainCell) (fs : List PlainFunction) : Type 0 where
  pub cells : AllByRecursion (Stands (length cs) (length fs)) cs
  pub functions : AllByRecursion (Captures (length cs) (length fs)) fs

-- what is true of a store that shares some cells and functions
pub record IsKept (frozen live : Contained) (b : ℕ) : Type 0 where
  pub shared : length frozen.cells ≤ b
  pub base : b ≤ length (frozen.cells ++ live.cells)
  pub few : length (frozen.cells ++ live.cells) < 2 ^ 32
  pub few_functions : length (frozen.functions ++ live.functions) < 2 ^ 32
  pub whole : IsWhole (frozen.cells ++ live.cells) (frozen.functions ++ live.functions)
