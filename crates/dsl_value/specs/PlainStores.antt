-- A store whose functions are plain syntax.
use Rattle.std.specs.Prelude.{◌≡◌, ℕ, List, [], ◌∷◌, ◌++◌, length, map, slice_get, Some}
use Rattle.dsl_syntax.specs.Syntax.{Function}
use Rattle.dsl_syntax.specs.SyntaxView.{func_view}
use Rattle.dsl_value.specs.Pairs.{Pairs}
use Rattle.dsl_value.specs.Contents.{PlainCell, PlainFunction, Contents, with_cells, function_at}

-- a function and what it captured
pub record Closure : Type 0 where
  pub func : Function
  pub captured : Pairs

abbrev pub closure : PlainFunction → Closure
closure f = record { func = func_view f.func; captured = f.captured }

-- cells, of which those below the base are frozen, and functions
pub record PlainStore : Type 0 where
  pub cells : List PlainCell
  pub base : ℕ
  pub functions : List Closure

-- what a store is once its functions are plain syntax
abbrev pub plain_store : Contents → PlainStore
plain_store s = record { cells = s.cells; base = s.base; functions = map closure s.functions }

-- a plain store with other cells, and one with a function more
abbrev pub with_plain_cells : PlainStore → List PlainCell → PlainStore
with_plain_cells s cells = record { cells = cells; base = s.base; functions = s.functions }

abbrev pub with_closure : PlainStore → Closure → PlainStore
with_closure s f = record { cells = s.cells; base = s.base; functions = s.functions ++ f ∷ [] }

-- what calls say of a store holds of its plain store too: for those that change cells, for `add_function`, and for
-- `function`; and there are as many functions
pub record IsPlainly : Type 0 where
  pub cells : (s t : Contents) (cells : List PlainCell) → t ≡ with_cells s cells → plain_store t ≡ with_plain_cells (plain_store s) cells
  pub adds : (s t : Contents) (f : PlainFunction) → t ≡ record { cells = s.cells; base = s.base; functions = s.functions ++ f ∷ [] } → plain_store t ≡ with_closure (plain_store s) (closure f)
  pub finds : (s : Contents) (k : ℕ) (f : PlainFunction) → Some f ≡ function_at s.functions k → slice_get (plain_store s).functions k ≡ Some (closure f)
  pub counts : (s : Contents) → length (plain_store s).functions ≡ length s.functions
