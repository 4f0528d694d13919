-- What stays, what falls and what grows while something is evaluated.
use Rattle.std.specs.Prelude.{◌≡◌, ℕ, ◌+◌, ◌<◌, ◌≤◌, List, ◌++◌, length, slice_get}
use Rattle.dsl_value.specs.Contents.{cell_at, is_array}
use Rattle.eval_meaning.specs.States.{State, Outcome, gives, faults, blocked}
use Rattle.eval_meaning.specs.declared.read.Read.{Read}

-- later reads stand behind earlier ones
abbrev pub Reads : List Read → List Read → Type 0
Reads before after = (more : List Read) × (after ≡ before ++ more)

-- Steps and space never rise. The base is the same, the cells below it are what they were, and so are the functions. No cell is lost, each is an
-- array or a dictionary as before, and each new one took a unit of space or more.
pub record IsOnward (old new : State) : Type 0 where
  pub steps : new.steps ≤ old.steps
  pub space : new.space ≤ old.space
  pub base : new.base ≡ old.base
  pub frozen : (k : ℕ) → k < old.base → k < length old.cells → cell_at new.cells k ≡ cell_at old.cells k
  pub kinds : (k : ℕ) → k < length old.cells → is_array (cell_at new.cells k) ≡ is_array (cell_at old.cells k)
  pub cells : length old.cells ≤ length new.cells
  pub paid : length new.cells + new.space ≤ length old.cells + old.space
  pub functions : (k : ℕ) → k < length old.functions → slice_get new.functions k ≡ slice_get old.functions k
  pub no_function_lost : length old.functions ≤ length new.functions
  pub reads : Reads old.reads new.reads

-- the same of an outcome, of which only the reads are left after a fault
abbrev pub GoesOnward : {A : Type 0} → State → Outcome A → Type 0
GoesOnward old (gives a new) = IsOnward old new
GoesOnward old (faults l k t rs) = Reads old.reads rs
GoesOnward old (blocked r rs) = Reads old.reads rs
