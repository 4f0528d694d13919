-- How a store changes.
use Rattle.std.specs.Prelude.{◌≡◌, ℕ, ◌+◌, ◌<◌, ◌≤◌, length}
use Rattle.dsl_value.specs.Contents.{Contents, cell_at, function_at, is_array}

-- one store has become another: its base is the same, the cells below it and the functions are what they were,
-- no cell is lost, each is an array or a dictionary as before, and at most so many are new
pub record Grows (most : ℕ) (old new : Contents) : Type 0 where
  pub base : new.base ≡ old.base
  pub frozen : (k : ℕ) → k < old.base → k < length old.cells → cell_at new.cells k ≡ cell_at old.cells k
  pub functions : (k : ℕ) → k < length old.functions → function_at new.functions k ≡ function_at old.functions k
  pub no_function_lost : length old.functions ≤ length new.functions
  pub no_cell_lost : length old.cells ≤ length new.cells
  pub kinds : (k : ℕ) → k < length old.cells → is_array (cell_at new.cells k) ≡ is_array (cell_at old.cells k)
  pub few_added : length new.cells ≤ length old.cells + most
