-- Why a cell wasn't changed.
use Rattle.std.specs.Prelude.{ℕ, ◌≡◌}
use Rattle.dsl_value.specs.declared.set_fault.SetFault.{SetFault}
use Rattle.dsl_value.specs.declared.set_fault.SetFault.TheVariants.{Frozen, OutOfMemory}

-- the cell that a fault names is the one that was to be changed
abbrev pub Concerns : ℕ → SetFault → Type 0
Concerns cell (Frozen k) = k ≡ cell
Concerns cell OutOfMemory = Unit {0}
