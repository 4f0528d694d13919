-- How long after its change a problem is told.
use Rattle.std.specs.Prelude.{ℕ, ◌+◌, Bool, false, nat_lt, Option, Some, None}

-- before `begin` seconds after the change; whole numbers without a limit
abbrev pub early : ℕ → ℕ → Option ℕ → Bool
early moment change None = false
early moment change (Some begin) = nat_lt moment (change + begin)

-- after `end` seconds after it
abbrev pub late : ℕ → ℕ → Option ℕ → Bool
late moment change None = false
late moment change (Some «end») = nat_lt (change + «end») moment
