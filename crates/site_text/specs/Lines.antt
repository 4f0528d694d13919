-- Lines that are being built.
use Rattle.std.specs.Prelude.{ℕ, Bool, ◌==◌, ◌&&◌, nat_le, not}

-- a byte that stands for itself between quotes
abbrev pub stands_as_it_is : ℕ → Bool
stands_as_it_is b = nat_le 32 b && (not (b == 34) && (not (b == 92) && not (b == 127)))
