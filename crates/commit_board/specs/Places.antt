-- Lists of places.
use Rattle.std.specs.Prelude.{ℕ, ◌==◌, List, nat_lt, if◌then◌else◌}
use Rattle.std.specs.List.{count_by}

-- how often a place stands in a list
abbrev pub times : ℕ → List ℕ → ℕ
times k places = count_by (λ p. p == k) places

-- how often it stands among the first so many
abbrev pub below : ℕ → ℕ → ℕ
below k count = if nat_lt k count then 1 else 0
