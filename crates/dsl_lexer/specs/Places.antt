-- Places in a file: lines and columns are counted from 1, and columns in bytes.
use Rattle.std.specs.Prelude.{ℕ, ◌+◌, List, [], ◌∷◌, ◌==◌, if◌then◌else◌}
use Rattle.site_base.specs.declared.place.Place.{Place}

-- where a file begins
abbrev pub start_of : ℕ → Place
start_of file = record { file = file; line = 1; col = 1 }

-- the place behind a byte
abbrev pub after : ℕ → Place → Place
after b p = if b == 10 then record p { line = p.line + 1; col = 1 } else record p { col = p.col + 1 }

-- the place behind these bytes
abbrev pub place_behind : List ℕ → Place → Place
place_behind [] p = p
place_behind (b ∷ bs) p = place_behind bs (after b p)
