-- What lies behind a shared pointer, as plain values.
use Rattle.std.specs.Prelude.{◌≡◌, ℕ, List, [], ◌∷◌, ◌++◌, length, map, Option, Some, None, Vec}
use Rattle.std.specs.Arc.{arc_value}
use Rattle.std.specs.Global.{Global}
use Rattle.std.specs.declared.sync.Arc.{Arc}
use Rattle.dsl_value.specs.Contents.{Contained, plain, function}
use Rattle.dsl_value.specs.declared.part.Part.{Part}

abbrev pub part_of : Arc Part Global → Contained
part_of a = record { cells = map plain (arc_value a).cells.items; functions = map function (arc_value a).functions.items }

abbrev pub contained : Option (Arc Part Global) → Contained
contained None = record { cells = []; functions = [] }
contained (Some a) = part_of a

-- the cells and functions of one, and behind them those of another
abbrev pub beside : Contained → Contained → Contained
beside a b = record { cells = a.cells ++ b.cells; functions = a.functions ++ b.functions }

-- those of several
abbrev pub all_of : List Contained → Contained
all_of [] = record { cells = []; functions = [] }
all_of (l ∷ ls) = beside l (all_of ls)

-- the layers behind a shared pointer
abbrev pub layers_of : Option (Arc (Vec Contained Global) Global) → List Contained
layers_of None = []
layers_of (Some a) = (arc_value a).items

-- how many cells and functions these are
pub record AreCounted (ls : List Contained) (cells functions : ℕ) : Type 0 where
  pub cells_are : cells ≡ length (all_of ls).cells
  pub functions_are : functions ≡ length (all_of ls).functions
