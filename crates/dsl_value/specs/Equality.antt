-- When values are equal.
use Rattle.std.specs.Prelude.{ℕ, zero, suc, Bool, true, false, ◌&&◌, ◌==◌, List, [], ◌∷◌, length, pos}
use Rattle.std.specs.Str.{bytes_eq}
use Rattle.std.specs.Ordering.{int_eq}
use Rattle.std.specs.Bool.{beq}
use Rattle.dsl_value.specs.Pairs.{Pairs}
use Rattle.dsl_value.specs.Contents.{PlainCell, array, dict, cell_at}
use Rattle.dsl_value.specs.declared.value.Value.{Value}
use Rattle.dsl_value.specs.declared.value.Value.TheVariants as value

-- null equals null, 0 and the empty text; else values of one type are compared, functions by identity
abbrev pub scalars_equal : Value → Value → Bool
scalars_equal value.Null value.Null = true
scalars_equal value.Null (value.Number n) = int_eq n (pos 0)
scalars_equal (value.Number n) value.Null = int_eq n (pos 0)
scalars_equal value.Null (value.Str t) = length t == 0
scalars_equal (value.Str t) value.Null = length t == 0
scalars_equal (value.Bool a) (value.Bool b) = beq a b
scalars_equal (value.Number a) (value.Number b) = int_eq a b
scalars_equal (value.Str a) (value.Str b) = bytes_eq a b
scalars_equal (value.Func a) (value.Func b) = a == b
scalars_equal a b = false

-- each value beside the other list's
abbrev pub each_equal : (Value → Value → Bool) → List Value → List Value → Bool
each_equal same [] ys = true
each_equal same (x ∷ xs) [] = true
each_equal same (x ∷ xs) (y ∷ ys) = same x y && each_equal same xs ys

-- each key and value beside the other list's
abbrev pub each_pair_equal : (Value → Value → Bool) → Pairs → Pairs → Bool
each_pair_equal same [] qs = true
each_pair_equal same (p ∷ ps) [] = true
each_pair_equal same (p ∷ ps) (q ∷ qs) = (bytes_eq p.0 q.0 && same p.1 q.1) && each_pair_equal same ps qs

-- arrays are equal element by element, dictionaries pair by pair
abbrev pub cells_equal : (Value → Value → Bool) → PlainCell → PlainCell → Bool
cells_equal same (array xs) (array ys) = (length xs == length ys) && each_equal same xs ys
cells_equal same (dict ps) (dict qs) = (length ps == length qs) && each_pair_equal same ps qs
cells_equal same (array xs) (dict qs) = false
cells_equal same (dict ps) (array ys) = false

-- the same, where two cells are compared: unequal once no level of nesting is left
abbrev pub refs_equal : (Value → Value → Bool) → List PlainCell → Value → Value → Bool
refs_equal same cells (value.Ref a) (value.Ref b) = cells_equal same (cell_at cells a) (cell_at cells b)
refs_equal same cells a b = scalars_equal a b

-- whether two values of a store are equal, looking into so many levels of nesting
unfoldable pub equal_within : ℕ → List PlainCell → Value → Value → Bool
equal_within zero cells = scalars_equal
equal_within (suc levels) cells = refs_equal (equal_within levels cells) cells
