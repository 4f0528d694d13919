-- Arguments: how many there are, and of which type.
use Rattle.std.specs.Prelude.{ℕ, ℤ, List, [], ◌∷◌, Option, Some, None}
use Rattle.dsl_value.specs.Pairs.{Pairs}
use Rattle.dsl_value.specs.Contents.{PlainCell, array, dict, cell_at}
use Rattle.dsl_value.specs.declared.value.Value.{Value}
use Rattle.dsl_value.specs.declared.value.Value.TheVariants as value

abbrev pub one : List Value → Option Value
one (a ∷ []) = Some a
one _ = None

abbrev pub two : List Value → Option (Value × Value)
two (a ∷ b ∷ []) = Some (a, b)
two _ = None

abbrev pub three : List Value → Option (Value × Value × Value)
three (a ∷ b ∷ c ∷ []) = Some (a, b, c)
three _ = None

abbrev pub text_in : Value → Option (List ℕ)
text_in (value.Str t) = Some t
text_in _ = None

abbrev pub number_in : Value → Option ℤ
number_in (value.Number n) = Some n
number_in _ = None

abbrev pub items_of : PlainCell → Option (List Value)
items_of (array vs) = Some vs
items_of (dict ps) = None

-- the elements of the array that a value names
abbrev pub items_in : List PlainCell → Value → Option (List Value)
items_in cells (value.Ref k) = items_of (cell_at cells k)
items_in cells _ = None

abbrev pub entries_of : PlainCell → Option Pairs
entries_of (array vs) = None
entries_of (dict ps) = Some ps

-- the pairs of the dictionary that a value names
abbrev pub pairs_in : List PlainCell → Value → Option Pairs
pairs_in cells (value.Ref k) = entries_of (cell_at cells k)
pairs_in cells _ = None

abbrev pub if_array : PlainCell → ℕ → Option ℕ
if_array (array vs) k = Some k
if_array (dict ps) k = None

-- the array that a value names
abbrev pub array_in : List PlainCell → Value → Option ℕ
array_in cells (value.Ref k) = if_array (cell_at cells k) k
array_in cells _ = None

abbrev pub if_dict : PlainCell → ℕ → Option ℕ
if_dict (array vs) k = None
if_dict (dict ps) k = Some k

-- the dictionary that a value names
abbrev pub dict_in : List PlainCell → Value → Option ℕ
dict_in cells (value.Ref k) = if_dict (cell_at cells k) k
dict_in cells _ = None
