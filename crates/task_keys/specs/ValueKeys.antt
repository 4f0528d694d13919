-- The keys of values: a number for the kind, and then the keys of the parts.
use Rattle.std.specs.Prelude.{ℕ, List, [], ◌∷◌, ◌++◌}
use Rattle.site_base.specs.Data.{Data}
use Rattle.dsl_value.specs.Pairs.{Pairs}
use Rattle.dsl_value.specs.declared.value.Value.{Value}
use Rattle.dsl_value.specs.declared.value.Value.TheVariants as value
use Rattle.task_keys.specs.Keys.{boolean_key, number_key, whole_key, text_key}
use Rattle.task_keys.specs.TreeKeys.{data_key}

-- An array, a dictionary or a function is told by the cell or the function that it names.
abbrev pub value_key : Value → List ℕ
value_key value.Null = 0 ∷ []
value_key (value.Bool b) = 1 ∷ boolean_key b
value_key (value.Number n) = 2 ∷ whole_key n
value_key (value.Str t) = 3 ∷ text_key t
value_key (value.Ref k) = 4 ∷ number_key k
value_key (value.Func k) = 5 ∷ number_key k

abbrev pub values_key : List Value → List ℕ
values_key [] = 0 ∷ []
values_key (v ∷ vs) = 1 ∷ (value_key v ++ values_key vs)

-- names with values, as those that a body captured
abbrev pub pairs_key : Pairs → List ℕ
pairs_key [] = 0 ∷ []
pairs_key (p ∷ ps) = 1 ∷ (text_key p.0 ++ (value_key p.1 ++ pairs_key ps))

-- names with trees
abbrev pub trees_key : List (List ℕ × Data) → List ℕ
trees_key [] = 0 ∷ []
trees_key (p ∷ ps) = 1 ∷ (text_key p.0 ++ (data_key p.1 ++ trees_key ps))
