-- What the elements of a `for` name.
use Rattle.std.specs.Prelude.{List, [], ◌∷◌, Option, Some, None}
use Rattle.dsl_value.specs.Contents.{Contents}
use Rattle.eval_work.specs.Kept.{PairsNamed}
use Rattle.commit_meaning.specs.Rules.{Element}

-- what the names of a `for` are bound to names cells and functions of a store
abbrev pub ElementsNamed : Contents → List Element → Type 0
ElementsNamed c [] = Unit {0}
ElementsNamed c (e ∷ es) = PairsNamed c e.bound × ElementsNamed c es

abbrev pub MaybeElementsNamed : Contents → Option (List Element) → Type 0
MaybeElementsNamed c None = Unit {0}
MaybeElementsNamed c (Some es) = ElementsNamed c es
