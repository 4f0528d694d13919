-- Trees that are put into a store, and what they cost.
use Rattle.std.specs.Prelude.{ℕ, ◌+◌, ◌≤◌, List, [], ◌∷◌, ◌++◌, length}
use Rattle.site_base.specs.Data.{Data, null, boolean, number, string, list, dict, Items, no_items, item, Pairs as TreePairs, no_pairs, pair}
use Rattle.site_base.specs.Lawful.{IsLawful}
use Rattle.dsl_value.specs.Pairs.{Pairs, dict_of}
use Rattle.dsl_value.specs.Contents.{PlainCell, array, dict as pairs_cell}
use Rattle.dsl_value.specs.Walks.{most}
use Rattle.dsl_value.specs.declared.value.Value.{Value}
use Rattle.dsl_value.specs.declared.value.Value.TheVariants as value

-- what was made, and the cells that were made for it
pub record Made (A : Type 0) : Type 0 where
  pub value : A
  pub cells : List PlainCell

-- a thing that needs no cell
abbrev pub bare : {A : Type 0} → A → Made A
bare a = record { value = a; cells = [] }

-- one thing is made after another
abbrev pub joined : {A B C : Type 0} → (A → B → C) → Made A → Made B → Made C
joined f a b = record { value = f a.value b.value; cells = a.cells ++ b.cells }

-- a cell lies behind those of what it contains. So many cells lie before all of them
abbrev pub in_cell : {A : Type 0} → ℕ → (A → PlainCell) → Made A → Made Value
in_cell n content a = record { value = value.Ref (n + length a.cells); cells = a.cells ++ content a.value ∷ [] }

-- the value that stands for a tree, and the cells that are made for it behind so many others
abbrev mutual
  pub load : Data → ℕ → Made Value
  load null n = bare value.Null
  load (boolean b) n = bare (value.Bool b)
  load (number z) n = bare (value.Number z)
  load (string t) n = bare (value.Str t)
  load (list ds) n = in_cell n array (load_items ds n)
  load (dict ps) n = in_cell n (λ qs. pairs_cell (dict_of qs [])) (load_pairs ps n)

  pub load_items : Items → ℕ → Made (List Value)
  load_items no_items n = bare []
  load_items (item d ds) n = joined (λ v vs. v ∷ vs) (load d n) (load_items ds (n + length (load d n).cells))

  pub load_pairs : TreePairs → ℕ → Made Pairs
  load_pairs no_pairs n = bare []
  load_pairs (pair k d ps) n = joined (λ v qs. (k, v) ∷ qs) (load d n) (load_pairs ps (n + length (load d n).cells))

-- what a tree costs: a unit for each byte of its strings, keys included, for each array and dictionary,
-- and for each element and pair
abbrev mutual
  pub cost : Data → ℕ
  cost null = 0
  cost (boolean b) = 0
  cost (number z) = 0
  cost (string t) = length t
  cost (list ds) = 1 + items_cost ds
  cost (dict ps) = 1 + pairs_cost ps

  pub items_cost : Items → ℕ
  items_cost no_items = 0
  items_cost (item d ds) = (1 + cost d) + items_cost ds

  pub pairs_cost : TreePairs → ℕ
  pairs_cost no_pairs = 0
  pairs_cost (pair k d ps) = ((1 + length k) + cost d) + pairs_cost ps

-- a tree that a store gives back as it was
pub record Fits (d : Data) : Type 0 where
  pub lawful : IsLawful d
  pub within : cost d ≤ most

-- the cells so far, with those of a thing that is made after them; so many others lie before
abbrev pub grown : {A : Type 0} → ℕ → List PlainCell → (ℕ → Made A) → List PlainCell
grown before made thing = made ++ (thing (before + length made)).cells

-- the thing itself
abbrev pub given : {A : Type 0} → ℕ → List PlainCell → (ℕ → Made A) → A
given before made thing = (thing (before + length made)).value
