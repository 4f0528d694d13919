-- What it is to join groups, in words of its own.
use Rattle.std.specs.Prelude.{◌≡◌, ◌⊎◌, ℕ, List, [], ◌∷◌, true, false}
use Rattle.std.specs.List.{AllByRecursion, IsDistinct}
use Rattle.std.specs.Str.{bytes_eq}
use Rattle.site_base.specs.Data as tree
use Rattle.site_base.specs.Data.{Items, no_items, Pairs}
use Rattle.site_model.specs.PlainSite.{PlainObject}
use Rattle.object_types.specs.Names.{attribute_name}
use Rattle.object_types.specs.declared.attribute.Attribute.TheVariants as attribute
use Rattle.object_values.specs.Attributes.{value_under}
use Rattle.commit_meaning.specs.Answers.{made}
use Rattle.commit_meaning.specs.Groups.{grown, has_string, items_under}

-- a list with strings behind it
abbrev pub followed_by : List (List ℕ) → Items → Items
followed_by [] no_items = no_items
followed_by (n ∷ ns) no_items = tree.item (tree.string n) (followed_by ns no_items)
followed_by ns (tree.item d ds) = tree.item d (followed_by ns ds)

-- some of these names, in their order
abbrev pub AreAmong : List (List ℕ) → List (List ℕ) → Type 0
AreAmong [] ns = Unit {0}
AreAmong (x ∷ xs) [] = ⊥
AreAmong (x ∷ xs) (n ∷ ns) = ((x ≡ n) × AreAmong xs ns) ⊎ AreAmong (x ∷ xs) ns

-- A list before and after it got names. What stood there stands in front, and behind it those of the names that weren't there, in their
-- order and each once.
pub record TakesNames (names : List (List ℕ)) (before after : Items) : Type 0 where
  pub added : List (List ℕ)
  pub front : after ≡ followed_by added before
  pub taken : AreAmong added names
  pub new : AllByRecursion (λ n. has_string n before ≡ false) added
  pub once : IsDistinct bytes_eq added
  pub all : AllByRecursion (λ n. has_string n after ≡ true) names

abbrev pub groups_key : List ℕ
groups_key = attribute_name attribute.Groups

-- the pairs of an object before and after it joined groups of these names
pub record JoinsGroups (names : List (List ℕ)) (before after : Pairs) : Type 0 where
  pub groups : TakesNames names (items_under groups_key before) (items_under groups_key after)
  pub others : (key : List ℕ) → bytes_eq groups_key key ≡ false → value_under key after ≡ value_under key before

-- Whatever an object with pairs is, it joins the groups that take it, and nothing else of it changes.
abbrev pub ObjectsJoin : Type 0
ObjectsJoin = (o : PlainObject) (ps : Pairs) (names : List (List ℕ)) → o.tree ≡ tree.dict ps → (qs : Pairs) × (grown o (made names) ≡ record o { tree = tree.dict qs }) × JoinsGroups names ps qs
