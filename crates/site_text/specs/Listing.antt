-- The lines of the listing.
use Rattle.std.specs.Prelude.{ℕ, List, [], ◌∷◌, ◌++◌, Bool, true, false, codes}
use Rattle.std.specs.Arc.{arc_value}
use Rattle.site_base.specs.Data.{Data, null, boolean, number, string, list, dict, Items, no_items, item, Pairs, no_pairs, pair}
use Rattle.site_base.specs.Numbers.{number_text}
use Rattle.site_base.specs.Quoted.{quoted}
use Rattle.site_base.specs.View.{view}
use Rattle.site_model.specs.declared.Object.{Object}

-- a comma before each but the first
abbrev pub comma_if : Bool → List ℕ
comma_if false = []
comma_if true = 44 ∷ []

abbrev mutual
  pub tree_text : Data → List ℕ
  tree_text null = codes "null"
  tree_text (boolean true) = codes "true"
  tree_text (boolean false) = codes "false"
  tree_text (number z) = number_text z
  tree_text (string s) = quoted s
  tree_text (list ds) = 91 ∷ items_text false ds
  tree_text (dict ps) = 123 ∷ pairs_text false ps

  -- with the closing bracket
  pub items_text : Bool → Items → List ℕ
  items_text later no_items = 93 ∷ []
  items_text later (item d ds) = comma_if later ++ (tree_text d ++ items_text true ds)

  pub pairs_text : Bool → Pairs → List ℕ
  pairs_text later no_pairs = 125 ∷ []
  pairs_text later (pair k d ps) = comma_if later ++ (quoted k ++ 58 ∷ (tree_text d ++ pairs_text true ps))

-- type, name and tree, with a newline
abbrev pub listing_line : List ℕ → List ℕ → Data → List ℕ
listing_line kind name tree = kind ++ 32 ∷ (quoted name ++ 32 ∷ (tree_text tree ++ 10 ∷ []))

abbrev pub object_line : Object → List ℕ
object_line o = listing_line o.kind o.name (view (arc_value o.tree))
