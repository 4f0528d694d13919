-- The plain value that a `Tree` stands for.
use Rattle.std.specs.Prelude.{ℕ, List, [], ◌∷◌, map}
use Rattle.site_base.specs.Data.{Data, null, boolean, number, string, list, dict, Items, no_items, item, Pairs, no_pairs, pair}
use Rattle.site_base.specs.declared.tree.Tree.{Tree, fold-Tree}
use Rattle.site_base.specs.declared.tree.Tree.TheOpen.{Tree-F}

abbrev pub items_of : List Data → Items
items_of [] = no_items
items_of (d ∷ ds) = item d (items_of ds)

abbrev pub pairs_of : List (List ℕ × Data) → Pairs
pairs_of [] = no_pairs
pairs_of (p ∷ ps) = pair p.0 p.1 (pairs_of ps)

-- one level, with each tree inside already seen as its plain value
abbrev pub view_step : Tree-F Data → Data
view_step Tree-F.Null = null
view_step (Tree-F.Bool b) = boolean b
view_step (Tree-F.Number n) = number n
view_step (Tree-F.Str t) = string t
view_step (Tree-F.List v) = list (items_of v.items)
view_step (Tree-F.Dict v) = dict (pairs_of v.items)

abbrev pub view : Tree → Data
view = fold-Tree Data view_step

-- a key and its tree, seen as its plain value
abbrev pub pair_view : List ℕ × Tree → List ℕ × Data
pair_view p = (p.0, view p.1)

abbrev pub items_view : List Tree → Items
items_view ts = items_of (map view ts)

abbrev pub pairs_view : List (List ℕ × Tree) → Pairs
pairs_view ps = pairs_of (map pair_view ps)
