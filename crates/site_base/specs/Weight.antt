-- How much there is of a tree: what falls while it is taken apart, copied or counted.
use Rattle.std.specs.Prelude.{ℕ, suc, ◌+◌, List, [], ◌∷◌, map}
use Rattle.site_base.specs.declared.tree.Tree.{Tree, fold-Tree}
use Rattle.site_base.specs.declared.tree.Tree.TheOpen.{Tree-F}

-- each thing counts one more than it weighs, so that none counts nothing
abbrev pub total : List ℕ → ℕ
total [] = 0
total (n ∷ ns) = suc (n + total ns)

abbrev pub weights : List (List ℕ × ℕ) → List ℕ
weights ps = map (λ p. p.1) ps

-- one level, with each tree inside already weighed
abbrev pub weight_step : Tree-F ℕ → ℕ
weight_step Tree-F.Null = 1
weight_step (Tree-F.Bool b) = 1
weight_step (Tree-F.Number n) = 1
weight_step (Tree-F.Str t) = 1
weight_step (Tree-F.List v) = 1 + total v.items
weight_step (Tree-F.Dict v) = 1 + total (weights v.items)

-- what a tree weighs: 1, and for each part 1 and what the part weighs
abbrev pub weight : Tree → ℕ
weight = fold-Tree ℕ weight_step

abbrev pub pair_weight : List ℕ × Tree → List ℕ × ℕ
pair_weight p = (p.0, weight p.1)

-- what the parts of a list or dictionary add to it
abbrev pub items_weight : List Tree → ℕ
items_weight ts = total (map weight ts)

abbrev pub pairs_weight : List (List ℕ × Tree) → ℕ
pairs_weight ps = total (weights (map pair_weight ps))
