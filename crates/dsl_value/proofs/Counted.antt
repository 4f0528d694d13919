-- What trees cost, part by part.
use Rattle.std.proofs.Common.{◌≡◌, ℕ, ◌+◌, List, [], ◌∷◌, ◌++◌, length, Vec, Global, refl, sym, ap, subst, arith}
use Rattle.site_base.specs.View.{view, items_view, pairs_view}
use Rattle.site_base.specs.Weight.{weight, items_weight, pairs_weight}
use Rattle.site_base.specs.declared.tree.Tree.{Tree}
use Rattle.site_base.specs.declared.tree.Tree as tree
use Rattle.site_base.proofs.Views.{view-List, view-Dict}
use Rattle.dsl_value.specs.Costs.{own_cost, left_cost, costs_of, left_work, works_of}
use Rattle.dsl_value.specs.Loads.{cost, items_cost, pairs_cost}
use Rattle.dsl_value.specs.declared.costs.Left.{Left}

pub own_list : (v : Vec Tree Global) → own_cost (view (tree.List v)) ≡ 1
own_list v = ap own_cost (view-List v)

pub own_dict : (v : Vec (List ℕ × Tree) Global) → own_cost (view (tree.Dict v)) ≡ 1
own_dict v = ap own_cost (view-Dict v)

pub list_parts : (v : Vec Tree Global) → own_cost (view (tree.List v)) + items_cost (items_view v.items) ≡ cost (view (tree.List v))
list_parts v = subst (λ d. own_cost d + items_cost (items_view v.items) ≡ cost d) (sym (view-List v)) refl

pub dict_parts : (v : Vec (List ℕ × Tree) Global) → own_cost (view (tree.Dict v)) + pairs_cost (pairs_view v.items) ≡ cost (view (tree.Dict v))
dict_parts v = subst (λ d. own_cost d + pairs_cost (pairs_view v.items) ≡ cost d) (sym (view-Dict v)) refl

-- one more list of parts at the end
pub costs_end : (ls : List Left) (l : Left) → costs_of (ls ++ l ∷ []) ≡ costs_of ls + left_cost l
costs_end [] l = omega arith
costs_end (k ∷ ls) l = omega (arith, costs_end ls l)

pub works_end : (ls : List Left) (l : Left) → works_of (ls ++ l ∷ []) ≡ works_of ls + left_work l
works_end [] l = omega arith
works_end (k ∷ ls) l = omega (arith, works_end ls l)

-- the first part and the others
pub first_item : (left : List Tree) (t : Tree) (rest : List Tree) → left ≡ t ∷ rest → items_cost (items_view left) ≡ (1 + cost (view t)) + items_cost (items_view rest)
first_item left t rest e = ap (λ ts. items_cost (items_view ts)) e

pub first_pair : (left : List (List ℕ × Tree)) (p : List ℕ × Tree) (rest : List (List ℕ × Tree)) → left ≡ p ∷ rest → pairs_cost (pairs_view left) ≡ ((1 + length p.0) + cost (view p.1)) + pairs_cost (pairs_view rest)
first_pair left p rest e = ap (λ ps. pairs_cost (pairs_view ps)) e

pub item_work : (left : List Tree) (t : Tree) (rest : List Tree) → left ≡ t ∷ rest → items_weight left ≡ 1 + (weight t + items_weight rest)
item_work left t rest e = let same : items_weight left ≡ items_weight (t ∷ rest) = ap items_weight e in omega (arith, same)

pub pair_work : (left : List (List ℕ × Tree)) (p : List ℕ × Tree) (rest : List (List ℕ × Tree)) → left ≡ p ∷ rest → pairs_weight left ≡ 1 + (weight p.1 + pairs_weight rest)
pair_work left p rest e = let same : pairs_weight left ≡ pairs_weight (p ∷ rest) = ap pairs_weight e in omega (arith, same)

-- no part is left
pub no_items : (left : List Tree) → length left ≡ 0 → items_cost (items_view left) ≡ 0
no_items [] none = refl
no_items (t ∷ ts) none = absurd (omega (arith, none))

pub no_pairs : (left : List (List ℕ × Tree)) → length left ≡ 0 → pairs_cost (pairs_view left) ≡ 0
no_pairs [] none = refl
no_pairs (p ∷ ps) none = absurd (omega (arith, none))
