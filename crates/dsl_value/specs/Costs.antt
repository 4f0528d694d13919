-- What trees cost, while it is counted.
use Rattle.std.specs.Prelude.{ℕ, ◌+◌, ◌*◌, List, [], ◌∷◌, length}
use Rattle.site_base.specs.Data.{Data, null, boolean, number, string, list, dict}
use Rattle.site_base.specs.View.{items_view, pairs_view}
use Rattle.site_base.specs.Weight.{items_weight, pairs_weight}
use Rattle.dsl_value.specs.Loads.{items_cost, pairs_cost}
use Rattle.dsl_value.specs.declared.costs.Left.{Left}
use Rattle.dsl_value.specs.declared.costs.Left.TheVariants as lefts
use Rattle.dsl_value.specs.declared.costs.Counted.{Counted}

-- what a tree costs without its parts
abbrev pub own_cost : Data → ℕ
own_cost null = 0
own_cost (boolean b) = 0
own_cost (number z) = 0
own_cost (string t) = length t
own_cost (list ds) = 1
own_cost (dict ps) = 1

-- what the parts that are left cost
abbrev pub left_cost : Left → ℕ
left_cost (lefts.Items ts) = items_cost (items_view ts.now)
left_cost (lefts.Pairs ps) = pairs_cost (pairs_view ps.now)

abbrev pub costs_of : List Left → ℕ
costs_of [] = 0
costs_of (l ∷ ls) = left_cost l + costs_of ls

abbrev pub part_cost : Counted → ℕ
part_cost p = p.units + (left_cost p.rest + left_cost p.inside)

-- falls with each turn
abbrev pub left_work : Left → ℕ
left_work (lefts.Items ts) = 1 + 2 * items_weight ts.now
left_work (lefts.Pairs ps) = 1 + 2 * pairs_weight ps.now

abbrev pub works_of : List Left → ℕ
works_of [] = 0
works_of (l ∷ ls) = left_work l + works_of ls

abbrev pub part_work : Counted → ℕ
part_work p = left_work p.rest + left_work p.inside
