-- A copy of a tree while it is made.
use Rattle.std.specs.Prelude.{ℕ, ◌+◌, ◌*◌, List, [], ◌∷◌, ◌++◌, map}
use Rattle.site_base.specs.Data.{Data, list, dict}
use Rattle.site_base.specs.View.{view, pair_view, items_of, pairs_of}
use Rattle.site_base.specs.Weight.{weight, items_weight, pairs_weight}
use Rattle.site_base.specs.declared.copying.Open.{Open}
use Rattle.site_base.specs.declared.copying.Open.TheVariants as opens
use Rattle.site_base.specs.declared.copying.Step.{Step}
use Rattle.site_base.specs.declared.copying.Step.TheVariants as steps

-- what an open list or dictionary becomes once the part that is copied next has this plain value
abbrev pub filled : Open → Data → Data
filled (opens.List made left) d = list (items_of (map view made.items ++ d ∷ map view left.now))
filled (opens.Dict made key left) d = dict (pairs_of (map pair_view made.items ++ (key, d) ∷ map pair_view left.now))

-- the same through all that are open, the outermost first
abbrev pub wrapped : List Open → Data → Data
wrapped [] d = d
wrapped (o ∷ os) d = filled o (wrapped os d)

-- the plain value that a step stands for
abbrev pub value_of : Step → Data
value_of (steps.Made t) = view t
value_of (steps.Inside o next) = filled o (view next.now)

-- how much is left to do in an open list or dictionary, and in a step
abbrev pub work_in : Open → ℕ
work_in (opens.List made left) = 1 + 2 * items_weight left.now
work_in (opens.Dict made key left) = 1 + 2 * pairs_weight left.now

abbrev pub work_of : Step → ℕ
work_of (steps.Made t) = 1
work_of (steps.Inside o next) = work_in o + 2 * weight next.now

abbrev pub work_outside : List Open → ℕ
work_outside [] = 0
work_outside (o ∷ os) = work_in o + work_outside os
