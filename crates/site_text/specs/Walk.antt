-- What a walk over a tree has still to print.
use Rattle.std.specs.Prelude.{ℕ, zero, suc, ◌+◌, List, [], ◌∷◌, ◌++◌}
use Rattle.site_base.specs.Data.{Data, list, dict, Items, no_items, item, Pairs, no_pairs, pair}
use Rattle.site_base.specs.View.{items_view, pairs_view}
use Rattle.site_text.specs.Listing.{items_text, pairs_text}
use Rattle.site_text.specs.declared.walk.Open.{Open}
use Rattle.site_text.specs.declared.walk.Open.TheVariants as open_bracket

abbrev pub open_text : Open → List ℕ
open_text (open_bracket.Items later items) = items_text later (items_view items.now)
open_text (open_bracket.Pairs later pairs) = pairs_text later (pairs_view pairs.now)

-- the innermost stands last, and goes on first
abbrev pub opened_text : List Open → List ℕ
opened_text [] = []
opened_text (l ∷ ls) = opened_text ls ++ open_text l

-- how many steps are left: one for each element and pair, and one for each bracket that is closed
abbrev mutual
  pub weight : Data → ℕ
  weight (list ds) = items_weight ds
  weight (dict ps) = pairs_weight ps
  weight _ = 0

  pub items_weight : Items → ℕ
  items_weight no_items = 1
  items_weight (item d ds) = suc (weight d + items_weight ds)

  pub pairs_weight : Pairs → ℕ
  pairs_weight no_pairs = 1
  pairs_weight (pair k d ps) = suc (weight d + pairs_weight ps)

abbrev pub open_weight : Open → ℕ
open_weight (open_bracket.Items later items) = items_weight (items_view items.now)
open_weight (open_bracket.Pairs later pairs) = pairs_weight (pairs_view pairs.now)

abbrev pub opened_weight : List Open → ℕ
opened_weight [] = 0
opened_weight (l ∷ ls) = open_weight l + opened_weight ls
