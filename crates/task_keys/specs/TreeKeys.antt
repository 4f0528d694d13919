-- The keys of trees: a number for the kind, and then the keys of the parts.
use Rattle.std.specs.Prelude.{ℕ, List, [], ◌∷◌, ◌++◌}
use Rattle.site_base.specs.Data.{Data, null, boolean, number, string, list, dict, Items, no_items, item, Pairs, no_pairs, pair}
use Rattle.task_keys.specs.Keys.{boolean_key, whole_key, text_key}

abbrev mutual
  pub data_key : Data → List ℕ
  data_key null = 0 ∷ []
  data_key (boolean b) = 1 ∷ boolean_key b
  data_key (number n) = 2 ∷ whole_key n
  data_key (string t) = 3 ∷ text_key t
  data_key (list ds) = 4 ∷ items_key ds
  data_key (dict ps) = 5 ∷ pairs_key ps

  pub items_key : Items → List ℕ
  items_key no_items = 0 ∷ []
  items_key (item d ds) = 1 ∷ (data_key d ++ items_key ds)

  pub pairs_key : Pairs → List ℕ
  pairs_key no_pairs = 0 ∷ []
  pairs_key (pair k d ps) = 1 ∷ (text_key k ++ (data_key d ++ pairs_key ps))
