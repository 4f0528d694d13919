-- What the keys of values tell.
use Rattle.std.proofs.Common.{◌≡◌, ℕ, List, [], ◌∷◌, refl}
use Rattle.site_base.specs.Data.{Data}
use Rattle.dsl_value.specs.Contents.{PlainCell, array, dict}
use Rattle.dsl_value.specs.Pairs.{Pairs}
use Rattle.dsl_value.specs.declared.value.Value.{Value}
use Rattle.dsl_value.specs.declared.value.Value.TheVariants as value
use Rattle.task_keys.proofs.Telling.{Tells, kind, alone, before, other, one, two, three}
use Rattle.task_keys.proofs.TellingKeys.{same_number, same_whole, same_boolean, same_text, same_data}
use Rattle.task_keys.specs.LoadKeys.{cell_key}
use Rattle.task_keys.specs.ValueKeys.{value_key, values_key, pairs_key, trees_key}

pub same_value : (v w : Value) → Tells (value_key v) (value_key w) (v ≡ w)
same_value value.Null value.Null = alone 0 refl
same_value (value.Bool a) (value.Bool b) = kind 1 (one value.Bool (same_boolean a b))
same_value (value.Number m) (value.Number n) = kind 2 (one value.Number (same_whole m n))
same_value (value.Str t) (value.Str u) = kind 3 (one value.Str (same_text t u))
same_value (value.Ref m) (value.Ref n) = kind 4 (one value.Ref (same_number m n))
same_value (value.Func m) (value.Func n) = kind 5 (one value.Func (same_number m n))
same_value v w = other refl

pub same_values : (vs ws : List Value) → Tells (values_key vs) (values_key ws) (vs ≡ ws)
same_values [] [] = alone 0 refl
same_values (v ∷ vs) (w ∷ ws) = kind 1 (two before (same_value v w) (same_values vs ws))
same_values [] (w ∷ ws) = other refl
same_values (v ∷ vs) [] = other refl

abbrev pair_before : List ℕ → Value → Pairs → Pairs
pair_before n v ps = (n, v) ∷ ps

pub same_pairs : (ps qs : Pairs) → Tells (pairs_key ps) (pairs_key qs) (ps ≡ qs)
same_pairs [] [] = alone 0 refl
same_pairs (p ∷ ps) (q ∷ qs) = kind 1 (three pair_before (same_text p.0 q.0) (same_value p.1 q.1) (same_pairs ps qs))
same_pairs [] (q ∷ qs) = other refl
same_pairs (p ∷ ps) [] = other refl

abbrev tree_before : List ℕ → Data → List (List ℕ × Data) → List (List ℕ × Data)
tree_before n d ps = (n, d) ∷ ps

pub same_trees : (ps qs : List (List ℕ × Data)) → Tells (trees_key ps) (trees_key qs) (ps ≡ qs)
same_trees [] [] = alone 0 refl
same_trees (p ∷ ps) (q ∷ qs) = kind 1 (three tree_before (same_text p.0 q.0) (same_data p.1 q.1) (same_trees ps qs))
same_trees [] (q ∷ qs) = other refl
same_trees (p ∷ ps) [] = other refl

pub same_cell : (c d : PlainCell) → Tells (cell_key c) (cell_key d) (c ≡ d)
same_cell (array vs) (array ws) = kind 0 (one array (same_values vs ws))
same_cell (dict ps) (dict qs) = kind 1 (one dict (same_pairs ps qs))
same_cell (array vs) (dict qs) = other refl
same_cell (dict ps) (array ws) = other refl
