-- Values that are found by their keys.
use Rattle.std.proofs.Common.{◌≡◌, ℕ, List, [], ◌∷◌, Bool, true, false, cond, Option, Some, None, ap, subst}
use Rattle.std.specs.Ordering.{is_eq}
use Rattle.dsl_value.specs.Contents.{PlainCell, array, dict, pairs_of}
use Rattle.dsl_value.specs.Pairs.{Pairs, key_cmp, find}
use Rattle.dsl_value.specs.Whole.{Names, NamesAll, Stands}
use Rattle.dsl_value.specs.declared.value.Value.{Value}

-- a value that is there, or another
abbrev one_value : Value → Option Value → Value
one_value d (Some v) = v
one_value d None = d

-- the value of a key names cells and functions where all values do
pub find_stands : (c f : ℕ) (ps : Pairs) (k : List ℕ) (v : Value) → NamesAll c f ps → find k ps ≡ Some v → Names c f v
find_stands c f [] k v h e = cc
find_stands c f (p ∷ ps) k v h e = by (is_eq (key_cmp k p.0)) e (λ w. find_stands c f ps k v h.1 w)
  where
    by : (b : Bool) → cond b (Some p.1) (find k ps) ≡ Some v → (find k ps ≡ Some v → Names c f v) → Names c f v
    by true w later = subst (Names c f) (ap (one_value p.1) w) h.0
    by false w later = later w

pub cell_stands : (c f : ℕ) (cell : PlainCell) (k : List ℕ) (v : Value) → Stands c f cell → find k (pairs_of cell) ≡ Some v → Names c f v
cell_stands c f (array vs) k v h e = cc
cell_stands c f (dict ps) k v h e = find_stands c f ps k v h.0 e
