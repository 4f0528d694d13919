-- What is made for a tree names what is there.
use Rattle.std.proofs.Common.{◌≡◌, ℕ, ◌+◌, ◌<◌, ◌≤◌, List, [], ◌∷◌, ◌++◌, length, arith, length-append}
use Rattle.std.specs.List.{AllByRecursion}
use Rattle.site_base.specs.Data.{Data, null, boolean, number, string, list, dict, Items, no_items, item, Pairs as TreePairs, no_pairs, pair}
use Rattle.dsl_value.specs.Contents.{PlainCell, array, dict as pairs_cell}
use Rattle.dsl_value.specs.Pairs.{dict_of}
use Rattle.dsl_value.specs.Whole.{Names, NamesAll, Stands}
use Rattle.dsl_value.specs.Loads.{load, load_items, load_pairs}
use Rattle.dsl_value.proofs.Kept.{all_append, stands_dict}

pub one_longer : {A : Type 0} (xs : List A) (x : A) → length (xs ++ x ∷ []) ≡ length xs + 1
one_longer xs x = length-append xs (x ∷ [])

-- the last of these cells is there
there : (xs : List PlainCell) (x : PlainCell) (n top : ℕ) → n + length (xs ++ x ∷ []) ≤ top → n + length xs < top
there xs x n top le = let e = one_longer xs x in omega (arith, le, e)

short : (xs : List PlainCell) (x : PlainCell) (n top : ℕ) → n + length (xs ++ x ∷ []) ≤ top → n + length xs ≤ top
short xs x n top le = let e = one_longer xs x in omega (arith, le, e)

left_within : (xs ys : List PlainCell) (n top : ℕ) → n + length (xs ++ ys) ≤ top → n + length xs ≤ top
left_within xs ys n top le = let e = length-append xs ys in omega (arith, le, e)

right_within : (xs ys : List PlainCell) (n top : ℕ) → n + length (xs ++ ys) ≤ top → (n + length xs) + length ys ≤ top
right_within xs ys n top le = let e = length-append xs ys in omega (arith, le, e)

module _ (functions top : ℕ) where
  mutual
    pub load_stands : (d : Data) (n : ℕ) → n + length (load d n).cells ≤ top → AllByRecursion (Stands top functions) (load d n).cells × Names top functions (load d n).value
    load_stands null n le = (tt, tt)
    load_stands (boolean b) n le = (tt, tt)
    load_stands (number z) n le = (tt, tt)
    load_stands (string t) n le = (tt, tt)
    load_stands (list ds) n le =
        let made = load_items ds n in
        let inside = items_stand ds n (short made.cells (array made.value) n top le) in
        (all_append (Stands top functions) made.cells (array made.value ∷ []) inside.0 (inside.1, tt), there made.cells (array made.value) n top le)
    load_stands (dict ps) n le =
        let made = load_pairs ps n in
        let inside = pairs_stand ps n (short made.cells (pairs_cell (dict_of made.value [])) n top le) in
        (all_append (Stands top functions) made.cells (pairs_cell (dict_of made.value []) ∷ []) inside.0 (stands_dict top functions made.value inside.1, tt), there made.cells (pairs_cell (dict_of made.value [])) n top le)

    items_stand : (ds : Items) (n : ℕ) → n + length (load_items ds n).cells ≤ top → AllByRecursion (Stands top functions) (load_items ds n).cells × AllByRecursion (Names top functions) (load_items ds n).value
    items_stand no_items n le = (tt, tt)
    items_stand (item d ds) n le =
        let made = load d n in
        let rest = load_items ds (n + length made.cells) in
        let one = load_stands d n (left_within made.cells rest.cells n top le) in
        let others = items_stand ds (n + length made.cells) (right_within made.cells rest.cells n top le) in
        (all_append (Stands top functions) made.cells rest.cells one.0 others.0, (one.1, others.1))

    pairs_stand : (ps : TreePairs) (n : ℕ) → n + length (load_pairs ps n).cells ≤ top → AllByRecursion (Stands top functions) (load_pairs ps n).cells × NamesAll top functions (load_pairs ps n).value
    pairs_stand no_pairs n le = (tt, tt)
    pairs_stand (pair k d ps) n le =
        let made = load d n in
        let rest = load_pairs ps (n + length made.cells) in
        let one = load_stands d n (left_within made.cells rest.cells n top le) in
        let others = pairs_stand ps (n + length made.cells) (right_within made.cells rest.cells n top le) in
        (all_append (Stands top functions) made.cells rest.cells one.0 others.0, (one.1, others.1))
