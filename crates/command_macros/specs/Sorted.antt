-- Arguments by their order and their place in the dictionary.
use Rattle.std.specs.Prelude.{ℕ, ℤ, suc, List, [], ◌∷◌, Option, Some, None}
use Rattle.std.specs.BTreeMap.{insert_entry}
use Rattle.std.specs.Ordering.{nat_cmp, int_cmp, ordering_then}
use Rattle.std.specs.declared.cmp.Ordering.{Ordering}
use Rattle.site_base.specs.Data.{Pairs, no_pairs, pair}
use Rattle.site_base.specs.View.{view}
use Rattle.site_base.specs.declared.tree.Tree.{Tree}
use Rattle.std.specs.List.{slice_get}
use Rattle.command_macros.specs.Arguments.{Words, words, joined, argument_words}
use Rattle.command_macros.specs.Made.{Made}
use Rattle.command_macros.specs.Orders.{order_of}

-- an order and a place
abbrev pub Place : Type 0
Place = ℤ × ℕ

abbrev pub place_cmp : Place → Place → Ordering
place_cmp x y = ordering_then (int_cmp x.0 y.0) (nat_cmp x.1 y.1)

-- those of these arguments, of which the first has this place, among others
abbrev pub places_from : Pairs → ℕ → List (Place × Unit {0}) → List (Place × Unit {0})
places_from no_pairs i sorted = sorted
places_from (pair key d ps) i sorted = places_from ps (suc i) (insert_entry place_cmp sorted (order_of d, i) tt)

-- the words of the argument that is found at a place
abbrev pub words_at : (List ℕ → Made) → Option (List ℕ × Tree) → Words
words_at text None = words []
words_at text (Some p) = argument_words text p.0 (view p.1)

-- and at several, one after another
abbrev pub words_along : (List ℕ → Made) → List (List ℕ × Tree) → List (Place × Unit {0}) → Words
words_along text arguments [] = words []
words_along text arguments (e ∷ es) = joined (words_at text (slice_get arguments e.0.1)) (words_along text arguments es)
