-- Arguments by their places are the arguments in their order.
use Rattle.std.proofs.Common.{◌≡◌, ℕ, ℤ, zero, suc, ◌+◌, ◌<◌, Bool, true, false, cond, int_lt, List, [], ◌∷◌, length, get_or, drop, Option, Some, None, refl, sym, ap, ◌∙◌, subst, arith}
use Rattle.std.proofs.lemmas.Bool.Decides.{nat_tests}
use Rattle.std.specs.BTreeMap.{insert_entry}
use Rattle.std.specs.List.{slice_get}
use Rattle.std.specs.Ordering.{nat_cmp, int_cmp, ordering_then, match_ordering}
use Rattle.std.specs.declared.cmp.Ordering.{Ordering}
use Rattle.std.specs.declared.cmp.Ordering.TheVariants.{Less, Equal, Greater}
use Rattle.site_base.specs.Data.{Data}
use Rattle.site_base.specs.View.{view, pairs_view}
use Rattle.site_base.specs.declared.tree.Tree.{Tree}
use Rattle.command_macros.specs.Arguments.{Words, words, joined, argument_words}
use Rattle.command_macros.specs.Made.{Made}
use Rattle.command_macros.specs.Orders.{order_of, put, put_all, in_order}
use Rattle.command_macros.specs.Resolved.{arguments_words}
use Rattle.command_macros.specs.Sorted.{Place, place_cmp, places_from, words_at, words_along}

-- a later place is behind those whose order isn't above its own
behind_cmp : (o x : ℤ) (i j : ℕ) → j < i → place_cmp (o, i) (x, j) ≡ cond (int_lt o x) Less Greater
behind_cmp o x i j lt = ap (ordering_then (int_cmp o x)) later ∙ by (int_lt o x) (int_lt x o)
  where
    later : nat_cmp i j ≡ Greater
    later = grind (arith, nat_tests)

    by : (t u : Bool) → ordering_then (cond t Less (cond u Greater Equal)) Greater ≡ cond t Less Greater
    by true u = refl
    by false true = refl
    by false false = refl

-- these places are those of these arguments, each before a place
pub record IsShown (all : List (List ℕ × Tree)) (i : ℕ) (e : Place × Unit {0}) (a : List ℕ × Data) : Type 0 where
  pub pair : List ℕ × Tree
  pub at : slice_get all e.0.1 ≡ Some pair
  pub is : a ≡ (pair.0, view pair.1)
  pub order : e.0.0 ≡ order_of a.1
  pub before : e.0.1 < i

abbrev Shows : List (List ℕ × Tree) → ℕ → List (Place × Unit {0}) → List (List ℕ × Data) → Type 0
Shows all i [] [] = Unit {0}
Shows all i [] (a ∷ more) = ⊥
Shows all i (e ∷ es) [] = ⊥
Shows all i (e ∷ es) (a ∷ more) = IsShown all i e a × Shows all i es more

later_shown : (all : List (List ℕ × Tree)) (i : ℕ) (e : Place × Unit {0}) (a : List ℕ × Data) → IsShown all i e a → IsShown all (suc i) e a
later_shown all i e a h = record { pair = h.pair; at = h.at; is = h.is; order = h.order; before = (let before = h.before in omega arith) }

later_shows : (all : List (List ℕ × Tree)) (i : ℕ) (es : List (Place × Unit {0})) (xs : List (List ℕ × Data)) → Shows all i es xs → Shows all (suc i) es xs
later_shows all i [] [] h = tt
later_shows all i [] (a ∷ more) h = absurd h
later_shows all i (e ∷ es) [] h = absurd h
later_shows all i (e ∷ es) (a ∷ more) h = (later_shown all i e a h.0, later_shows all i es more h.1)

-- the argument at the next place
next_shown : (all : List (List ℕ × Tree)) (i : ℕ) (p : List ℕ × Tree) → slice_get all i ≡ Some p → IsShown all (suc i) ((order_of (view p.1), i), tt) (p.0, view p.1)
next_shown all i p at = record { pair = p; at = at; is = refl; order = refl; before = omega arith }

put_shows : (all : List (List ℕ × Tree)) (i : ℕ) (p : List ℕ × Tree) → slice_get all i ≡ Some p → (es : List (Place × Unit {0})) (xs : List (List ℕ × Data)) → Shows all i es xs
    → Shows all (suc i) (insert_entry place_cmp es (order_of (view p.1), i) tt) (put p.0 (view p.1) xs)
put_shows all i p at [] [] h = (next_shown all i p at, tt)
put_shows all i p at [] (a ∷ more) h = absurd h
put_shows all i p at (e ∷ es) [] h = absurd h
put_shows all i p at (e ∷ es) (a ∷ more) h = by (int_lt (order_of (view p.1)) (order_of a.1)) refl (put_shows all i p at es more h.1)
  where
    here : Ordering
    here = place_cmp (order_of (view p.1), i) e.0

    cmp_is : here ≡ cond (int_lt (order_of (view p.1)) (order_of a.1)) Less Greater
    cmp_is = behind_cmp (order_of (view p.1)) e.0.0 i e.0.1 h.0.before ∙ ap (λ x. cond (int_lt (order_of (view p.1)) x) Less Greater) h.0.order

    rest : List (Place × Unit {0})
    rest = insert_entry place_cmp es (order_of (view p.1), i) tt

    by : (t : Bool) → int_lt (order_of (view p.1)) (order_of a.1) ≡ t → Shows all (suc i) rest (put p.0 (view p.1) more)
        → Shows all (suc i) (match_ordering here (((order_of (view p.1), i), tt) ∷ e ∷ es) ((e.0, tt) ∷ es) (e ∷ rest)) (cond t ((p.0, view p.1) ∷ a ∷ more) (a ∷ put p.0 (view p.1) more))
    by true q again =
        subst (λ o. Shows all (suc i) (match_ordering o (((order_of (view p.1), i), tt) ∷ e ∷ es) ((e.0, tt) ∷ es) (e ∷ rest)) ((p.0, view p.1) ∷ a ∷ more))
        (sym (cmp_is ∙ ap (λ t. cond t Less Greater) q)) (next_shown all i p at, (later_shown all i e a h.0, later_shows all i es more h.1))
    by false q again =
        subst (λ o. Shows all (suc i) (match_ordering o (((order_of (view p.1), i), tt) ∷ e ∷ es) ((e.0, tt) ∷ es) (e ∷ rest)) (a ∷ put p.0 (view p.1) more))
        (sym (cmp_is ∙ ap (λ t. cond t Less Greater) q)) (later_shown all i e a h.0, again)

-- all that are left
at_front : (all : List (List ℕ × Tree)) (i : ℕ) (p : List ℕ × Tree) (ps : List (List ℕ × Tree)) → drop i all ≡ p ∷ ps → slice_get all i ≡ Some p
at_front [] zero p ps e = absurd cc
at_front [] (suc i) p ps e = absurd cc
at_front (q ∷ all) zero p ps e = let same : q ≡ p = cc in ap Some same
at_front (q ∷ all) (suc i) p ps e = at_front all i p ps e

at_rest : (all : List (List ℕ × Tree)) (i : ℕ) (p : List ℕ × Tree) (ps : List (List ℕ × Tree)) → drop i all ≡ p ∷ ps → drop (suc i) all ≡ ps
at_rest [] zero p ps e = absurd cc
at_rest [] (suc i) p ps e = absurd cc
at_rest (q ∷ all) zero p ps e = ap (drop 1) e
at_rest (q ∷ all) (suc i) p ps e = at_rest all i p ps e

all_shows : (all : List (List ℕ × Tree)) (ps : List (List ℕ × Tree)) (i : ℕ) (es : List (Place × Unit {0})) (xs : List (List ℕ × Data)) → drop i all ≡ ps → Shows all i es xs
    → (j : ℕ) × Shows all j (places_from (pairs_view ps) i es) (put_all (pairs_view ps) xs)
all_shows all [] i es xs e h = (i, h)
all_shows all (p ∷ ps) i es xs e h =
    all_shows all ps (suc i) (insert_entry place_cmp es (order_of (view p.1), i) tt) (put p.0 (view p.1) xs) (at_rest all i p ps e)
    (put_shows all i p (at_front all i p ps e) es xs h)

shown_words : (text : List ℕ → Made) (all : List (List ℕ × Tree)) (i : ℕ) (es : List (Place × Unit {0})) (xs : List (List ℕ × Data)) → Shows all i es xs → words_along text all es ≡ arguments_words text xs
shown_words text all i [] [] h = refl
shown_words text all i [] (a ∷ more) h = absurd h
shown_words text all i (e ∷ es) [] h = absurd h
shown_words text all i (e ∷ es) (a ∷ more) h =
    ap (λ w. joined w (words_along text all es)) (ap (words_at text) h.0.at ∙ sym (ap (λ x. argument_words text x.0 x.1) h.0.is))
    ∙ ap (joined (argument_words text a.0 a.1)) (shown_words text all i es more h.1)

pub ordered_words : (text : List ℕ → Made) (all : List (List ℕ × Tree)) → words_along text all (places_from (pairs_view all) 0 []) ≡ arguments_words text (in_order (pairs_view all))
ordered_words text all = let shows = all_shows all all 0 [] [] refl tt in shown_words text all shows.0 (places_from (pairs_view all) 0 []) (in_order (pairs_view all)) shows.1

-- one place more
pub places_next : (all : List (List ℕ × Tree)) (i : ℕ) (p : List ℕ × Tree) (es : List (Place × Unit {0})) → i < length all → p ≡ get_or all i p
    → places_from (pairs_view (drop i all)) i es ≡ places_from (pairs_view (drop (i + 1) all)) (i + 1) (insert_entry place_cmp es (order_of (view p.1), i) tt)
places_next all i p es lt is =
    let one : suc i ≡ i + 1 = omega arith in
    ap (λ ps. places_from (pairs_view ps) i es) (drop_next all i p lt is)
    ∙ ap (λ j. places_from (pairs_view (drop j all)) j (insert_entry place_cmp es (order_of (view p.1), i) tt)) one
  where
    drop_next : (xs : List (List ℕ × Tree)) (i : ℕ) (p : List ℕ × Tree) → i < length xs → p ≡ get_or xs i p → drop i xs ≡ p ∷ drop (suc i) xs
    drop_next [] i p lt is = absurd (omega arith)
    drop_next (x ∷ xs) zero p lt is = ap (λ y. y ∷ xs) (sym is)
    drop_next (x ∷ xs) (suc i) p lt is = drop_next xs i p (omega arith) is
