-- Arguments are put into their order, none is lost, and those of one order stay as they stood.
use Rattle.std.proofs.Common.{◌≡◌, ◌++◌, ℕ, ℤ, Bool, true, false, cond, not, ◌&&◌, int_lt, List, [], ◌∷◌, refl, sym, ap, ◌∙◌, All, AllPairs, IsPermutation, arith}
use Rattle.std.proofs.lemmas.Int.{ints}
use Rattle.std.proofs.lemmas.List.Elements.{All-cons, All-nil}
use Rattle.std.proofs.lemmas.List.Kept.{AllPairs-cons}
use Rattle.std.proofs.lemmas.List.Sorted.{IsPermutation-cons, IsPermutation-middle, IsPermutation-refl, IsPermutation-sym, IsPermutation-trans}
use Rattle.site_base.specs.Data.{Data, Pairs, no_pairs, pair}
use Rattle.command_macros.specs.Orders.{order_of, put, put_all, in_order}
use Rattle.command_macros.specs.Stands.{listed, has_order, of_order}

abbrev Argument : Type 0
Argument = List ℕ × Data

-- None is lost.

put_permutes : (key : List ℕ) (d : Data) (sorted : List Argument) → IsPermutation ((key, d) ∷ sorted) (put key d sorted)
put_permutes key d [] = IsPermutation-refl ((key, d) ∷ [])
put_permutes key d (a ∷ more) = by (int_lt (order_of d) (order_of a.1)) (put_permutes key d more)
  where
    by : (t : Bool) → IsPermutation ((key, d) ∷ more) (put key d more) → IsPermutation ((key, d) ∷ a ∷ more) (cond t ((key, d) ∷ a ∷ more) (a ∷ put key d more))
    by true p = IsPermutation-refl ((key, d) ∷ a ∷ more)
    by false p =
        IsPermutation-trans ((key, d) ∷ a ∷ more) (a ∷ (key, d) ∷ more) (a ∷ put key d more)
        (IsPermutation-sym (a ∷ (key, d) ∷ more) ((key, d) ∷ a ∷ more) (IsPermutation-middle (a ∷ []) (key, d) more))
        (IsPermutation-cons a ((key, d) ∷ more) (put key d more) p)

put_all_permutes : (ps : Pairs) (sorted : List Argument) → IsPermutation (listed ps ++ sorted) (put_all ps sorted)
put_all_permutes no_pairs sorted = IsPermutation-refl sorted
put_all_permutes (pair key d ps) sorted =
    IsPermutation-trans ((key, d) ∷ (listed ps ++ sorted)) (listed ps ++ (key, d) ∷ sorted) (put_all ps (put key d sorted))
    (IsPermutation-sym (listed ps ++ (key, d) ∷ sorted) ((key, d) ∷ (listed ps ++ sorted)) (IsPermutation-middle (listed ps) (key, d) sorted))
    (IsPermutation-trans (listed ps ++ (key, d) ∷ sorted) (listed ps ++ put key d sorted) (put_all ps (put key d sorted))
    (behind (listed ps)) (put_all_permutes ps (put key d sorted)))
  where
    behind : (front : List Argument) → IsPermutation (front ++ (key, d) ∷ sorted) (front ++ put key d sorted)
    behind [] = put_permutes key d sorted
    behind (a ∷ more) = IsPermutation-cons a (more ++ (key, d) ∷ sorted) (more ++ put key d sorted) (behind more)

without_end : (xs : List Argument) → xs ++ [] ≡ xs
without_end [] = refl
without_end (x ∷ xs) = ap (λ ys. x ∷ ys) (without_end xs)

pub all_stand : (ps : Pairs) → IsPermutation (listed ps) (in_order ps)
all_stand ps = IsPermutation-trans (listed ps) (listed ps ++ []) (in_order ps) (same (listed ps)) (put_all_permutes ps [])
  where
    same : (xs : List Argument) → IsPermutation xs (xs ++ [])
    same [] = IsPermutation-refl []
    same (x ∷ xs) = IsPermutation-cons x xs (xs ++ []) (same xs)

-- They stand in order.

abbrev IsNotBelow : ℤ → Argument → Type 0
IsNotBelow n a = int_lt (order_of a.1) n ≡ false

abbrev AreNotBelow : ℤ → List Argument → Type 0
AreNotBelow n [] = Unit {0}
AreNotBelow n (a ∷ more) = IsNotBelow n a × AreNotBelow n more

abbrev IsRising : List Argument → Type 0
IsRising [] = Unit {0}
IsRising (a ∷ more) = AreNotBelow (order_of a.1) more × IsRising more

not_below_through : (m n o : ℤ) → int_lt n m ≡ false → int_lt o n ≡ false → int_lt o m ≡ false
not_below_through m n o h k = by (int_lt o m) refl
  where
    by : (t : Bool) → int_lt o m ≡ t → int_lt o m ≡ false
    by true e = absurd (omega (arith, ints))
    by false e = e

not_below_after : (m n : ℤ) → int_lt m n ≡ true → int_lt n m ≡ false
not_below_after m n h = by (int_lt n m) refl
  where
    by : (t : Bool) → int_lt n m ≡ t → int_lt n m ≡ false
    by true e = absurd (omega (arith, ints))
    by false e = e

all_through : (m n : ℤ) (more : List Argument) → int_lt n m ≡ false → AreNotBelow n more → AreNotBelow m more
all_through m n [] h all = tt
all_through m n (a ∷ more) h all = (not_below_through m n (order_of a.1) h all.0, all_through m n more h all.1)

below_put : (n : ℤ) (key : List ℕ) (d : Data) (sorted : List Argument) → int_lt (order_of d) n ≡ false → AreNotBelow n sorted → AreNotBelow n (put key d sorted)
below_put n key d [] h all = (h, tt)
below_put n key d (a ∷ more) h all = by (int_lt (order_of d) (order_of a.1)) (below_put n key d more h all.1)
  where
    by : (t : Bool) → AreNotBelow n (put key d more) → AreNotBelow n (cond t ((key, d) ∷ a ∷ more) (a ∷ put key d more))
    by true rest = (h, all)
    by false rest = (all.0, rest)

rising_put : (key : List ℕ) (d : Data) (sorted : List Argument) → IsRising sorted → IsRising (put key d sorted)
rising_put key d [] up = (tt, tt)
rising_put key d (a ∷ more) up = by (int_lt (order_of d) (order_of a.1)) refl (rising_put key d more up.1)
  where
    by : (t : Bool) → int_lt (order_of d) (order_of a.1) ≡ t → IsRising (put key d more) → IsRising (cond t ((key, d) ∷ a ∷ more) (a ∷ put key d more))
    by true e rest =
        let behind = not_below_after (order_of d) (order_of a.1) e in
        ((behind, all_through (order_of d) (order_of a.1) more behind up.0), up)
    by false e rest = (below_put (order_of a.1) key d more e up.0, rest)

rising_put_all : (ps : Pairs) (sorted : List Argument) → IsRising sorted → IsRising (put_all ps sorted)
rising_put_all no_pairs sorted up = up
rising_put_all (pair key d ps) sorted up = rising_put_all ps (put key d sorted) (rising_put key d sorted up)

all_behind : (n : ℤ) (more : List Argument) → AreNotBelow n more → All (λ b. int_lt (order_of b.1) n ≡ false) more
all_behind n [] h = All-nil (λ b. int_lt (order_of b.1) n ≡ false)
all_behind n (b ∷ more) h = All-cons (λ b. int_lt (order_of b.1) n ≡ false) b more h.0 (all_behind n more h.1)

pairs_of : (sorted : List Argument) → IsRising sorted → AllPairs (λ a b. int_lt (order_of b.1) (order_of a.1) ≡ false) sorted
pairs_of [] up = λ i j d lt within. absurd (omega (arith, within))
pairs_of (a ∷ more) up = AllPairs-cons (λ a b. int_lt (order_of b.1) (order_of a.1) ≡ false) a more (all_behind (order_of a.1) more up.0) (pairs_of more up.1)

pub they_rise : (ps : Pairs) → AllPairs (λ a b. int_lt (order_of b.1) (order_of a.1) ≡ false) (in_order ps)
they_rise ps = pairs_of (in_order ps) (rising_put_all ps [] tt)

-- Those of one order stay as they stood.

-- where one isn't of this order, it may stand anywhere
of_order_without : (n : ℤ) (key : List ℕ) (d : Data) (sorted : List Argument) → has_order n (key, d) ≡ false → of_order n (put key d sorted) ≡ of_order n sorted
of_order_without n key d [] h = ap (λ t. cond t ((key, d) ∷ []) []) h
of_order_without n key d (a ∷ more) h = by (int_lt (order_of d) (order_of a.1)) (of_order_without n key d more h)
  where
    by : (t : Bool) → of_order n (put key d more) ≡ of_order n more → of_order n (cond t ((key, d) ∷ a ∷ more) (a ∷ put key d more)) ≡ of_order n (a ∷ more)
    by true rest = ap (λ t. cond t ((key, d) ∷ of_order n (a ∷ more)) (of_order n (a ∷ more))) h
    by false rest = ap (λ xs. cond (has_order n a) (a ∷ xs) xs) rest

-- those behind one with a greater order aren't of this one
none_above : (n m : ℤ) (more : List Argument) → int_lt n m ≡ true → AreNotBelow m more → of_order n more ≡ []
none_above n m [] h all = refl
none_above n m (a ∷ more) h all = ap (λ t. cond t (a ∷ of_order n more) (of_order n more)) (isnt (int_lt (order_of a.1) n) (int_lt n (order_of a.1)) refl refl) ∙ none_above n m more h all.1
  where
    isnt : (t u : Bool) → int_lt (order_of a.1) n ≡ t → int_lt n (order_of a.1) ≡ u → not t && not u ≡ false
    isnt true u e f = refl
    isnt false true e f = refl
    isnt false false e f = let least = all.0 in absurd (omega (arith, ints))

of_order_put : (n : ℤ) (key : List ℕ) (d : Data) (sorted : List Argument) → has_order n (key, d) ≡ true → IsRising sorted → of_order n (put key d sorted) ≡ of_order n sorted ++ (key, d) ∷ []
of_order_put n key d [] h up = ap (λ t. cond t ((key, d) ∷ []) []) h
of_order_put n key d (a ∷ more) h up = by (int_lt (order_of d) (order_of a.1)) refl (of_order_put n key d more h up.1)
  where
    is_order : int_lt (order_of d) n ≡ false
    is_order = at (int_lt (order_of d) n) (int_lt n (order_of d)) refl h
      where
        at : (t u : Bool) → int_lt (order_of d) n ≡ t → not t && not u ≡ true → int_lt (order_of d) n ≡ false
        at true u e k = absurd cc
        at false u e k = e

    first_above : int_lt (order_of d) (order_of a.1) ≡ true → int_lt n (order_of a.1) ≡ true
    first_above e = at (int_lt n (order_of a.1)) refl
      where
        at : (t : Bool) → int_lt n (order_of a.1) ≡ t → int_lt n (order_of a.1) ≡ true
        at true f = f
        at false f = let least = is_order in absurd (omega (arith, ints))

    not_below_itself : (m : ℤ) → int_lt m m ≡ false
    not_below_itself m = at (int_lt m m) refl
      where
        at : (t : Bool) → int_lt m m ≡ t → int_lt m m ≡ false
        at true f = absurd (omega (arith, ints))
        at false f = f

    spread : (t : Bool) → of_order n (put key d more) ≡ of_order n more ++ (key, d) ∷ []
        → cond t (a ∷ of_order n (put key d more)) (of_order n (put key d more)) ≡ cond t (a ∷ of_order n more) (of_order n more) ++ (key, d) ∷ []
    spread true rest = ap (λ xs. a ∷ xs) rest
    spread false rest = rest

    by : (t : Bool) → int_lt (order_of d) (order_of a.1) ≡ t → of_order n (put key d more) ≡ of_order n more ++ (key, d) ∷ []
        → of_order n (cond t ((key, d) ∷ a ∷ more) (a ∷ put key d more)) ≡ of_order n (a ∷ more) ++ (key, d) ∷ []
    by true e rest =
        let above = first_above e in
        ap (λ t. cond t ((key, d) ∷ of_order n (a ∷ more)) (of_order n (a ∷ more))) h
        ∙ ap (λ xs. (key, d) ∷ xs) (none_above n (order_of a.1) (a ∷ more) above (not_below_itself (order_of a.1), up.0))
        ∙ sym (ap (λ xs. xs ++ (key, d) ∷ []) (none_above n (order_of a.1) (a ∷ more) above (not_below_itself (order_of a.1), up.0)))
    by false e rest = spread (has_order n a) rest

of_order_put_all : (n : ℤ) (ps : Pairs) (sorted : List Argument) → IsRising sorted → of_order n (put_all ps sorted) ≡ of_order n sorted ++ of_order n (listed ps)
of_order_put_all n no_pairs sorted up = sym (without_end (of_order n sorted))
of_order_put_all n (pair key d ps) sorted up =
    of_order_put_all n ps (put key d sorted) (rising_put key d sorted up) ∙ by (has_order n (key, d)) refl
  where
    assoc : (xs : List Argument) (y : Argument) (ys : List Argument) → (xs ++ y ∷ []) ++ ys ≡ xs ++ y ∷ ys
    assoc [] y ys = refl
    assoc (x ∷ xs) y ys = ap (λ zs. x ∷ zs) (assoc xs y ys)

    by : (t : Bool) → has_order n (key, d) ≡ t → of_order n (put key d sorted) ++ of_order n (listed ps) ≡ of_order n sorted ++ cond t ((key, d) ∷ of_order n (listed ps)) (of_order n (listed ps))
    by true h = ap (λ xs. xs ++ of_order n (listed ps)) (of_order_put n key d sorted h up) ∙ assoc (of_order n sorted) (key, d) (of_order n (listed ps))
    by false h = ap (λ xs. xs ++ of_order n (listed ps)) (of_order_without n key d sorted h)

pub keys_stay : (n : ℤ) (ps : Pairs) → of_order n (in_order ps) ≡ of_order n (listed ps)
keys_stay n ps = of_order_put_all n ps [] tt
