-- Sorted pairs that lie in several rows.
use Rattle.std.proofs.Common.{◌≡◌, ℕ, zero, suc, ◌+◌, ◌-◌, ◌<◌, ◌≤◌, cond, not, T, List, [], ◌∷◌, ◌++◌, length, get_or, set, take, drop, Some, None, Result, Ok, Err, IfOk, OnOk, OnErr, Vec, slice_get, refl, sym, ap, subst, ◌∙◌, arith}
use Rattle.std.specs.Global.{Global}
use Rattle.std.specs.List.{insert, remove}
use Rattle.std.specs.Ordering.{match_ordering, ordering_reverse, is_lt, is_eq}
use Rattle.std.specs.FinMap.Entries as entries
use Rattle.std.specs.declared.cmp.Ordering.{Ordering}
use Rattle.std.specs.declared.cmp.Ordering.TheVariants.{Less, Equal, Greater}
use Rattle.std.proofs.lemmas.Cmp.{nat_list_cmp_total}
use Rattle.std.proofs.lemmas.List.{append_assoc, append-nil, drop_more, take_more, set_split, take-append-drop, length-append}
use Rattle.std.proofs.lemmas.Option.{slice_get-get_or}
use Rattle.dsl_value.specs.declared.value.Value.{Value}
use Rattle.dsl_value.specs.Pairs.{Pairs, key_cmp, is_sorted, find, put, without}
use Rattle.dsl_value.specs.Rows.{PairRows, joined, AreFull, AreBelow, AreAbove, IsBetween}
use Rattle.dsl_value.proofs.Places.{same_key, sorted_put}
use Rattle.dsl_value.proofs.Rising.{both, first, second, less, below_seam}

turned : (x k : List ℕ) (o : Ordering) → key_cmp x k ≡ o → key_cmp k x ≡ ordering_reverse o
turned x k o e = nat_list_cmp_total.antisymm k x ∙ ap ordering_reverse e

one_more : (m : ℕ) → suc m ≡ m + 1
one_more m = omega arith

-- what is found among pairs, put in and taken out lies behind lesser keys
find_over : (k : List ℕ) (xs ys : Pairs) → AreBelow k xs → find k (xs ++ ys) ≡ find k ys
find_over k [] ys h = refl
find_over k (p ∷ xs) ys h = ap (λ o. cond (is_eq o) (Some p.1) (find k (xs ++ ys))) h.0 ∙ find_over k xs ys h.1

put_over : (k : List ℕ) (v : Value) (xs ys : Pairs) → AreBelow k xs → put k v (xs ++ ys) ≡ xs ++ put k v ys
put_over k v [] ys h = refl
put_over k v (p ∷ xs) ys h =
    ap (λ o. match_ordering o ((k, v) ∷ p ∷ (xs ++ ys)) ((p.0, v) ∷ (xs ++ ys)) (p ∷ put k v (xs ++ ys))) h.0
    ∙ ap (λ more. p ∷ more) (put_over k v xs ys h.1)

without_over : (k : List ℕ) (xs ys : Pairs) → AreBelow k xs → without k (xs ++ ys) ≡ xs ++ without k ys
without_over k [] ys h = refl
without_over k (p ∷ xs) ys h =
    ap (λ o. cond (not (is_eq o)) (p ∷ without k (xs ++ ys)) (without k (xs ++ ys))) h.0
    ∙ ap (λ more. p ∷ more) (without_over k xs ys h.1)

-- and before greater ones
none_above : (k : List ℕ) (ys : Pairs) → AreAbove k ys → find k ys ≡ None
none_above k [] h = refl
none_above k (p ∷ ys) h = ap (λ o. cond (is_eq o) (Some p.1) (find k ys)) h.0 ∙ none_above k ys h.1

find_under : (k : List ℕ) (xs ys : Pairs) → AreAbove k ys → find k (xs ++ ys) ≡ find k xs
find_under k [] ys h = none_above k ys h
find_under k (p ∷ xs) ys h = ap (λ o. cond (is_eq (key_cmp k p.0)) (Some p.1) o) (find_under k xs ys h)

put_first : (k : List ℕ) (v : Value) (ys : Pairs) → AreAbove k ys → put k v ys ≡ (k, v) ∷ ys
put_first k v [] h = refl
put_first k v (p ∷ ys) h = ap (λ o. match_ordering o ((k, v) ∷ p ∷ ys) ((p.0, v) ∷ ys) (p ∷ put k v ys)) h.0

put_under : (k : List ℕ) (v : Value) (xs ys : Pairs) → AreAbove k ys → put k v (xs ++ ys) ≡ put k v xs ++ ys
put_under k v [] ys h = put_first k v ys h
put_under k v (p ∷ xs) ys h =
    elim (key_cmp k p.0) as (λ o. match_ordering o ((k, v) ∷ p ∷ (xs ++ ys)) ((p.0, v) ∷ (xs ++ ys)) (p ∷ put k v (xs ++ ys)) ≡ match_ordering o ((k, v) ∷ p ∷ xs) ((p.0, v) ∷ xs) (p ∷ put k v xs) ++ ys) [
      | Less ↦ refl
      | Equal ↦ refl
      | Greater ↦ ap (λ more. p ∷ more) (put_under k v xs ys h)
    ]

none_taken : (k : List ℕ) (ys : Pairs) → AreAbove k ys → without k ys ≡ ys
none_taken k [] h = refl
none_taken k (p ∷ ys) h = ap (λ o. cond (not (is_eq o)) (p ∷ without k ys) (without k ys)) h.0 ∙ ap (λ more. p ∷ more) (none_taken k ys h.1)

without_under : (k : List ℕ) (xs ys : Pairs) → AreAbove k ys → without k (xs ++ ys) ≡ without k xs ++ ys
without_under k [] ys h = none_taken k ys h
without_under k (p ∷ xs) ys h =
    elim (key_cmp k p.0) as (λ o. cond (not (is_eq o)) (p ∷ without k (xs ++ ys)) (without k (xs ++ ys)) ≡ cond (not (is_eq o)) (p ∷ without k xs) (without k xs) ++ ys) [
      | Less ↦ ap (λ more. p ∷ more) (without_under k xs ys h)
      | Equal ↦ without_under k xs ys h
      | Greater ↦ ap (λ more. p ∷ more) (without_under k xs ys h)
    ]

-- parts of sorted pairs
pub sorted_right : (xs ys : Pairs) → T (is_sorted (xs ++ ys)) → T (is_sorted ys)
sorted_right [] ys h = h
sorted_right (p ∷ xs) ys h = sorted_right xs ys (second _ _ h)

below_left : (k : List ℕ) (xs ys : Pairs) → T (entries.below_all key_cmp k (xs ++ ys)) → T (entries.below_all key_cmp k xs)
below_left k [] ys h = tt
below_left k (p ∷ xs) ys h = both _ _ (first _ _ h) (below_left k xs ys (second _ _ h))

pub sorted_left : (xs ys : Pairs) → T (is_sorted (xs ++ ys)) → T (is_sorted xs)
sorted_left [] ys h = tt
sorted_left (p ∷ xs) ys h = both _ _ (below_left p.0 xs ys (first _ _ h)) (sorted_left xs ys (second _ _ h))

-- lesser keys stand before a key
before_seam : (q : List ℕ × Value) (xs ys : Pairs) → T (is_sorted (xs ++ q ∷ ys)) → AreBelow q.0 xs
before_seam q [] ys h = tt
before_seam q (p ∷ xs) ys h = (below_seam p.0 q.0 q.1 xs ys (first _ _ h), before_seam q xs ys (second _ _ h))

one_below : (x k y : List ℕ) (o : Ordering) → key_cmp x k ≡ o → T (not (is_lt (ordering_reverse o))) → key_cmp x y ≡ Greater → key_cmp k y ≡ Greater
one_below x k y Less e h g = turned y k Less (nat_list_cmp_total.trans y x k (turned x y Greater g) e)
one_below x k y Equal e h g = ap (λ z. key_cmp z y) (sym (same_key x k e)) ∙ g
one_below x k y Greater e h g = absurd h

all_below : (x k : List ℕ) (xs : Pairs) (o : Ordering) → key_cmp x k ≡ o → T (not (is_lt (ordering_reverse o))) → AreBelow x xs → AreBelow k xs
all_below x k [] o e h b = tt
all_below x k (p ∷ xs) o e h b = (one_below x k p.0 o e h b.0, all_below x k xs o e h b.1)

all_above : (x k : List ℕ) (ys : Pairs) → key_cmp k x ≡ Less → T (entries.below_all key_cmp x ys) → AreAbove k ys
all_above x k [] e h = tt
all_above x k (p ∷ ys) e h = (nat_list_cmp_total.trans k x p.0 e (less _ (first _ _ h)), all_above x k ys e (second _ _ h))

-- what holds after a call
pub ok_then : {X E P Q : Type 0} (r : Result X E) → (P → Q) → OnOk r P → OnOk r Q
ok_then (Ok x) f p = f p
ok_then (Err e) f p = tt

pub err_then : {X E P Q : Type 0} (r : Result X E) → (P → Q) → OnErr r P → OnErr r Q
err_then (Ok x) f p = tt
err_then (Err e) f p = f p

pub if_ok_then : {X E : Type 0} (P Q : X → Type 0) (r : Result X E) → ((x : X) → P x → Q x) → IfOk r P → IfOk r Q
if_ok_then P Q (Ok x) f p = f x p
if_ok_then P Q (Err e) f p = tt

-- rows
pub joined_append : (xs ys : PairRows) → joined (xs ++ ys) ≡ joined xs ++ joined ys
joined_append [] ys = refl
joined_append (r ∷ xs) ys = ap (λ ps. r.items ++ ps) (joined_append xs ys) ∙ sym (append_assoc r.items (joined xs) (joined ys))

pub full_append : (xs ys : PairRows) → AreFull xs → AreFull ys → AreFull (xs ++ ys)
full_append [] ys h g = g
full_append (r ∷ xs) ys h g = (h.0, full_append xs ys h.1 g)

pub full_at : (rows : PairRows) (i : ℕ) (d : Vec (List ℕ × Value) Global) → AreFull rows → i < length rows → 0 < length (get_or rows i d).items
full_at [] i d h lt = absurd (omega (arith, lt))
full_at (r ∷ rows) zero d h lt = h.0
full_at (r ∷ rows) (suc i) d h lt = full_at rows i d h.1 (omega (arith, lt))

from_row : (rows : PairRows) (m : ℕ) (d : Vec (List ℕ × Value) Global) → m < length rows → joined (drop m rows) ≡ (get_or rows m d).items ++ joined (drop (m + 1) rows)
from_row rows m d lt = ap joined (drop_more rows m d lt)

parted : (rows : PairRows) (m : ℕ) → joined rows ≡ joined (take m rows) ++ joined (drop m rows)
parted rows m = sym (ap joined (take-append-drop m rows)) ∙ joined_append (take m rows) (drop m rows)

-- the pairs before a row, in it and behind it
pub row_parts : (rows : PairRows) (m : ℕ) (d : Vec (List ℕ × Value) Global) → m < length rows → joined rows ≡ joined (take m rows) ++ ((get_or rows m d).items ++ joined (drop (m + 1) rows))
row_parts rows m d lt = parted rows m ∙ ap (λ ps. joined (take m rows) ++ ps) (from_row rows m d lt)

-- the same with another row in its place
pub set_parts : (rows : PairRows) (m : ℕ) (r : Vec (List ℕ × Value) Global) → m < length rows → joined (set rows m r) ≡ joined (take m rows) ++ (r.items ++ joined (drop (m + 1) rows))
set_parts rows m r lt =
    ap joined (set_split rows m r lt) ∙ joined_append (take m rows) (r ∷ drop (suc m) rows)
    ∙ ap (λ n. joined (take m rows) ++ (r.items ++ joined (drop n rows))) (one_more m)

pub sorted_row : (rows : PairRows) (m : ℕ) (d : Vec (List ℕ × Value) Global) → m < length rows → T (is_sorted (joined rows)) → T (is_sorted (get_or rows m d).items)
sorted_row rows m d lt h = sorted_left (get_or rows m d).items (joined (drop (m + 1) rows)) (sorted_right (joined (take m rows)) _ (subst (λ ps. T (is_sorted ps)) (row_parts rows m d lt) h))

pub full_set : (rows : PairRows) (m : ℕ) (r : Vec (List ℕ × Value) Global) → AreFull rows → 0 < length r.items → AreFull (set rows m r)
full_set [] m r h g = tt
full_set (q ∷ rows) zero r h g = (g, h.1)
full_set (q ∷ rows) (suc m) r h g = (h.0, full_set rows m r h.1 g)

first_and_rest : (xs : Pairs) (q : List ℕ × Value) → 0 < length xs → q ≡ get_or xs 0 q → xs ≡ q ∷ drop 1 xs
first_and_rest [] q lt e = absurd (omega (arith, lt))
first_and_rest (p ∷ xs) q lt e = ap (λ r. r ∷ xs) (sym e)

-- a search among rows, where this is the first key of the one in the middle
module _ (rows : PairRows) (full : AreFull rows) (sorted : T (is_sorted (joined rows))) (k : List ℕ) (low m high : ℕ) (between : IsBetween rows k low high) (from : low < m) (until : m < high) (d : Vec (List ℕ × Value) Global) (q : List ℕ × Value) (here : q ≡ get_or (get_or rows m d).items 0 q) where
  inside : m < length rows
  inside = omega (arith, until, between.inside)

  begins : joined (drop m rows) ≡ q ∷ (drop 1 (get_or rows m d).items ++ joined (drop (m + 1) rows))
  begins = from_row rows m d inside ∙ ap (λ xs. xs ++ joined (drop (m + 1) rows)) (first_and_rest (get_or rows m d).items q (full_at rows m d full inside) here)

  all : T (is_sorted (joined (take m rows) ++ q ∷ (drop 1 (get_or rows m d).items ++ joined (drop (m + 1) rows))))
  all = subst (λ ps. T (is_sorted ps)) (parted rows m ∙ ap (λ ps. joined (take m rows) ++ ps) begins) sorted

  pub row_above : key_cmp q.0 k ≡ Greater → IsBetween rows k low m
  row_above e =
      let lt : key_cmp k q.0 ≡ Less = turned q.0 k Greater e in
      let later : T (is_sorted (q ∷ (drop 1 (get_or rows m d).items ++ joined (drop (m + 1) rows)))) = sorted_right (joined (take m rows)) _ all in
      record {
        some = from;
        inside = omega (arith, inside);
        before = between.before;
        behind = subst (AreAbove k) (sym begins) (lt, all_above q.0 k _ lt (first _ _ later));
      }

  pub row_below : (o : Ordering) → key_cmp q.0 k ≡ o → T (not (is_lt (ordering_reverse o))) → IsBetween rows k m high
  row_below o e h = record {
    some = until;
    inside = between.inside;
    before = all_below q.0 k (joined (take m rows)) o e h (before_seam q (joined (take m rows)) _ all);
    behind = between.behind;
  }

-- all rows
pub at_first : (rows : PairRows) (k : List ℕ) → 0 < length rows → IsBetween rows k 0 (length rows)
at_first rows k lt = record {
  some = lt;
  inside = omega arith;
  before = tt;
  behind = subst (λ rs. AreAbove k (joined rs)) (sym (drop_whole rows)) tt;
}
  where
    drop_whole : (rows : PairRows) → drop (length rows) rows ≡ []
    drop_whole [] = refl
    drop_whole (r ∷ rows) = drop_whole rows

-- the row for a key
module _ (rows : PairRows) (k : List ℕ) (m : ℕ) (d : Vec (List ℕ × Value) Global) (between : IsBetween rows k m (m + 1)) where
  there : m < length rows
  there = omega (arith, between.inside)

  pub find_in_row : find k (joined rows) ≡ find k (get_or rows m d).items
  find_in_row =
      ap (find k) (row_parts rows m d there)
      ∙ find_over k (joined (take m rows)) _ between.before
      ∙ find_under k (get_or rows m d).items _ between.behind

  pub put_in_row : (v : Value) (r : Vec (List ℕ × Value) Global) → r.items ≡ put k v (get_or rows m d).items → joined (set rows m r) ≡ put k v (joined rows)
  put_in_row v r e =
      set_parts rows m r there
      ∙ ap (λ xs. joined (take m rows) ++ (xs ++ joined (drop (m + 1) rows))) e
      ∙ ap (λ xs. joined (take m rows) ++ xs) (sym (put_under k v (get_or rows m d).items _ between.behind))
      ∙ sym (put_over k v (joined (take m rows)) _ between.before)
      ∙ ap (put k v) (sym (row_parts rows m d there))

  pub without_in_row : (r : Vec (List ℕ × Value) Global) → r.items ≡ without k (get_or rows m d).items → joined (set rows m r) ≡ without k (joined rows)
  without_in_row r e =
      set_parts rows m r there
      ∙ ap (λ xs. joined (take m rows) ++ (xs ++ joined (drop (m + 1) rows))) e
      ∙ ap (λ xs. joined (take m rows) ++ xs) (sym (without_under k (get_or rows m d).items _ between.behind))
      ∙ sym (without_over k (joined (take m rows)) _ between.before)
      ∙ ap (without k) (sym (row_parts rows m d there))

-- a row that stays as it is
pub same_row : (rows : PairRows) (m : ℕ) (d r : Vec (List ℕ × Value) Global) → m < length rows → r.items ≡ (get_or rows m d).items → joined (set rows m r) ≡ joined rows
same_row rows m d r lt e = set_parts rows m r lt ∙ ap (λ xs. joined (take m rows) ++ (xs ++ joined (drop (m + 1) rows))) e ∙ sym (row_parts rows m d lt)

-- how many pairs there are with another row
pub set_count : (rows : PairRows) (m : ℕ) (d r : Vec (List ℕ × Value) Global) → m < length rows → length (joined (set rows m r)) + length (get_or rows m d).items ≡ length (joined rows) + length r.items
set_count rows m d r lt =
    let new : length (joined (set rows m r)) ≡ length (joined (take m rows)) + (length r.items + length (joined (drop (m + 1) rows))) = ap length (set_parts rows m r lt) ∙ length-append (joined (take m rows)) _ ∙ ap (λ n. length (joined (take m rows)) + n) (length-append r.items _) in
    let old : length (joined rows) ≡ length (joined (take m rows)) + (length (get_or rows m d).items + length (joined (drop (m + 1) rows))) = ap length (row_parts rows m d lt) ∙ length-append (joined (take m rows)) _ ∙ ap (λ n. length (joined (take m rows)) + n) (length-append (get_or rows m d).items _) in
    omega (arith, new, old)

pub put_length : (k : List ℕ) (v : Value) (ps : Pairs) → (length ps ≤ length (put k v ps)) × (length (put k v ps) ≤ length ps + 1)
put_length k v [] = (omega arith, omega arith)
put_length k v (p ∷ ps) =
    let more = put_length k v ps in
    elim (key_cmp k p.0) as (λ o. (length (p ∷ ps) ≤ length (match_ordering o ((k, v) ∷ p ∷ ps) ((p.0, v) ∷ ps) (p ∷ put k v ps))) × (length (match_ordering o ((k, v) ∷ p ∷ ps) ((p.0, v) ∷ ps) (p ∷ put k v ps)) ≤ length (p ∷ ps) + 1)) [
      | Less ↦ (omega arith, omega arith)
      | Equal ↦ (omega arith, omega arith)
      | Greater ↦ (omega (arith, more.0), omega (arith, more.1))
    ]

pub without_length : (k : List ℕ) (ps : Pairs) → length (without k ps) ≤ length ps
without_length k [] = omega arith
without_length k (p ∷ ps) =
    let more = without_length k ps in
    elim (key_cmp k p.0) as (λ o. length (cond (not (is_eq o)) (p ∷ without k ps) (without k ps)) ≤ length (p ∷ ps)) [
      | Less ↦ omega (arith, more)
      | Equal ↦ omega (arith, more)
      | Greater ↦ omega (arith, more)
    ]

-- a row that is split in two
pub split_joined : (rows : PairRows) (m : ℕ) (d lo hi : Vec (List ℕ × Value) Global) → m < length rows → lo.items ++ hi.items ≡ (get_or rows m d).items → joined (set (insert rows (m + 1) hi) m lo) ≡ joined rows
split_joined rows m d lo hi lt e = subst (λ n. joined (set (insert rows n hi) m lo) ≡ joined rows) (one_more m) (by rows m lt e)
  where
    by : (rows : PairRows) (m : ℕ) → m < length rows → lo.items ++ hi.items ≡ (get_or rows m d).items → joined (set (insert rows (suc m) hi) m lo) ≡ joined rows
    by [] m lt e = absurd (omega (arith, lt))
    by (r ∷ rows) zero lt e = sym (append_assoc lo.items hi.items (joined rows)) ∙ ap (λ xs. xs ++ joined rows) e
    by (r ∷ rows) (suc m) lt e = ap (λ xs. r.items ++ xs) (by rows m (omega (arith, lt)) e)

pub full_insert : (rows : PairRows) (m : ℕ) (r : Vec (List ℕ × Value) Global) → AreFull rows → 0 < length r.items → m ≤ length rows → AreFull (insert rows m r)
full_insert rows zero r h g le = (g, h)
full_insert [] (suc m) r h g le = absurd (omega (arith, le))
full_insert (q ∷ rows) (suc m) r h g le = (h.0, full_insert rows m r h.1 g (omega (arith, le)))

-- a row that has become empty is taken out
pub remove_joined : (rows : PairRows) (m : ℕ) (r : Vec (List ℕ × Value) Global) → m < length rows → r.items ≡ [] → joined (remove (set rows m r) m) ≡ joined (set rows m r)
remove_joined [] m r lt e = absurd (omega (arith, lt))
remove_joined (q ∷ rows) zero r lt e = ap (λ xs. xs ++ joined rows) (sym e)
remove_joined (q ∷ rows) (suc m) r lt e = ap (λ xs. q.items ++ xs) (remove_joined rows m r (omega (arith, lt)) e)

pub full_remove : (rows : PairRows) (m : ℕ) (r : Vec (List ℕ × Value) Global) → AreFull rows → m < length rows → AreFull (remove (set rows m r) m)
full_remove [] m r h lt = absurd (omega (arith, lt))
full_remove (q ∷ rows) zero r h lt = h.1
full_remove (q ∷ rows) (suc m) r h lt = (h.0, full_remove rows m r h.1 (omega (arith, lt)))

-- what stays of sorted pairs without a key is sorted
below_without : (x k : List ℕ) (ps : Pairs) → T (entries.below_all key_cmp x ps) → T (entries.below_all key_cmp x (without k ps))
below_without x k [] h = tt
below_without x k (p ∷ ps) h =
    let more = below_without x k ps (second _ _ h) in
    elim (key_cmp k p.0) as (λ o. T (entries.below_all key_cmp x (cond (not (is_eq o)) (p ∷ without k ps) (without k ps)))) [
      | Less ↦ both _ _ (first _ _ h) more
      | Equal ↦ more
      | Greater ↦ both _ _ (first _ _ h) more
    ]

pub sorted_without : (k : List ℕ) (ps : Pairs) → T (is_sorted ps) → T (is_sorted (without k ps))
sorted_without k [] h = tt
sorted_without k (p ∷ ps) h =
    let more = sorted_without k ps (second _ _ h) in
    elim (key_cmp k p.0) as (λ o. T (is_sorted (cond (not (is_eq o)) (p ∷ without k ps) (without k ps)))) [
      | Less ↦ both _ _ (below_without p.0 k ps (first _ _ h)) more
      | Equal ↦ more
      | Greater ↦ both _ _ (below_without p.0 k ps (first _ _ h)) more
    ]

pub sorted_as_without : (k : List ℕ) (ps qs : Pairs) → qs ≡ without k ps → T (is_sorted ps) → T (is_sorted qs)
sorted_as_without k ps qs e h = subst (λ xs. T (is_sorted xs)) (sym e) (sorted_without k ps h)

-- a row for a key that another takes the place of
module _ (rows : PairRows) (k : List ℕ) (m : ℕ) (q r : Vec (List ℕ × Value) Global) (between : IsBetween rows k m (m + 1)) (here : q ≡ get_or rows m q) where
  place : m < length rows
  place = omega (arith, between.inside)

  pub changed_sorted : T (is_sorted (joined rows)) → T (is_sorted q.items)
  changed_sorted h = subst (λ x. T (is_sorted x.items)) (sym here) (sorted_row rows m q place h)

  pub changed_put : (v : Value) → r.items ≡ put k v q.items → joined (set rows m r) ≡ put k v (joined rows)
  changed_put v e = put_in_row rows k m q between v r (e ∙ ap (λ x. put k v x.items) here)

  pub changed_without : r.items ≡ without k q.items → joined (set rows m r) ≡ without k (joined rows)
  changed_without e = without_in_row rows k m q between r (e ∙ ap (λ x. without k x.items) here)

  pub changed_same : r.items ≡ q.items → joined (set rows m r) ≡ joined rows
  changed_same e = same_row rows m q r place (e ∙ ap (λ x. x.items) here)

  pub same_full : r.items ≡ q.items → AreFull rows → AreFull (set rows m r)
  same_full e h = full_set rows m r h (subst (λ n. 0 < n) (sym (ap length (e ∙ ap (λ x. x.items) here))) (full_at rows m q h place))

  pub put_full : (v : Value) → r.items ≡ put k v q.items → AreFull rows → AreFull (set rows m r)
  put_full v e h =
      let some : 0 < length q.items = subst (λ x. 0 < length x.items) (sym here) (full_at rows m q h place) in
      let long : length r.items ≡ length (put k v q.items) = ap length e in
      full_set rows m r h (omega (arith, some, long, (put_length k v q.items).0))

  pub changed_count : length (joined (set rows m r)) + length q.items ≡ length (joined rows) + length r.items
  changed_count = ap (λ x. length (joined (set rows m r)) + length x.items) here ∙ set_count rows m q r place

pub sorted_as_put : (k : List ℕ) (v : Value) (ps qs : Pairs) → qs ≡ put k v ps → T (is_sorted ps) → T (is_sorted qs)
sorted_as_put k v ps qs e h = subst (λ xs. T (is_sorted xs)) (sym e) (sorted_put k v ps h)

-- pairs that are dealt out
pub dealt_more : (rows : PairRows) (r : Vec (List ℕ × Value) Global) (left next behind whole : Pairs) → r.items ≡ next → left ≡ next ++ behind → joined rows ++ left ≡ whole → joined (rows ++ r ∷ []) ++ behind ≡ whole
dealt_more rows r left next behind whole e l h =
    ap (λ xs. xs ++ behind) (joined_append rows (r ∷ []) ∙ ap (λ xs. joined rows ++ xs) (append-nil r.items ∙ e))
    ∙ append_assoc (joined rows) next behind
    ∙ ap (λ xs. joined rows ++ xs) (sym l)
    ∙ h

pub full_more : (rows : PairRows) (r : Vec (List ℕ × Value) Global) → AreFull rows → 0 < length r.items → AreFull (rows ++ r ∷ [])
full_more rows r h g = full_append rows (r ∷ []) h (g, tt)

-- rows that are copied
pub copied_more : (copy rows : PairRows) (i : ℕ) (r q : Vec (List ℕ × Value) Global) → i < length rows → q ≡ get_or rows i q → r.items ≡ q.items → joined copy ≡ joined (take i rows) → joined (copy ++ r ∷ []) ≡ joined (take (i + 1) rows)
copied_more copy rows i r q lt here e h =
    joined_append copy (r ∷ [])
    ∙ (λ j. h j ++ ((append-nil r.items ∙ e ∙ ap (λ x. x.items) here ∙ sym (append-nil (get_or rows i q).items)) j))
    ∙ sym (joined_append (take i rows) (get_or rows i q ∷ []))
    ∙ ap joined (sym (take_more rows i q lt))

-- the pair at a place of the rows that are left
get_left : {X : Type 0} (xs ys : List X) (i : ℕ) → i < length xs → slice_get (xs ++ ys) i ≡ slice_get xs i
get_left [] ys i lt = absurd (omega (arith, lt))
get_left (x ∷ xs) ys zero lt = refl
get_left (x ∷ xs) ys (suc i) lt = get_left xs ys i (omega (arith, lt))

get_right : {X : Type 0} (xs ys : List X) (i n : ℕ) → n ≡ length xs → n ≤ i → slice_get (xs ++ ys) i ≡ slice_get ys (i - n)
get_right [] ys i n e le = let same : i ≡ i - n = omega (arith, e) in ap (slice_get ys) same
get_right (x ∷ xs) ys zero n e le = absurd (omega (arith, e, le))
get_right (x ∷ xs) ys (suc i) n e le =
    let one : n - 1 ≡ length xs = omega (arith, e) in
    let same : i - (n - 1) ≡ suc i - n = omega (arith, e) in
    get_right xs ys i (n - 1) one (omega (arith, e, le)) ∙ ap (slice_get ys) same

module _ (rows : PairRows) (i left : ℕ) (q : Vec (List ℕ × Value) Global) (lt : i < length rows) (here : q ≡ get_or rows i q) where
  split_left : joined (drop i rows) ≡ q.items ++ joined (drop (i + 1) rows)
  split_left = from_row rows i q lt ∙ ap (λ x. x.items ++ joined (drop (i + 1) rows)) (sym here)

  pub pair_here : (p : List ℕ × Value) → left < length q.items → p ≡ get_or q.items left p → slice_get (joined (drop i rows)) left ≡ Some p
  pair_here p within is =
      ap (λ xs. slice_get xs left) split_left
      ∙ get_left q.items (joined (drop (i + 1) rows)) left within
      ∙ slice_get-get_or q.items left p within
      ∙ ap Some (sym is)

  pub pair_later : (n : ℕ) → n ≡ length q.items → n ≤ left → slice_get (joined (drop (i + 1) rows)) (left - n) ≡ slice_get (joined (drop i rows)) left
  pair_later n e le = sym (ap (λ xs. slice_get xs left) split_left ∙ get_right q.items (joined (drop (i + 1) rows)) left n e le)

pub sorted_either : {X E : Type 0} (r : Result X E) (k : List ℕ) (v : Value) (ps qs : Pairs) → OnOk r (qs ≡ put k v ps) → OnErr r (qs ≡ ps) → T (is_sorted ps) → T (is_sorted qs)
sorted_either (Ok x) k v ps qs e f h = sorted_as_put k v ps qs e h
sorted_either (Err x) k v ps qs e f h = subst (λ xs. T (is_sorted xs)) (sym f) h

pub nothing : (ps : Pairs) → length ps ≡ 0 → ps ≡ []
nothing [] e = refl
nothing (p ∷ ps) e = absurd (omega (arith, e))
