-- Pairs that are put into sorted ones.
use Rattle.std.proofs.Common.{◌≡◌, Bool, true, false, cond, ◌&&◌, T, List, [], ◌∷◌, ◌++◌, Option, Some, None, length, refl, sym, ap, subst, ◌∙◌, arith, ℕ}
use Rattle.std.specs.Ordering.{is_lt, is_eq, eq_by_cmp, match_ordering, ordering_reverse}
use Rattle.std.specs.FinMap.Entries as entries
use Rattle.std.specs.Option.{option_or}
use Rattle.std.specs.declared.cmp.Ordering.{Ordering}
use Rattle.std.specs.declared.cmp.Ordering.TheVariants.{Less, Equal, Greater}
use Rattle.std.proofs.lemmas.Cmp.{nat_list_cmp_total}
use Rattle.dsl_value.specs.Pairs.{Pairs, key_cmp, is_sorted, find, put, dict_of}
use Rattle.dsl_value.specs.declared.value.Value.{Value}
use Rattle.dsl_ops.specs.Laws.{IsMerged}
use Rattle.dsl_ops.specs.Table.{merged}
use Rattle.dsl_value.proofs.Places.{same_key, put_entry, sorted_put}

first : (a b : Bool) → T (a && b) → T a
first true b p = tt
first false b p = p

second : (a b : Bool) → T (a && b) → T b
second true b p = p
second false b p = absurd p

pub dict_of-sorted : (ps sorted : Pairs) → T (is_sorted sorted) → T (is_sorted (dict_of ps sorted))
dict_of-sorted [] sorted h = h
dict_of-sorted (p ∷ ps) sorted h = dict_of-sorted ps (put p.0 p.1 sorted) (sorted_put p.0 p.1 sorted h)

less : (o : Ordering) → T (is_lt o) → is_eq o ≡ false
less Less p = refl
less Equal p = absurd p
less Greater p = absurd p

-- no key behind is found
find_below : (k : List ℕ) (ps : Pairs) → T (entries.below_all key_cmp k ps) → find k ps ≡ None
find_below k [] h = refl
find_below k (p ∷ ps) h = ap (λ b. cond b (Some p.1) (find k ps)) (less (key_cmp k p.0) (first _ _ h)) ∙ find_below k ps (second _ _ h)

find_again : (k q : List ℕ) (b : Bool) (v : Value) (ps : Pairs) (o : Option Value) → (b ≡ true → find q ps ≡ None) → option_or (find q ps) (cond b (Some v) o) ≡ option_or (cond b (Some v) (find q ps)) o
find_again k q true v ps o none = ap (λ f. option_or f (Some v)) (none refl)
find_again k q false v ps o none = refl

-- of a key that ties with the first one none is found behind
find_tied : (q : List ℕ) (p : List ℕ × Value) (ps : Pairs) → T (entries.below_all key_cmp p.0 ps) → eq_by_cmp key_cmp q p.0 ≡ true → find q ps ≡ None
find_tied q p ps h e = subst (λ k. find k ps ≡ None) (sym (same_key q p.0 (ties (key_cmp q p.0) e))) (find_below p.0 ps h)
  where
    ties : (o : Ordering) → is_eq o ≡ true → o ≡ Equal
    ties Equal e = refl
    ties Less e = cc
    ties Greater e = cc

-- sorted pairs that are put in win over those that were there
pub find_dict_of : (q : List ℕ) (ps sorted : Pairs) → T (is_sorted ps) → find q (dict_of ps sorted) ≡ option_or (find q ps) (find q sorted)
find_dict_of q [] sorted h = refl
find_dict_of q (p ∷ ps) sorted h =
    find_dict_of q ps (put p.0 p.1 sorted) (second _ _ h)
    ∙ ap (option_or (find q ps)) (ap (find q) (sym (put_entry p.0 p.1 sorted)) ∙ entries.find-put key_cmp nat_list_cmp_total q p.0 p.1 sorted)
    ∙ find_again p.0 q (eq_by_cmp key_cmp q p.0) p.1 ps (find q sorted) (find_tied q p ps (first _ _ h))

or_none : (o : Option Value) → option_or o None ≡ o
or_none None = refl
or_none (Some v) = refl

-- sorted pairs are what is made of them
pub dict_of_sorted : (ps : Pairs) → T (is_sorted ps) → dict_of ps [] ≡ ps
dict_of_sorted ps h = entries.same_entries key_cmp nat_list_cmp_total same_key (dict_of ps []) ps (dict_of-sorted ps [] tt) h (λ q. find_dict_of q ps [] h ∙ or_none (find q ps))

-- ---- two fronts

both : (a b : Bool) → T a → T b → T (a && b)
both true b p q = q
both false b p q = absurd p

is_less : (o : Ordering) → T (is_lt o) → o ≡ Less
is_less Less p = refl
is_less Equal p = absurd p
is_less Greater p = absurd p

below_less : (a b : List ℕ) (ps : Pairs) → key_cmp a b ≡ Less → T (entries.below_all key_cmp b ps) → T (entries.below_all key_cmp a ps)
below_less a b [] lt h = tt
below_less a b (p ∷ ps) lt h =
    both (is_lt (key_cmp a p.0)) (entries.below_all key_cmp a ps)
    (subst (λ o. T (is_lt o)) (sym (nat_list_cmp_total.trans a b p.0 lt (is_less _ (first _ _ h)))) tt)
    (below_less a b ps lt (second (is_lt (key_cmp b p.0)) _ h))

turned : (a b : List ℕ) (o : Ordering) → key_cmp a b ≡ o → key_cmp b a ≡ ordering_reverse o
turned a b o e = nat_list_cmp_total.antisymm b a ∙ ap ordering_reverse e

put_by : (k : List ℕ) (v : Value) (p : List ℕ × Value) (ps : Pairs) (o : Ordering) → key_cmp k p.0 ≡ o → put k v (p ∷ ps) ≡ match_ordering o ((k, v) ∷ p ∷ ps) ((p.0, v) ∷ ps) (p ∷ put k v ps)
put_by k v p ps o e = ap (λ x. match_ordering x ((k, v) ∷ p ∷ ps) ((p.0, v) ∷ ps) (p ∷ put k v ps)) e

-- a pair stays first where all that are put in go behind it
stays_first : (p : List ℕ × Value) (ps more : Pairs) → T (entries.below_all key_cmp p.0 more) → dict_of more (p ∷ ps) ≡ p ∷ dict_of more ps
stays_first p ps [] h = refl
stays_first p ps (q ∷ more) h =
    ap (dict_of more) (put_by q.0 q.1 p ps Greater (turned p.0 q.0 Less (is_less _ (first _ _ h))))
    ∙ stays_first p (put q.0 q.1 ps) more (second (is_lt (key_cmp p.0 q.0)) _ h)

module _ (a b : List ℕ × Value) (left right : Pairs) (sorted : T (is_sorted (b ∷ right))) where
  pub left_first : key_cmp a.0 b.0 ≡ Less → merged (a ∷ left) (b ∷ right) ≡ a ∷ merged left (b ∷ right)
  left_first lt = stays_first a left (b ∷ right) (both (is_lt (key_cmp a.0 b.0)) _ (subst (λ o. T (is_lt o)) (sym lt) tt) (below_less a.0 b.0 right lt (first _ _ sorted)))

  pub right_first : key_cmp a.0 b.0 ≡ Greater → merged (a ∷ left) (b ∷ right) ≡ b ∷ merged (a ∷ left) right
  right_first gt = ap (dict_of right) (put_by b.0 b.1 a left Less (turned a.0 b.0 Greater gt)) ∙ stays_first b (a ∷ left) right (first _ _ sorted)

  pub right_wins : key_cmp a.0 b.0 ≡ Equal → merged (a ∷ left) (b ∷ right) ≡ b ∷ merged left right
  right_wins eq =
      ap (dict_of right) (put_by b.0 b.1 a left Equal (turned a.0 b.0 Equal eq) ∙ ap (λ k. (k, b.1) ∷ left) (same_key a.0 b.0 eq))
      ∙ stays_first b left right (first _ _ sorted)

abbrev Pair : Type 0
Pair = List ℕ × Value

-- the same of dictionaries that have such fronts
pub next_less : (left right behind beyond : Pairs) (a b : Pair) → left ≡ a ∷ behind → right ≡ b ∷ beyond → T (is_sorted right) → key_cmp a.0 b.0 ≡ Less → merged left right ≡ a ∷ merged behind right
next_less left right behind beyond a b e f sorted lt =
    (λ i. merged (e i) (f i)) ∙ left_first a b behind beyond (subst (λ ps. T (is_sorted ps)) f sorted) lt ∙ ap (λ ps. a ∷ merged behind ps) (sym f)

pub next_equal : (left right behind beyond : Pairs) (a b : Pair) → left ≡ a ∷ behind → right ≡ b ∷ beyond → T (is_sorted right) → key_cmp a.0 b.0 ≡ Equal → merged left right ≡ b ∷ merged behind beyond
next_equal left right behind beyond a b e f sorted eq =
    (λ i. merged (e i) (f i)) ∙ right_wins a b behind beyond (subst (λ ps. T (is_sorted ps)) f sorted) eq

pub next_greater : (left right behind beyond : Pairs) (a b : Pair) → left ≡ a ∷ behind → right ≡ b ∷ beyond → T (is_sorted right) → key_cmp a.0 b.0 ≡ Greater → merged left right ≡ b ∷ merged left beyond
next_greater left right behind beyond a b e f sorted gt =
    (λ i. merged (e i) (f i)) ∙ right_first a b behind beyond (subst (λ ps. T (is_sorted ps)) f sorted) gt ∙ ap (λ ps. b ∷ merged ps beyond) (sym e)

pub beyond_sorted : (right beyond : Pairs) (b : Pair) → right ≡ b ∷ beyond → T (is_sorted right) → T (is_sorted beyond)
beyond_sorted right beyond b f sorted = second (entries.below_all key_cmp b.0 beyond) _ (subst (λ ps. T (is_sorted ps)) f sorted)

-- nothing is left of one
pub next_left : (left right behind : Pairs) (a : Pair) → left ≡ a ∷ behind → right ≡ [] → merged left right ≡ a ∷ merged behind right
next_left left right behind a e none = (λ i. merged (e i) (none i)) ∙ ap (λ ps. a ∷ merged behind ps) (sym none)

pub next_right : (left right beyond : Pairs) (b : Pair) → left ≡ [] → right ≡ b ∷ beyond → T (is_sorted right) → merged left right ≡ b ∷ merged left beyond
next_right left right beyond b none f sorted =
    ap (λ ps. merged ps right) none ∙ dict_of_sorted right sorted ∙ f
    ∙ sym (ap (λ ps. b ∷ ps) (ap (λ ps. merged ps beyond) none ∙ dict_of_sorted beyond (beyond_sorted right beyond b f sorted)))

pub next_none : (left right : Pairs) → left ≡ [] → right ≡ [] → merged left right ≡ []
next_none left right none too = (λ i. merged (none i) (too i))

pub merges_in_order : (left right : Pairs) → T (is_sorted left) → T (is_sorted (merged left right))
merges_in_order left right h = dict_of-sorted right left h

pub merges : (left right : Pairs) → T (is_sorted left) → T (is_sorted right) → IsMerged left right (merged left right)
merges left right h k = record { values = λ key. find_dict_of key right left k; sorted = dict_of-sorted right left h }
