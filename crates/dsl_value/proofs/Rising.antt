-- Pairs that are put in one after another.
use Rattle.std.proofs.Common.{◌≡◌, ℕ, suc, Bool, true, false, cond, ◌&&◌, T, Option, Some, None, List, [], ◌∷◌, ◌++◌, length, get_or, ◌+◌, refl, sym, ap, subst, ◌∙◌, arith}
use Rattle.std.specs.List.{AllAdjacentBelow}
use Rattle.std.specs.Ordering.{match_ordering, ordering_reverse, is_lt, eq_by_cmp}
use Rattle.std.specs.FinMap.Entries as entries
use Rattle.std.specs.declared.cmp.Ordering.{Ordering}
use Rattle.std.specs.declared.cmp.Ordering.TheVariants.{Less, Equal, Greater}
use Rattle.std.proofs.lemmas.Cmp.{nat_list_cmp_total}
use Rattle.std.proofs.lemmas.List.{append_assoc, append-nil}
use Rattle.std.proofs.Math.Seq.{get_or-append_seam}
use Rattle.dsl_value.specs.Contents.{PlainCell, array, cell_at}
use Rattle.dsl_value.specs.declared.value.Value.{Value}
use Rattle.dsl_value.specs.Pairs.{Pairs, key_cmp, is_sorted, find, put, dict_of, or_found, last_of}
use Rattle.dsl_value.proofs.Places.{put_entry, sorted_put}

pub both : (a b : Bool) → T a → T b → T (a && b)
both true b p q = q
both false b p q = p

pub first : (a b : Bool) → T (a && b) → T a
first true b p = tt
first false b p = p

pub second : (a b : Bool) → T (a && b) → T b
second true b p = p
second false b p = absurd p

pub less : (o : Ordering) → T (is_lt o) → o ≡ Less
less Less p = refl
less Equal p = absurd p
less Greater p = absurd p

pub below_seam : (key k : List ℕ) (v : Value) (es ps : Pairs) → T (entries.below_all key_cmp key (es ++ (k, v) ∷ ps)) → key_cmp k key ≡ Greater
below_seam key k v [] ps h = nat_list_cmp_total.antisymm k key ∙ ap ordering_reverse (less _ (first _ _ h))
below_seam key k v (e ∷ es) ps h = below_seam key k v es ps (second _ _ h)

-- a key above all goes to the end
put_last : (k : List ℕ) (v : Value) (es ps : Pairs) → T (is_sorted (es ++ (k, v) ∷ ps)) → put k v es ≡ es ++ (k, v) ∷ []
put_last k v [] ps h = refl
put_last k v (e ∷ es) ps h =
    ap (λ o. match_ordering o ((k, v) ∷ e ∷ es) ((e.0, v) ∷ es) (e ∷ put k v es)) (below_seam e.0 k v es ps (first _ _ h))
    ∙ ap (λ xs. e ∷ xs) (put_last k v es ps (second _ _ h))

put_behind : (es ps : Pairs) → T (is_sorted (es ++ ps)) → dict_of ps es ≡ es ++ ps
put_behind es [] h = sym (append-nil es)
put_behind es (p ∷ ps) h =
    ap (dict_of ps) (put_last p.0 p.1 es ps h)
    ∙ put_behind (es ++ p ∷ []) ps (subst (λ xs. T (is_sorted xs)) (sym (append_assoc es (p ∷ []) ps)) h)
    ∙ append_assoc es (p ∷ []) ps

-- pairs whose keys rise stay as they are
pub dict_of_sorted : (ps : Pairs) → T (is_sorted ps) → dict_of ps [] ≡ ps
dict_of_sorted ps h = put_behind [] ps h

below_less : (x y : List ℕ) (es : Pairs) → key_cmp x y ≡ Less → T (entries.below_all key_cmp y es) → T (entries.below_all key_cmp x es)
below_less x y [] p h = tt
below_less x y (e ∷ es) p h = both _ _ (subst (λ o. T (is_lt o)) (sym (nat_list_cmp_total.trans x y e.0 p (less _ (first _ _ h)))) tt) (below_less x y es p (second _ _ h))

one_more : (m : ℕ) → m + 1 ≡ suc m
one_more m = omega arith

one_on : (p q : List ℕ × Value) (ps : Pairs) (k : ℕ) (d : List ℕ × Value) → true ≡ is_lt (key_cmp (get_or (p ∷ q ∷ ps) (k + 1) d).0 (get_or (p ∷ q ∷ ps) (k + 1 + 1) d).0)
    → true ≡ is_lt (key_cmp (get_or (q ∷ ps) k d).0 (get_or (q ∷ ps) (k + 1) d).0)
one_on p q ps k d h = subst (λ b. b) (λ j. true ≡ is_lt (key_cmp (get_or (p ∷ q ∷ ps) (one_more k j) d).0 (get_or (p ∷ q ∷ ps) (one_more (k + 1) j) d).0)) h

-- pairs of which each key is above the one before it are sorted
pub risen : (ps : Pairs) → AllAdjacentBelow (λ p q. true ≡ is_lt (key_cmp p.0 q.0)) ps (length ps) → T (is_sorted ps)
risen [] h = tt
risen (p ∷ []) h = tt
risen (p ∷ q ∷ ps) h =
    let rest = risen (q ∷ ps) (λ k d inside. one_on p q ps k d (h (k + 1) d (omega (arith, inside)))) in
    let here = subst (λ b. T b) (h 0 q (omega arith)) tt in
    both _ _ (both _ _ here (below_less p.0 q.0 ps (less _ here) (first _ _ rest))) rest

case_last : (l : Option Value) (b : Bool) (v : Value) (o : Option Value) → or_found l (cond b (Some v) o) ≡ or_found (or_found l (cond b (Some v) None)) o
case_last (Some w) b v o = refl
case_last None true v o = refl
case_last None false v o = refl

finds_last : (key : List ℕ) (ps sorted : Pairs) → find key (dict_of ps sorted) ≡ or_found (last_of key ps) (find key sorted)
finds_last key [] sorted = refl
finds_last key (p ∷ ps) sorted =
    finds_last key ps (put p.0 p.1 sorted)
    ∙ ap (or_found (last_of key ps)) (ap (find key) (sym (put_entry p.0 p.1 sorted)) ∙ entries.find-put key_cmp nat_list_cmp_total key p.0 p.1 sorted)
    ∙ case_last (last_of key ps) (eq_by_cmp key_cmp key p.0) p.1 (find key sorted)

none_found : (o : Option Value) → or_found o None ≡ o
none_found (Some v) = refl
none_found None = refl

-- of equal keys the last wins
pub last_wins : (key : List ℕ) (ps : Pairs) → find key (dict_of ps []) ≡ last_of key ps
last_wins key ps = finds_last key ps [] ∙ none_found (last_of key ps)

-- a cell that is added is the last one
pub added_last : (frozen live new : List PlainCell) (c : PlainCell) (n : ℕ) → new ≡ live ++ c ∷ [] → length (frozen ++ live) ≡ n → cell_at (frozen ++ new) n ≡ c
added_last frozen live new c n e long =
    ap (λ ks. cell_at (frozen ++ ks) n) e ∙ ap (λ ks. cell_at ks n) (sym (append_assoc frozen live (c ∷ []))) ∙ ap (cell_at ((frozen ++ live) ++ c ∷ [])) (sym long)
    ∙ get_or-append_seam (frozen ++ live) c [] (array [])

sorted_after : (ps sorted : Pairs) → T (is_sorted sorted) → T (is_sorted (dict_of ps sorted))
sorted_after [] sorted h = h
sorted_after (p ∷ ps) sorted h = sorted_after ps (put p.0 p.1 sorted) (sorted_put p.0 p.1 sorted h)

-- pairs that are put in one after another are sorted
pub sorted_dict_of : (ps qs : Pairs) → qs ≡ dict_of ps [] → T (is_sorted qs)
sorted_dict_of ps qs e = subst (λ rs. T (is_sorted rs)) (sym e) (sorted_after ps [] tt)
