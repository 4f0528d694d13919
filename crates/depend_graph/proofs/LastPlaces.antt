-- Laws of the last places of numbers in a list.
use Rattle.std.proofs.Common.{◌≡◌, ◌<◌, ◌+◌, ℕ, suc, List, [], ◌∷◌, ◌++◌, length, get_or, nat_eq, ◌||◌, cond, Bool, true, false, Option, None, Some, refl, sym, ap, ◌∙◌, arith, eqb-true}
use Rattle.std.specs.Option.{option_or, IfNone, IfSome}
use Rattle.depend_graph.specs.Parents.{has}
use Rattle.depend_graph.specs.Positions.{last_place}
use Rattle.depend_graph.proofs.Has.{eq_back, false_from, never_both}

-- one more at the end stands there
pub place_push : (n m k : ℕ) (ns : List ℕ) → last_place n k (ns ++ m ∷ []) ≡ cond (nat_eq m n) (Some (k + length ns)) (last_place n k ns)
place_push n m k [] = by (nat_eq m n)
  where
    here : k ≡ k + 0
    here = omega arith

    by : (t : Bool) → cond t (Some k) None ≡ cond t (Some (k + 0)) None
    by true = ap Some here
    by false = refl
place_push n m k (x ∷ xs) = ap (λ o. option_or o (cond (nat_eq x n) (Some k) None)) (place_push n m (suc k) xs) ∙ by (nat_eq m n)
  where
    on : suc k + length xs ≡ k + suc (length xs)
    on = omega arith

    by : (t : Bool) → option_or (cond t (Some (suc k + length xs)) (last_place n (suc k) xs)) (cond (nat_eq x n) (Some k) None)
        ≡ cond t (Some (k + suc (length xs))) (option_or (last_place n (suc k) xs) (cond (nat_eq x n) (Some k) None))
    by true = ap Some on
    by false = refl

-- a number stands at its place
found : (n k p : ℕ) (ns : List ℕ) → last_place n k ns ≡ Some p → (i : ℕ) × (k + i ≡ p) × (i < length ns) × (get_or ns i 0 ≡ n)
found n k p [] h = absurd cc
found n k p (m ∷ ms) h = by (last_place n (suc k) ms) refl (nat_eq m n) refl (found n (suc k) p ms) h
  where
    by : (o : Option ℕ) → last_place n (suc k) ms ≡ o → (t : Bool) → nat_eq m n ≡ t
        → (last_place n (suc k) ms ≡ Some p → (i : ℕ) × (suc k + i ≡ p) × (i < length ms) × (get_or ms i 0 ≡ n))
        → option_or o (cond t (Some k) None) ≡ Some p → (i : ℕ) × (k + i ≡ p) × (i < length (m ∷ ms)) × (get_or (m ∷ ms) i 0 ≡ n)
    by (Some q) e t f rest h = let r = rest (e ∙ h) in (suc r.0, omega (arith, r.1), omega (arith, r.2), r.3)
    by None e true f rest h = let same : k ≡ p = cc in (0, omega (arith, same), omega arith, eqb-true m n f)
    by None e false f rest h = absurd cc

-- and one without a place stands nowhere
none : (n k : ℕ) (ns : List ℕ) → last_place n k ns ≡ None → has n ns ≡ false
none n k [] h = refl
none n k (m ∷ ms) h = by (last_place n (suc k) ms) refl (nat_eq m n) refl (none n (suc k) ms) h
  where
    by : (o : Option ℕ) → last_place n (suc k) ms ≡ o → (t : Bool) → nat_eq m n ≡ t → (last_place n (suc k) ms ≡ None → has n ms ≡ false)
        → option_or o (cond t (Some k) None) ≡ None → (nat_eq n m || has n ms) ≡ false
    by (Some q) e t f rest h = absurd cc
    by None e true f rest h = absurd cc
    by None e false f rest h = ap (λ b. b || has n ms) (false_from (nat_eq n m) (λ q. never_both (eq_back n m q) f)) ∙ rest e

-- The same of an answer.

pub place_low : (n : ℕ) (ns : List ℕ) (r : Option ℕ) → r ≡ last_place n 0 ns → IfSome r (λ k. k < length ns)
place_low n ns None h = tt
place_low n ns (Some k) h = let f = found n 0 k ns (sym h) in omega (arith, f.1, f.2)

pub place_has : (n : ℕ) (ns : List ℕ) (r : Option ℕ) → r ≡ last_place n 0 ns → IfSome r (λ k. get_or ns k 0 ≡ n)
place_has n ns None h = tt
place_has n ns (Some k) h =
    let f = found n 0 k ns (sym h) in
    let same : k ≡ f.0 = omega (arith, f.1) in ap (λ i. get_or ns i 0) same ∙ f.3

pub place_none : (n : ℕ) (ns : List ℕ) (r : Option ℕ) → r ≡ last_place n 0 ns → IfNone r (has n ns ≡ false)
place_none n ns None h = none n 0 ns (sym h)
place_none n ns (Some k) h = tt
