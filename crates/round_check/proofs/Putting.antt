-- One shelf of many gets one more, and what an answer says.
use Rattle.std.proofs.Common.{◌≡◌, ◌≢◌, ◌<◌, ℕ, zero, suc, List, [], ◌∷◌, ◌++◌, length, set, slice_get, nat_eq, cond, Bool, true, false, Some, None, Option, refl, sym, ap, ◌∙◌, subst, arith, eqb-true, eq-eqb}
use Rattle.std.proofs.lemmas.List.{append-nil}
use Rattle.round_check.specs.declared.shelf.Shelf.{Shelf}
use Rattle.round_check.specs.declared.walking.Place.{Place}
use Rattle.round_check.specs.Kept.{shelf_at, shelved}
use Rattle.round_check.specs.Shelves.{listed}

get_set_same : {A : Type 0} (xs : List A) (c : ℕ) (x y : A) → slice_get xs c ≡ Some x → slice_get (set xs c y) c ≡ Some y
get_set_same [] c x y h = absurd cc
get_set_same (z ∷ xs) zero x y h = refl
get_set_same (z ∷ xs) (suc c) x y h = get_set_same xs c x y h

get_set_apart : {A : Type 0} (xs : List A) (c k : ℕ) (y : A) → c ≢ k → slice_get (set xs c y) k ≡ slice_get xs k
get_set_apart [] c k y n = refl
get_set_apart (z ∷ xs) zero zero y n = absurd (n refl)
get_set_apart (z ∷ xs) zero (suc k) y n = refl
get_set_apart (z ∷ xs) (suc c) zero y n = refl
get_set_apart (z ∷ xs) (suc c) (suc k) y n = get_set_apart xs c k y (λ e. n (ap suc e))

pub shelf_put : (own : List (Shelf Place)) (c k q : ℕ) (shelf new : Shelf Place) (more : List Place) → slice_get own c ≡ Some shelf → listed new.lists.entries q ≡ listed shelf.lists.entries q ++ more → shelf_at (set own c new) k q ≡ shelf_at own k q ++ cond (nat_eq c k) more []
shelf_put own c k q shelf new more at put = by (nat_eq c k) refl
  where
    by : (b : Bool) → nat_eq c k ≡ b → shelf_at (set own c new) k q ≡ shelf_at own k q ++ cond b more []
    by true e =
        let same : c ≡ k = eqb-true c k e in
        subst (λ z. shelf_at (set own c new) z q ≡ shelf_at own z q ++ more) same
        (ap (λ o. shelved o q) (get_set_same own c shelf new at) ∙ put ∙ ap (λ o. shelved o q ++ more) (sym at))
    by false e =
        let apart : c ≢ k = λ h. let w : true ≡ false = sym (eq-eqb c k h) ∙ e in absurd cc in
        ap (λ o. shelved o q) (get_set_apart own c k new apart) ∙ sym (append-nil (shelf_at own k q))

-- an answer that comes only where a test holds
pub if_some : {A : Type 0} (b : Bool) (x y : A) → Some x ≡ cond b (Some y) None → (b ≡ true) × (x ≡ y)
if_some true x y h = (refl, (let e : x ≡ y = cc in e))
if_some false x y h = absurd cc

pub if_none : {A : Type 0} (b : Bool) (y : A) → None ≡ cond b (Some y) None → b ≡ false
if_none true y h = absurd cc
if_none false y h = refl

-- a caller that has something on a shelf is one of them
pub caller_within : {A : Type 0} (shelves : List (Shelf A)) (k p n : ℕ) (v : A) → slice_get (shelf_at shelves k p) n ≡ Some v → k < length shelves
caller_within [] k p n v h = absurd cc
caller_within (y ∷ ys) zero p n v h = omega arith
caller_within (y ∷ ys) (suc k) p n v h = let l = caller_within ys k p n v h in omega (arith, l)
