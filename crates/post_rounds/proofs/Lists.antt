-- Lists by index, and histories of which one grows.
use Rattle.std.proofs.Common.{◌≡◌, ◌≢◌, ◌⊎◌, ℕ, zero, suc, ◌<◌, ◌≤◌, List, [], ◌∷◌, ◌++◌, length, take, set, filter, slice_get, Bool, true, false, Some, refl, sym, ap, ◌∙◌, subst, inl, inr, ⊎_elim, arith, length-append}
use Rattle.std.proofs.lemmas.List.{get_or-set_same, get_or-set_other, take-append-le}
use Rattle.std.proofs.lemmas.Option.{same_Some}
use native.Mathlib.Decide.{ℕ_discrete}
use Rattle.post_turn.specs.History.{IsFront}
use Rattle.post_turn.proofs.Lists.{front_refl}
use Rattle.post_rounds.specs.Rounds.{at_post}

-- by whether two places are one
pub by_place : {P : Type 0} (p q : ℕ) → (p ≡ q → P) → (p ≢ q → P) → P
by_place {P = P} p q same other = by (ℕ_discrete p q)
  where
    by : Dec (p ≡ q) → P
    by (yes e) = same e
    by (no e) = other e

module _ {A : Type 0} where
  -- an element of a list with one more at its end
  pub snoc_get : (xs : List A) (x y : A) (i : ℕ) → slice_get (xs ++ x ∷ []) i ≡ Some y → (slice_get xs i ≡ Some y) ⊎ ((i ≡ length xs) × (x ≡ y))
  snoc_get [] x y zero e = inr (refl, same_Some x y e)
  snoc_get [] x y (suc i) e = absurd cc
  snoc_get (z ∷ xs) x y zero e = inl e
  snoc_get (z ∷ xs) x y (suc i) e = ⊎_elim inl (λ t. inr (ap suc t.0, t.1)) (snoc_get xs x y i e)

  pub front_take : (xs ys : List A) (n : ℕ) → IsFront xs ys → n ≤ length xs → take n ys ≡ take n xs
  front_take xs ys n f h = ap (take n) f.whole ∙ take-append-le n xs f.rest h

  pub front_length : (xs ys : List A) → IsFront xs ys → length xs ≤ length ys
  front_length xs ys f = let e = ap length f.whole in let l = length-append xs f.rest in omega arith

  pub front_more : (xs : List A) (x : A) → IsFront xs (xs ++ x ∷ [])
  front_more xs x = record { rest = x ∷ []; whole = refl }

  pub keep_one : (f : A → Bool) (x : A) → f x ≡ true → filter f (x ∷ []) ≡ x ∷ []
  keep_one f x h = rw h refl

  pub keep_none : (f : A → Bool) (x : A) → f x ≡ false → filter f (x ∷ []) ≡ []
  keep_none f x h = rw h refl

-- every history begins as before
abbrev pub Longer : {E : Type 0} → List (List E) → List (List E) → Type 0
Longer old new = (p : ℕ) → IsFront (at_post old p) (at_post new p)

module _ {E : Type 0} where
  pub at_set : (hs : List (List E)) (p : ℕ) (h : List E) → p < length hs → at_post (set hs p h) p ≡ h
  at_set hs p h l = get_or-set_same hs p h [] l

  pub at_other : (hs : List (List E)) (p q : ℕ) (h : List E) → p ≢ q → at_post (set hs p h) q ≡ at_post hs q
  at_other hs p q h e = get_or-set_other hs p q h [] (λ s. e (sym s))

  -- one history grows
  pub set_longer : (hs : List (List E)) (p : ℕ) (h : List E) → p < length hs → IsFront (at_post hs p) h → Longer hs (set hs p h)
  set_longer hs p h l f q = by_place p q
      (λ e. subst (λ r. IsFront (at_post hs r) (at_post (set hs p h) r)) e (subst (IsFront (at_post hs p)) (sym (at_set hs p h l)) f))
      (λ e. subst (IsFront (at_post hs q)) (sym (at_other hs p q h e)) (front_refl (at_post hs q)))

  -- what is read of histories stays where it is read of the one that changes
  pub set_same : {A : Type 0} (f : List E → A) (hs : List (List E)) (p : ℕ) (h : List E) → p < length hs → f h ≡ f (at_post hs p) → (q : ℕ) → f (at_post (set hs p h) q) ≡ f (at_post hs q)
  set_same f hs p h l is q = by_place p q
      (λ e. subst (λ r. f (at_post (set hs p h) r) ≡ f (at_post hs r)) e (ap f (at_set hs p h l) ∙ is))
      (λ e. ap f (at_other hs p q h e))
