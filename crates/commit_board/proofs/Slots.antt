-- One slot of many is set.
use Rattle.std.proofs.Common.{arith, ◌≡◌, ℕ, zero, suc, ◌+◌, ◌-◌, ◌<◌, ◌≤◌, ◌==◌, List, [], ◌∷◌, ◌++◌, Bool, true, cond, not, length, map, slice_get, slice_set, Some, count_by, refl, sym, ap, ◌∙◌, subst}
use Rattle.std.proofs.lemmas.List.Sums.{sum_by-append}
use Rattle.std.proofs.lemmas.Bool.Decides.{nat_tests}
use Rattle.commit_board.specs.declared.slot.Slot.{Slot}
use Rattle.commit_board.specs.declared.slot.Slot.TheVariants.{Open, Claimed, Answered}
use Rattle.commit_board.specs.Boards.{Fits, has_answer, is_open, opens}
use Rattle.commit_board.specs.Places.{below, times}

-- what holds of each item at its place still does, if it does of the one that is set
pub stand_set : {X : Type 0} (F : ℕ → X → Type 0) (xs : List X) (i : ℕ) (x : X) → ((k : ℕ) (y : X) → slice_get xs k ≡ Some y → F k y) → F i x
    → (k : ℕ) (y : X) → slice_get (slice_set xs i x) k ≡ Some y → F k y
stand_set F [] i x all f k y e = all k y e
stand_set F (z ∷ zs) zero x all f zero y e = let same : x ≡ y = cc in subst (F zero) same f
stand_set F (z ∷ zs) zero x all f (suc k) y e = all (suc k) y e
stand_set F (z ∷ zs) (suc i) x all f zero y e = all zero y e
stand_set F (z ∷ zs) (suc i) x all f (suc k) y e = stand_set (λ n. F (suc n)) zs i x (λ n. all (suc n)) f k y e

pub length_set : {X : Type 0} (xs : List X) (i : ℕ) (x : X) → length (slice_set xs i x) ≡ length xs
length_set [] i x = refl
length_set (z ∷ zs) zero x = refl
length_set (z ∷ zs) (suc i) x = ap suc (length_set zs i x)

pub count_cons : {X : Type 0} (p : X → Bool) (x : X) (xs : List X) → count_by p (x ∷ xs) ≡ cond (p x) 1 0 + count_by p xs
count_cons p x xs = omega (arith, sum_by-append (λ z. cond (p z) 1 0) (x ∷ []) xs)

pub count_set : {X : Type 0} (p : X → Bool) (xs : List X) (i : ℕ) (x y : X) → slice_get xs i ≡ Some x → count_by p (slice_set xs i y) + cond (p x) 1 0 ≡ count_by p xs + cond (p y) 1 0
count_set p [] i x y e = absurd cc
count_set p (z ∷ zs) zero x y e = let same : z ≡ x = cc in omega (arith, count_cons p z zs, count_cons p y zs, ap {B = ℕ} (λ w. cond (p w) 1 0) same)
count_set p (z ∷ zs) (suc i) x y e = omega (arith, count_cons p z zs, count_cons p z (slice_set zs i y), count_set p zs i x y e)

pub count_one : {X : Type 0} (p : X → Bool) (xs : List X) (i : ℕ) (x : X) → slice_get xs i ≡ Some x → p x ≡ true → 1 ≤ count_by p xs
count_one p [] i x e f = absurd cc
count_one p (z ∷ zs) zero x e f = let same : z ≡ x = cc in omega (arith, count_cons p z zs, ap {B = ℕ} (λ w. cond (p w) 1 0) same, ap {B = ℕ} (λ b. cond b 1 0) f)
count_one p (z ∷ zs) (suc i) x e f = omega (arith, count_cons p z zs, count_one p zs i x e f)

-- so much at the place i, and nothing elsewhere
abbrev pub at_place : ℕ → ℕ → ℕ → ℕ
at_place i k n = cond (i == k) n 0

pub at_itself : (i n : ℕ) → at_place i i n ≡ n
at_itself i n = grind (arith, nat_tests)

pub at_none : (i k : ℕ) → at_place i k 0 ≡ 0
at_none i k = grind (arith, nat_tests)

pub at_later : (i k n : ℕ) → at_place (suc i) (suc k) n ≡ at_place i k n
at_later i k n = grind (arith, nat_tests)

pub opens_set : {T A : Type 0} (xs : List (Slot T A)) (i : ℕ) (x y : Slot T A) → slice_get xs i ≡ Some x
    → (k : ℕ) → opens (slice_get (slice_set xs i y) k) + at_place i k (opens (Some x)) ≡ opens (slice_get xs k) + at_place i k (opens (Some y))
opens_set [] i x y e k = absurd cc
opens_set (z ∷ zs) zero x y e zero = let same : z ≡ x = cc in omega (arith, ap {B = ℕ} (λ w. opens (Some w)) same)
opens_set (z ∷ zs) zero x y e (suc k) = grind (arith, nat_tests)
opens_set (z ∷ zs) (suc i) x y e zero = grind (arith, nat_tests)
opens_set (z ∷ zs) (suc i) x y e (suc k) = omega (arith, opens_set zs i x y e k, at_later i k (opens (Some x)), at_later i k (opens (Some y)))

pub times_more : (k : ℕ) (ps : List ℕ) (p : ℕ) → times k (ps ++ p ∷ []) ≡ times k ps + at_place p k 1
times_more k ps p = omega (arith, sum_by-append (λ x. cond (x == k) 1 0) ps (p ∷ []))

-- among the first so many is the last of them, besides those before it
pub below_less : (k n : ℕ) → 0 < n → below k n ≡ below k (n - 1) + at_place (n - 1) k 1
below_less k n l = grind (arith, nat_tests)

pub below_later : (k n : ℕ) → below (suc k) (suc n) ≡ below k n
below_later k n = grind (arith, nat_tests)

-- ---- slots of which all are open

module _ {T : Type 0} (A : Type 0) where
  abbrev pub all_open : List T → List (Slot T A)
  all_open ts = map (λ t. Open t) ts

  pub length_open : (ts : List T) → length (all_open ts) ≡ length ts
  length_open [] = refl
  length_open (t ∷ ts) = ap suc (length_open ts)

  pub opens_all : (ts : List T) (k : ℕ) → opens (slice_get (all_open ts) k) ≡ below k (length ts)
  opens_all [] k = grind (arith, nat_tests)
  opens_all (t ∷ ts) zero = grind (arith, nat_tests)
  opens_all (t ∷ ts) (suc k) = opens_all ts k ∙ sym (below_later k (length ts))

  pub count_open : (ts : List T) → count_by is_open (all_open ts) ≡ length ts
  count_open [] = refl
  count_open (t ∷ ts) = omega (arith, count_cons is_open (Open t) (all_open ts), count_open ts)

  pub count_unanswered : (ts : List T) → count_by (λ s. not (has_answer s)) (all_open ts) ≡ length ts
  count_unanswered [] = refl
  count_unanswered (t ∷ ts) = omega (arith, count_cons (λ s. not (has_answer s)) (Open t) (all_open ts), count_unanswered ts)

module _ {T : Type 0} {A : Type 0} where
  pub open_each : (asks : ℕ → T → Type 0) (gives : ℕ → A → Type 0) (ts : List T) → ((k : ℕ) (t : T) → slice_get ts k ≡ Some t → asks k t)
      → (k : ℕ) (s : Slot T A) → slice_get (map (λ t. Open t) ts) k ≡ Some s → Fits (asks k) (gives k) s
  open_each asks gives [] all k s e = absurd cc
  open_each asks gives (t ∷ ts) all zero s e = let same : Open t ≡ s = cc in subst (Fits (asks zero) (gives zero)) same (all zero t refl)
  open_each asks gives (t ∷ ts) all (suc k) s e = open_each (λ n. asks (suc n)) (λ n. gives (suc n)) ts (λ n. all (suc n)) k s e

  -- an open task has no answer
  open_at_most : (s : Slot T A) → cond (is_open s) 1 0 ≤ cond (not (has_answer s)) 1 0
  open_at_most (Open t) = omega arith
  open_at_most Claimed = omega arith
  open_at_most (Answered a) = omega arith

  pub open_without : (xs : List (Slot T A)) → count_by is_open xs ≤ count_by (λ s. not (has_answer s)) xs
  open_without [] = omega arith
  open_without (x ∷ xs) = omega (arith, count_cons is_open x xs, count_cons (λ s. not (has_answer s)) x xs, open_at_most x, open_without xs)
