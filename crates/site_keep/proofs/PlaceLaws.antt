-- Places in lists.
use Rattle.std.proofs.Common.{◌≡◌, ◌≢◌, ℕ, zero, suc, ◌<◌, List, [], ◌∷◌, map, length, slice_get, set, Option, Some, None, All, Contains, inl, inr, refl, sym, ap, ◌∙◌, arith, subst}
use Rattle.std.specs.List.{AllByRecursion}
use Rattle.std.proofs.lemmas.Bool.{cases_lt}
use Rattle.std.proofs.lemmas.List.{get_or-set_other, get_or-set_same, length-set}
use Rattle.std.proofs.lemmas.List.Elements.{All-head, All-tail}
use Rattle.std.proofs.lemmas.Option.{get_or_from_slice_get, same_Some, slice_get-get_or, slice_get_past, slice_get_within}
use Rattle.site_model.specs.Names.{place_of, IsPlaceOf}
use Rattle.site_model.specs.Sound.{AreDistinct}
use Rattle.site_model.proofs.Places.{place_is}

pub set_here : {X : Type 0} (xs : List X) (i : ℕ) (x : X) → i < length xs → slice_get (set xs i x) i ≡ Some x
set_here xs i x within = slice_get-get_or (set xs i x) i x (omega (arith, length-set xs i x, within)) ∙ ap Some (get_or-set_same xs i x x within)

pub set_elsewhere : {X : Type 0} (xs : List X) (i j : ℕ) (x : X) → j ≢ i → slice_get (set xs i x) j ≡ slice_get xs j
set_elsewhere xs i j x apart = elim (cases_lt j (length xs)) [
  | inl lt ↦ slice_get-get_or (set xs i x) j x (omega (arith, length-set xs i x, lt)) ∙ ap Some (get_or-set_other xs i j x x apart) ∙ sym (slice_get-get_or xs j x lt)
  | inr le ↦ slice_get_past (set xs i x) j (omega (arith, length-set xs i x, le)) ∙ sym (slice_get_past xs j le)
]

-- no two places have the same
pub same_place : {X : Type 0} (xs : List X) (x : X) (i j : ℕ) → AreDistinct xs → slice_get xs i ≡ Some x → slice_get xs j ≡ Some x → i ≡ j
same_place xs x i j apart here there =
    let at = get_or_from_slice_get xs i x x here in
    let other = get_or_from_slice_get xs j x x there in
    elim (cases_lt i j) [
      | inl lt ↦ absurd (apart i j x lt (slice_get_within xs j x there) (at ∙ sym other))
      | inr le ↦ elim (cases_lt j i) [
        | inl gt ↦ absurd (apart j i x gt (slice_get_within xs i x here) (other ∙ sym at))
        | inr ge ↦ omega (arith, le, ge)
      ]
    ]

pub place_at : (names : List (List ℕ)) (name : List ℕ) (k : ℕ) → place_of name names ≡ Some k → slice_get names k ≡ Some name
place_at names name k e = subst (IsPlaceOf name names) e (place_is name names)

pub place_found : (names : List (List ℕ)) (name : List ℕ) (k : ℕ) → AreDistinct names → slice_get names k ≡ Some name → place_of name names ≡ Some k
place_found names name k apart at = by (place_of name names) refl (place_is name names)
  where
    by : (r : Option ℕ) → place_of name names ≡ r → IsPlaceOf name names r → place_of name names ≡ Some k
    by None e lacks = absurd (lacks (k, slice_get_within names k name at, get_or_from_slice_get names k name _ at))
    by (Some j) e there = e ∙ ap Some (same_place names name j k apart there at)

pub contains_at : {X : Type 0} (xs : List X) (x : X) (k : ℕ) → slice_get xs k ≡ Some x → Contains xs x
contains_at xs x k at = (k, slice_get_within xs k x at, get_or_from_slice_get xs k x _ at)

pub at_contained : {X : Type 0} (xs : List X) (x : X) → Contains xs x → (k : ℕ) × (slice_get xs k ≡ Some x)
at_contained xs x c = (c.0, slice_get-get_or xs c.0 x c.1 ∙ ap Some c.2)

-- All, one after the other.

pub all_at : {X : Type 0} (P : X → Type 0) (xs : List X) (k : ℕ) (x : X) → AllByRecursion P xs → slice_get xs k ≡ Some x → P x
all_at P [] k x h at = absurd cc
all_at P (y ∷ ys) zero x h at = subst P (same_Some y x at) h.0
all_at P (y ∷ ys) (suc k) x h at = all_at P ys k x h.1 at

pub all_by_place : {X : Type 0} (P : X → Type 0) (xs : List X) → ((k : ℕ) (x : X) → slice_get xs k ≡ Some x → P x) → AllByRecursion P xs
all_by_place P [] h = tt
all_by_place P (x ∷ xs) h = (h zero x refl, all_by_place P xs (λ k y at. h (suc k) y at))

pub one_by_one : {X : Type 0} (P : X → Type 0) (xs : List X) → All P xs → AllByRecursion P xs
one_by_one P [] h = tt
one_by_one P (x ∷ xs) h = (All-head P x xs h, one_by_one P xs (All-tail P x xs h))

pub same_at_each : {X : Type 0} (xs ys : List X) → length xs ≡ length ys → ((k : ℕ) (x y : X) → slice_get xs k ≡ Some x → slice_get ys k ≡ Some y → x ≡ y) → xs ≡ ys
same_at_each [] [] l h = refl
same_at_each [] (y ∷ ys) l h = absurd (omega (arith, l))
same_at_each (x ∷ xs) [] l h = absurd (omega (arith, l))
same_at_each (x ∷ xs) (y ∷ ys) l h = ap (λ z. z ∷ xs) (h zero x y refl refl) ∙ ap (λ z. y ∷ z) (same_at_each xs ys (omega (arith, l)) (λ k a b. h (suc k) a b))

pub some_at : {X : Type 0} (xs : List X) (k : ℕ) → k < length xs → (x : X) × (slice_get xs k ≡ Some x)
some_at [] k h = absurd (omega arith)
some_at (x ∷ xs) zero h = (x, refl)
some_at (x ∷ xs) (suc k) h = some_at xs k (omega arith)

pub map_at : {X Y : Type 0} (f : X → Y) (xs : List X) (k : ℕ) (x : X) → slice_get xs k ≡ Some x → slice_get (map f xs) k ≡ Some (f x)
map_at f [] k x at = absurd cc
map_at f (y ∷ ys) zero x at = ap Some (ap f (same_Some y x at))
map_at f (y ∷ ys) (suc k) x at = map_at f ys k x at
