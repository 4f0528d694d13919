-- Lemmas on lists that std lacks: filters together, with `map`, and along a permutation.
use Rattle.std.proofs.Common.{◌≡◌, ℕ, zero, suc, ◌<◌, ◌≤◌, Bool, true, false, not, ◌&&◌, ◌||◌, cond, List, [], ◌∷◌, ◌++◌, map, filter, length, get_or, set, take, drop, swap, refl, sym, ap, ◌∙◌, arith, IsPermutation, ◌+◌, add-one}
use Rattle.std.specs.List.{list_any, AllWithin}
use Rattle.std.specs.List.Sorted.{IsPartitionPoint}
use Rattle.std.proofs.lemmas.List.Sorted.{IsPermutation-refl, IsPermutation-cons, IsPermutation-trans, IsPermutation-append_comm, IsPermutation-append_left, IsPermutation-keeps}

module _ {X : Type 0} where
  -- an inner filter that keeps what the outer one keeps changes nothing
  pub filter_within : (p q : X → Bool) → ((x : X) → q x ≡ false → p x ≡ false) → (xs : List X) → filter p (filter q xs) ≡ filter p xs
  filter_within p q h [] = refl
  filter_within p q h (x ∷ xs) =
      let by : (b : Bool) → q x ≡ b → filter p (cond b (x ∷ filter q xs) (filter q xs)) ≡ filter p (x ∷ xs) =
      λ b. elim b as (λ b. q x ≡ b → filter p (cond b (x ∷ filter q xs) (filter q xs)) ≡ filter p (x ∷ xs)) [
        | true ↦ λ e. ap (λ r. cond (p x) (x ∷ r) r) (filter_within p q h xs)
        | false ↦ λ e. filter_within p q h xs ∙ sym (ap (λ b. cond b (x ∷ filter p xs) (filter p xs)) (h x e))
      ] in
      by (q x) refl

  -- two filters are one by both tests
  pub filter_twice : (p q : X → Bool) (xs : List X) → filter p (filter q xs) ≡ filter (λ x. q x && p x) xs
  filter_twice p q [] = refl
  filter_twice p q (x ∷ xs) =
      elim (q x) as (λ b. filter p (cond b (x ∷ filter q xs) (filter q xs)) ≡ cond (b && p x) (x ∷ filter (λ x. q x && p x) xs) (filter (λ x. q x && p x) xs))
      [ true ↦ ap (λ r. cond (p x) (x ∷ r) r) (filter_twice p q xs) | false ↦ filter_twice p q xs ]

  -- the same where the outer filter looks at what f makes of an element
  pub filter_map_within : {Y : Type 0} (p : Y → Bool) (f : X → Y) (q : X → Bool) → ((x : X) → q x ≡ false → p (f x) ≡ false) → (xs : List X) → filter p (map f (filter q xs)) ≡ filter p (map f xs)
  filter_map_within p f q h [] = refl
  filter_map_within p f q h (x ∷ xs) =
      let by : (b : Bool) → q x ≡ b → filter p (map f (cond b (x ∷ filter q xs) (filter q xs))) ≡ filter p (map f (x ∷ xs)) =
      λ b. elim b as (λ b. q x ≡ b → filter p (map f (cond b (x ∷ filter q xs) (filter q xs))) ≡ filter p (map f (x ∷ xs))) [
        | true ↦ λ e. ap (λ r. cond (p (f x)) (f x ∷ r) r) (filter_map_within p f q h xs)
        | false ↦ λ e. filter_map_within p f q h xs ∙ sym (ap (λ b. cond b (f x ∷ filter p (map f xs)) (filter p (map f xs))) (h x e))
      ] in
      by (q x) refl

  -- what the test refuses may be left out before
  pub list_any_within : (p q : X → Bool) → ((x : X) → q x ≡ false → p x ≡ false) → (xs : List X) → list_any p (filter q xs) ≡ list_any p xs
  list_any_within p q h [] = refl
  list_any_within p q h (x ∷ xs) =
      let by : (b : Bool) → q x ≡ b → list_any p (cond b (x ∷ filter q xs) (filter q xs)) ≡ list_any p (x ∷ xs) =
      λ b. elim b as (λ b. q x ≡ b → list_any p (cond b (x ∷ filter q xs) (filter q xs)) ≡ list_any p (x ∷ xs)) [
        | true ↦ λ e. ap (λ r. p x || r) (list_any_within p q h xs)
        | false ↦ λ e. list_any_within p q h xs ∙ sym (ap (λ b. b || list_any p xs) (h x e))
      ] in
      by (q x) refl

  -- some element passes the test, of those that pass the filter
  pub list_any_filter : (p q : X → Bool) (xs : List X) → list_any p (filter q xs) ≡ list_any (λ x. p x && q x) xs
  list_any_filter p q [] = refl
  list_any_filter p q (x ∷ xs) =
      let rest = list_any (λ x. p x && q x) xs in
      let by : (a b : Bool) → list_any p (cond b (x ∷ filter q xs) (filter q xs)) ≡ cond b (p x || list_any p (filter q xs)) (list_any p (filter q xs)) =
      λ a b. elim b as (λ b. list_any p (cond b (x ∷ filter q xs) (filter q xs)) ≡ cond b (p x || list_any p (filter q xs)) (list_any p (filter q xs))) [ true ↦ refl | false ↦ refl ] in
      let ors : (a b : Bool) → cond b (a || rest) rest ≡ ((a && b) || rest) =
      λ a b. elim b as (λ b. cond b (a || rest) rest ≡ ((a && b) || rest)) [
        | true ↦ elim a as (λ a. (a || rest) ≡ ((a && true) || rest)) [ true ↦ refl | false ↦ refl ]
        | false ↦ elim a as (λ a. rest ≡ ((a && false) || rest)) [ true ↦ refl | false ↦ refl ]
      ] in
      by (p x) (q x) ∙ ap (λ r. cond (q x) (p x || r) r) (list_any_filter p q xs) ∙ ors (p x) (q x)

  -- writing the element that stands there changes nothing
  pub set_same : (xs : List X) (i : ℕ) (x : X) → i < length xs → x ≡ get_or xs i x → set xs i x ≡ xs
  set_same [] i x h e = absurd (omega arith)
  set_same (y ∷ xs) zero x h e = ap (λ z. z ∷ xs) e
  set_same (y ∷ xs) (suc i) x h e = ap (λ r. y ∷ r) (set_same xs i x (omega arith) e)

  -- a function that changes no element changes no list
  pub map_same : (f : X → X) → ((x : X) → f x ≡ x) → (xs : List X) → map f xs ≡ xs
  map_same f h [] = refl
  map_same f h (x ∷ xs) = rw (h x, map_same f h xs) refl

-- ---- a loop that puts f of each element in its place
module _ {X : Type 0} (f : X → X) where
  get_or-met : (before : List X) (i : ℕ) (d : X) → i < length before → get_or (map f (take i before) ++ drop i before) i d ≡ get_or before i d
  get_or-met [] i d h = absurd (omega arith)
  get_or-met (x ∷ xs) zero d h = refl
  get_or-met (x ∷ xs) (suc i) d h = get_or-met xs i d (omega arith)

  set-met : (before : List X) (i : ℕ) (d : X) → i < length before → set (map f (take i before) ++ drop i before) i (f (get_or before i d)) ≡ map f (take (suc i) before) ++ drop (suc i) before
  set-met [] i d h = absurd (omega arith)
  set-met (x ∷ xs) zero d h = refl
  set-met (x ∷ xs) (suc i) d h = ap (λ r. f x ∷ r) (set-met xs i d (omega arith))

  -- the loop's step: y is what f makes of the element at i
  pub met_more : (before now : List X) (i : ℕ) (x y : X) → now ≡ map f (take i before) ++ drop i before → i < length before → x ≡ get_or now i x → y ≡ f x → set now i y ≡ map f (take (i + 1) before) ++ drop (i + 1) before
  met_more before now i x y e h is made =
      let at : x ≡ get_or before i x = is ∙ ap (λ (l : List X). get_or l i x) e ∙ get_or-met before i x h in
      let here : y ≡ f (get_or before i x) = made ∙ ap f at in
      rw (add-one, e, here) (set-met before i x h)

-- A relation holds along each permutation if it is reflexive and transitive, and goes under a head and over an exchange of two heads.
module _ {X : Type 0} (R : List X → List X → Type 0) (same : (xs : List X) → R xs xs)
    (skip : (x : X) (xs ys : List X) → R xs ys → R (x ∷ xs) (x ∷ ys))
    (turn : (x y : X) (xs : List X) → R (x ∷ y ∷ xs) (y ∷ x ∷ xs))
    (chain : (xs ys zs : List X) → R xs ys → R ys zs → R xs zs) where
  to_head : (l : List X) (j : ℕ) (x d : X) → j < length l → R (x ∷ l) (get_or l j d ∷ set l j x)
  to_head [] j x d h = absurd (omega arith)
  to_head (y ∷ l) zero x d h = turn x y l
  to_head (y ∷ l) (suc j) x d h =
      chain _ _ _ (turn x y l) (chain _ _ _ (skip y _ _ (to_head l j x d (omega arith))) (turn y (get_or l j d) (set l j x)))

  exchanged : (l : List X) (i j : ℕ) (d : X) → i < length l → j < length l → R l (set (set l i (get_or l j d)) j (get_or l i d))
  exchanged [] i j d p q = absurd (omega arith)
  exchanged (x ∷ l) zero zero d p q = same (x ∷ l)
  exchanged (x ∷ l) zero (suc j) d p q = to_head l j x d (omega arith)
  exchanged (x ∷ l) (suc i) zero d p q = to_head l i x d (omega arith)
  exchanged (x ∷ l) (suc i) (suc j) d p q = skip x _ _ (exchanged l i j d (omega arith) (omega arith))

  swapped : (l : List X) (i j : ℕ) → i < length l → j < length l → R l (swap l i j)
  swapped [] i j p q = same []
  swapped (x ∷ l) i j p q = exchanged (x ∷ l) i j x p q

  -- so the same holds of two orders of one list
  pub along_permutation : (xs ys : List X) → IsPermutation xs ys → R xs ys
  along_permutation xs = IsPermutation-keeps xs (R xs) (same xs) (λ l i j p q h. chain xs l _ h (swapped l i j p q))

module _ {X : Type 0} (p : X → Bool) where
  filter_skip : (x : X) (xs ys : List X) → IsPermutation (filter p xs) (filter p ys) → IsPermutation (filter p (x ∷ xs)) (filter p (x ∷ ys))
  filter_skip x xs ys h =
      elim (p x) as (λ b. IsPermutation (cond b (x ∷ filter p xs) (filter p xs)) (cond b (x ∷ filter p ys) (filter p ys)))
      [ true ↦ IsPermutation-cons x _ _ h | false ↦ h ]

  filter_turn : (x y : X) (xs : List X) → IsPermutation (filter p (x ∷ y ∷ xs)) (filter p (y ∷ x ∷ xs))
  filter_turn x y xs =
      let r = filter p xs in
      let one : (b : Bool) → IsPermutation (cond b (x ∷ cond true (y ∷ r) r) (cond true (y ∷ r) r)) (cond true (y ∷ cond b (x ∷ r) r) (cond b (x ∷ r) r)) =
      λ b. elim b as (λ b. IsPermutation (cond b (x ∷ cond true (y ∷ r) r) (cond true (y ∷ r) r)) (cond true (y ∷ cond b (x ∷ r) r) (cond b (x ∷ r) r)))
      [ true ↦ IsPermutation-append_left r (x ∷ y ∷ []) (y ∷ x ∷ []) (IsPermutation-append_comm (x ∷ []) (y ∷ [])) | false ↦ IsPermutation-refl _ ] in
      let none : (b : Bool) → IsPermutation (cond b (x ∷ cond false (y ∷ r) r) (cond false (y ∷ r) r)) (cond false (y ∷ cond b (x ∷ r) r) (cond b (x ∷ r) r)) =
      λ b. IsPermutation-refl _ in
      elim (p y) as (λ a. IsPermutation (cond (p x) (x ∷ cond a (y ∷ r) r) (cond a (y ∷ r) r)) (cond a (y ∷ cond (p x) (x ∷ r) r) (cond (p x) (x ∷ r) r)))
      [ true ↦ one (p x) | false ↦ none (p x) ]

  -- filters keep permutations
  pub IsPermutation-filter : (xs ys : List X) → IsPermutation xs ys → IsPermutation (filter p xs) (filter p ys)
  IsPermutation-filter =
      along_permutation (λ xs ys. IsPermutation (filter p xs) (filter p ys)) (λ xs. IsPermutation-refl _) filter_skip filter_turn (λ xs ys zs. IsPermutation-trans _ _ _)

-- past the point up to which each fails the test, what is left is what passes it
module _ {X : Type 0} (past test : X → Bool) (other : (x : X) → test x ≡ not (past x)) where
  filter_whole : (xs : List X) → AllWithin (λ y. past y ≡ false) xs 0 (length xs) → xs ≡ filter test xs
  filter_whole [] h = refl
  filter_whole (x ∷ xs) h =
      let e : test x ≡ true = other x ∙ ap not (h 0 x (omega arith) (omega arith)) in
      rw e (ap (λ r. x ∷ r) (filter_whole xs (λ k d l u. h (suc k) d (omega arith) (omega arith))))

  pub filter_from_point : (xs : List X) (k : ℕ) → IsPartitionPoint (λ y. past y ≡ true) (λ y. past y ≡ false) xs k → k ≤ length xs → drop k xs ≡ filter test xs
  filter_from_point xs zero h u = filter_whole xs h.1
  filter_from_point [] (suc k) h u = refl
  filter_from_point (x ∷ xs) (suc k) h u =
      let e : test x ≡ false = other x ∙ ap not (h.0 0 x (omega arith) (omega arith)) in
      rw e (filter_from_point xs k ((λ j d l v. h.0 (suc j) d (omega arith) (omega arith)), (λ j d l v. h.1 (suc j) d (omega arith) (omega arith))) (omega arith))
