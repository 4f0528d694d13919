-- Books that were taken out come back to their places.
use Rattle.std.proofs.Common.{◌≡◌, ◌≢◌, ℕ, zero, suc, ◌+◌, ◌-◌, ◌<◌, ◌≤◌, List, [], ◌∷◌, ◌++◌, length, set, take, get_or, ⊎_elim, refl, sym, ap, ◌∙◌, subst, arith, length-append}
use Rattle.std.specs.List.{swap_remove}
use Rattle.std.proofs.Math.Seq.{take-append_seam, get_or-append_seam}
use Rattle.std.proofs.lemmas.Bool.{cases_lt}
use Rattle.std.proofs.lemmas.List.{length-set, get_or-set_same}

module _ {A : Type 0} where
  -- a list with something in it has a last
  last_of : (xs : List A) → 0 < length xs → (front : List A) × (last : A) × (xs ≡ front ++ last ∷ [])
  last_of [] h = absurd (omega arith)
  last_of (x ∷ []) h = ([], x, refl)
  last_of (x ∷ y ∷ xs) h = let r = last_of (y ∷ xs) (omega arith) in (x ∷ r.0, r.1, ap (λ l. x ∷ l) r.2)

  set_front : (front : List A) (last x : A) (k : ℕ) → k < length front → set (front ++ last ∷ []) k x ≡ set front k x ++ last ∷ []
  set_front [] last x k h = absurd (omega arith)
  set_front (y ∷ front) last x zero h = refl
  set_front (y ∷ front) last x (suc k) h = ap (λ l. y ∷ l) (set_front front last x k (omega arith))

  set_last : (front : List A) (last x : A) → set (front ++ last ∷ []) (length front) x ≡ front ++ x ∷ []
  set_last [] last x = refl
  set_last (y ∷ front) last x = ap (λ l. y ∷ l) (set_last front last x)

  set_twice : (xs : List A) (k : ℕ) (x y : A) → set (set xs k x) k y ≡ set xs k y
  set_twice [] k x y = refl
  set_twice (z ∷ xs) zero x y = refl
  set_twice (z ∷ xs) (suc k) x y = ap (λ l. z ∷ l) (set_twice xs k x y)

  set_apart : (xs : List A) (j k : ℕ) (x y : A) → j ≢ k → set (set xs j x) k y ≡ set (set xs k y) j x
  set_apart [] j k x y e = refl
  set_apart (z ∷ xs) zero zero x y e = absurd (e refl)
  set_apart (z ∷ xs) zero (suc k) x y e = refl
  set_apart (z ∷ xs) (suc j) zero x y e = refl
  set_apart (z ∷ xs) (suc j) (suc k) x y e = ap (λ l. z ∷ l) (set_apart xs j k x y (λ s. e (ap suc s)))

  count_snoc : (front : List A) (last : A) → length (front ++ last ∷ []) - 1 ≡ length front
  count_snoc front last = let l = length-append front (last ∷ []) in omega (arith, l)

  removed_with : (front : List A) (last d : A) (k : ℕ) → swap_remove (front ++ last ∷ []) k d ≡ take (length front) (set (front ++ last ∷ []) k last)
  removed_with front last d k = (λ z. take (count_snoc front last z) (set (front ++ last ∷ []) k (get_or (front ++ last ∷ []) (count_snoc front last z) d))) ∙ ap (λ y. take (length front) (set (front ++ last ∷ []) k y)) (get_or-append_seam front last [] d)

  -- where one is taken out of a list, the last takes its place
  pub removed : (front : List A) (last d : A) (k : ℕ) → k < length front → swap_remove (front ++ last ∷ []) k d ≡ set front k last
  removed front last d k h =
      removed_with front last d k ∙ ap (take (length front)) (set_front front last last k h)
      ∙ ap (λ n. take n (set front k last ++ last ∷ [])) (sym (length-set front k last)) ∙ take-append_seam (set front k last) (last ∷ [])

  pub removed_last : (front : List A) (last d : A) → swap_remove (front ++ last ∷ []) (length front) d ≡ front
  removed_last front last d = removed_with front last d (length front) ∙ ap (take (length front)) (set_last front last last) ∙ take-append_seam front (last ∷ [])

  module _ (all : List A) (k : ℕ) (h : k < length all) (d x : A) where
    -- another one comes to its place, and the one that stands there is the last again
    pub put_inside : k < length (swap_remove all k d) → (e : A) → set (swap_remove all k d) k x ++ get_or (swap_remove all k d) k e ∷ [] ≡ set all k x
    put_inside inside e =
        let f = last_of all (omega arith) in
        ⊎_elim
        (λ less.
        let r = ap (λ l. swap_remove l k d) f.2 ∙ removed f.0 f.1 d k less in
        (λ z. set (r z) k x ++ get_or (r z) k e ∷ []) ∙ (λ z. set_twice f.0 k f.1 x z ++ get_or-set_same f.0 k f.1 e less z ∷ []) ∙ sym (set_front f.0 f.1 x k less) ∙ ap (λ l. set l k x) (sym f.2))
        (λ more.
        let n = ap length f.2 in let m = length-append f.0 (f.1 ∷ []) in
        let same : k ≡ length f.0 = omega (arith, n, m, more) in
        let r = ap (λ l. swap_remove l k d) f.2 ∙ ap (λ i. swap_remove (f.0 ++ f.1 ∷ []) i d) same ∙ removed_last f.0 f.1 d in
        let l = ap length r in absurd (omega (arith, l, inside, more)))
        (cases_lt k (length f.0))

    pub put_behind : length (swap_remove all k d) ≤ k → swap_remove all k d ++ x ∷ [] ≡ set all k x
    put_behind behind =
        let f = last_of all (omega arith) in
        ⊎_elim
        (λ less.
        let r = ap (λ l. swap_remove l k d) f.2 ∙ removed f.0 f.1 d k less in
        let l = ap length r ∙ length-set f.0 k f.1 in absurd (omega (arith, l, behind, less)))
        (λ more.
        let n = ap length f.2 in let m = length-append f.0 (f.1 ∷ []) in
        let same : k ≡ length f.0 = omega (arith, n, m, more) in
        let r = ap (λ l. swap_remove l k d) f.2 ∙ ap (λ i. swap_remove (f.0 ++ f.1 ∷ []) i d) same ∙ removed_last f.0 f.1 d in
        ap (λ l. l ++ x ∷ []) r ∙ sym (set_last f.0 f.1 x) ∙ ap (λ i. set (f.0 ++ f.1 ∷ []) i x) (sym same) ∙ ap (λ l. set l k x) (sym f.2))
        (cases_lt k (length f.0))

    pub removed_length : length (swap_remove all k d) + 1 ≡ length all
    removed_length =
        let f = last_of all (omega arith) in
        let n = ap length f.2 in let m = length-append f.0 (f.1 ∷ []) in
        ⊎_elim
        (λ less. let r = ap length (ap (λ l. swap_remove l k d) f.2 ∙ removed f.0 f.1 d k less) ∙ length-set f.0 k f.1 in omega (arith, n, m, r))
        (λ more.
        let same : k ≡ length f.0 = omega (arith, n, m, more) in
        let r = ap length (ap (λ l. swap_remove l k d) f.2 ∙ ap (λ i. swap_remove (f.0 ++ f.1 ∷ []) i d) same ∙ removed_last f.0 f.1 d) in omega (arith, n, m, r))
        (cases_lt k (length f.0))

    -- what changes ahead of it changes behind its removal too
    pub removed_set : (j : ℕ) → j < k → set (swap_remove all k d) j x ≡ swap_remove (set all j x) k d
    removed_set j ahead =
        let f = last_of all (omega arith) in
        let n = ap length f.2 in let m = length-append f.0 (f.1 ∷ []) in
        let inside : j < length f.0 = omega (arith, n, m, ahead, h) in
        let new : set all j x ≡ set f.0 j x ++ f.1 ∷ [] = ap (λ l. set l j x) f.2 ∙ set_front f.0 f.1 x j inside in
        let l = length-set f.0 j x in
        ⊎_elim
        (λ less.
        ap (λ l. set (swap_remove l k d) j x) f.2 ∙ ap (λ l. set l j x) (removed f.0 f.1 d k less)
        ∙ set_apart f.0 k j f.1 x (λ e. omega (arith, e, ahead))
        ∙ sym (ap (λ l. swap_remove l k d) new ∙ removed (set f.0 j x) f.1 d k (omega (arith, less, l))))
        (λ more.
        let same : k ≡ length f.0 = omega (arith, n, m, more, h) in
        ap (λ l. set (swap_remove l k d) j x) f.2 ∙ ap (λ i. set (swap_remove (f.0 ++ f.1 ∷ []) i d) j x) same ∙ ap (λ l. set l j x) (removed_last f.0 f.1 d)
        ∙ sym (ap (λ l. swap_remove l k d) new ∙ ap (λ i. swap_remove (set f.0 j x ++ f.1 ∷ []) i d) (same ∙ sym l) ∙ removed_last (set f.0 j x) f.1 d))
        (cases_lt k (length f.0))

  module _ (all old new : List A) (k : ℕ) (d x : A) (h : k < length all) (is : old ≡ swap_remove all k d) where
    -- it comes to a place where another stands, which goes to the end
    pub put_ahead : (placed last : A) → placed ≡ x → k < length old → last ≡ get_or old k last → new ≡ set old k placed ++ last ∷ [] → new ≡ set all k x
    put_ahead placed last same inside at made =
        made ∙ ap (λ y. set old k y ++ last ∷ []) same ∙ ap (λ y. set old k x ++ y ∷ []) at ∙ ap (λ l. set l k x ++ get_or l k last ∷ []) is
        ∙ put_inside all k h d x (subst (λ l. k < length l) is inside) last

    -- its place is the end
    pub put_last : length old ≤ k → new ≡ old ++ x ∷ [] → new ≡ set all k x
    put_last behind made = made ∙ ap (λ l. l ++ x ∷ []) is ∙ put_behind all k h d x (subst (λ l. length l ≤ k) is behind)
