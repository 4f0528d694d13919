-- Books that are taken out, the last one first.
use Rattle.std.proofs.Common.{◌≡◌, ℕ, zero, suc, ◌+◌, ◌<◌, List, [], ◌∷◌, ◌++◌, length, get_or, slice_get, Some, All, refl, sym, ap, ◌∙◌, subst, arith}
use Rattle.std.specs.List.{swap_remove}
use Rattle.std.proofs.lemmas.Option.{slice_get_within, slice_get-get_or, get_or_from_slice_get}
use Rattle.checkable_core.specs.Contents.{Contents}
use Rattle.post_rounds.proofs.Places.{all_at, get_seam}
use Rattle.site_posts.proofs.Returning.{removed_length}
use Rattle.site_posts.proofs.Rising.{Rise, rise_tail, rises, room}
use Rattle.site_posts.specs.Lent.{AreTaken}
use Rattle.site_posts.specs.Outlooks.{Ascends}

-- what stands behind one stands in the whole
get_behind : (front : List ℕ) (k : ℕ) (back : List ℕ) (i j : ℕ) → slice_get back i ≡ Some j → (n : ℕ) × (slice_get (front ++ k ∷ back) n ≡ Some j)
get_behind [] k back i j at = (suc i, at)
get_behind (x ∷ front) k back i j at = let more = get_behind front k back i j at in (suc more.0, more.1)

-- Those that are out.

pub taken_length : (all : List Contents) (ks : List ℕ) (taken left : List Contents) → AreTaken all ks taken left → length left + length ks ≡ length all
taken_length all [] taken left t = let l = ap length t.1 in omega (arith, l)
taken_length all (k ∷ ks) taken left (first, rest, book, t, at, is, left_is) =
    let more = taken_length all ks first rest t in
    let one = removed_length rest k (slice_get_within rest k book at) book book in
    let l = ap length left_is in
    omega (arith, more, one, l)

pub taken_within : (all : List Contents) (ks : List ℕ) (taken left : List Contents) → AreTaken all ks taken left → (i k : ℕ) → slice_get ks i ≡ Some k → k < length all
taken_within all [] taken left t i k at = absurd cc
taken_within all (j ∷ ks) taken left (first, rest, book, t, at, is, left_is) zero k here =
    let more = taken_length all ks first rest t in
    let l = slice_get_within rest j book at in
    let same = get_or_from_slice_get (j ∷ ks) 0 k 0 here in
    omega (arith, more, l, same)
taken_within all (j ∷ ks) taken left (first, rest, book, t, at, is, left_is) (suc i) k there = taken_within all ks first rest t i k there

module _ (all : List Contents) (touched : List ℕ) (up : Ascends touched) (within : All (λ k. k < length all) touched) (front : List ℕ) (k : ℕ) (back : List ℕ) (are : front ++ k ∷ back ≡ touched) (taken left : List Contents) (t : AreTaken all back taken left) where
  below : (i j : ℕ) → slice_get touched i ≡ Some j → j < length all
  below = all_at (λ n. n < length all) touched within

  -- the last one that is still there
  pub next_within : k < length left
  next_within =
      let rise = rise_tail 0 front k back (subst (Rise 0) (sym are) (rises touched up)) in
      let here = below (length front) k (ap (λ ks. slice_get ks (length front)) (sym are) ∙ get_seam front back k) in
      let behind : (i j : ℕ) → slice_get back i ≡ Some j → j < length all = λ i j at. (let there = get_behind front k back i j at in below there.0 j (ap (λ ks. slice_get ks there.0) (sym are) ∙ there.1)) in
      let fits = room (suc k) (length all) back rise (omega (arith, here)) behind in
      let count = taken_length all back taken left t in
      omega (arith, fits, count)

  pub next_taken : (book : Contents) → book ≡ get_or left k book → AreTaken all (k ∷ back) (taken ++ book ∷ []) (swap_remove left k book)
  next_taken book is = (taken, left, book, t, slice_get-get_or left k book next_within ∙ ap Some (sym is), refl, refl)
