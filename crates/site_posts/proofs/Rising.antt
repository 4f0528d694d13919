-- Checkables that ascend, from one on.
use Rattle.std.proofs.Common.{rules, ◌≡◌, ℕ, zero, suc, ◌+◌, ◌<◌, ◌≤◌, List, [], ◌∷◌, ◌++◌, length, drop, slice_get, slice_index_or, Some, refl, arith}
use Rattle.std.proofs.lemmas.Option.{get_or_from_slice_get}
use Rattle.site_posts.specs.Outlooks.{Ascends}

-- each of them is this one or behind it, and behind the one before
abbrev pub Rise : ℕ → List ℕ → Type 0
Rise b [] = Unit {0}
Rise b (k ∷ ks) = (b ≤ k) × Rise (suc k) ks

rise_of : (b : ℕ) (ks : List ℕ) → ((i : ℕ) → i < length ks → b ≤ slice_index_or ks i 0) → Ascends ks → Rise b ks
rise_of b [] low up = search rules
rise_of b (k ∷ ks) low up = (low 0 (omega arith), rise_of (suc k) ks (λ i l. let h = up 0 (suc i) (omega arith) (omega (arith, l)) in omega (arith, h)) (λ i j h l. up (suc i) (suc j) (omega (arith, h)) (omega (arith, l))))

pub rises : (ks : List ℕ) → Ascends ks → Rise 0 ks
rises ks up = rise_of 0 ks (λ i l. omega arith) up

pub rise_behind : (b : ℕ) (ks : List ℕ) → Rise b ks → (i j : ℕ) → slice_get ks i ≡ Some j → b ≤ j
rise_behind b [] r i j e = absurd cc
rise_behind b (k ∷ ks) r zero j e = let s = get_or_from_slice_get (k ∷ ks) 0 j 0 e in let l = r.0 in omega (arith, s, l)
rise_behind b (k ∷ ks) r (suc i) j e = let h = rise_behind (suc k) ks r.1 i j e in let l = r.0 in omega (arith, h, l)

pub rise_tail : (b : ℕ) (front : List ℕ) (k : ℕ) (back : List ℕ) → Rise b (front ++ k ∷ back) → Rise (suc k) back
rise_tail b [] k back r = r.1
rise_tail b (j ∷ front) k back r = rise_tail (suc j) front k back r.1

pub rise_drop : (b n : ℕ) (ks : List ℕ) → Rise b ks → (c : ℕ) × Rise c (drop n ks)
rise_drop b zero ks rise = (b, rise)
rise_drop b (suc n) [] rise = (b, rise)
rise_drop b (suc n) (k ∷ ks) rise = rise_drop (suc k) n ks rise.1

-- there is room for them
pub room : (b n : ℕ) (ks : List ℕ) → Rise b ks → b ≤ n → ((i k : ℕ) → slice_get ks i ≡ Some k → k < n) → b + length ks ≤ n
room b n [] r le below = omega (arith, le)
room b n (k ∷ ks) r le below =
    let here = below 0 k refl in
    let more = room (suc k) n ks r.1 (omega (arith, here)) (λ i. below (suc i)) in
    let low = r.0 in omega (arith, more, low)
