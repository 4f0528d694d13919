-- The seconds of blocks, and what they tell of those in them.
use Rattle.std.proofs.Common.{◌≡◌, ◌≢◌, ℕ, zero, suc, ◌+◌, ◌-◌, ◌*◌, ◌/◌, ◌<◌, ◌≤◌, min, ◌⊎◌, inl, inr, List, [], ◌∷◌, take, drop, length, get_or, set, sym, ap, subst, ◌∙◌, arith, length-set, length-take, length-drop, get_or-set_same, get_or-set_other, get_or-take, get_or-drop}
use Rattle.std.proofs.lemmas.Bool.{cases_eq}
use Rattle.std.proofs.lemmas.List.{take_min}
use Rattle.down_recur.specs.Rests.{AreLeast, least_from, least_of}

least_most : (most : ℕ) (xs : List ℕ) → least_from most xs ≤ most
least_most most [] = omega arith
least_most most (x ∷ xs) = omega (arith, least_most (min most x) xs)

least_under : (most : ℕ) (xs : List ℕ) (k : ℕ) → k < length xs → least_from most xs ≤ get_or xs k 0
least_under most [] k h = absurd (omega arith)
least_under most (x ∷ xs) zero h = omega (arith, least_most (min most x) xs)
least_under most (x ∷ xs) (suc k) h = least_under (min most x) xs k (omega arith)

-- none in a block is below the least one
block_least : (seconds : List ℕ) (k block : ℕ) → k < length seconds → k / 32 ≡ block → least_of block seconds ≤ get_or seconds k 0
block_least seconds k block h e =
    let own = take 32 (drop (block * 32) seconds) in
    let j = k - block * 32 in
    let near : j < 32 = omega arith in
    let within : j < length own = omega (arith, length-take 32 (drop (block * 32) seconds), length-drop (block * 32) seconds) in
    let place : block * 32 + j ≡ k = omega arith in
    let is : get_or own j 0 ≡ get_or seconds k 0 = get_or-take 32 (drop (block * 32) seconds) j 0 near ∙ get_or-drop (block * 32) seconds j 0 ∙ ap (λ i. get_or seconds i 0) place in
    subst (λ x. least_of block seconds ≤ x) is (least_under 18446744073709551615 own j within)

-- once a second changed, and then that of its block
pub renewed : (blocks seconds : List ℕ) (place v : ℕ) → place < length seconds → AreLeast blocks seconds → AreLeast (set blocks (place / 32) (least_of (place / 32) (set seconds place v))) (set seconds place v)
renewed blocks seconds place v h a = record {
  enough = omega (arith, a.enough, length-set seconds place v, length-set blocks (place / 32) least);
  least = λ k lt. at k (omega (arith, length-set seconds place v, lt)) (cases_eq (k / 32) (place / 32));
}
  where
    least : ℕ
    least = least_of (place / 32) (set seconds place v)

    inside : place / 32 < length blocks
    inside = omega (arith, a.enough)

    at : (k : ℕ) → k < length seconds → (k / 32 ≡ place / 32) ⊎ (k / 32 ≢ place / 32) → get_or (set blocks (place / 32) least) (k / 32) 0 ≤ get_or (set seconds place v) k 0
    at k lt (inl e) =
        let own : get_or (set blocks (place / 32) least) (k / 32) 0 ≡ least = ap (λ b. get_or (set blocks (place / 32) least) b 0) e ∙ get_or-set_same blocks (place / 32) least 0 inside in
        subst (λ x. x ≤ get_or (set seconds place v) k 0) (sym own) (block_least (set seconds place v) k (place / 32) (omega (arith, length-set seconds place v)) e)
    at k lt (inr n) =
        let other : k ≢ place = λ e. n (ap (λ i. i / 32) e) in
        subst (λ x. x ≤ get_or (set seconds place v) k 0) (sym (get_or-set_other blocks (place / 32) (k / 32) least 0 n))
        (subst (λ x. get_or blocks (k / 32) 0 ≤ x) (sym (get_or-set_other seconds place k v 0 other)) (a.least k lt))

-- the seconds of a block, cut at their end
pub block_is : (seconds : List ℕ) (block end : ℕ) → block * 32 ≤ length seconds → end ≡ min (length seconds) (block * 32 + 32) → take (end - block * 32) (drop (block * 32) seconds) ≡ take 32 (drop (block * 32) seconds)
block_is seconds block end h e =
    let own = drop (block * 32) seconds in
    let many : end - block * 32 ≡ min 32 (length own) = omega (arith, length-drop (block * 32) seconds) in
    ap (λ n. take n own) many ∙ take_min 32 own
