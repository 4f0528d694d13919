-- Lists that are worked through part by part.
use Rattle.std.proofs.Common.{◌≡◌, ℕ, ◌+◌, ◌*◌, ◌<◌, ◌≤◌, List, [], ◌∷◌, ◌++◌, length, take, drop, get_or, refl, sym, ap, ◌∙◌, append-nil, add-mul, div-add-mod', mul-le-mul_right, one-mul, ⊎_elim, arith}
use Rattle.std.specs.Fork.{slice_chunk}
use Rattle.std.proofs.lemmas.List.{drop-take, length-take-le, take-append-drop, take-take, take_all}
use Rattle.std.proofs.lemmas.Bool.{cases_lt}
use Rattle.std.proofs.lemmas.Nat.{mod_below}
use Rattle.std.specs.Prelude.{◌/◌, ◌%◌, min}

-- a part more
taken_more : {A : Type 0} (k size : ℕ) (xs : List A) → take (k + size) xs ≡ take k xs ++ take size (drop k xs)
taken_more k size xs =
    let ys = take (k + size) xs in
    sym (take-append-drop k ys)
    ∙ ap (λ zs. zs ++ drop k ys) (take-take k (k + size) xs (omega arith))
    ∙ ap (λ zs. take k xs ++ zs) (drop-take k size xs)

next_start : (n size : ℕ) → (n + 1) * size ≡ n * size + size
next_start n size = let o = one-mul size in omega (arith, add-mul n 1 size)

module _ {A B : Type 0} (made : ℕ → List A → List B) (both : (n : ℕ) (xs ys : List A) → made n (xs ++ ys) ≡ made n xs ++ made (n + length xs) ys) (size : ℕ) (xs : List A) where
  -- what is made of one part more
  pub part_more : (n : ℕ) → n * size ≤ length xs → made 0 (take ((n + 1) * size) xs) ≡ made 0 (take (n * size) xs) ++ made (n * size) (slice_chunk xs size n)
  part_more n h =
      let front = take (n * size) xs in
      let part = slice_chunk xs size n in
      let e : 0 + length front ≡ n * size = omega (arith, length-take-le (n * size) xs h) in
      ap (λ k. made 0 (take k xs)) (next_start n size)
      ∙ ap (made 0) (taken_more (n * size) size xs)
      ∙ both 0 front part
      ∙ ap (λ k. made 0 front ++ made k part) e

-- How many parts there are.

spans : (count len size : ℕ) → 0 < size → count ≡ len / size + min 1 (len % size) → (len ≤ count * size) × (count * size < len + size)
spans count len size some many =
    let q = len / size in
    let r = len % size in
    let whole : q * size + r ≡ len = div-add-mod' len size in
    let below : r < size = mod_below len size some in
    ⊎_elim
    (λ h. let e : count ≡ q + 1 = omega arith in let w = ap (λ n. n * size) e ∙ add-mul q 1 size in let o = one-mul size in (omega arith, omega arith))
    (λ h. let e : count ≡ q = omega arith in let w = ap (λ n. n * size) e in (omega arith, omega arith))
    (cases_lt 0 r)

begins_within : (n count size len : ℕ) → n < count → count * size < len + size → n * size ≤ len
begins_within n count size len h l =
    let up : n + 1 ≤ count = omega (arith, h) in
    let o = one-mul size in
    omega (arith, l, mul-le-mul_right size up, add-mul n 1 size)

-- all parts are the whole
pub parts_whole : {A : Type 0} (size count : ℕ) (xs : List A) → 0 < size → count ≡ length xs / size + min 1 (length xs % size) → take (count * size) xs ≡ xs
parts_whole size count xs some many = take_all (count * size) xs (spans count (length xs) size some many).0

-- each part begins within the whole
pub part_within : {A : Type 0} (size count n : ℕ) (xs : List A) → 0 < size → count ≡ length xs / size + min 1 (length xs % size) → n < count → n * size ≤ length xs
part_within size count n xs some many h = begins_within n count size (length xs) h (spans count (length xs) size some many).1

-- Items of a list, one after another.

pub one_longer : {A : Type 0} (xs : List A) (x : A) → length (xs ++ x ∷ []) ≡ length xs + 1
one_longer [] x = refl
one_longer (y ∷ xs) x = let e = one_longer xs x in omega (arith, e)

pub next_within : {A : Type 0} (before rest : List A) (x : A) → length before < length (before ++ x ∷ rest)
next_within [] rest x = omega arith
next_within (y ∷ before) rest x = let l = next_within before rest x in omega (arith, l)

pub next_at : {A : Type 0} (before rest : List A) (x d : A) → get_or (before ++ x ∷ rest) (length before) d ≡ x
next_at [] rest x d = refl
next_at (y ∷ before) rest x d = next_at before rest x d

pub none_left : {A : Type 0} (before rest all : List A) → length rest ≡ 0 → before ++ rest ≡ all → before ≡ all
none_left before [] all none whole = sym (append-nil before) ∙ whole
none_left before (x ∷ rest) all none whole = absurd (omega (arith, none))
