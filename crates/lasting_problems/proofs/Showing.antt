-- The problems that checkables show, noted one after the other.
use Rattle.std.proofs.Common.{◌≡◌, ℕ, zero, suc, ◌+◌, ◌<◌, List, [], ◌∷◌, ◌++◌, length, take, set, slice_get, Option, Some, None, refl, sym, ap, ◌∙◌, arith, length-append, length-take-le}
use Rattle.checkable_core.specs.Contents.{check_at, check_or}
use Rattle.run_meaning.specs.Turns.{Histories, of_index}
use Rattle.run_meaning.proofs.Lists.{take_next, within}
use Rattle.site_model.specs.PlainSite.{PlainCheck, PlainSite}
use Rattle.lasting_problems.specs.Lasting.{lasting, lasting_from, lasts}
use Rattle.lasting_problems.specs.Noted.{noted, noted_from}

lasting_from_at : (j i : ℕ) (cs : List PlainCheck) (h : Histories) → i < length cs → slice_get (lasting_from j cs h) i ≡ Some (lasts (check_or (slice_get cs i)) (of_index (j + i) h))
lasting_from_at j i [] h l = absurd (omega (arith, l))
lasting_from_at j zero (c ∷ cs) h l = let z : j ≡ j + 0 = omega arith in ap (λ n. Some (lasts c (of_index n h))) z
lasting_from_at j (suc i) (c ∷ cs) h l =
    let z : suc j + i ≡ j + suc i = omega arith in
    lasting_from_at (suc j) i cs h (omega (arith, l)) ∙ ap (λ n. Some (lasts (check_or (slice_get cs i)) (of_index n h))) z

-- the one at a place
pub lasting_at : (s : PlainSite) (h : Histories) (k : ℕ) → k < length s.checkables → slice_get (lasting s h) k ≡ Some (lasts (check_at s k) (of_index k h))
lasting_at s h k l = let z : 0 + k ≡ k = omega arith in lasting_from_at 0 k s.checkables h l ∙ ap (λ n. Some (lasts (check_at s k) (of_index n h))) z

none_behind : (k : ℕ) (ms : List (Option ℕ)) → noted_from k (ms ++ None ∷ []) ≡ noted_from k ms
none_behind k [] = refl
none_behind k (None ∷ ms) = none_behind (suc k) ms
none_behind k (Some m ∷ ms) = ap (λ ps. (k, m) ∷ ps) (none_behind (suc k) ms)

set_last : (front : List (Option ℕ)) (x y : Option ℕ) (k : ℕ) → length front ≡ k → set (front ++ x ∷ []) k y ≡ front ++ y ∷ []
set_last [] x y zero h = refl
set_last [] x y (suc k) h = absurd (omega (arith, h))
set_last (z ∷ front) x y zero h = absurd (omega (arith, h))
set_last (z ∷ front) x y (suc k) h = ap (λ xs. z ∷ xs) (set_last front x y k (omega (arith, h)))

-- one more is noted behind those so far
pub one_more : (k : ℕ) (all : List (Option ℕ)) (m : Option ℕ) (old new : List (ℕ × ℕ)) → slice_get all k ≡ Some m → old ≡ noted (take k all)
    → ((ms : List (Option ℕ)) → k < length ms → old ≡ noted ms → new ≡ noted (set ms k m)) → new ≡ noted (take (k + 1) all)
one_more k all m old new at so_far step =
    let front = take k all in
    let l = within all k m at in
    let many : length front ≡ k = length-take-le k all (omega (arith, l)) in
    let n = length-append front (None ∷ []) in
    let more : suc k ≡ k + 1 = omega arith in
    step (front ++ None ∷ []) (omega (arith, n, many)) (so_far ∙ sym (none_behind 0 front))
    ∙ ap noted (set_last front None m k many ∙ sym (take_next all k m at) ∙ ap (λ n. take n all) more)
