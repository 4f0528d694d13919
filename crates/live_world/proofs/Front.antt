-- What is kept of bytes that go on.
use Rattle.std.proofs.Common.{◌≡◌, ℕ, ◌+◌, ◌≤◌, List, ◌++◌, length, take, sym, ap, ◌∙◌, arith}
use Rattle.std.proofs.Math.Seq.{take-append-add}
use Rattle.std.proofs.lemmas.List.{take_all, take-append-le, length-append}
use Rattle.live_world.specs.Lines.{kept}

-- those that fit are kept
pub kept_all : (xs ys : List ℕ) → length xs + length ys ≤ 65537 → kept (xs ++ ys) ≡ xs ++ ys
kept_all xs ys fits = take_all 65537 (xs ++ ys) (let e : length (xs ++ ys) ≡ length xs + length ys = length-append xs ys in omega (arith, e, fits))

-- where no room is left nothing is added
pub kept_full : (xs ys : List ℕ) → length xs ≡ 65537 → kept (xs ++ ys) ≡ xs
kept_full xs ys full = take-append-le 65537 xs ys (omega (arith, full)) ∙ take_all 65537 xs (omega (arith, full))

-- as many are added as there is room for
pub kept_more : (xs ys : List ℕ) (room : ℕ) → length xs + room ≡ 65537 → kept (xs ++ ys) ≡ xs ++ take room ys
kept_more xs ys room e = ap (λ n. take n (xs ++ ys)) (sym e) ∙ take-append-add xs ys room
