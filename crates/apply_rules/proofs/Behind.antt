-- What stands behind the last mark of a name.
use Rattle.std.proofs.Common.{◌≡◌, ◌≢◌, ◌<◌, ◌+◌, ℕ, zero, suc, List, [], ◌∷◌, ◌++◌, length, get_or, Bool, true, false, cond, nat_eq, MatchOption, Option, Some, None, suc-le-suc, zero-le, refl, sym, ap, ◌∙◌, subst, arith, append_assoc, append-nil}
use Rattle.std.proofs.lemmas.Bool.Decides.{nat_tests}
use Rattle.std.proofs.lemmas.Str.Pattern.{split_parts, IsSplitOnceResult}
use Rattle.eval_meaning.specs.Views.{bang}
use Rattle.commit_meaning.specs.Names.{behind_last}
use denote.Ref.{Bor}

-- a byte that is no mark
other : (b : ℕ) → b ≢ bang → nat_eq b bang ≡ false
other b n = grind (arith, nat_tests, n)

-- no mark is there
none_left : (passed bs : List ℕ) → ((i : ℕ) → i < length bs → get_or bs i 0 ≢ bang) → behind_last passed bs ≡ passed ++ bs
none_left passed [] h = sym (append-nil passed)
none_left passed (b ∷ bs) h =
    ap (λ t. cond t (behind_last [] bs) (behind_last (passed ++ b ∷ []) bs)) (other b (h zero (suc-le-suc zero-le)))
    ∙ (none_left (passed ++ b ∷ []) bs (λ i lt. h (suc i) (suc-le-suc lt)) ∙ append_assoc passed (b ∷ []) bs)

-- what stands before the first mark is passed over
mark_passed : (passed front bs : List ℕ) → ((i : ℕ) → i < length front → get_or front i 0 ≢ bang) → behind_last passed (front ++ (bang ∷ bs)) ≡ behind_last [] bs
mark_passed passed [] bs h = refl
mark_passed passed (b ∷ front) bs h =
    ap (λ t. cond t (behind_last [] (front ++ (bang ∷ bs))) (behind_last (passed ++ b ∷ []) (front ++ (bang ∷ bs)))) (other b (h zero (suc-le-suc zero-le)))
    ∙ mark_passed (passed ++ b ∷ []) front bs (λ i lt. h (suc i) (suc-le-suc lt))

shorter : (front bs : List ℕ) → length bs < length (front ++ (bang ∷ bs))
shorter [] bs = omega arith
shorter (b ∷ front) bs = omega (arith, shorter front bs)

-- what a cut at the first mark gives
pub cut_behind : (bs : List ℕ) (r : Option (Bor (List ℕ) × Bor (List ℕ))) → IsSplitOnceResult bang bs r
    → MatchOption r (behind_last [] bs ≡ bs) (λ x. (behind_last [] bs ≡ behind_last [] x.1.now) × (length x.1.now < length bs))
cut_behind bs r h = by r (split_parts bang bs r h (omega arith))
  where
    by : (r : Option (Bor (List ℕ) × Bor (List ℕ))) → MatchOption r ((i : ℕ) → i < length bs → get_or bs i 0 ≢ bang) (λ x. (bs ≡ x.0.now ++ (bang ∷ x.1.now)) × ((i : ℕ) → i < length x.0.now → get_or x.0.now i 0 ≢ bang))
        → MatchOption r (behind_last [] bs ≡ bs) (λ x. (behind_last [] bs ≡ behind_last [] x.1.now) × (length x.1.now < length bs))
    by None h = none_left [] bs h
    by (Some x) h = (ap (behind_last []) h.0 ∙ mark_passed [] x.0.now x.1.now h.1, subst (λ l. length x.1.now < length l) (sym h.0) (shorter x.0.now x.1.now))
