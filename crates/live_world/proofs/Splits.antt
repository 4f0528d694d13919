-- Orders that are split by whether their reports are there.
use Rattle.std.proofs.Common.{◌≡◌, ℕ, List, [], ◌∷◌, ◌++◌, sym, ap, ◌∙◌, subst}
use Rattle.std.specs.List.Sorted.{IsPermutation}
use Rattle.std.proofs.lemmas.List.{append_assoc, map-append}
use Rattle.std.proofs.lemmas.List.Sorted.{IsPermutation-trans, IsPermutation-append_right, IsPermutation-middle}
use Rattle.site_edge.specs.declared.report.Report.{Report}
use Rattle.live_world.specs.declared.running.Running.{Running}
use Rattle.live_world.specs.Turns.{numbers, reported}

-- the reports that were taken, the orders that are left, and those that are still to be looked at are all of the orders
abbrev pub AreSplit : List ℕ → List Report → List Running → List Running → Type 0
AreSplit all reports left rest = IsPermutation all (reported reports ++ (numbers left ++ numbers rest))

numbers_more : (left : List Running) (r : Running) → numbers (left ++ r ∷ []) ≡ numbers left ++ r.number ∷ []
numbers_more left r = map-append (λ (r : Running). r.number) left (r ∷ [])

reported_more : (reports : List Report) (r : Report) → reported (reports ++ r ∷ []) ≡ reported reports ++ r.order ∷ []
reported_more reports r = map-append (λ (r : Report). r.order) reports (r ∷ [])

-- one is left
pub left_over : (all : List ℕ) (reports : List Report) (left rest : List Running) (r : Running) → AreSplit all reports left (r ∷ rest) → AreSplit all reports (left ++ r ∷ []) rest
left_over all reports left rest r h =
    subst (λ (l : List ℕ). IsPermutation all (reported reports ++ l)) (sym (ap (λ (l : List ℕ). l ++ numbers rest) (numbers_more left r) ∙ append_assoc (numbers left) (r.number ∷ []) (numbers rest))) h

-- one has its report
pub taken_out : (all : List ℕ) (reports : List Report) (left rest : List Running) (r : Running) (report : Report) → report.order ≡ r.number → AreSplit all reports left (r ∷ rest) → AreSplit all (reports ++ report ∷ []) left rest
taken_out all reports left rest r report is h =
    let moved : IsPermutation all (reported reports ++ (r.number ∷ (numbers left ++ numbers rest))) =
    IsPermutation-trans all (reported reports ++ (numbers left ++ r.number ∷ numbers rest)) (reported reports ++ (r.number ∷ (numbers left ++ numbers rest))) h
    (IsPermutation-append_right (reported reports) (numbers left ++ r.number ∷ numbers rest) (r.number ∷ (numbers left ++ numbers rest)) (IsPermutation-middle (numbers left) r.number (numbers rest))) in
    subst (IsPermutation all) (sym (
    ap (λ (l : List ℕ). l ++ (numbers left ++ numbers rest)) (reported_more reports report ∙ ap (λ (n : ℕ). reported reports ++ n ∷ []) is)
    ∙ append_assoc (reported reports) (r.number ∷ []) (numbers left ++ numbers rest))) moved

-- what was begun again in between is split like what was there before
pub split_again : (all some left : List ℕ) (reports : List Report) → some ≡ all → IsPermutation some (reported reports ++ left) → IsPermutation all (reported reports ++ left)
split_again all some left reports same h = subst (λ (l : List ℕ). IsPermutation l (reported reports ++ left)) same h
