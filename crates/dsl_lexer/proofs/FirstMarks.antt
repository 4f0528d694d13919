-- The marks that a text begins with begin with its first byte.
use Rattle.std.proofs.Common.{◌≡◌, ℕ, ◌≤◌, ◌&&◌, Bool, true, false, cond, not, List, [], ◌∷◌, length, take, drop, filter, get_or, Some, refl, sym, ap, ◌∙◌, arith}
use Rattle.std.specs.Str.{bytes_eq}
use Rattle.std.proofs.lemmas.Bool.{false≢true}
use Rattle.dsl_lexer.specs.Letters.{goes_on, starts_with}
use Rattle.dsl_lexer.specs.Marks.{mark_spelling, stands_alone, begins, all_marks, marks_from, mark_among, mark_of}
use Rattle.dsl_lexer.specs.declared.mark.Mark.{Mark}

-- a text with another first byte doesn't stand at the front
no_front : (b : ℕ) (bs s : List ℕ) → starts_with b s ≡ false → bytes_eq s (take (length s) (b ∷ bs)) ≡ false
no_front b bs [] e = absurd (false≢true (sym e))
no_front b bs (c ∷ cs) e = ap (λ t. t && bytes_eq cs (take (length cs) bs)) e

no_mark : (b : ℕ) (bs : List ℕ) (m : Mark) → starts_with b (mark_spelling m) ≡ false → begins m (b ∷ bs) ≡ false
no_mark b bs m e = ap (λ t. t && not (stands_alone m && goes_on (drop (length (mark_spelling m)) (b ∷ bs)))) (no_front b bs (mark_spelling m) e)

among : (b : ℕ) (bs : List ℕ) (ms : List Mark) → mark_among (filter (λ m. starts_with b (mark_spelling m)) ms) (b ∷ bs) ≡ mark_among ms (b ∷ bs)
among b bs [] = refl
among b bs (m ∷ ms) = by (starts_with b (mark_spelling m)) refl (among b bs ms)
  where
    by : (t : Bool) → starts_with b (mark_spelling m) ≡ t → mark_among (filter (λ m. starts_with b (mark_spelling m)) ms) (b ∷ bs) ≡ mark_among ms (b ∷ bs)
        → mark_among (cond t (m ∷ filter (λ m. starts_with b (mark_spelling m)) ms) (filter (λ m. starts_with b (mark_spelling m)) ms)) (b ∷ bs) ≡ cond (begins m (b ∷ bs)) (Some m) (mark_among ms (b ∷ bs))
    by true e h = ap (λ r. cond (begins m (b ∷ bs)) (Some m) r) h
    by false e h = h ∙ sym (ap (λ t. cond t (Some m) (mark_among ms (b ∷ bs))) (no_mark b bs m e))

-- so only those are looked at
pub mark_by_first : (text : List ℕ) (marks : List Mark) → 1 ≤ length text → marks ≡ marks_from (get_or text 0 0) → mark_among marks text ≡ mark_of text
unfolding mark_of
mark_by_first [] marks l e = absurd (omega (arith, l))
mark_by_first (b ∷ bs) marks l e = ap (λ ms. mark_among ms (b ∷ bs)) e ∙ among b bs all_marks
