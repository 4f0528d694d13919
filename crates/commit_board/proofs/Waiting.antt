-- A task without an answer is open or claimed.
use Rattle.std.proofs.Common.{◌≡◌, ℕ, zero, suc, ◌==◌, List, [], ◌∷◌, arith, Bool, true, false, not, ◌&&◌, count_by, inl, inr, refl, sym, ap, ◌∙◌}
use Rattle.commit_board.specs.declared.slot.Slot.{Slot}
use Rattle.commit_board.specs.declared.slot.Slot.TheVariants.{Open, Claimed, Answered}
use Rattle.commit_board.specs.Boards.{Contents, IsLeft, has_answer, is_answered}
use Rattle.commit_board.proofs.Slots.{count_cons}

module _ {T A : Type 0} where
  abbrev waiting : List (Slot T A) → ℕ
  waiting slots = count_by (λ s. not (has_answer s)) slots

  passed : (a : A) (xs : List (Slot T A)) → waiting (Answered a ∷ xs) ≡ waiting xs
  passed a xs = omega (arith, count_cons (λ s. not (has_answer s)) (Answered a) xs)

  left_in : (slots : List (Slot T A)) → (waiting slots == 0) ≡ false → IsLeft slots
  left_in [] e = absurd cc
  left_in (Open t ∷ xs) e = (zero, inl (t, refl))
  left_in (Claimed ∷ xs) e = (zero, inr refl)
  left_in (Answered a ∷ xs) e = let one = left_in xs (ap (λ n. n == 0) (sym (passed a xs)) ∙ e) in (suc one.0, one.1)

  by_run : (runs : Bool) (slots : List (Slot T A)) → runs ≡ true → (runs && (waiting slots == 0)) ≡ false → IsLeft slots
  by_run true slots r e = left_in slots e
  by_run false slots r e = absurd cc

  pub is_left : (board : Contents T A) → board.is_running ≡ true → is_answered board ≡ false → IsLeft board.slots
  is_left board r e = by_run board.is_running board.slots r e
