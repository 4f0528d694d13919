-- Changing a cell of two layers.
use Rattle.std.proofs.Common.{◌≡◌, ℕ, zero, suc, ◌-◌, ◌<◌, ◌≤◌, List, [], ◌∷◌, ◌++◌, length, set, Result, Ok, Err, OnOk, refl, sym, ap, subst, ◌∙◌, arith}
use Rattle.dsl_value.specs.Contents.{Contained, PlainCell, cell_at}
use Rattle.dsl_value.specs.Parts.{beside}
use Rattle.dsl_value.proofs.Kept.{at_live, set_live}

at_front : (xs ys : List PlainCell) (k : ℕ) → k < length xs → cell_at (xs ++ ys) k ≡ cell_at xs k
at_front [] ys k l = absurd (omega (arith, l))
at_front (x ∷ xs) ys zero l = refl
at_front (x ∷ xs) ys (suc k) l = at_front xs ys k (omega (arith, l))

set_front : (xs ys : List PlainCell) (k : ℕ) (c : PlainCell) → k < length xs → set (xs ++ ys) k c ≡ set xs k c ++ ys
set_front [] ys k c l = absurd (omega (arith, l))
set_front (x ∷ xs) ys zero c l = refl
set_front (x ∷ xs) ys (suc k) c l = ap (λ zs. x ∷ zs) (set_front xs ys k c (omega (arith, l)))

-- a cell of these that takes another content
abbrev pub with_change : Contained → ℕ → (PlainCell → PlainCell) → Contained
with_change s k f = record { cells = set s.cells k (f (cell_at s.cells k)); functions = s.functions }

front_plain : (lent own : Contained) (k : ℕ) (f : PlainCell → PlainCell) → k < length lent.cells → beside (with_change lent k f) own ≡ with_change (beside lent own) k f
front_plain lent own k f l =
    ap (λ cs. record { cells = cs; functions = lent.functions ++ own.functions })
    (sym (set_front lent.cells own.cells k (f (cell_at lent.cells k)) l) ∙ ap (λ c. set (lent.cells ++ own.cells) k (f c)) (sym (at_front lent.cells own.cells k l)))

back_plain : (lent own : Contained) (k : ℕ) (f : PlainCell → PlainCell) → length lent.cells ≤ k → beside lent (with_change own (k - length lent.cells) f) ≡ with_change (beside lent own) k f
back_plain lent own k f l =
    ap (λ cs. record { cells = cs; functions = lent.functions ++ own.functions })
    (sym (set_live lent.cells own.cells k (f (cell_at own.cells (k - length lent.cells))) l) ∙ ap (λ c. set (lent.cells ++ own.cells) k (f c)) (sym (at_live lent.cells own.cells k l)))

on_ok : {X E A B : Type 0} (r : Result X E) → (A → B) → OnOk r A → OnOk r B
on_ok (Ok v) f h = f h
on_ok (Err e) f h = tt

module _ {X E : Type 0} (r : Result X E) (lent own s new : Contained) (view : beside lent own ≡ s) (k n : ℕ) (f : PlainCell → PlainCell) (long : n ≡ length lent.cells) where
  -- a cell that is lent
  pub front : k < n → OnOk r (new ≡ with_change lent k f) → OnOk r (beside new own ≡ with_change s k f)
  front l = on_ok r (λ e. ap (λ x. beside x own) e ∙ front_plain lent own k f (subst (λ m. k < m) long l) ∙ ap (λ x. with_change x k f) view)

  -- one that isn't
  pub back : n ≤ k → OnOk r (new ≡ with_change own (k - n) f) → OnOk r (beside lent new ≡ with_change s k f)
  back l = on_ok r (λ e. ap (beside lent) (e ∙ ap (λ m. with_change own (k - m) f) long) ∙ back_plain lent own k f (subst (λ m. m ≤ k) long l) ∙ ap (λ x. with_change x k f) view)
