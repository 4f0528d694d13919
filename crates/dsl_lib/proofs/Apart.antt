-- Distinct elements are apart.
use Rattle.std.proofs.Common.{◌≡◌, ◌||◌, Bool, true, false, cond, List, [], ◌∷◌, ◌++◌, refl, sym, ap, subst, ◌∙◌}
use Rattle.std.proofs.lemmas.Bool.{false≢true}
use Rattle.std.proofs.lemmas.List.{append_assoc, append-nil}
use Rattle.std.specs.List.{AllByRecursion}
use Rattle.dsl_value.specs.Contents.{PlainCell}
use Rattle.dsl_value.specs.Equality.{equal_within}
use Rattle.dsl_value.specs.declared.value.Value.{Value}
use Rattle.dsl_lib.specs.Arrays.{has_equal}
use Rattle.dsl_lib.specs.Sets.{with_distinct, distinct}
use Rattle.dsl_lib.specs.Laws.{AreApart, IsDistinct, ends, takes, passes}

neither : (a b : Bool) → (a || b) ≡ false → (a ≡ false) × (b ≡ false)
neither true b h = absurd (false≢true (sym h))
neither false b h = (refl, h)

pub all_push : (P : Value → Type 0) (xs : List Value) (x : Value) → AllByRecursion P xs → P x → AllByRecursion P (xs ++ x ∷ [])
all_push P [] x h p = (p, tt)
all_push P (y ∷ ys) x h p = (h.0, all_push P ys x h.1 p)

apart_push : (cells : List PlainCell) (xs : List Value) (v : Value) → AreApart cells xs → has_equal cells xs v ≡ false → AreApart cells (xs ++ v ∷ [])
apart_push cells [] v h n = (tt, tt)
apart_push cells (x ∷ xs) v h n =
    let none : (equal_within 100 cells x v ≡ false) × (has_equal cells xs v ≡ false) = neither (equal_within 100 cells x v) (has_equal cells xs v) n in
    (all_push (λ y. equal_within 100 cells x y ≡ false) xs v h.0 none.0, apart_push cells xs v h.1 none.1)

with_apart : (cells : List PlainCell) (taken : List Value) (v : Value) → AreApart cells taken → AreApart cells (with_distinct cells taken v)
with_apart cells taken v h = by (has_equal cells taken v) refl
  where
    by : (b : Bool) → has_equal cells taken v ≡ b → AreApart cells (cond b taken (taken ++ v ∷ []))
    by true e = h
    by false e = apart_push cells taken v h e

-- no two of the distinct elements are equal
pub distinct_apart : (cells : List PlainCell) (taken vs : List Value) → AreApart cells taken → AreApart cells (distinct cells taken vs)
distinct_apart cells taken [] h = h
distinct_apart cells taken (v ∷ vs) h = distinct_apart cells (with_distinct cells taken v) vs (with_apart cells taken v h)

-- what is taken of some elements behind those that were taken
abbrev More : List PlainCell → List Value → List Value → Type 0
More cells taken vs = (ws : List Value) × ((distinct cells taken vs ≡ taken ++ ws) × IsDistinct cells taken vs ws)

one_more : (cells : List PlainCell) (taken : List Value) (v : Value) (vs : List Value) (b : Bool) → has_equal cells taken v ≡ b → More cells taken vs → More cells (taken ++ v ∷ []) vs → More cells taken (v ∷ vs)
one_more cells taken v vs true e more with_it = (more.0, (ap (λ b. distinct cells (cond b taken (taken ++ v ∷ [])) vs) e ∙ more.1.0, passes e more.1.1))
one_more cells taken v vs false e more with_it = (v ∷ with_it.0, (ap (λ b. distinct cells (cond b taken (taken ++ v ∷ [])) vs) e ∙ with_it.1.0 ∙ append_assoc taken (v ∷ []) with_it.0, takes e with_it.1.1))

taken_more : (cells : List PlainCell) (taken vs : List Value) → More cells taken vs
taken_more cells taken [] = ([], (sym (append-nil taken), ends))
taken_more cells taken (v ∷ vs) = one_more cells taken v vs (has_equal cells taken v) refl (taken_more cells taken vs) (taken_more cells (taken ++ v ∷ []) vs)

-- each element is taken unless one that was taken is equal to it
pub distinct_is : (cells : List PlainCell) (vs : List Value) → IsDistinct cells [] vs (distinct cells [] vs)
distinct_is cells vs = let more = taken_more cells [] vs in subst (IsDistinct cells [] vs) (sym more.1.0) more.1.1
