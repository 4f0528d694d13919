-- What is left of a list without what equals an element of another.
use Rattle.std.proofs.Common.{◌≡◌, Bool, true, false, cond, not, ◌||◌, List, [], ◌∷◌, refl}
use Rattle.std.specs.List.{list_any}
use Rattle.std.proofs.lemmas.List.Folds.{Any-from_list_any}
use Rattle.dsl_value.specs.declared.value.Value.{Value}
use Rattle.dsl_ops.specs.Laws.{EqualsNone, IsWithout, ends, stays, goes}
use Rattle.dsl_ops.specs.Table.{without}

first : (a b : Bool) → (a || b) ≡ false → a ≡ false
first true b e = cc
first false b e = refl

second : (a b : Bool) → (a || b) ≡ false → b ≡ false
second true b e = cc
second false b e = e

none : (same : Value → Value → Bool) (ws : List Value) (v : Value) → list_any (λ w. same w v) ws ≡ false → EqualsNone same ws v
none same [] v e = tt
none same (w ∷ ws) v e = (first _ _ e, none same ws v (second _ _ e))

pub differs : (same : Value → Value → Bool) (left right : List Value) → IsWithout same right left (without same right left)
differs same [] right = ends
differs same (v ∷ left) right =
    elim (list_any (λ w. same w v) right) as (λ b. list_any (λ w. same w v) right ≡ b → IsWithout same right (v ∷ left) (cond (not b) (v ∷ without same right left) (without same right left))) [
      | true ↦ λ e. goes (Any-from_list_any (λ w. same w v) right e) (differs same left right)
      | false ↦ λ e. stays (none same right v e) (differs same left right)
    ] refl
