-- The key of arms, one after another.
use Rattle.std.proofs.Common.{◌≡◌, ◌+◌, ℕ, List, ◌∷◌, ◌++◌, drop, sym, ap, ◌∙◌, append_assoc}
use Rattle.dsl_syntax.specs.Syntax.{Arms}
use Rattle.dsl_syntax.specs.SyntaxView.{arm_then, arms_view, expr_view, stmts_view}
use Rattle.dsl_syntax.specs.declared.arm.Arm.{Arm, out-Arm}
use Rattle.dsl_syntax.proofs.SyntaxRows.{arm_fields}
use Rattle.task_keys.specs.SyntaxKeys.{arms_key, expression_key, statements_key}

pub one_arm : (a : Arm) (more : Arms) → arms_key (arm_then a more) ≡ 1 ∷ (expression_key (expr_view (out-Arm a).cond) ++ statements_key (stmts_view (out-Arm a).block.items)) ++ arms_key more
one_arm a more =
    rw (arm_fields a more)
    (ap (λ x. 1 ∷ x) (sym (append_assoc (expression_key (expr_view (out-Arm a).cond)) (statements_key (stmts_view (out-Arm a).block.items)) (arms_key more))))

-- one arm more stands
pub arms_turn : (out whole new : List ℕ) (arms : List Arm) (i : ℕ) (a : Arm) → drop i arms ≡ a ∷ drop (i + 1) arms → out ++ arms_key (arms_view (drop i arms)) ≡ whole
    → new ≡ out ++ 1 ∷ (expression_key (expr_view (out-Arm a).cond) ++ statements_key (stmts_view (out-Arm a).block.items)) → new ++ arms_key (arms_view (drop (i + 1) arms)) ≡ whole
arms_turn out whole new arms i a here before added =
    let arm : List ℕ = 1 ∷ (expression_key (expr_view (out-Arm a).cond) ++ statements_key (stmts_view (out-Arm a).block.items)) in
    let rest : List ℕ = arms_key (arms_view (drop (i + 1) arms)) in
    let split : arms_key (arms_view (drop i arms)) ≡ arm ++ rest = ap (λ l. arms_key (arms_view l)) here ∙ one_arm a (arms_view (drop (i + 1) arms)) in
    ap (λ n. n ++ rest) added ∙ (append_assoc out arm rest ∙ (ap (λ x. out ++ x) (sym split) ∙ before))
