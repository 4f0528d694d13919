-- Lists that aren't empty, as the code prints them.
use Rattle.std.proofs.Common.{rules, ◌≡◌, ◌≢◌, ℕ, ◌+◌, ◌<◌, List, [], ◌∷◌, ◌++◌, length, drop, Option, Some, Bool, true, false, nat_lt, codes, refl, append_assoc, sym, ap, ◌∙◌}
use Rattle.std.specs.List.{slice_get}
use Rattle.std.proofs.lemmas.List.{drop_more}
use Rattle.std.proofs.lemmas.Option.{slice_get_within}
use Rattle.dsl_syntax.specs.Syntax.{Arms}
use Rattle.dsl_syntax.specs.SyntaxView.{expr_view, uses_view, stmts_view, arms_view, arm_then}
use Rattle.dsl_syntax.specs.declared.arm.Arm.{Arm, out-Arm}
use Rattle.dsl_syntax.specs.declared.stmt.Stmt.{Stmt}
use Rattle.dsl_syntax.specs.declared.used.Use.{Use}
use Rattle.dsl_syntax.proofs.SyntaxRows.{use_fields, arm_fields}
use Rattle.dsl_tree.specs.Spelling.{expr_text, else_if, arm_text, arms_text, uses_text, captures_text, else_text, stmts_text, braced}

pub uses_are : (us : List Use) → length us ≢ 0 → uses_text (uses_view us) ≡ codes " use (" ++ captures_text false (uses_view us)
uses_are [] some = absurd (some refl)
uses_are (u ∷ us) some = rw (use_fields u (uses_view us)) refl

pub else_is : (ss : List Stmt) → length ss ≢ 0 → else_text (stmts_view ss) ≡ codes " else " ++ braced (stmts_text (stmts_view ss))
else_is [] some = absurd (some refl)
else_is (s ∷ ss) some = refl

pub arms_behind : (later : Bool) (a : Arm) (more : Arms) → arms_text later (arm_then a more) ≡ else_if later ++ (arm_text (expr_text (expr_view (out-Arm a).cond)) (stmts_text (stmts_view (out-Arm a).block.items)) ++ arms_text true more)
arms_behind later a more = rw (arm_fields a more) refl

later : (i : ℕ) → nat_lt 0 (i + 1) ≡ true
later i = search rules

-- one arm more stands
pub arms_turn : (out whole new : List ℕ) (arms : List Arm) (i : ℕ) (a : Arm) → drop i arms ≡ a ∷ drop (i + 1) arms → out ++ arms_text (nat_lt 0 i) (arms_view (drop i arms)) ≡ whole → new ≡ out ++ (else_if (nat_lt 0 i) ++ arm_text (expr_text (expr_view (out-Arm a).cond)) (stmts_text (stmts_view (out-Arm a).block.items))) → new ++ arms_text (nat_lt 0 (i + 1)) (arms_view (drop (i + 1) arms)) ≡ whole
arms_turn out whole new arms i a here before added =
    let word = else_if (nat_lt 0 i) in
    let arm = arm_text (expr_text (expr_view (out-Arm a).cond)) (stmts_text (stmts_view (out-Arm a).block.items)) in
    let rest = arms_text true (arms_view (drop (i + 1) arms)) in
    let split = ap (λ l. arms_text (nat_lt 0 i) (arms_view l)) here ∙ arms_behind (nat_lt 0 i) a (arms_view (drop (i + 1) arms)) in
    ap (λ b. new ++ arms_text b (arms_view (drop (i + 1) arms))) (later i) ∙ ap (λ n. n ++ rest) added ∙ append_assoc out (word ++ arm) rest ∙ ap (λ x. out ++ x) (append_assoc word arm rest ∙ sym split) ∙ before
