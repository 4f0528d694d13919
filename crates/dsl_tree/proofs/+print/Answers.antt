use Rattle.std.proofs.Common.{rules, ◌≡◌, ◌≢◌, ◌++◌, ◌∷◌, [], false, codes, subst, sym, ap, ◌∙◌, ℕ, length}
use Rattle.std.specs.Prelude.{OnOk, drop, ◌+◌}
use Rattle.std.proofs.lemmas.List.{drop_more}
use Rattle.std.specs.Arc.{arc_value}
use Rattle.dsl_syntax.specs.Syntax.{apply, while}
use Rattle.dsl_syntax.specs.SyntaxView.{expr_view, exprs_view, uses_view, steps_view, arms_view, stmts_view, stmt_kind_view, each_view, maybe_expr_view, maybe_each_view, base_view, block_view}
use Rattle.dsl_syntax.proofs.SyntaxKinds.{kind_while, kind_apply}
use Rattle.dsl_syntax.proofs.SyntaxRows.{func_fields, exprs_vec, uses_vec, steps_vec, arms_vec, stmts_vec}
use Rattle.dsl_tree.specs.Operators.{set_text}
use Rattle.dsl_tree.specs.Spelling.{expr_text, operand_text, exprs_text, params_text, uses_text, captures_text, steps_text, arms_text, else_text, loop_text, apply_name_text, apply_loop_text, target_text, root_text, stmts_text, stmt_kind_text, braced}
use Rattle.dsl_tree.proofs.Appends.{joined, regrouped}
use Rattle.dsl_tree.proofs.Lists.{uses_are, arms_turn}
use Rattle.dsl_tree.proofs.+print.Goals as goal

pub exprs::push_expr-returns-in_ok-push_operand-in-Call :
    goal.exprs::push_expr-returns-in_ok-push_operand-in-Call
exprs::push_expr-returns-in_ok-push_operand-in-Call t c =
    let called = operand_text (expr_view c.deref-in-Call.result.now) in
    let arguments = 40 ∷ (exprs_text false (exprs_view c.deref-in-Call-2.result.now) ++ 41 ∷ []) in
    rw (c.in-Call.is, exprs_vec c.in-Call.arguments, ← c.deref-in-Call-2.ensures.value, ← c.deref-in-Call.ensures)
    (joined c.push_arguments.result c.push_arguments.new.out c.push_operand-in-Call.new.out c.args.out.now called arguments c.in_ok-push_operand-in-Call.ensures c.push_arguments.ensures)

pub exprs::push_func-returns : goal.exprs::push_func-returns
exprs::push_func-returns t c =
    let params = params_text c.as_slice.result.now in
    let uses = uses_text (uses_view c.deref.result.now) in
    let block = 32 ∷ braced (stmts_text (stmts_view c.deref-2.result.now)) in
    rw (func_fields c.args.func.now, ← c.deref.ensures.value, ← c.deref-2.ensures.value, ← c.as_slice.ensures)
    (joined c.push_block.result c.push_block.new.out c.push_params.new.out c.args.out.now params (uses ++ block) c.in_ok-push_params.ensures
    (joined c.push_block.result c.push_block.new.out c.push_uses.new.out c.push_params.new.out uses block c.in_ok-push_uses.ensures c.push_block.ensures))

pub exprs::push_uses-returns : goal.exprs::push_uses-returns
exprs::push_uses-returns t c =
    let some : length c.args.uses.now ≢ 0 = search rules in
    rw (uses_are c.args.uses.now some)
    (joined c.push_captures.result c.push_captures.new.out c.push_str.new.self c.args.out.now (codes " use (") (captures_text false (uses_view c.args.uses.now)) c.in_ok-push_str.ensures.ok c.push_captures.ensures)

pub stmts::push_stmt-returns-in_ok-push_uses-in-Object :
    goal.stmts::push_stmt-returns-in_ok-push_uses-in-Object
stmts::push_stmt-returns-in_ok-push_uses-in-Object t c =
    let r = c.push_body.result in
    let new = c.push_body.new.out in
    let named = 32 ∷ expr_text (expr_view c.in-Object.name) in
    let uses = uses_text (uses_view c.deref.result.now) in
    let body = 32 ∷ braced (stmts_text (block_view c.deref-in-Object.result.now)) in
    rw (c.in-Object.is, uses_vec c.in-Object.uses, ← c.deref.ensures.value, ← c.deref-in-Object.ensures)
    (regrouped r new c.args.out.now (codes "object ") c.in-Object.kind named (uses ++ body)
    (joined r new c.push_head.new.out c.args.out.now (codes "object " ++ (c.in-Object.kind ++ named)) (uses ++ body) c.in_ok-push_head-in-Object.ensures
    (joined r new c.push_uses.new.out c.push_head.new.out uses body c.in_ok-push_uses-in-Object.ensures c.push_body.ensures)))

pub stmts::push_stmt-returns-in_ok-push_uses-in-Template :
    goal.stmts::push_stmt-returns-in_ok-push_uses-in-Template
stmts::push_stmt-returns-in_ok-push_uses-in-Template t c =
    let r = c.push_body-in-Template.result in
    let new = c.push_body-in-Template.new.out in
    let named = 32 ∷ expr_text (expr_view c.in-Template.name) in
    let uses = uses_text (uses_view c.deref-in-Template.result.now) in
    let body = 32 ∷ braced (stmts_text (block_view c.deref-in-Template-2.result.now)) in
    rw (c.in-Template.is, uses_vec c.in-Template.uses, ← c.deref-in-Template.ensures.value, ← c.deref-in-Template-2.ensures)
    (regrouped r new c.args.out.now (codes "template ") c.in-Template.kind named (uses ++ body)
    (joined r new c.push_head-in-Template.new.out c.args.out.now (codes "template " ++ (c.in-Template.kind ++ named)) (uses ++ body) c.in_ok-push_head-in-Template.ensures
    (joined r new c.push_uses-in-Template.new.out c.push_head-in-Template.new.out uses body c.in_ok-push_uses-in-Template.ensures c.push_body-in-Template.ensures)))

pub stmts::push_stmt-returns-in_ok-push_uses-in-Apply :
    goal.stmts::push_stmt-returns-in_ok-push_uses-in-Apply
stmts::push_stmt-returns-in_ok-push_uses-in-Apply t c =
    let r = c.push_body-in-Apply.result in
    let new = c.push_body-in-Apply.new.out in
    let named = apply_name_text (maybe_expr_view c.in-Apply.name) in
    let to = target_text c.in-Apply.to in
    let each = apply_loop_text (maybe_each_view c.in-Apply.each) in
    let uses = uses_text (uses_view c.deref-in-Apply.result.now) in
    let body = 32 ∷ braced (stmts_text (block_view c.deref-in-Apply-2.result.now)) in
    subst (λ k. OnOk r (new ≡ c.args.out.now ++ stmt_kind_text k))
    (sym
    (ap stmt_kind_view c.in-Apply.is ∙ kind_apply c.in-Apply.kind c.in-Apply.name c.in-Apply.to c.in-Apply.each c.in-Apply.uses c.in-Apply.body ∙
    ap (λ us. apply c.in-Apply.kind (maybe_expr_view c.in-Apply.name) c.in-Apply.to (maybe_each_view c.in-Apply.each) (uses_view us) (block_view (arc_value c.in-Apply.body))) (sym c.deref-in-Apply.ensures.value) ∙
    ap (λ b. apply c.in-Apply.kind (maybe_expr_view c.in-Apply.name) c.in-Apply.to (maybe_each_view c.in-Apply.each) (uses_view c.deref-in-Apply.result.now) (block_view b)) (sym c.deref-in-Apply-2.ensures)))
    (regrouped r new c.args.out.now (codes "apply ") c.in-Apply.kind named (to ++ (each ++ (uses ++ body)))
    (joined r new c.push_apply.new.out c.args.out.now (codes "apply " ++ (c.in-Apply.kind ++ named)) (to ++ (each ++ (uses ++ body))) c.in_ok-push_apply-in-Apply.ensures
    (joined r new c.push_target.new.out c.push_apply.new.out to (each ++ (uses ++ body)) c.in_ok-push_target-in-Apply.ensures
    (joined r new c.push_apply_loop.new.out c.push_target.new.out each (uses ++ body) c.in_ok-push_apply_loop-in-Apply.ensures
    (joined r new c.push_uses-in-Apply.new.out c.push_apply_loop.new.out uses body c.in_ok-push_uses-in-Apply.ensures c.push_body-in-Apply.ensures)))))

pub stmts::push_stmt-returns-in-Assign : goal.stmts::push_stmt-returns-in-Assign
stmts::push_stmt-returns-in-Assign t c = rw c.in-Assign.is c.push_behind.ensures

pub stmts::push_stmt-returns-in_ok-push_steps-in-Set :
    goal.stmts::push_stmt-returns-in_ok-push_steps-in-Set
stmts::push_stmt-returns-in_ok-push_steps-in-Set t c =
    let r = c.push_assigned.result in
    let new = c.push_assigned.new.out in
    let root = root_text (base_view c.in-Set.base) in
    let steps = steps_text (steps_view c.deref-in-Set.result.now) in
    let given = 32 ∷ (set_text c.in-Set.op ++ 32 ∷ expr_text (expr_view c.in-Set.expr)) in
    rw (c.in-Set.is, steps_vec c.in-Set.steps, ← c.deref-in-Set.ensures.value)
    (joined r new c.push_base.new.out c.args.out.now root (steps ++ given) c.in_ok-push_base-in-Set.ensures
    (joined r new c.push_steps.new.out c.push_base.new.out steps given c.in_ok-push_steps-in-Set.ensures c.push_assigned.ensures))

pub stmts::push_stmt-returns-in_ok-push_arms-in-If :
    goal.stmts::push_stmt-returns-in_ok-push_arms-in-If
stmts::push_stmt-returns-in_ok-push_arms-in-If t c =
    let arms = arms_text false (arms_view c.deref-in-If.result.now) in
    let other = else_text (stmts_view c.deref-in-If-2.result.now) in
    rw (c.in-If.is, arms_vec c.in-If.arms, stmts_vec c.in-If.other, ← c.deref-in-If.ensures.value, ← c.deref-in-If-2.ensures.value)
    (joined c.push_else.result c.push_else.new.out c.push_arms.new.out c.args.out.now arms other c.in_ok-push_arms-in-If.ensures c.push_else.ensures)

pub stmts::push_stmt-returns-in_ok-push_behind-in-While :
    goal.stmts::push_stmt-returns-in_ok-push_behind-in-While
stmts::push_stmt-returns-in_ok-push_behind-in-While t c =
    let head = codes "while (" ++ expr_text (expr_view c.in-While.cond) in
    let block = codes ") " ++ braced (stmts_text (stmts_view c.deref-in-While.result.now)) in
    subst (λ k. OnOk c.push_block.result (c.push_block.new.out ≡ c.args.out.now ++ stmt_kind_text k))
    (sym (ap stmt_kind_view c.in-While.is ∙ kind_while c.in-While.cond c.in-While.block ∙ ap (λ ss. while (expr_view c.in-While.cond) (stmts_view ss)) (sym c.deref-in-While.ensures.value)))
    (joined c.push_block.result c.push_block.new.out c.push_behind-in-While.new.out c.args.out.now head block c.in_ok-push_behind-in-While.ensures c.push_block.ensures)

pub stmts::push_stmt-returns-in_ok-push_loop-in-For :
    goal.stmts::push_stmt-returns-in_ok-push_loop-in-For
stmts::push_stmt-returns-in_ok-push_loop-in-For t c =
    let head = codes "for " ++ loop_text (each_view c.in-For.each) in
    let block = codes " " ++ braced (stmts_text (stmts_view c.deref-in-For.result.now)) in
    rw (c.in-For.is, stmts_vec c.in-For.block, ← c.deref-in-For.ensures.value)
    (joined c.push_block-in-For.result c.push_block-in-For.new.out c.push_loop.new.out c.args.out.now head block c.in_ok-push_loop-in-For.ensures c.push_block-in-For.ensures)

pub stmts::push_arms-loop-i-preserved : goal.stmts::push_arms-loop-i-preserved
stmts::push_arms-loop-i-preserved t c =
    arms_turn c.loop-i.out _ c.push_arm.new.out c.args.arms.now c.loop-i.i c.index-arms-i.result (drop_more c.args.arms.now c.loop-i.i c.index-arms-i.result c.loop-i-test.true ∙ ap (λ x. x ∷ drop (c.loop-i.i + 1) c.args.arms.now) (sym c.index-arms-i.is)) c.loop-i.invariant c.in_ok-push_arm.ensures
