-- The parts of a key stand one after another.
use Rattle.std.proofs.Common.{◌≡◌, ◌++◌, ◌∷◌, subst, sym, ap, ◌∙◌}
use Rattle.std.specs.Prelude.{OnOk, drop, ◌+◌}
use Rattle.std.proofs.lemmas.List.{drop_more}
use Rattle.std.specs.Arc.{arc_value}
use Rattle.dsl_syntax.specs.Syntax.{apply, while}
use Rattle.dsl_syntax.specs.SyntaxView.{arms_view, base_view, block_view, each_view, expr_view, exprs_view, maybe_each_view, maybe_expr_view, stmt_kind_view, stmts_view, steps_view, uses_view}
use Rattle.dsl_syntax.proofs.SyntaxKinds.{kind_apply, kind_while}
use Rattle.dsl_syntax.proofs.SyntaxRows.{arms_vec, exprs_vec, func_fields, steps_vec, stmts_vec, uses_vec}
use Rattle.task_keys.specs.Keys.{maybe_text_key, text_key, texts_key}
use Rattle.task_keys.specs.Operators.{set_number}
use Rattle.task_keys.specs.SyntaxKeys.{arms_key, expression_key, expressions_key, loop_key, maybe_key, maybe_loop_key, root_key, statement_kind_key, statements_key, steps_key, uses_key}
use Rattle.task_keys.proofs.Arms.{arms_turn}
use Rattle.task_keys.proofs.Appends.{joined, joined_after, regrouped}
use Rattle.task_keys.proofs.+write.Goals as goal

pub exprs::push_expr-returns-in_ok-push_after-in-Call : goal.exprs::push_expr-returns-in_ok-push_after-in-Call
exprs::push_expr-returns-in_ok-push_after-in-Call t c =
    let called = expression_key (expr_view c.deref-in-Call.result.now) in
    let arguments = expressions_key (exprs_view c.deref-in-Call-2.result.now) in
    rw (c.in-Call.is, exprs_vec c.in-Call.arguments, ← c.deref-in-Call-2.ensures.value, ← c.deref-in-Call.ensures)
    (joined_after c.push_exprs.result c.push_exprs.new.out c.push_after-in-Call.new.out c.args.out.now 11 called arguments c.in_ok-push_after-in-Call.ensures c.push_exprs.ensures)

pub exprs::push_func-returns : goal.exprs::push_func-returns
exprs::push_func-returns t c =
    let params = texts_key c.as_slice.result.now in
    let uses = uses_key (uses_view c.deref.result.now) in
    let body = statements_key (stmts_view c.deref-2.result.now) in
    rw (func_fields c.args.func.now, ← c.deref.ensures.value, ← c.deref-2.ensures.value, ← c.as_slice.ensures)
    (joined c.push_statements.result c.push_statements.new.out c.push_texts.new.self c.args.out.now params (uses ++ body) c.in_ok-push_texts.ensures
    (joined c.push_statements.result c.push_statements.new.out c.push_uses.new.out c.push_texts.new.self uses body c.in_ok-push_uses.ensures c.push_statements.ensures))

pub stmts::push_statement-returns-in_ok-push_uses-in-Object : goal.stmts::push_statement-returns-in_ok-push_uses-in-Object
stmts::push_statement-returns-in_ok-push_uses-in-Object t c =
    let r = c.push_body.result in
    let new = c.push_body.new.out in
    let kind = text_key c.in-Object.kind in
    let name = expression_key (expr_view c.in-Object.name) in
    let uses = uses_key (uses_view c.deref.result.now) in
    let body = statements_key (block_view c.deref-in-Object.result.now) in
    rw (c.in-Object.is, uses_vec c.in-Object.uses, ← c.deref.ensures.value, ← c.deref-in-Object.ensures)
    (regrouped r new c.args.out.now 0 kind name (uses ++ body)
    (joined_after r new c.push_head.new.out c.args.out.now 0 (kind ++ name) (uses ++ body) c.in_ok-push_head-in-Object.ensures
    (joined r new c.push_uses.new.out c.push_head.new.out uses body c.in_ok-push_uses-in-Object.ensures c.push_body.ensures)))

pub stmts::push_statement-returns-in_ok-push_uses-in-Template : goal.stmts::push_statement-returns-in_ok-push_uses-in-Template
stmts::push_statement-returns-in_ok-push_uses-in-Template t c =
    let r = c.push_body-in-Template.result in
    let new = c.push_body-in-Template.new.out in
    let kind = text_key c.in-Template.kind in
    let name = expression_key (expr_view c.in-Template.name) in
    let uses = uses_key (uses_view c.deref-in-Template.result.now) in
    let body = statements_key (block_view c.deref-in-Template-2.result.now) in
    rw (c.in-Template.is, uses_vec c.in-Template.uses, ← c.deref-in-Template.ensures.value, ← c.deref-in-Template-2.ensures)
    (regrouped r new c.args.out.now 1 kind name (uses ++ body)
    (joined_after r new c.push_head-in-Template.new.out c.args.out.now 1 (kind ++ name) (uses ++ body) c.in_ok-push_head-in-Template.ensures
    (joined r new c.push_uses-in-Template.new.out c.push_head-in-Template.new.out uses body c.in_ok-push_uses-in-Template.ensures c.push_body-in-Template.ensures)))

pub stmts::push_statement-returns-in_ok-push_uses-in-Apply : goal.stmts::push_statement-returns-in_ok-push_uses-in-Apply
stmts::push_statement-returns-in_ok-push_uses-in-Apply t c =
    let r = c.push_body-in-Apply.result in
    let new = c.push_body-in-Apply.new.out in
    let kind = text_key c.in-Apply.kind in
    let name = maybe_key (maybe_expr_view c.in-Apply.name) in
    let to = maybe_text_key c.in-Apply.to in
    let each = maybe_loop_key (maybe_each_view c.in-Apply.each) in
    let uses = uses_key (uses_view c.deref-in-Apply.result.now) in
    let body = statements_key (block_view c.deref-in-Apply-2.result.now) in
    subst (λ k. OnOk r (new ≡ c.args.out.now ++ statement_kind_key k))
    (sym
    (ap stmt_kind_view c.in-Apply.is ∙ kind_apply c.in-Apply.kind c.in-Apply.name c.in-Apply.to c.in-Apply.each c.in-Apply.uses c.in-Apply.body
    ∙ ap (λ us. apply c.in-Apply.kind (maybe_expr_view c.in-Apply.name) c.in-Apply.to (maybe_each_view c.in-Apply.each) (uses_view us) (block_view (arc_value c.in-Apply.body))) (sym c.deref-in-Apply.ensures.value)
    ∙ ap (λ b. apply c.in-Apply.kind (maybe_expr_view c.in-Apply.name) c.in-Apply.to (maybe_each_view c.in-Apply.each) (uses_view c.deref-in-Apply.result.now) (block_view b)) (sym c.deref-in-Apply-2.ensures)))
    (regrouped r new c.args.out.now 2 kind name (to ++ (each ++ (uses ++ body)))
    (joined_after r new c.push_apply.new.out c.args.out.now 2 (kind ++ name) (to ++ (each ++ (uses ++ body))) c.in_ok-push_apply-in-Apply.ensures
    (joined r new c.push_maybe_text.new.self c.push_apply.new.out to (each ++ (uses ++ body)) c.in_ok-push_maybe_text-in-Apply.ensures
    (joined r new c.push_maybe_each.new.out c.push_maybe_text.new.self each (uses ++ body) c.in_ok-push_maybe_each-in-Apply.ensures
    (joined r new c.push_uses-in-Apply.new.out c.push_maybe_each.new.out uses body c.in_ok-push_uses-in-Apply.ensures c.push_body-in-Apply.ensures)))))

pub stmts::push_statement-returns-in_ok-push_steps-in-Set : goal.stmts::push_statement-returns-in_ok-push_steps-in-Set
stmts::push_statement-returns-in_ok-push_steps-in-Set t c =
    let root = root_key (base_view c.in-Set.base) in
    let steps = steps_key (steps_view c.deref-in-Set.result.now) in
    let given = set_number c.in-Set.op ∷ expression_key (expr_view c.in-Set.expr) in
    let last = subst (λ n. OnOk c.push_after-in-Set.result (c.push_after-in-Set.new.out ≡ c.push_steps.new.out ++ n ∷ expression_key (expr_view c.in-Set.expr))) c.set_number.ensures c.push_after-in-Set.ensures in
    rw (c.in-Set.is, steps_vec c.in-Set.steps, ← c.deref-in-Set.ensures.value)
    (joined_after c.push_after-in-Set.result c.push_after-in-Set.new.out c.push_base.new.out c.args.out.now 13 root (steps ++ given) c.in_ok-push_base-in-Set.ensures
    (joined c.push_after-in-Set.result c.push_after-in-Set.new.out c.push_steps.new.out c.push_base.new.out steps given c.in_ok-push_steps-in-Set.ensures last))

pub stmts::push_statement-returns-in_ok-push_arms-in-If : goal.stmts::push_statement-returns-in_ok-push_arms-in-If
stmts::push_statement-returns-in_ok-push_arms-in-If t c =
    let arms = arms_key (arms_view c.deref-in-If.result.now) in
    let other = statements_key (stmts_view c.deref-in-If-2.result.now) in
    rw (c.in-If.is, arms_vec c.in-If.arms, stmts_vec c.in-If.other, ← c.deref-in-If.ensures.value, ← c.deref-in-If-2.ensures.value)
    (joined_after c.push_statements.result c.push_statements.new.out c.push_arms.new.out c.args.out.now 14 arms other c.in_ok-push_arms-in-If.ensures c.push_statements.ensures)

pub stmts::push_statement-returns-in_ok-push_after-in-While : goal.stmts::push_statement-returns-in_ok-push_after-in-While
stmts::push_statement-returns-in_ok-push_after-in-While t c =
    let head = expression_key (expr_view c.in-While.cond) in
    let block = statements_key (stmts_view c.deref-in-While.result.now) in
    subst (λ k. OnOk c.push_statements-in-While.result (c.push_statements-in-While.new.out ≡ c.args.out.now ++ statement_kind_key k))
    (sym (ap stmt_kind_view c.in-While.is ∙ kind_while c.in-While.cond c.in-While.block ∙ ap (λ ss. while (expr_view c.in-While.cond) (stmts_view ss)) (sym c.deref-in-While.ensures.value)))
    (joined_after c.push_statements-in-While.result c.push_statements-in-While.new.out c.push_after-in-While.new.out c.args.out.now 15 head block c.in_ok-push_after-in-While.ensures c.push_statements-in-While.ensures)

pub stmts::push_statement-returns-in_ok-push_loop-in-For : goal.stmts::push_statement-returns-in_ok-push_loop-in-For
stmts::push_statement-returns-in_ok-push_loop-in-For t c =
    let head = loop_key (each_view c.in-For.each) in
    let block = statements_key (stmts_view c.deref-in-For.result.now) in
    rw (c.in-For.is, stmts_vec c.in-For.block, ← c.deref-in-For.ensures.value)
    (joined_after c.push_statements-in-For.result c.push_statements-in-For.new.out c.push_loop.new.out c.args.out.now 16 head block c.in_ok-push_loop-in-For.ensures c.push_statements-in-For.ensures)

pub stmts::push_arms-loop-arm-preserved : goal.stmts::push_arms-loop-arm-preserved
stmts::push_arms-loop-arm-preserved t c =
    let i = c.loop-arm.arm-index in
    let here = drop_more c.args.arms.now i c.arm-item.result c.loop-arm-test.true ∙ ap (λ x. x ∷ drop (i + 1) c.args.arms.now) (sym c.arm-item.is) in
    arms_turn c.loop-arm.out _ c.push_arm.new.out c.args.arms.now i c.arm-item.result here c.loop-arm.invariant c.in_ok-push_arm.ensures
