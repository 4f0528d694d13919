-- Answers for the goals of the evaluation that are left.
use Rattle.std.proofs.Common.{rules, arith, suc, subst, length, ℕ, List, Vec, Global, Bool, true, false, Option, Some, Err, ◌≡◌, ◌+◌, ◌-◌, ◌++◌, [], ◌∷◌, drop, refl, sym, ap, ◌∙◌}
use Rattle.std.specs.Prelude.{unwrap_or, option_map}
use Rattle.std.specs.Arc.{arc_value}
use Rattle.std.proofs.lemmas.List.{drop_more}
use Rattle.dsl_syntax.specs.Syntax.{expression}
use Rattle.dsl_syntax.specs.SyntaxView.{expr_view, exprs_view, entries_view, uses_view, stmts_view, arms_view, steps_view, expr_kind_view, stmt_kind_view, maybe_expr_view, block_view, base_view, each_view, maybe_each_view}
use Rattle.dsl_syntax.specs.declared.expr_kind.ExprKind.TheViews.{out-Use, out-Func, out-Block}
use Rattle.dsl_syntax.proofs.SyntaxRows.{block_fields}
use Rattle.dsl_syntax.proofs.SyntaxKinds.{kind_array, kind_dict, kind_call, kind_object, kind_template, kind_apply, kind_const, kind_set, kind_if, kind_while, kind_for}
use Rattle.dsl_value.specs.declared.value.Value.{Value}
use Rattle.dsl_value.specs.declared.value.Value.TheVariants as value
use Rattle.dsl_value.specs.Pairs.{Pairs}
use Rattle.eval_meaning.specs.States.{gives}
use Rattle.eval_meaning.specs.Frames.{in_frame as framed}
use Rattle.eval_meaning.specs.Calls.{call_with}
use Rattle.eval_meaning.specs.Targets.{set_with}
use Rattle.eval_meaning.specs.Flow.{while_with, for_with}
use Rattle.eval_meaning.specs.Registration.{loading, apply_rule_with}
use Rattle.eval_meaning.specs.declared.callee.Callee.{Callee}
use Rattle.eval_meaning.specs.declared.flow.Flow.{Flow}
use Rattle.eval_meaning.specs.declared.flow.Flow.TheVariants as flow
use Rattle.load_work.specs.Orders.{Begins, next_number}
use Rattle.load_work.specs.Imports.{plain_imported}
use Rattle.eval_work.specs.Works.{placed_name}
use Rattle.eval_steps.specs.Values.{maybe_value}
use Rattle.eval_steps.specs.Frames.{plain_prepared}
use Rattle.eval_steps.specs.Named.{CalledNamed}
use Rattle.eval_steps.specs.Visiting.{plain_visited, visit_with, with_item}
use Rattle.eval_steps.specs.Registering.{named_with}
use Rattle.eval_steps.specs.declared.calls.Called.TheVariants as called
use Rattle.eval_steps.specs.declared.loops.Turn.{Turn}
use Rattle.eval_steps.specs.declared.registering.Sort.TheVariants as sorts
use Rattle.eval_meaning.specs.Evaluation.{expression_with, statement_kind_with}
use Rattle.eval_meaning.specs.Literals.{values_with, pairs_with}
use Rattle.eval_meaning.specs.Functions.{captured_with, apply_with}
use Rattle.eval_meaning.specs.Targets.{keys_with}
use Rattle.eval_meaning.specs.Flow.{block_with, arms_with}
use Rattle.eval_meaning.specs.Files.{files_with}
use Rattle.eval_meaning.specs.Visits.{mapped, filtered}
use Rattle.eval_work.specs.Works.{state_of, view_of}
use Rattle.eval_work.specs.Kept.{Named, NamedAll}
use Rattle.name_work.proofs.Handing.{handed_on}
use Rattle.eval_work.proofs.Later.{names_later, all_later, pairs_later, told_later, later_later}
use Rattle.dsl_eval.specs.Nodes.{parts}
use Rattle.eval_steps.proofs.Chains.{goes_on, goes_to, by_same, as_stop}
use Rattle.eval_steps.proofs.Entering.{value_node, callee_node, statement_node}
use Rattle.eval_steps.proofs.Same.{apply_same, visits_same, const_same, object_same, template_same, prefix_same}
use Rattle.eval_steps.proofs.Turns.{at_turn, turned, stopped, values_turn, pairs_turn, captured_turn, keys_turn, arm_turn, used_gives, used_stops_behind, mapped_turn, filtered_turn, while_turn, files_turn, array_turn, dict_turn, function_turn, arm_taken, arm_left, map_turn, filter_turn, any_turn, all_turn, for_start, rule_start, rule_turn, import_start, import_turn, include_start, file_turn}
use Rattle.eval_steps.proofs.Held.{kept_pushed, kept_filtered, pairs_pushed, named_at, own_named, called_named}
use Rattle.dsl_eval.proofs.+eval.Goals as goal

pub expressions::eval_at-returns-in_err-below-clause-gives : goal.expressions::eval_at-returns-in_err-below-clause-gives
expressions::eval_at-returns-in_err-below-clause-gives t c =
    handed_on _ c.from_residual.result c.in_err-below.field-0.0 (state_of c.enter.new.work) _ c.from_residual.ensures.1
    (stopped (λ (d : ℕ). d) (λ (v : Value). v) _ _ _ _ _ _ (value_node (view_of c.args.view.now) c.args.depth (expr_view c.args.expr.now) (state_of c.args.work.now)) refl c.in_err-below.ensures.gives)

pub expressions::eval_at-returns-clause-gives : goal.expressions::eval_at-returns-clause-gives
expressions::eval_at-returns-clause-gives t c =
    goes_on _ _ _ _ _ _ c.eval_kind.result (state_of c.eval_kind.new.work) (value_node (view_of c.args.view.now) c.args.depth (expr_view c.args.expr.now) (state_of c.args.work.now)) c.in_ok-below.ensures.gives c.eval_kind.ensures.gives

pub calls::eval_callee-returns-in_err-below-clause-gives : goal.calls::eval_callee-returns-in_err-below-clause-gives
calls::eval_callee-returns-in_err-below-clause-gives t c =
    handed_on _ c.from_residual.result c.in_err-below.field-0.0 (state_of c.enter.new.work) _ c.from_residual.ensures.1
    (stopped (λ (d : ℕ). d) (λ (f : Callee). f) _ _ _ _ _ _ (callee_node (view_of c.args.view.now) c.args.depth (expr_view c.args.expr.now) (state_of c.args.work.now)) refl c.in_err-below.ensures.gives)

pub calls::eval_callee-returns-clause-gives : goal.calls::eval_callee-returns-clause-gives
calls::eval_callee-returns-clause-gives t c =
    goes_on _ _ _ _ _ _ c.eval_callee_kind.result (state_of c.eval_callee_kind.new.work) (callee_node (view_of c.args.view.now) c.args.depth (expr_view c.args.expr.now) (state_of c.args.work.now)) c.in_ok-below.ensures.gives c.eval_callee_kind.ensures.gives

pub statements::run_statement-returns-in_err-below-clause-gives : goal.statements::run_statement-returns-in_err-below-clause-gives
statements::run_statement-returns-in_err-below-clause-gives t c =
    handed_on _ c.from_residual.result c.in_err-below.field-0.0 (state_of c.enter.new.work) _ c.from_residual.ensures.1
    (stopped (λ (d : ℕ). d) (λ (f : Flow). f) _ _ _ _ _ _ (statement_node (view_of c.args.view.now) c.args.depth c.args.statement.now.place (stmt_kind_view c.args.statement.now.kind) (state_of c.args.work.now) c.is_passed.result c.is_passed.ensures c.if-is_passed.false) refl c.in_err-below.ensures.gives)

pub statements::run_statement-returns-clause-gives : goal.statements::run_statement-returns-clause-gives
statements::run_statement-returns-clause-gives t c =
    goes_on _ _ _ _ _ _ c.run_kind.result (state_of c.run_kind.new.work) (statement_node (view_of c.args.view.now) c.args.depth c.args.statement.now.place (stmt_kind_view c.args.statement.now.kind) (state_of c.args.work.now) c.is_passed.result c.is_passed.ensures c.if-is_passed.false) c.in_ok-below.ensures.gives c.run_kind.ensures.gives

pub expressions::eval_values-eval_at-requires : goal.expressions::eval_values-eval_at-requires
expressions::eval_values-eval_at-requires t c =
    (search rules, (c.loop-expr.invariant.1.fit, (told_later c.args.view.now _ _ c.loop-expr.invariant.1.later c.requires.told)))

pub expressions::eval_values-loop-expr-preserved : goal.expressions::eval_values-loop-expr-preserved
expressions::eval_values-loop-expr-preserved t c = (
  ap (λ us. values_with (parts c.args.view.now c.args.depth) (exprs_view (drop (c.loop-expr.expr-index + 1) c.args.exprs.now)) us (state_of c.eval_at.new.work)) c.in_ok-push.ensures.items
      ∙ turned _ _ _ _ _ _ (values_turn (parts c.args.view.now c.args.depth) c.args.exprs.now c.loop-expr.expr-index c.expr-item.result c.loop-expr.all.items (state_of c.loop-expr.work) (at_turn c.args.exprs.now c.loop-expr.expr-index _ c.expr-item.result (drop_more c.args.exprs.now c.loop-expr.expr-index c.expr-item.result c.loop-expr-test.true) c.expr-item.is)) c.in_ok-value.ensures.gives c.loop-expr.invariant.0,
  kept_pushed _ c.loop-expr.work c.eval_at.new.work c.loop-expr.all.items _ c.in_ok-value.value c.loop-expr.invariant.1 c.in_ok-value.ensures.kept c.in_ok-push.ensures.items,
)

pub expressions::eval_pairs-eval_at-requires : goal.expressions::eval_pairs-eval_at-requires
expressions::eval_pairs-eval_at-requires t c =
    (search rules, (c.loop-key.invariant.1.fit, (told_later c.args.view.now _ _ c.loop-key.invariant.1.later c.requires.told)))

pub expressions::eval_pairs-loop-key-preserved : goal.expressions::eval_pairs-loop-key-preserved
expressions::eval_pairs-loop-key-preserved t c =
    let pushed = c.in_ok-push.ensures.items ∙ ap (λ k. c.loop-key.all.items ++ (k, c.in_ok-value.value) ∷ []) c.in_ok-key.ensures.cases in (
      ap (λ us. pairs_with (parts c.args.view.now c.args.depth) (entries_view (drop (c.loop-key.key-index + 1) c.args.pairs.now)) us (state_of c.eval_at.new.work)) pushed
          ∙ turned _ _ _ _ _ _ (pairs_turn (parts c.args.view.now c.args.depth) c.args.pairs.now c.loop-key.key-index c.loop-key-item.result c.loop-key.all.items (state_of c.loop-key.work) (at_turn c.args.pairs.now c.loop-key.key-index _ c.loop-key-item.result (drop_more c.args.pairs.now c.loop-key.key-index c.loop-key-item.result c.loop-key-test.true) c.loop-key-item.is)) c.in_ok-value.ensures.gives c.loop-key.invariant.0,
      pairs_pushed _ c.loop-key.work c.eval_at.new.work c.loop-key.all.items _ c.loop-key-item.result.0 c.in_ok-value.value c.loop-key.invariant.1 c.in_ok-value.ensures.kept pushed,
    )

pub expressions::eval_index-eval_at-requires-2 : goal.expressions::eval_index-eval_at-requires-2
expressions::eval_index-eval_at-requires-2 t c =
    (search rules, (c.in_ok-value.ensures.kept.fit, (told_later c.args.view.now _ _ c.in_ok-value.ensures.kept.later c.requires.told)))

pub expressions::eval_binary-eval_right-requires : goal.expressions::eval_binary-eval_right-requires
expressions::eval_binary-eval_right-requires t c =
    (search rules, (c.in_ok-left.ensures.kept.fit, ((told_later c.args.view.now _ _ c.in_ok-left.ensures.kept.later c.requires.told), c.in_ok-left.ensures.kept.named)))

pub expressions::eval_kind-returns-in_err-values-in-Array-clause-gives : goal.expressions::eval_kind-returns-in_err-values-in-Array-clause-gives
expressions::eval_kind-returns-in_err-values-in-Array-clause-gives t c =
    handed_on _ c.from_residual.result c.in_err-values-in-Array.field-0.0 (state_of c.eval_values.new.work) _ c.from_residual.ensures.1
    (stopped (λ (v : Vec Value Global). v.items) (λ (v : Value). v) _ _ _ _ _ _ (ap (λ k. expression_with (view_of c.args.view.now) (parts c.args.view.now c.args.depth) (expression c.args.expr.now.place k) (state_of c.args.work.now)) (ap expr_kind_view c.in-Array.is ∙ kind_array c.in-Array.items) ∙ array_turn (parts c.args.view.now c.args.depth) c.args.expr.now.place (exprs_view c.in-Array.items.items) (state_of c.args.work.now)) refl (by_same (λ (v : Vec Value Global). v.items) _ _ (Err c.in_err-values-in-Array.field-0.0) (state_of c.eval_values.new.work) (sym (ap (λ es. values_with (parts c.args.view.now c.args.depth) (exprs_view es) c.new.result.items (state_of c.args.work.now)) c.deref.ensures.value ∙ ap (λ vs. values_with (parts c.args.view.now c.args.depth) (exprs_view c.in-Array.items.items) vs (state_of c.args.work.now)) c.new.ensures.items)) c.in_err-values-in-Array.ensures.gives))

pub expressions::eval_kind-returns-in_ok-values-in-Array-clause-gives : goal.expressions::eval_kind-returns-in_ok-values-in-Array-clause-gives
expressions::eval_kind-returns-in_ok-values-in-Array-clause-gives t c =
    goes_on _ _ _ _ _ _ c.make_array.result (state_of c.make_array.new.self) (ap (λ k. expression_with (view_of c.args.view.now) (parts c.args.view.now c.args.depth) (expression c.args.expr.now.place k) (state_of c.args.work.now)) (ap expr_kind_view c.in-Array.is ∙ kind_array c.in-Array.items) ∙ array_turn (parts c.args.view.now c.args.depth) c.args.expr.now.place (exprs_view c.in-Array.items.items) (state_of c.args.work.now)) (sym (ap (λ es. values_with (parts c.args.view.now c.args.depth) (exprs_view es) c.new.result.items (state_of c.args.work.now)) c.deref.ensures.value ∙ ap (λ vs. values_with (parts c.args.view.now c.args.depth) (exprs_view c.in-Array.items.items) vs (state_of c.args.work.now)) c.new.ensures.items) ∙ c.in_ok-values-in-Array.ensures.gives) c.make_array.ensures.gives

pub expressions::eval_kind-returns-in_err-pairs-in-Dict-clause-gives : goal.expressions::eval_kind-returns-in_err-pairs-in-Dict-clause-gives
expressions::eval_kind-returns-in_err-pairs-in-Dict-clause-gives t c =
    handed_on _ c.from_residual-in_err-pairs-in-Dict.result c.in_err-pairs-in-Dict.field-0.0 (state_of c.eval_pairs.new.work) _ c.from_residual-in_err-pairs-in-Dict.ensures.1
    (stopped (λ (v : Vec (List ℕ × Value) Global). v.items) (λ (v : Value). v) _ _ _ _ _ _ (ap (λ k. expression_with (view_of c.args.view.now) (parts c.args.view.now c.args.depth) (expression c.args.expr.now.place k) (state_of c.args.work.now)) (ap expr_kind_view c.in-Dict.is ∙ kind_dict c.in-Dict.pairs) ∙ dict_turn (parts c.args.view.now c.args.depth) c.args.expr.now.place (entries_view c.in-Dict.pairs.items) (state_of c.args.work.now)) refl (by_same (λ (v : Vec (List ℕ × Value) Global). v.items) _ _ (Err c.in_err-pairs-in-Dict.field-0.0) (state_of c.eval_pairs.new.work) (sym (ap (λ es. pairs_with (parts c.args.view.now c.args.depth) (entries_view es) [] (state_of c.args.work.now)) c.deref-in-Dict.ensures.value)) c.in_err-pairs-in-Dict.ensures.gives))

pub expressions::eval_kind-returns-in_ok-pairs-in-Dict-clause-gives : goal.expressions::eval_kind-returns-in_ok-pairs-in-Dict-clause-gives
expressions::eval_kind-returns-in_ok-pairs-in-Dict-clause-gives t c =
    goes_on _ _ _ _ _ _ c.make_dict.result (state_of c.make_dict.new.self) (ap (λ k. expression_with (view_of c.args.view.now) (parts c.args.view.now c.args.depth) (expression c.args.expr.now.place k) (state_of c.args.work.now)) (ap expr_kind_view c.in-Dict.is ∙ kind_dict c.in-Dict.pairs) ∙ dict_turn (parts c.args.view.now c.args.depth) c.args.expr.now.place (entries_view c.in-Dict.pairs.items) (state_of c.args.work.now)) (sym (ap (λ es. pairs_with (parts c.args.view.now c.args.depth) (entries_view es) [] (state_of c.args.work.now)) c.deref-in-Dict.ensures.value) ∙ c.in_ok-pairs-in-Dict.ensures.gives) c.make_dict.ensures.gives

pub expressions::eval_kind-returns-in-Call-clause-gives : goal.expressions::eval_kind-returns-in-Call-clause-gives
expressions::eval_kind-returns-in-Call-clause-gives t c =
    by_same _ _ _ _ _ (ap (λ k. expression_with (view_of c.args.view.now) (parts c.args.view.now c.args.depth) (expression c.args.expr.now.place k) (state_of c.args.work.now)) (ap expr_kind_view c.in-Call.is ∙ kind_call c.in-Call.called c.in-Call.args) ∙ (ap (λ e. call_with (view_of c.args.view.now) (parts c.args.view.now c.args.depth) c.args.expr.now.place (expr_view e) (exprs_view c.in-Call.args.items) (state_of c.args.work.now)) (sym c.deref-in-Call.ensures) ∙ ap (λ es. call_with (view_of c.args.view.now) (parts c.args.view.now c.args.depth) c.args.expr.now.place (expr_view c.deref-in-Call.result.now) (exprs_view es) (state_of c.args.work.now)) (sym c.deref-in-Call-2.ensures.value))) c.eval_call.ensures.gives

pub captures::eval_captures-loop-used-preserved : goal.captures::eval_captures-loop-used-preserved
captures::eval_captures-loop-used-preserved t c =
    let w = c.eval_maybe.new.work in
    let u = c.used-item.result in
    let e : maybe_value (parts c.args.view.now c.args.depth) (maybe_expr_view (out-Use u).expr) (state_of c.loop-used.work) ≡ gives c.in_ok-value.value (state_of w) = ap (λ o. maybe_value (parts c.args.view.now c.args.depth) (maybe_expr_view o) (state_of c.loop-used.work)) (sym c.as_ref.ensures.value) ∙ c.in_ok-value.ensures.gives in
    let g = used_gives (parts c.args.view.now c.args.depth) c.args.place (out-Use u).name (maybe_expr_view (out-Use u).expr) (state_of c.loop-used.work) (state_of w) (state_of w) c.in_ok-value.value c.in_ok-value-2.value e c.in_ok-value-2.ensures.gives in (
      ap (λ x. captured_with (parts c.args.view.now c.args.depth) c.args.place (uses_view (drop (c.loop-used.used-index + 1) c.args.uses.now)) x (state_of w)) c.in_ok-put.ensures.ok
          ∙ turned _ _ _ _ _ _ (captured_turn (parts c.args.view.now c.args.depth) c.args.place c.args.uses.now c.loop-used.used-index c.used-item.result c.loop-used.all (state_of c.loop-used.work) (at_turn c.args.uses.now c.loop-used.used-index _ c.used-item.result (drop_more c.args.uses.now c.loop-used.used-index c.used-item.result c.loop-used-test.true) c.used-item.is)) g c.loop-used.invariant.0,
      record {
        fit = c.in_ok-value.ensures.kept.fit;
        later = later_later _ c.loop-used.work.store w.store c.loop-used.invariant.1.later c.in_ok-value.ensures.kept.later;
        named = c.in_ok-put.ensures.named (length w.store.cells) (length w.store.functions) (pairs_later c.loop-used.work.store w.store c.loop-used.all c.in_ok-value.ensures.kept.later c.loop-used.invariant.1.named) c.in_ok-value-2.ensures.named;
      },
    )

pub captures::eval_captures-returns-in_err-value-2-clause-gives : goal.captures::eval_captures-returns-in_err-value-2-clause-gives
captures::eval_captures-returns-in_err-value-2-clause-gives t c =
    let w = c.eval_maybe.new.work in
    let u = c.used-item.result in
    let e : maybe_value (parts c.args.view.now c.args.depth) (maybe_expr_view (out-Use u).expr) (state_of c.loop-used.work) ≡ gives c.in_ok-value.value (state_of w) = ap (λ o. maybe_value (parts c.args.view.now c.args.depth) (maybe_expr_view o) (state_of c.loop-used.work)) (sym c.as_ref.ensures.value) ∙ c.in_ok-value.ensures.gives in
    handed_on _ c.from_residual-in_err-value-2.result c.in_err-value-2.field-0.0 (state_of w) _ c.from_residual-in_err-value-2.ensures.1
    (stopped (λ (v : Value). v) (λ (v : Pairs). v) _ _ _ _ _ _ (captured_turn (parts c.args.view.now c.args.depth) c.args.place c.args.uses.now c.loop-used.used-index c.used-item.result c.loop-used.all (state_of c.loop-used.work) (at_turn c.args.uses.now c.loop-used.used-index _ c.used-item.result (drop_more c.args.uses.now c.loop-used.used-index c.used-item.result c.loop-used-test.true) c.used-item.is)) c.loop-used.invariant.0 (used_stops_behind (λ (v : Value). v) (parts c.args.view.now c.args.depth) c.args.place (out-Use u).name (maybe_expr_view (out-Use u).expr) (state_of c.loop-used.work) (state_of w) (state_of w) c.in_ok-value.value _ e c.in_err-value-2.ensures.gives))

pub captures::make_function-returns-in_err-captured-clause-gives : goal.captures::make_function-returns-in_err-captured-clause-gives
captures::make_function-returns-in_err-captured-clause-gives t c =
    handed_on _ c.from_residual.result c.in_err-captured.field-0.0 (state_of c.eval_captures.new.work) _ c.from_residual.ensures.1
    (stopped (λ (v : Pairs). v) (λ (v : Value). v) _ _ _ _ _ _ (function_turn (parts c.args.view.now c.args.depth) c.args.place (arc_value c.args.func.now) (state_of c.args.work.now)) refl (by_same (λ (v : Pairs). v) _ _ (Err c.in_err-captured.field-0.0) (state_of c.eval_captures.new.work) (sym (ap (λ us. captured_with (parts c.args.view.now c.args.depth) c.args.place (uses_view us) [] (state_of c.args.work.now)) (c.deref-2.ensures.value ∙ ap (λ g. (out-Func g).uses.items) c.deref.ensures))) c.in_err-captured.ensures.gives))

pub captures::make_function-returns-clause-gives : goal.captures::make_function-returns-clause-gives
captures::make_function-returns-clause-gives t c =
    goes_on _ _ _ _ _ _ c.make_function.result (state_of c.make_function.new.self) (function_turn (parts c.args.view.now c.args.depth) c.args.place (arc_value c.args.func.now) (state_of c.args.work.now)) (sym (ap (λ us. captured_with (parts c.args.view.now c.args.depth) c.args.place (uses_view us) [] (state_of c.args.work.now)) (c.deref-2.ensures.value ∙ ap (λ g. (out-Func g).uses.items) c.deref.ensures)) ∙ c.in_ok-captured.ensures.gives) c.make_function.ensures.gives

pub assigning::eval_keys-eval_key-requires : goal.assigning::eval_keys-eval_key-requires
assigning::eval_keys-eval_key-requires t c =
    (search rules, (c.loop-step.invariant.1.fit, (told_later c.args.view.now _ _ c.loop-step.invariant.1.later c.requires.told)))

pub assigning::eval_keys-loop-step-preserved : goal.assigning::eval_keys-loop-step-preserved
assigning::eval_keys-loop-step-preserved t c = (
  ap (λ us. keys_with (parts c.args.view.now c.args.depth) (steps_view (drop (c.loop-step.step-index + 1) c.args.steps.now)) us (state_of c.eval_key.new.work)) c.in_ok-push.ensures.items
      ∙ turned _ _ _ _ _ _ (keys_turn (parts c.args.view.now c.args.depth) c.args.steps.now c.loop-step.step-index c.step-item.result c.loop-step.all.items (state_of c.loop-step.work) (at_turn c.args.steps.now c.loop-step.step-index _ c.step-item.result (drop_more c.args.steps.now c.loop-step.step-index c.step-item.result c.loop-step-test.true) c.step-item.is)) c.in_ok-key.ensures.gives c.loop-step.invariant.0,
  kept_pushed _ c.loop-step.work c.eval_key.new.work c.loop-step.all.items _ c.in_ok-key.key c.loop-step.invariant.1 c.in_ok-key.ensures.kept c.in_ok-push.ensures.items,
)

pub assigning::run_set-eval_at-requires : goal.assigning::run_set-eval_at-requires
assigning::run_set-eval_at-requires t c =
    (search rules, (c.in_ok-keys.ensures.kept.fit, (told_later c.args.view.now _ _ c.in_ok-keys.ensures.kept.later c.requires.told)))

pub assigning::run_set-assign-requires-clause-keys : goal.assigning::run_set-assign-requires-clause-keys
assigning::run_set-assign-requires-clause-keys t c =
    all_later _ _ _ c.in_ok-value.ensures.kept.later c.in_ok-keys.ensures.kept.named

pub calls::apply-returns-in_err-call-clause-gives : goal.calls::apply-returns-in_err-call-clause-gives
calls::apply-returns-in_err-call-clause-gives t c =
    handed_on _ c.from_residual.result c.in_err-call.field-0.0 (state_of c.args.work.now) _ c.from_residual.ensures.1
    (stopped plain_prepared (λ (v : Value). v) _ _ _ _ _ _ (apply_same (parts c.args.view.now c.args.depth) c.args.place c.args.value.now c.args.this c.args.args.items (state_of c.args.work.now)) refl c.in_err-call.ensures.gives)

pub calls::apply-returns-clause-gives : goal.calls::apply-returns-clause-gives
calls::apply-returns-clause-gives t c =
    goes_on _ _ _ _ _ _ c.in_frame.result (state_of c.in_frame.new.work) (apply_same (parts c.args.view.now c.args.depth) c.args.place c.args.value.now c.args.this c.args.args.items (state_of c.args.work.now)) c.in_ok-call.ensures.gives (by_same _ _ _ _ _ (ap (λ b. framed c.args.this c.in_ok-call.call.locals false (block_with (parts c.args.view.now c.args.depth) (stmts_view b)) (state_of c.args.work.now)) (sym (c.deref-2.ensures.value ∙ ap (λ g. (out-Func g).block.items) c.deref.ensures))) c.in_frame.ensures.gives)

pub calls::eval_call-eval_values-requires : goal.calls::eval_call-eval_values-requires
calls::eval_call-eval_values-requires t c =
    (search rules, (c.in_ok-callee.ensures.kept.fit, ((told_later c.args.view.now _ _ c.in_ok-callee.ensures.kept.later c.requires.told), subst (NamedAll c.eval_callee.new.work.store) (sym c.in_ok-called.ensures.own) (own_named c.eval_callee.new.work.store c.in_ok-callee.callee c.in_ok-callee.ensures.kept.named))))

pub calls::eval_call-apply-requires : goal.calls::eval_call-apply-requires
calls::eval_call-apply-requires t c =
    let h : CalledNamed c.eval_callee.new.work.store (called.Value c.in-Value.value c.in-Value.this) = subst (CalledNamed c.eval_callee.new.work.store) (sym c.in_ok-called.ensures.called ∙ c.in-Value.is) (called_named c.eval_callee.new.work.store c.in_ok-callee.callee c.in_ok-callee.ensures.kept.named) in
    (search rules, (c.in_ok-args.ensures.kept.fit, ((told_later c.args.view.now _ _ c.in_ok-args.ensures.kept.later (told_later c.args.view.now _ _ c.in_ok-callee.ensures.kept.later c.requires.told)), (names_later _ _ _ c.in_ok-args.ensures.kept.later h.0, (names_later _ _ _ c.in_ok-args.ensures.kept.later h.1, c.in_ok-args.ensures.kept.named)))))

pub calls::eval_call-call_library-requires : goal.calls::eval_call-call_library-requires
calls::eval_call-call_library-requires t c =
    (search rules, (c.in_ok-args.ensures.kept.fit, ((told_later c.args.view.now _ _ c.in_ok-args.ensures.kept.later (told_later c.args.view.now _ _ c.in_ok-callee.ensures.kept.later c.requires.told)), subst (NamedAll c.eval_values.new.work.store) (sym c.deref.ensures.value) c.in_ok-args.ensures.kept.named)))

pub calls::eval_called_index-eval_at-requires-2 : goal.calls::eval_called_index-eval_at-requires-2
calls::eval_called_index-eval_at-requires-2 t c =
    (search rules, (c.in_ok-value.ensures.kept.fit, (told_later c.args.view.now _ _ c.in_ok-value.ensures.kept.later c.requires.told)))

pub registering::run_named-eval_captures-requires : goal.registering::run_named-eval_captures-requires
registering::run_named-eval_captures-requires t c =
    (search rules, (c.in_ok-value.ensures.kept.fit, (told_later c.args.view.now _ _ c.in_ok-value.ensures.kept.later c.requires.told)))

pub files::run_file-returns-in_err-value-clause-gives : goal.files::run_file-returns-in_err-value-clause-gives
files::run_file-returns-in_err-value-clause-gives t c =
    let part : c.in_ok-index.field-0 ≡ Some (c.in-Some.index, c.in-Some.around) = cc in
    let begun : Begins (loading (state_of c.args.work.now)).order (state_of c.args.work.now) (state_of c.begin_part.new.work) (Some (c.in-Some.index, c.in-Some.around)) = subst (Begins (loading (state_of c.args.work.now)).order (state_of c.args.work.now) (state_of c.begin_part.new.work)) part c.in_ok-index.ensures.part in
    let framing = ap (λ ls. framed (value.Ref 0) ls true (block_with (parts c.args.view.now c.args.depth) (stmts_view c.statements_of-statements.result.now)) (state_of c.begin_part.new.work)) c.new-locals.ensures ∙ ap (λ b. framed (value.Ref 0) [] true (block_with (parts c.args.view.now c.args.depth) b) (state_of c.begin_part.new.work)) c.statements_of-statements.ensures in
    handed_on _ c.from_residual-in_err-value.result c.in_err-value.field-0.0 (state_of c.in_frame.new.work) _ c.from_residual-in_err-value.ensures.1
    (stopped (λ (v : Value). v) (λ (v : Value). v) _ _ _ _ _ _ (file_turn (view_of c.args.view.now) (parts c.args.view.now c.args.depth) (loading (state_of c.args.work.now)).order (state_of c.args.work.now) (state_of c.begin_part.new.work) c.in-Some.index c.in-Some.around begun) refl (by_same (λ (v : Value). v) _ _ (Err c.in_err-value.field-0.0) (state_of c.in_frame.new.work) (sym framing) c.in_err-value.ensures.gives))

pub files::run_import-returns-in_err-template-clause-gives : goal.files::run_import-returns-in_err-template-clause-gives
files::run_import-returns-in_err-template-clause-gives t c =
    let w = c.eval_at.new.work in
    let start = import_start (view_of c.args.view.now) (parts c.args.view.now c.args.depth) c.args.place (expr_view c.args.expr.now) c.in_ok-value.value (state_of c.args.work.now) (state_of w) c.in_ok-in_item.ensures c.in_ok-value.ensures.gives in
    handed_on _ c.from_residual-in_err-template.result c.in_err-template.field-0.0 (state_of w) _ c.from_residual-in_err-template.ensures.1
    (stopped plain_imported (λ (f : Flow). f) _ _ _ _ _ _ start refl c.in_err-template.ensures.gives)

pub files::run_import-in_frame-requires : goal.files::run_import-in_frame-requires
files::run_import-in_frame-requires t c =
    (search rules, (c.in_ok-value.ensures.kept.fit, ((told_later c.args.view.now _ _ c.in_ok-value.ensures.kept.later c.requires.told), (subst (Named c.eval_at.new.work.store) (sym c.in_ok-this.ensures.value) c.in_ok-value.ensures.kept.fit.this, c.in_ok-template.ensures.named))))

pub files::run_import-returns-in_err-in_frame-clause-gives : goal.files::run_import-returns-in_err-in_frame-clause-gives
files::run_import-returns-in_err-in_frame-clause-gives t c =
    let w = c.eval_at.new.work in
    let start = import_start (view_of c.args.view.now) (parts c.args.view.now c.args.depth) c.args.place (expr_view c.args.expr.now) c.in_ok-value.value (state_of c.args.work.now) (state_of w) c.in_ok-in_item.ensures c.in_ok-value.ensures.gives in
    let t = c.in_ok-template.template in
    let turn = goes_to _ _ _ (plain_imported t) (state_of w) start c.in_ok-template.ensures.gives ∙ import_turn (parts c.args.view.now c.args.depth) (plain_imported t) (state_of w) in
    let body = ap stmts_view (c.deref-2.ensures.value ∙ ap (λ g. (out-Block g).statements.items) c.deref.ensures) ∙ sym (block_fields (arc_value t.body)) in
    let framing = ap (λ b. framed c.in_ok-this.this t.locals false (block_with (parts c.args.view.now c.args.depth) b) (state_of w)) body ∙ ap (λ x. framed x t.locals false (block_with (parts c.args.view.now c.args.depth) (block_view (arc_value t.body))) (state_of w)) c.in_ok-this.ensures.value in
    handed_on _ c.from_residual-in_err-in_frame.result c.in_err-in_frame.field-0.0 (state_of c.in_frame.new.work) _ c.from_residual-in_err-in_frame.ensures.1
    (stopped (λ (v : Value). v) (λ (f : Flow). f) _ _ _ _ _ _ turn refl (by_same (λ (v : Value). v) _ _ (Err c.in_err-in_frame.field-0.0) (state_of c.in_frame.new.work) (sym framing) c.in_err-in_frame.ensures.gives))

pub files::run_import-returns-clause-gives : goal.files::run_import-returns-clause-gives
files::run_import-returns-clause-gives t c =
    let w = c.eval_at.new.work in
    let start = import_start (view_of c.args.view.now) (parts c.args.view.now c.args.depth) c.args.place (expr_view c.args.expr.now) c.in_ok-value.value (state_of c.args.work.now) (state_of w) c.in_ok-in_item.ensures c.in_ok-value.ensures.gives in
    let t = c.in_ok-template.template in
    let turn = goes_to _ _ _ (plain_imported t) (state_of w) start c.in_ok-template.ensures.gives ∙ import_turn (parts c.args.view.now c.args.depth) (plain_imported t) (state_of w) in
    let body = ap stmts_view (c.deref-2.ensures.value ∙ ap (λ g. (out-Block g).statements.items) c.deref.ensures) ∙ sym (block_fields (arc_value t.body)) in
    let framing = ap (λ b. framed c.in_ok-this.this t.locals false (block_with (parts c.args.view.now c.args.depth) b) (state_of w)) body ∙ ap (λ x. framed x t.locals false (block_with (parts c.args.view.now c.args.depth) (block_view (arc_value t.body))) (state_of w)) c.in_ok-this.ensures.value in
    goes_to _ _ _ c.in_ok-in_frame.field-0 (state_of c.in_frame.new.work) turn (sym framing ∙ c.in_ok-in_frame.ensures.gives)

pub files::run_include-loop-init : goal.files::run_include-loop-init
files::run_include-loop-init t c =
    let s = state_of c.next_in_order.new.work in
    let n = unwrap_or (next_number (loading (state_of c.args.work.now)).order) 0 in
    let none : c.unwrap_or-count.result - 0 ≡ c.unwrap_or-count.result = omega arith in (
      ap (λ k. files_with (view_of c.args.view.now) (parts c.args.view.now c.args.depth) k s) (none ∙ c.unwrap_or-count.ensures ∙ ap (λ o. unwrap_or o 0) c.next_in_order.ensures.number)
          ∙ ap (λ x. files_with (view_of c.args.view.now) (parts c.args.view.now c.args.depth) n x) c.next_in_order.ensures.state
          ∙ sym (include_start (view_of c.args.view.now) (parts c.args.view.now c.args.depth) c.args.place (state_of c.args.work.now) c.in_ok-at_load.ensures),
      c.next_in_order.ensures.kept.fit,
      c.next_in_order.ensures.kept.later,
    )

pub files::run_include-run_file-requires : goal.files::run_include-run_file-requires
files::run_include-run_file-requires t c =
    (search rules, (c.loop.invariant.1, (told_later c.args.view.now _ _ c.loop.invariant.2 c.requires.told)))

pub files::run_include-returns-in_err-run_file-clause-gives : goal.files::run_include-returns-in_err-run_file-clause-gives
files::run_include-returns-in_err-run_file-clause-gives t c =
    let counts : c.unwrap_or-count.result - c.loop.counter ≡ suc (c.unwrap_or-count.result - (c.loop.counter + 1)) = omega arith in
    handed_on _ c.from_residual-in_err-run_file.result c.in_err-run_file.field-0.0 (state_of c.run_file.new.work) _ c.from_residual-in_err-run_file.ensures.1
    (stopped (λ (v : Value). v) (λ (f : Flow). f) _ _ _ _ _ _ (files_turn (view_of c.args.view.now) (parts c.args.view.now c.args.depth) (c.unwrap_or-count.result - c.loop.counter) (c.unwrap_or-count.result - (c.loop.counter + 1)) (state_of c.loop.work) counts) c.loop.invariant.0 c.in_err-run_file.ensures.gives)

pub files::run_include-loop-preserved : goal.files::run_include-loop-preserved
files::run_include-loop-preserved t c =
    let counts : c.unwrap_or-count.result - c.loop.counter ≡ suc (c.unwrap_or-count.result - (c.loop.counter + 1)) = omega arith in (
      turned _ _ _ _ _ _ (files_turn (view_of c.args.view.now) (parts c.args.view.now c.args.depth) (c.unwrap_or-count.result - c.loop.counter) (c.unwrap_or-count.result - (c.loop.counter + 1)) (state_of c.loop.work) counts) c.in_ok-run_file.ensures.gives c.loop.invariant.0,
      c.in_ok-run_file.ensures.kept.fit,
      later_later _ c.loop.work.store c.run_file.new.work.store c.loop.invariant.2 c.in_ok-run_file.ensures.kept.later,
    )

pub files::run_include-returns-clause-gives : goal.files::run_include-returns-clause-gives
files::run_include-returns-clause-gives t c =
    let none : c.unwrap_or-count.result - c.loop.counter ≡ 0 = omega arith in
    sym c.loop.invariant.0 ∙ ap (λ k. files_with (view_of c.args.view.now) (parts c.args.view.now c.args.depth) k (state_of c.loop.work)) none

pub files::run_include-returns-clause-kept : goal.files::run_include-returns-clause-kept
files::run_include-returns-clause-kept t c =
    record { fit = c.loop.invariant.1; later = c.loop.invariant.2; named = tt }

pub loops::run_for-returns-in_err-turns-clause-gives : goal.loops::run_for-returns-in_err-turns-clause-gives
loops::run_for-returns-in_err-turns-clause-gives t c =
    handed_on _ c.from_residual-in_err-turns.result c.in_err-turns.field-0.0 (state_of c.eval_at.new.work) _ c.from_residual-in_err-turns.ensures.1
    (stopped (λ (v : Vec Turn Global). v.items) (λ (f : Flow). f) _ _ _ _ _ _ (for_start (parts c.args.view.now c.args.depth) c.args.each.now.key c.args.each.now.value (expr_view c.args.each.now.expr) (stmts_view c.args.block.now) (state_of c.args.work.now) (state_of c.eval_at.new.work) c.in_ok-value.value c.in_ok-value.ensures.gives) refl c.in_err-turns.ensures.gives)

pub loops::run_for-run_turns-requires : goal.loops::run_for-run_turns-requires
loops::run_for-run_turns-requires t c =
    (search rules, (c.in_ok-value.ensures.kept.fit, ((told_later c.args.view.now _ _ c.in_ok-value.ensures.kept.later c.requires.told), c.in_ok-turns.ensures.named)))

pub loops::run_for-returns-clause-gives : goal.loops::run_for-returns-clause-gives
loops::run_for-returns-clause-gives t c =
    goes_on _ _ _ _ _ _ c.run_turns.result (state_of c.run_turns.new.work) (for_start (parts c.args.view.now c.args.depth) c.args.each.now.key c.args.each.now.value (expr_view c.args.each.now.expr) (stmts_view c.args.block.now) (state_of c.args.work.now) (state_of c.eval_at.new.work) c.in_ok-value.value c.in_ok-value.ensures.gives) c.in_ok-turns.ensures.gives c.run_turns.ensures.gives

pub loops::run_turns-run_block-requires : goal.loops::run_turns-run_block-requires
loops::run_turns-run_block-requires t c =
    (search rules, (c.in_ok-begin_turn.ensures.kept.fit, (told_later c.args.view.now _ _ (later_later _ _ _ c.loop-turn.invariant.2 c.in_ok-begin_turn.ensures.kept.later) c.requires.told)))

pub loops::run_while-run_turn-requires : goal.loops::run_while-run_turn-requires
loops::run_while-run_turn-requires t c =
    (search rules, (c.loop.invariant.1, (told_later c.args.view.now _ _ c.loop.invariant.2 c.requires.told)))

pub loops::run_while-returns-in_err-turn-clause-gives : goal.loops::run_while-returns-in_err-turn-clause-gives
loops::run_while-returns-in_err-turn-clause-gives t c =
    let counts : c.args.work.now.steps - c.loop.counter ≡ suc (c.args.work.now.steps - (c.loop.counter + 1)) = omega arith in
    handed_on _ c.from_residual.result c.in_err-turn.field-0.0 (state_of c.run_turn.new.work) _ c.from_residual.ensures.1
    (stopped (λ (o : Option Flow). o) (λ (f : Flow). f) _ _ _ _ _ _ (while_turn (parts c.args.view.now c.args.depth) (expr_view c.args.cond.now) (stmts_view c.args.block.now) (c.args.work.now.steps - c.loop.counter) (c.args.work.now.steps - (c.loop.counter + 1)) (state_of c.loop.work) counts) c.loop.invariant.0 c.in_err-turn.ensures.gives)

pub loops::run_while-loop-preserved : goal.loops::run_while-loop-preserved
loops::run_while-loop-preserved t c =
    let counts : c.args.work.now.steps - c.loop.counter ≡ suc (c.args.work.now.steps - (c.loop.counter + 1)) = omega arith in (
      turned _ _ _ _ _ _ (while_turn (parts c.args.view.now c.args.depth) (expr_view c.args.cond.now) (stmts_view c.args.block.now) (c.args.work.now.steps - c.loop.counter) (c.args.work.now.steps - (c.loop.counter + 1)) (state_of c.loop.work) counts) (c.in_ok-turn.ensures.gives ∙ ap (λ o. gives o (state_of c.run_turn.new.work)) c.in-None.is) c.loop.invariant.0,
      c.in_ok-turn.ensures.kept.fit,
      later_later _ c.loop.work.store c.run_turn.new.work.store c.loop.invariant.2 c.in_ok-turn.ensures.kept.later,
    )

pub registering::run_apply-returns-in_err-prefix-clause-gives : goal.registering::run_apply-returns-in_err-prefix-clause-gives
registering::run_apply-returns-in_err-prefix-clause-gives t c =
    let w = c.eval_maybe.new.work in
    let n = maybe_expr_view c.args.name.now in
    let us = uses_view c.args.uses.now in
    let b = block_view (arc_value c.args.body.now) in
    let start = rule_start (parts c.args.view.now c.args.depth) c.args.place c.args.kind.now n c.args.to.now (maybe_each_view c.args.each.now) us b (state_of c.args.work.now) c.in_ok-at_load.ensures in
    let value = ap (λ o. maybe_value (parts c.args.view.now c.args.depth) (maybe_expr_view o) (state_of c.args.work.now)) (sym c.as_ref.ensures.value) ∙ c.in_ok-value.ensures.gives in
    handed_on _ c.from_residual-in_err-prefix.result c.in_err-prefix.field-0.0 (state_of w) _ c.from_residual-in_err-prefix.ensures.1
    (stopped (option_map placed_name) (λ (f : Flow). f) _ _ _ _ _ _ start refl (goes_on (option_map placed_name) _ _ _ c.in_ok-value.value (state_of w) (Err c.in_err-prefix.field-0.0) (state_of w) (prefix_same (parts c.args.view.now c.args.depth) n (state_of c.args.work.now)) value c.in_err-prefix.ensures))

pub registering::run_apply-eval_captures-requires : goal.registering::run_apply-eval_captures-requires
registering::run_apply-eval_captures-requires t c =
    (search rules, (c.in_ok-value.ensures.kept.fit, (told_later c.args.view.now _ _ c.in_ok-value.ensures.kept.later c.requires.told)))

pub registering::run_apply-returns-in_err-captured-clause-gives : goal.registering::run_apply-returns-in_err-captured-clause-gives
registering::run_apply-returns-in_err-captured-clause-gives t c =
    let w = c.eval_maybe.new.work in
    let n = maybe_expr_view c.args.name.now in
    let us = uses_view c.args.uses.now in
    let b = block_view (arc_value c.args.body.now) in
    let start = rule_start (parts c.args.view.now c.args.depth) c.args.place c.args.kind.now n c.args.to.now (maybe_each_view c.args.each.now) us b (state_of c.args.work.now) c.in_ok-at_load.ensures in
    let value = ap (λ o. maybe_value (parts c.args.view.now c.args.depth) (maybe_expr_view o) (state_of c.args.work.now)) (sym c.as_ref.ensures.value) ∙ c.in_ok-value.ensures.gives in
    let name = goes_to _ _ _ c.in_ok-value.value (state_of w) (prefix_same (parts c.args.view.now c.args.depth) n (state_of c.args.work.now)) value ∙ c.in_ok-prefix.ensures in
    let p = option_map placed_name c.in_ok-prefix.prefix in
    let turn = rule_turn (parts c.args.view.now c.args.depth) c.args.place c.args.kind.now c.args.to.now (maybe_each_view c.args.each.now) us b p (state_of w) in
    handed_on _ c.from_residual-in_err-captured.result c.in_err-captured.field-0.0 (state_of c.eval_captures.new.work) _ c.from_residual-in_err-captured.ensures.1
    (goes_on (λ (f : Flow). f) _ _ _ _ _ (Err c.in_err-captured.field-0.0) (state_of c.eval_captures.new.work) start name (stopped (λ (v : Pairs). v) (λ (f : Flow). f) _ _ _ _ _ _ turn refl c.in_err-captured.ensures.gives))

pub registering::run_apply-returns-in_err-add_rule-clause-gives : goal.registering::run_apply-returns-in_err-add_rule-clause-gives
registering::run_apply-returns-in_err-add_rule-clause-gives t c =
    let w = c.eval_maybe.new.work in
    let n = maybe_expr_view c.args.name.now in
    let us = uses_view c.args.uses.now in
    let b = block_view (arc_value c.args.body.now) in
    let start = rule_start (parts c.args.view.now c.args.depth) c.args.place c.args.kind.now n c.args.to.now (maybe_each_view c.args.each.now) us b (state_of c.args.work.now) c.in_ok-at_load.ensures in
    let value = ap (λ o. maybe_value (parts c.args.view.now c.args.depth) (maybe_expr_view o) (state_of c.args.work.now)) (sym c.as_ref.ensures.value) ∙ c.in_ok-value.ensures.gives in
    let name = goes_to _ _ _ c.in_ok-value.value (state_of w) (prefix_same (parts c.args.view.now c.args.depth) n (state_of c.args.work.now)) value ∙ c.in_ok-prefix.ensures in
    let p = option_map placed_name c.in_ok-prefix.prefix in
    let turn = rule_turn (parts c.args.view.now c.args.depth) c.args.place c.args.kind.now c.args.to.now (maybe_each_view c.args.each.now) us b p (state_of w) in
    handed_on _ c.from_residual-in_err-add_rule.result c.in_err-add_rule.field-0.0 (state_of c.add_rule.new.work) _ c.from_residual-in_err-add_rule.ensures.1
    (goes_on (λ (f : Flow). f) _ _ _ _ _ (Err c.in_err-add_rule.field-0.0) (state_of c.add_rule.new.work) start name (goes_on (λ (f : Flow). f) _ _ _ _ _ (Err c.in_err-add_rule.field-0.0) (state_of c.add_rule.new.work) turn c.in_ok-captured.ensures.gives (as_stop (λ (_ : Unit {0}). flow.On) (λ (f : Flow). f) _ _ _ c.in_err-add_rule.ensures.gives)))

pub registering::run_apply-returns-clause-gives : goal.registering::run_apply-returns-clause-gives
registering::run_apply-returns-clause-gives t c =
    let w = c.eval_maybe.new.work in
    let n = maybe_expr_view c.args.name.now in
    let us = uses_view c.args.uses.now in
    let b = block_view (arc_value c.args.body.now) in
    let start = rule_start (parts c.args.view.now c.args.depth) c.args.place c.args.kind.now n c.args.to.now (maybe_each_view c.args.each.now) us b (state_of c.args.work.now) c.in_ok-at_load.ensures in
    let value = ap (λ o. maybe_value (parts c.args.view.now c.args.depth) (maybe_expr_view o) (state_of c.args.work.now)) (sym c.as_ref.ensures.value) ∙ c.in_ok-value.ensures.gives in
    let name = goes_to _ _ _ c.in_ok-value.value (state_of w) (prefix_same (parts c.args.view.now c.args.depth) n (state_of c.args.work.now)) value ∙ c.in_ok-prefix.ensures in
    let p = option_map placed_name c.in_ok-prefix.prefix in
    let turn = rule_turn (parts c.args.view.now c.args.depth) c.args.place c.args.kind.now c.args.to.now (maybe_each_view c.args.each.now) us b p (state_of w) in
    goes_to _ _ _ p (state_of w) start name
    ∙ goes_to _ _ _ c.in_ok-captured.captured (state_of c.eval_captures.new.work) turn c.in_ok-captured.ensures.gives
    ∙ c.in_ok-add_rule.ensures.gives

pub statements::run_arms-eval_at-requires : goal.statements::run_arms-eval_at-requires
statements::run_arms-eval_at-requires t c =
    (search rules, (c.loop-arm.invariant.1, (told_later c.args.view.now _ _ c.loop-arm.invariant.2 c.requires.told)))

pub statements::run_arms-returns-in_err-value-clause-gives : goal.statements::run_arms-returns-in_err-value-clause-gives
statements::run_arms-returns-in_err-value-clause-gives t c =
    handed_on _ c.from_residual.result c.in_err-value.field-0.0 (state_of c.eval_at.new.work) _ c.from_residual.ensures.1
    (stopped (λ (v : Value). v) (λ (f : Flow). f) _ _ _ _ _ _ (arm_turn (parts c.args.view.now c.args.depth) c.args.arms.now c.loop-arm.arm-index c.arm-item.result (stmts_view c.args.other.now) (state_of c.loop-arm.work) (at_turn c.args.arms.now c.loop-arm.arm-index _ c.arm-item.result (drop_more c.args.arms.now c.loop-arm.arm-index c.arm-item.result c.loop-arm-test.true) c.arm-item.is)) c.loop-arm.invariant.0 c.in_err-value.ensures.gives)

pub statements::run_arms-run_block-requires : goal.statements::run_arms-run_block-requires
statements::run_arms-run_block-requires t c =
    (search rules, (c.in_ok-value.ensures.kept.fit, (told_later c.args.view.now _ _ (later_later _ _ _ c.loop-arm.invariant.2 c.in_ok-value.ensures.kept.later) c.requires.told)))

pub statements::run_arms-returns-then-holds-clause-gives : goal.statements::run_arms-returns-then-holds-clause-gives
statements::run_arms-returns-then-holds-clause-gives t c =
    let taken = arm_taken (parts c.args.view.now c.args.depth) c.args.arms.now c.loop-arm.arm-index c.arm-item.result (stmts_view c.args.other.now) c.in_ok-value.value (state_of c.eval_at.new.work) c.holds.result c.deref.result.now c.holds.ensures c.if-holds.true c.deref.ensures.value in
    goes_on _ _ _ _ _ _ c.run_block.result (state_of c.run_block.new.work) (sym c.loop-arm.invariant.0 ∙ (arm_turn (parts c.args.view.now c.args.depth) c.args.arms.now c.loop-arm.arm-index c.arm-item.result (stmts_view c.args.other.now) (state_of c.loop-arm.work) (at_turn c.args.arms.now c.loop-arm.arm-index _ c.arm-item.result (drop_more c.args.arms.now c.loop-arm.arm-index c.arm-item.result c.loop-arm-test.true) c.arm-item.is))) c.in_ok-value.ensures.gives (by_same _ _ _ _ _ taken c.run_block.ensures.gives)

pub statements::run_arms-loop-arm-preserved : goal.statements::run_arms-loop-arm-preserved
statements::run_arms-loop-arm-preserved t c = (
  sym (arm_left (parts c.args.view.now c.args.depth) c.args.arms.now c.loop-arm.arm-index c.arm-item.result (stmts_view c.args.other.now) c.in_ok-value.value (state_of c.eval_at.new.work) c.holds.result c.holds.ensures c.if-holds.false)
      ∙ turned _ _ _ _ _ _ (arm_turn (parts c.args.view.now c.args.depth) c.args.arms.now c.loop-arm.arm-index c.arm-item.result (stmts_view c.args.other.now) (state_of c.loop-arm.work) (at_turn c.args.arms.now c.loop-arm.arm-index _ c.arm-item.result (drop_more c.args.arms.now c.loop-arm.arm-index c.arm-item.result c.loop-arm-test.true) c.arm-item.is)) c.in_ok-value.ensures.gives c.loop-arm.invariant.0,
  c.in_ok-value.ensures.kept.fit,
  later_later _ c.loop-arm.work.store c.eval_at.new.work.store c.loop-arm.invariant.2 c.in_ok-value.ensures.kept.later,
)

pub statements::run_arms-run_block-requires-2 : goal.statements::run_arms-run_block-requires-2
statements::run_arms-run_block-requires-2 t c =
    (search rules, (c.loop-arm.invariant.1, (told_later c.args.view.now _ _ c.loop-arm.invariant.2 c.requires.told)))

pub statements::run_block-run_statement-requires : goal.statements::run_block-run_statement-requires
statements::run_block-run_statement-requires t c =
    (search rules, (c.loop-statement.invariant.1, (told_later c.args.view.now _ _ c.loop-statement.invariant.2 c.requires.told)))

pub statements::run_kind-returns-in-Object-clause-gives : goal.statements::run_kind-returns-in-Object-clause-gives
statements::run_kind-returns-in-Object-clause-gives t c =
    by_same _ _ _ _ _
    (ap (λ k. statement_kind_with (view_of c.args.view.now) (parts c.args.view.now c.args.depth) c.args.place k (state_of c.args.work.now)) (ap stmt_kind_view c.in-Object.is ∙ kind_object c.in-Object.kind c.in-Object.name c.in-Object.uses c.in-Object.body) ∙ (object_same (view_of c.args.view.now) (parts c.args.view.now c.args.depth) c.args.place c.in-Object.kind (expr_view c.in-Object.name) (uses_view c.in-Object.uses.items) (block_view (arc_value c.in-Object.body)) (state_of c.args.work.now) ∙ ap (λ u. named_with (view_of c.args.view.now) (parts c.args.view.now c.args.depth) sorts.Object c.args.place c.in-Object.kind (expr_view c.in-Object.name) (uses_view u) (block_view (arc_value c.in-Object.body)) (state_of c.args.work.now)) (sym c.deref.ensures.value)))
    c.run_named.ensures.gives

pub statements::run_kind-returns-in-Template-clause-gives : goal.statements::run_kind-returns-in-Template-clause-gives
statements::run_kind-returns-in-Template-clause-gives t c =
    by_same _ _ _ _ _
    (ap (λ k. statement_kind_with (view_of c.args.view.now) (parts c.args.view.now c.args.depth) c.args.place k (state_of c.args.work.now)) (ap stmt_kind_view c.in-Template.is ∙ kind_template c.in-Template.kind c.in-Template.name c.in-Template.uses c.in-Template.body) ∙ (template_same (view_of c.args.view.now) (parts c.args.view.now c.args.depth) c.args.place c.in-Template.kind (expr_view c.in-Template.name) (uses_view c.in-Template.uses.items) (block_view (arc_value c.in-Template.body)) (state_of c.args.work.now) ∙ ap (λ u. named_with (view_of c.args.view.now) (parts c.args.view.now c.args.depth) sorts.Template c.args.place c.in-Template.kind (expr_view c.in-Template.name) (uses_view u) (block_view (arc_value c.in-Template.body)) (state_of c.args.work.now)) (sym c.deref-in-Template.ensures.value)))
    c.run_named-in-Template.ensures.gives

pub statements::run_kind-returns-in-Apply-clause-gives : goal.statements::run_kind-returns-in-Apply-clause-gives
statements::run_kind-returns-in-Apply-clause-gives t c =
    by_same _ _ _ _ _
    (ap (λ k. statement_kind_with (view_of c.args.view.now) (parts c.args.view.now c.args.depth) c.args.place k (state_of c.args.work.now)) (ap stmt_kind_view c.in-Apply.is ∙ kind_apply c.in-Apply.kind c.in-Apply.name c.in-Apply.to c.in-Apply.each c.in-Apply.uses c.in-Apply.body) ∙ ap (λ u. apply_rule_with (parts c.args.view.now c.args.depth) c.args.place c.in-Apply.kind (maybe_expr_view c.in-Apply.name) c.in-Apply.to (maybe_each_view c.in-Apply.each) (uses_view u) (block_view (arc_value c.in-Apply.body)) (state_of c.args.work.now)) (sym c.deref-in-Apply.ensures.value))
    c.run_apply.ensures.gives

pub statements::run_kind-returns-in-Const-clause-gives : goal.statements::run_kind-returns-in-Const-clause-gives
statements::run_kind-returns-in-Const-clause-gives t c =
    by_same _ _ _ _ _
    (ap (λ k. statement_kind_with (view_of c.args.view.now) (parts c.args.view.now c.args.depth) c.args.place k (state_of c.args.work.now)) (ap stmt_kind_view c.in-Const.is ∙ kind_const c.in-Const.name c.in-Const.expr) ∙ const_same (parts c.args.view.now c.args.depth) c.args.place (record { ref_ptr = c.args.view.ref_ptr; now = c.in-Const.name }) (expr_view c.in-Const.expr) (state_of c.args.work.now))
    c.run_value.ensures.gives

pub statements::run_kind-returns-in-Set-clause-gives : goal.statements::run_kind-returns-in-Set-clause-gives
statements::run_kind-returns-in-Set-clause-gives t c =
    by_same _ _ _ _ _
    (ap (λ k. statement_kind_with (view_of c.args.view.now) (parts c.args.view.now c.args.depth) c.args.place k (state_of c.args.work.now)) (ap stmt_kind_view c.in-Set.is ∙ kind_set c.in-Set.base c.in-Set.steps c.in-Set.op c.in-Set.expr) ∙ ap (λ u. set_with (parts c.args.view.now c.args.depth) c.args.place (base_view c.in-Set.base) (steps_view u) c.in-Set.op (expr_view c.in-Set.expr) (state_of c.args.work.now)) (sym c.deref-in-Set.ensures.value))
    c.run_set.ensures.gives

pub statements::run_kind-returns-in-If-clause-gives : goal.statements::run_kind-returns-in-If-clause-gives
statements::run_kind-returns-in-If-clause-gives t c =
    by_same _ _ _ _ _
    (ap (λ k. statement_kind_with (view_of c.args.view.now) (parts c.args.view.now c.args.depth) c.args.place k (state_of c.args.work.now)) (ap stmt_kind_view c.in-If.is ∙ kind_if c.in-If.arms c.in-If.other) ∙ (ap (λ u. arms_with (parts c.args.view.now c.args.depth) (arms_view u) (stmts_view c.in-If.other.items) (state_of c.args.work.now)) (sym c.deref-in-If.ensures.value) ∙ ap (λ u. arms_with (parts c.args.view.now c.args.depth) (arms_view c.deref-in-If.result.now) (stmts_view u) (state_of c.args.work.now)) (sym c.deref-in-If-2.ensures.value)))
    c.run_arms.ensures.gives

pub statements::run_kind-returns-in-While-clause-gives : goal.statements::run_kind-returns-in-While-clause-gives
statements::run_kind-returns-in-While-clause-gives t c =
    by_same _ _ _ _ _
    (ap (λ k. statement_kind_with (view_of c.args.view.now) (parts c.args.view.now c.args.depth) c.args.place k (state_of c.args.work.now)) (ap stmt_kind_view c.in-While.is ∙ kind_while c.in-While.cond c.in-While.block) ∙ ap (λ u. while_with (parts c.args.view.now c.args.depth) (expr_view c.in-While.cond) (stmts_view u) (state_of c.args.work.now)) (sym c.deref-in-While.ensures.value))
    c.run_while.ensures.gives

pub statements::run_kind-returns-in-For-clause-gives : goal.statements::run_kind-returns-in-For-clause-gives
statements::run_kind-returns-in-For-clause-gives t c =
    by_same _ _ _ _ _
    (ap (λ k. statement_kind_with (view_of c.args.view.now) (parts c.args.view.now c.args.depth) c.args.place k (state_of c.args.work.now)) (ap stmt_kind_view c.in-For.is ∙ kind_for c.in-For.each c.in-For.block) ∙ ap (λ u. for_with (parts c.args.view.now c.args.depth) (each_view c.in-For.each) (stmts_view u) (state_of c.args.work.now)) (sym c.deref-in-For.ensures.value))
    c.run_for.ensures.gives

pub visits::map_values-apply-requires : goal.visits::map_values-apply-requires
visits::map_values-apply-requires t c =
    let here = (at_turn c.args.items.now c.loop-item.item-index _ c.item-item.result (drop_more c.args.items.now c.loop-item.item-index c.item-item.result c.loop-item-test.true) c.item-item.is) in
    let item = names_later _ c.loop-item.work.store c.item-item.result c.loop-item.invariant.1.later (named_at c.args.work.now.store c.args.items.now c.loop-item.item-index c.item-item.result c.requires.items here) in
    (search rules, (c.loop-item.invariant.1.fit, ((told_later c.args.view.now _ _ c.loop-item.invariant.1.later c.requires.told), (names_later _ _ _ c.loop-item.invariant.1.later c.requires.func, (subst (Named c.loop-item.work.store) (sym c.in_ok-this.ensures.this) c.loop-item.invariant.1.fit.this, subst (NamedAll c.loop-item.work.store) (sym c.in_ok-this.ensures.args) (item, tt))))))

pub visits::filter_values-apply-requires : goal.visits::filter_values-apply-requires
visits::filter_values-apply-requires t c =
    let here = (at_turn c.args.items.now c.loop-item.item-index _ c.item-item.result (drop_more c.args.items.now c.loop-item.item-index c.item-item.result c.loop-item-test.true) c.item-item.is) in
    let item = names_later _ c.loop-item.work.store c.item-item.result c.loop-item.invariant.1.later (named_at c.args.work.now.store c.args.items.now c.loop-item.item-index c.item-item.result c.requires.items here) in
    (search rules, (c.loop-item.invariant.1.fit, ((told_later c.args.view.now _ _ c.loop-item.invariant.1.later c.requires.told), (names_later _ _ _ c.loop-item.invariant.1.later c.requires.func, (subst (Named c.loop-item.work.store) (sym c.in_ok-this.ensures.this) c.loop-item.invariant.1.fit.this, subst (NamedAll c.loop-item.work.store) (sym c.in_ok-this.ensures.args) (item, tt))))))

pub visits::find_value-apply-requires : goal.visits::find_value-apply-requires
visits::find_value-apply-requires t c =
    let here = (at_turn c.args.items.now c.loop-item.item-index _ c.item-item.result (drop_more c.args.items.now c.loop-item.item-index c.item-item.result c.loop-item-test.true) c.item-item.is) in
    let item = names_later _ c.loop-item.work.store c.item-item.result c.loop-item.invariant.2 (named_at c.args.work.now.store c.args.items.now c.loop-item.item-index c.item-item.result c.requires.items here) in
    (search rules, (c.loop-item.invariant.1, ((told_later c.args.view.now _ _ c.loop-item.invariant.2 c.requires.told), (names_later _ _ _ c.loop-item.invariant.2 c.requires.func, (subst (Named c.loop-item.work.store) (sym c.in_ok-this.ensures.this) c.loop-item.invariant.1.this, subst (NamedAll c.loop-item.work.store) (sym c.in_ok-this.ensures.args) (item, tt))))))

pub visits::map_values-loop-item-preserved : goal.visits::map_values-loop-item-preserved
visits::map_values-loop-item-preserved t c =
    let s = state_of c.loop-item.work in
    let args = ap (λ t. apply_with (parts c.args.view.now c.args.depth) c.args.place c.args.func.now t (c.item-item.result ∷ []) s) (sym c.in_ok-this.ensures.this) ∙ ap (λ vs. apply_with (parts c.args.view.now c.args.depth) c.args.place c.args.func.now c.in_ok-this.this vs s) (sym c.in_ok-this.ensures.args) in (
      ap (λ us. mapped (parts c.args.view.now c.args.depth) c.args.place c.args.func.now (drop (c.loop-item.item-index + 1) c.args.items.now) us (state_of c.apply.new.work)) c.in_ok-push.ensures.items
          ∙ turned _ _ _ _ _ _ (mapped_turn (parts c.args.view.now c.args.depth) c.args.place c.args.func.now c.args.items.now c.loop-item.item-index c.item-item.result c.loop-item.all.items s (at_turn c.args.items.now c.loop-item.item-index _ c.item-item.result (drop_more c.args.items.now c.loop-item.item-index c.item-item.result c.loop-item-test.true) c.item-item.is)) (args ∙ c.in_ok-value.ensures.gives) c.loop-item.invariant.0,
      kept_pushed _ c.loop-item.work c.apply.new.work c.loop-item.all.items _ c.in_ok-value.value c.loop-item.invariant.1 c.in_ok-value.ensures.kept c.in_ok-push.ensures.items,
    )

pub visits::filter_values-loop-item-preserved : goal.visits::filter_values-loop-item-preserved
visits::filter_values-loop-item-preserved t c =
    let s = state_of c.loop-item.work in
    let args = ap (λ t. apply_with (parts c.args.view.now c.args.depth) c.args.place c.args.func.now t (c.item-item.result ∷ []) s) (sym c.in_ok-this.ensures.this) ∙ ap (λ vs. apply_with (parts c.args.view.now c.args.depth) c.args.place c.args.func.now c.in_ok-this.this vs s) (sym c.in_ok-this.ensures.args) in
    let item = named_at c.args.work.now.store c.args.items.now c.loop-item.item-index c.item-item.result c.requires.items (at_turn c.args.items.now c.loop-item.item-index _ c.item-item.result (drop_more c.args.items.now c.loop-item.item-index c.item-item.result c.loop-item-test.true) c.item-item.is) in (
      ap (λ us. filtered (parts c.args.view.now c.args.depth) c.args.place c.args.func.now (drop (c.loop-item.item-index + 1) c.args.items.now) us (state_of c.apply.new.work)) (c.in_ok-push_if.ensures.items ∙ ap (λ b. with_item b c.item-item.result c.loop-item.all.items) c.holds.ensures)
          ∙ turned _ _ _ _ _ _ (filtered_turn (parts c.args.view.now c.args.depth) c.args.place c.args.func.now c.args.items.now c.loop-item.item-index c.item-item.result c.loop-item.all.items s (at_turn c.args.items.now c.loop-item.item-index _ c.item-item.result (drop_more c.args.items.now c.loop-item.item-index c.item-item.result c.loop-item-test.true) c.item-item.is)) (args ∙ c.in_ok-value.ensures.gives) c.loop-item.invariant.0,
      kept_filtered _ c.loop-item.work c.apply.new.work c.loop-item.all.items _ c.in_ok-value.value c.item-item.result c.holds.result c.loop-item.invariant.1 c.in_ok-value.ensures.kept (names_later _ c.loop-item.work.store c.item-item.result c.loop-item.invariant.1.later item) c.in_ok-push_if.ensures.items,
    )

pub visits::visit-returns-in_err-func-clause-gives : goal.visits::visit-returns-in_err-func-clause-gives
visits::visit-returns-in_err-func-clause-gives t c =
    handed_on _ c.from_residual.result c.in_err-func.field-0.0 (state_of c.args.work.now) _ c.from_residual.ensures.1
    (stopped plain_visited (λ (v : Value). v) _ _ _ _ _ _ (visits_same (visit_with (parts c.args.view.now c.args.depth) c.args.place c.args.kind) c.args.place c.args.args.now (state_of c.args.work.now)) refl c.in_err-func.ensures.gives)

pub visits::visit-returns-in_err-all-in-Map-clause-gives : goal.visits::visit-returns-in_err-all-in-Map-clause-gives
visits::visit-returns-in_err-all-in-Map-clause-gives t c =
    let items : c.in_ok-func.field-0.items.items ≡ c.deref.result.now = sym c.deref.ensures.value in
    let start = goes_to _ _ _ (plain_visited c.in_ok-func.field-0) (state_of c.args.work.now) (visits_same (visit_with (parts c.args.view.now c.args.depth) c.args.place c.args.kind) c.args.place c.args.args.now (state_of c.args.work.now)) c.in_ok-func.ensures.gives in
    let turn = start ∙ map_turn (parts c.args.view.now c.args.depth) c.args.place c.args.kind c.in_ok-func.field-0.func c.in_ok-func.field-0.func c.in_ok-func.field-0.items.items c.deref.result.now (state_of c.args.work.now) c.in-Map.is refl items in
    handed_on _ c.from_residual-in_err-all-in-Map.result c.in_err-all-in-Map.field-0.0 (state_of c.map_values.new.work) _ c.from_residual-in_err-all-in-Map.ensures.1
    (stopped (λ (v : Vec Value Global). v.items) (λ (v : Value). v) _ _ _ _ _ _ turn refl c.in_err-all-in-Map.ensures.gives)

pub visits::visit-returns-in-Map-clause-gives : goal.visits::visit-returns-in-Map-clause-gives
visits::visit-returns-in-Map-clause-gives t c =
    let items : c.in_ok-func.field-0.items.items ≡ c.deref.result.now = sym c.deref.ensures.value in
    let start = goes_to _ _ _ (plain_visited c.in_ok-func.field-0) (state_of c.args.work.now) (visits_same (visit_with (parts c.args.view.now c.args.depth) c.args.place c.args.kind) c.args.place c.args.args.now (state_of c.args.work.now)) c.in_ok-func.ensures.gives in
    let turn = start ∙ map_turn (parts c.args.view.now c.args.depth) c.args.place c.args.kind c.in_ok-func.field-0.func c.in_ok-func.field-0.func c.in_ok-func.field-0.items.items c.deref.result.now (state_of c.args.work.now) c.in-Map.is refl items in
    goes_on _ _ _ _ _ _ c.make_array.result (state_of c.make_array.new.self) turn c.in_ok-all-in-Map.ensures.gives c.make_array.ensures.gives

pub visits::visit-returns-in_err-all-in-Filter-clause-gives : goal.visits::visit-returns-in_err-all-in-Filter-clause-gives
visits::visit-returns-in_err-all-in-Filter-clause-gives t c =
    let items : c.in_ok-func.field-0.items.items ≡ c.deref-in-Filter.result.now = sym c.deref-in-Filter.ensures.value in
    let start = goes_to _ _ _ (plain_visited c.in_ok-func.field-0) (state_of c.args.work.now) (visits_same (visit_with (parts c.args.view.now c.args.depth) c.args.place c.args.kind) c.args.place c.args.args.now (state_of c.args.work.now)) c.in_ok-func.ensures.gives in
    let turn = start ∙ filter_turn (parts c.args.view.now c.args.depth) c.args.place c.args.kind c.in_ok-func.field-0.func c.in_ok-func.field-0.func c.in_ok-func.field-0.items.items c.deref-in-Filter.result.now (state_of c.args.work.now) c.in-Filter.is refl items in
    handed_on _ c.from_residual-in_err-all-in-Filter.result c.in_err-all-in-Filter.field-0.0 (state_of c.filter_values.new.work) _ c.from_residual-in_err-all-in-Filter.ensures.1
    (stopped (λ (v : Vec Value Global). v.items) (λ (v : Value). v) _ _ _ _ _ _ turn refl c.in_err-all-in-Filter.ensures.gives)

pub visits::visit-returns-in-Filter-clause-gives : goal.visits::visit-returns-in-Filter-clause-gives
visits::visit-returns-in-Filter-clause-gives t c =
    let items : c.in_ok-func.field-0.items.items ≡ c.deref-in-Filter.result.now = sym c.deref-in-Filter.ensures.value in
    let start = goes_to _ _ _ (plain_visited c.in_ok-func.field-0) (state_of c.args.work.now) (visits_same (visit_with (parts c.args.view.now c.args.depth) c.args.place c.args.kind) c.args.place c.args.args.now (state_of c.args.work.now)) c.in_ok-func.ensures.gives in
    let turn = start ∙ filter_turn (parts c.args.view.now c.args.depth) c.args.place c.args.kind c.in_ok-func.field-0.func c.in_ok-func.field-0.func c.in_ok-func.field-0.items.items c.deref-in-Filter.result.now (state_of c.args.work.now) c.in-Filter.is refl items in
    goes_on _ _ _ _ _ _ c.make_array-in-Filter.result (state_of c.make_array-in-Filter.new.self) turn c.in_ok-all-in-Filter.ensures.gives c.make_array-in-Filter.ensures.gives

pub visits::visit-returns-in_err-any-in-Any-clause-gives : goal.visits::visit-returns-in_err-any-in-Any-clause-gives
visits::visit-returns-in_err-any-in-Any-clause-gives t c =
    let items : c.in_ok-func.field-0.items.items ≡ c.deref-in-Any.result.now = sym c.deref-in-Any.ensures.value in
    let start = goes_to _ _ _ (plain_visited c.in_ok-func.field-0) (state_of c.args.work.now) (visits_same (visit_with (parts c.args.view.now c.args.depth) c.args.place c.args.kind) c.args.place c.args.args.now (state_of c.args.work.now)) c.in_ok-func.ensures.gives in
    let turn = start ∙ any_turn (parts c.args.view.now c.args.depth) c.args.place c.args.kind c.in_ok-func.field-0.func c.in_ok-func.field-0.func c.in_ok-func.field-0.items.items c.deref-in-Any.result.now (state_of c.args.work.now) c.in-Any.is refl items in
    handed_on _ c.from_residual-in_err-any-in-Any.result c.in_err-any-in-Any.field-0.0 (state_of c.find_value.new.work) _ c.from_residual-in_err-any-in-Any.ensures.1
    (stopped (λ (b : Bool). b) (λ (v : Value). v) _ _ _ _ _ _ turn refl c.in_err-any-in-Any.ensures.gives)

pub visits::visit-returns-in_err-other-in-All-clause-gives : goal.visits::visit-returns-in_err-other-in-All-clause-gives
visits::visit-returns-in_err-other-in-All-clause-gives t c =
    let items : c.in_ok-func.field-0.items.items ≡ c.deref-in-All.result.now = sym c.deref-in-All.ensures.value in
    let start = goes_to _ _ _ (plain_visited c.in_ok-func.field-0) (state_of c.args.work.now) (visits_same (visit_with (parts c.args.view.now c.args.depth) c.args.place c.args.kind) c.args.place c.args.args.now (state_of c.args.work.now)) c.in_ok-func.ensures.gives in
    let turn = start ∙ all_turn (parts c.args.view.now c.args.depth) c.args.place c.args.kind c.in_ok-func.field-0.func c.in_ok-func.field-0.func c.in_ok-func.field-0.items.items c.deref-in-All.result.now (state_of c.args.work.now) c.in-All.is refl items in
    handed_on _ c.from_residual-in_err-other-in-All.result c.in_err-other-in-All.field-0.0 (state_of c.find_value-in-All.new.work) _ c.from_residual-in_err-other-in-All.ensures.1
    (stopped (λ (b : Bool). b) (λ (v : Value). v) _ _ _ _ _ _ turn refl c.in_err-other-in-All.ensures.gives)
