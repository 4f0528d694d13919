-- The bytes so far and the key of what is left are the whole.
use Rattle.std.proofs.Common.{◌≡◌, ◌++◌, ◌∷◌, drop}
use Rattle.dsl_syntax.specs.SyntaxView.{exprs_view, entries_view, uses_view, steps_view, arms_view, stmts_view}
use Rattle.task_keys.specs.SyntaxKeys.{arms_key, entries_key, expressions_key, statements_key, steps_key, uses_key}
use Rattle.task_keys.proofs.+write.Given as goal

abbrev pub invariant-exprs::push_exprs-loop-item : goal.invariant-exprs::push_exprs-loop-item
invariant-exprs::push_exprs-loop-item l = l.out ++ expressions_key (exprs_view (drop l.item-index l.items)) ≡ l.fn.out ++ expressions_key (exprs_view l.items)

abbrev pub invariant-exprs::push_dict-loop-key : goal.invariant-exprs::push_dict-loop-key
invariant-exprs::push_dict-loop-key l = l.out ++ entries_key (entries_view (drop l.key-index l.pairs)) ≡ l.fn.out ++ 8 ∷ entries_key (entries_view l.pairs)

abbrev pub invariant-exprs::push_uses-loop-used : goal.invariant-exprs::push_uses-loop-used
invariant-exprs::push_uses-loop-used l = l.out ++ uses_key (uses_view (drop l.used-index l.uses)) ≡ l.fn.out ++ uses_key (uses_view l.uses)

abbrev pub invariant-stmts::push_statements-loop-statement : goal.invariant-stmts::push_statements-loop-statement
invariant-stmts::push_statements-loop-statement l = l.out ++ statements_key (stmts_view (drop l.statement-index l.statements)) ≡ l.fn.out ++ statements_key (stmts_view l.statements)

abbrev pub invariant-stmts::push_steps-loop-step : goal.invariant-stmts::push_steps-loop-step
invariant-stmts::push_steps-loop-step l = l.out ++ steps_key (steps_view (drop l.step-index l.steps)) ≡ l.fn.out ++ steps_key (steps_view l.steps)

abbrev pub invariant-stmts::push_arms-loop-arm : goal.invariant-stmts::push_arms-loop-arm
invariant-stmts::push_arms-loop-arm l = l.out ++ arms_key (arms_view (drop l.arm-index l.arms)) ≡ l.fn.out ++ 14 ∷ arms_key (arms_view l.arms)
