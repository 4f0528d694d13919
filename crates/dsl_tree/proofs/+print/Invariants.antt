use Rattle.std.proofs.Common.{◌≡◌, ◌++◌, ◌∷◌, false, nat_lt, drop}
use Rattle.dsl_syntax.specs.SyntaxView.{exprs_view, entries_view, uses_view, steps_view, arms_view, stmts_view}
use Rattle.dsl_tree.specs.Spelling.{exprs_text, entries_text, captures_text, steps_text, arms_text, stmts_text}
use Rattle.dsl_tree.proofs.+print.Given as goal

-- what stands so far and what the rest gives are the whole text
abbrev pub invariant-exprs::push_dict-loop-i : goal.invariant-exprs::push_dict-loop-i
invariant-exprs::push_dict-loop-i l =
    l.out ++ entries_text (nat_lt 0 l.i) (entries_view (drop l.i l.pairs)) ≡ l.fn.out ++ 123 ∷ 32 ∷ entries_text false (entries_view l.pairs)

abbrev pub invariant-exprs::push_exprs-loop-i : goal.invariant-exprs::push_exprs-loop-i
invariant-exprs::push_exprs-loop-i l =
    l.out ++ exprs_text (nat_lt 0 l.i) (exprs_view (drop l.i l.items)) ≡ l.fn.out ++ exprs_text false (exprs_view l.items)

abbrev pub invariant-exprs::push_captures-loop-i : goal.invariant-exprs::push_captures-loop-i
invariant-exprs::push_captures-loop-i l =
    l.out ++ captures_text (nat_lt 0 l.i) (uses_view (drop l.i l.uses)) ≡ l.fn.out ++ captures_text false (uses_view l.uses)

abbrev pub invariant-stmts::push_arms-loop-i : goal.invariant-stmts::push_arms-loop-i
invariant-stmts::push_arms-loop-i l =
    l.out ++ arms_text (nat_lt 0 l.i) (arms_view (drop l.i l.arms)) ≡ l.fn.out ++ arms_text false (arms_view l.arms)

abbrev pub invariant-stmts::push_steps-loop-step : goal.invariant-stmts::push_steps-loop-step
invariant-stmts::push_steps-loop-step l =
    l.out ++ steps_text (steps_view (drop l.step-index l.steps)) ≡ l.fn.out ++ steps_text (steps_view l.steps)

abbrev pub invariant-stmts::push_stmts-loop-statement :
    goal.invariant-stmts::push_stmts-loop-statement
invariant-stmts::push_stmts-loop-statement l =
    l.out ++ stmts_text (stmts_view (drop l.statement-index l.statements)) ≡ l.fn.out ++ stmts_text (stmts_view l.statements)
