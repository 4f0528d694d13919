-- The measures and the loops of the evaluation.
use Rattle.std.proofs.Common.{◌≡◌, ◌+◌, ◌*◌, ◌-◌, drop, []}
use Rattle.std.specs.Vec.Iter.{into_iter_items}
use Rattle.dsl_syntax.specs.SyntaxView.{expr_view, exprs_view, entries_view, uses_view, stmts_view, arms_view, steps_view}
use Rattle.eval_meaning.specs.Literals.{values_with, pairs_with}
use Rattle.eval_meaning.specs.Functions.{captured_with}
use Rattle.eval_meaning.specs.Targets.{keys_with}
use Rattle.eval_meaning.specs.Flow.{block_with, arms_with, turns_with}
use Rattle.eval_meaning.specs.Files.{files_with, include_with}
use Rattle.eval_meaning.specs.Visits.{mapped, filtered, found}
use Rattle.eval_work.specs.Works.{state_of, view_of}
use Rattle.eval_work.specs.Kept.{IsFit, IsLater, AreKept, ArePairsKept}
use Rattle.dsl_eval.specs.Nodes.{parts}
use Rattle.eval_steps.specs.Loops.{for_turns}
use Rattle.eval_steps.specs.Named.{TurnsNamed}
use Rattle.dsl_eval.proofs.+eval.Given as goal

abbrev pub decreases-expressions::eval_at : goal.decreases-expressions::eval_at
decreases-expressions::eval_at l = 32 * l.depth + 0

abbrev pub decreases-calls::eval_callee : goal.decreases-calls::eval_callee
decreases-calls::eval_callee l = 32 * l.depth + 0

abbrev pub decreases-statements::run_statement : goal.decreases-statements::run_statement
decreases-statements::run_statement l = 32 * l.depth + 0

abbrev pub decreases-statements::run_block : goal.decreases-statements::run_block
decreases-statements::run_block l = 32 * l.depth + 1

abbrev pub decreases-calls::in_frame : goal.decreases-calls::in_frame
decreases-calls::in_frame l = 32 * l.depth + 2

abbrev pub decreases-calls::apply : goal.decreases-calls::apply
decreases-calls::apply l = 32 * l.depth + 3

abbrev pub decreases-visits::map_values : goal.decreases-visits::map_values
decreases-visits::map_values l = 32 * l.depth + 4

abbrev pub decreases-visits::filter_values : goal.decreases-visits::filter_values
decreases-visits::filter_values l = 32 * l.depth + 4

abbrev pub decreases-visits::find_value : goal.decreases-visits::find_value
decreases-visits::find_value l = 32 * l.depth + 4

abbrev pub decreases-visits::visit : goal.decreases-visits::visit
decreases-visits::visit l = 32 * l.depth + 5

abbrev pub decreases-calls::call_library : goal.decreases-calls::call_library
decreases-calls::call_library l = 32 * l.depth + 6

abbrev pub decreases-expressions::eval_values : goal.decreases-expressions::eval_values
decreases-expressions::eval_values l = 32 * l.depth + 1

abbrev pub decreases-expressions::eval_pairs : goal.decreases-expressions::eval_pairs
decreases-expressions::eval_pairs l = 32 * l.depth + 1

abbrev pub decreases-expressions::eval_maybe : goal.decreases-expressions::eval_maybe
decreases-expressions::eval_maybe l = 32 * l.depth + 1

abbrev pub decreases-captures::eval_captures : goal.decreases-captures::eval_captures
decreases-captures::eval_captures l = 32 * l.depth + 2

abbrev pub decreases-captures::make_function : goal.decreases-captures::make_function
decreases-captures::make_function l = 32 * l.depth + 3

abbrev pub decreases-expressions::eval_index : goal.decreases-expressions::eval_index
decreases-expressions::eval_index l = 32 * l.depth + 1

abbrev pub decreases-expressions::eval_right : goal.decreases-expressions::eval_right
decreases-expressions::eval_right l = 32 * l.depth + 1

abbrev pub decreases-expressions::eval_binary : goal.decreases-expressions::eval_binary
decreases-expressions::eval_binary l = 32 * l.depth + 2

abbrev pub decreases-assigning::eval_key : goal.decreases-assigning::eval_key
decreases-assigning::eval_key l = 32 * l.depth + 1

abbrev pub decreases-assigning::eval_keys : goal.decreases-assigning::eval_keys
decreases-assigning::eval_keys l = 32 * l.depth + 2

abbrev pub decreases-assigning::run_set : goal.decreases-assigning::run_set
decreases-assigning::run_set l = 32 * l.depth + 3

abbrev pub decreases-calls::eval_call : goal.decreases-calls::eval_call
decreases-calls::eval_call l = 32 * l.depth + 7

abbrev pub decreases-expressions::eval_kind : goal.decreases-expressions::eval_kind
decreases-expressions::eval_kind l = 32 * l.depth + 8

abbrev pub decreases-calls::eval_called_index : goal.decreases-calls::eval_called_index
decreases-calls::eval_called_index l = 32 * l.depth + 1

abbrev pub decreases-calls::eval_called_value : goal.decreases-calls::eval_called_value
decreases-calls::eval_called_value l = 32 * l.depth + 9

abbrev pub decreases-calls::eval_callee_kind : goal.decreases-calls::eval_callee_kind
decreases-calls::eval_callee_kind l = 32 * l.depth + 10

abbrev pub decreases-finishing::run_value : goal.decreases-finishing::run_value
decreases-finishing::run_value l = 32 * l.depth + 2

abbrev pub decreases-statements::run_arms : goal.decreases-statements::run_arms
decreases-statements::run_arms l = 32 * l.depth + 2

abbrev pub decreases-loops::run_turn : goal.decreases-loops::run_turn
decreases-loops::run_turn l = 32 * l.depth + 2

abbrev pub decreases-loops::run_while : goal.decreases-loops::run_while
decreases-loops::run_while l = 32 * l.depth + 3

abbrev pub decreases-loops::run_turns : goal.decreases-loops::run_turns
decreases-loops::run_turns l = 32 * l.depth + 2

abbrev pub decreases-loops::run_for : goal.decreases-loops::run_for
decreases-loops::run_for l = 32 * l.depth + 3

abbrev pub decreases-registering::run_named : goal.decreases-registering::run_named
decreases-registering::run_named l = 32 * l.depth + 3

abbrev pub decreases-registering::run_apply : goal.decreases-registering::run_apply
decreases-registering::run_apply l = 32 * l.depth + 3

abbrev pub decreases-files::run_import : goal.decreases-files::run_import
decreases-files::run_import l = 32 * l.depth + 3

abbrev pub decreases-files::run_file : goal.decreases-files::run_file
decreases-files::run_file l = 32 * l.depth + 3

abbrev pub decreases-files::run_include : goal.decreases-files::run_include
decreases-files::run_include l = 32 * l.depth + 4

abbrev pub decreases-statements::run_kind : goal.decreases-statements::run_kind
decreases-statements::run_kind l = 32 * l.depth + 5

abbrev pub invariant-expressions::eval_values-loop-expr : goal.invariant-expressions::eval_values-loop-expr
invariant-expressions::eval_values-loop-expr l =
    (values_with (parts l.view l.depth) (exprs_view (drop l.expr-index l.exprs)) l.all.items (state_of l.work) ≡ values_with (parts l.view l.depth) (exprs_view l.exprs) l.fn.values.items (state_of l.fn.work)) × AreKept l.fn.work l.work l.all.items

abbrev pub invariant-expressions::eval_pairs-loop-key : goal.invariant-expressions::eval_pairs-loop-key
invariant-expressions::eval_pairs-loop-key l =
    (pairs_with (parts l.view l.depth) (entries_view (drop l.key-index l.pairs)) l.all.items (state_of l.work) ≡ pairs_with (parts l.view l.depth) (entries_view l.pairs) [] (state_of l.fn.work)) × ArePairsKept l.fn.work l.work l.all.items

abbrev pub invariant-captures::eval_captures-loop-used : goal.invariant-captures::eval_captures-loop-used
invariant-captures::eval_captures-loop-used l =
    (captured_with (parts l.view l.depth) l.place (uses_view (drop l.used-index l.uses)) l.all (state_of l.work) ≡ captured_with (parts l.view l.depth) l.place (uses_view l.uses) [] (state_of l.fn.work)) × ArePairsKept l.fn.work l.work l.all

abbrev pub invariant-assigning::eval_keys-loop-step : goal.invariant-assigning::eval_keys-loop-step
invariant-assigning::eval_keys-loop-step l =
    (keys_with (parts l.view l.depth) (steps_view (drop l.step-index l.steps)) l.all.items (state_of l.work) ≡ keys_with (parts l.view l.depth) (steps_view l.steps) [] (state_of l.fn.work)) × AreKept l.fn.work l.work l.all.items

abbrev pub invariant-visits::map_values-loop-item : goal.invariant-visits::map_values-loop-item
invariant-visits::map_values-loop-item l =
    (mapped (parts l.view l.depth) l.place l.func (drop l.item-index l.items) l.all.items (state_of l.work) ≡ mapped (parts l.view l.depth) l.place l.func l.items [] (state_of l.fn.work)) × AreKept l.fn.work l.work l.all.items

abbrev pub invariant-visits::filter_values-loop-item : goal.invariant-visits::filter_values-loop-item
invariant-visits::filter_values-loop-item l =
    (filtered (parts l.view l.depth) l.place l.func (drop l.item-index l.items) l.all.items (state_of l.work) ≡ filtered (parts l.view l.depth) l.place l.func l.items [] (state_of l.fn.work)) × AreKept l.fn.work l.work l.all.items

abbrev pub invariant-visits::find_value-loop-item : goal.invariant-visits::find_value-loop-item
invariant-visits::find_value-loop-item l =
    (found (parts l.view l.depth) l.place l.wanted l.func (drop l.item-index l.items) (state_of l.work) ≡ found (parts l.view l.depth) l.place l.wanted l.func l.items (state_of l.fn.work)) × IsFit l.work × IsLater l.fn.work.store l.work.store

abbrev pub invariant-statements::run_block-loop-statement : goal.invariant-statements::run_block-loop-statement
invariant-statements::run_block-loop-statement l =
    (block_with (parts l.view l.depth) (stmts_view (drop l.statement-index l.statements)) (state_of l.work) ≡ block_with (parts l.view l.depth) (stmts_view l.statements) (state_of l.fn.work)) × IsFit l.work × IsLater l.fn.work.store l.work.store

abbrev pub invariant-statements::run_arms-loop-arm : goal.invariant-statements::run_arms-loop-arm
invariant-statements::run_arms-loop-arm l =
    (arms_with (parts l.view l.depth) (arms_view (drop l.arm-index l.arms)) (stmts_view l.other) (state_of l.work) ≡ arms_with (parts l.view l.depth) (arms_view l.arms) (stmts_view l.other) (state_of l.fn.work)) × IsFit l.work × IsLater l.fn.work.store l.work.store

abbrev pub invariant-loops::run_while-loop : goal.invariant-loops::run_while-loop
invariant-loops::run_while-loop l =
    (turns_with (parts l.view l.depth) (expr_view l.cond) (stmts_view l.block) (l.most - l.counter) (state_of l.work) ≡ turns_with (parts l.view l.depth) (expr_view l.cond) (stmts_view l.block) l.fn.work.steps (state_of l.fn.work)) × IsFit l.work × IsLater l.fn.work.store l.work.store

abbrev pub invariant-loops::run_turns-loop-turn : goal.invariant-loops::run_turns-loop-turn
invariant-loops::run_turns-loop-turn l =
    (for_turns (parts l.view l.depth) l.key l.value (stmts_view l.block) (into_iter_items l.turn-iterator) (state_of l.work) ≡ for_turns (parts l.view l.depth) l.key l.value (stmts_view l.block) l.fn.turns.items (state_of l.fn.work)) × IsFit l.work × IsLater l.fn.work.store l.work.store × TurnsNamed l.fn.work.store (into_iter_items l.turn-iterator)

abbrev pub invariant-files::run_include-loop : goal.invariant-files::run_include-loop
invariant-files::run_include-loop l =
    (files_with (view_of l.view) (parts l.view l.depth) (l.count - l.counter) (state_of l.work) ≡ include_with (view_of l.view) (parts l.view l.depth) l.fn.place (state_of l.fn.work)) × IsFit l.work × IsLater l.fn.work.store l.work.store
