use Rattle.std.proofs.Common.{◌≡◌, true, false, nat_eq, length, sym, ap, ◌∙◌}
use Rattle.std.specs.Arc.{arc_value}
use Rattle.dsl_syntax.specs.SyntaxView.{stmts_view}
use Rattle.dsl_syntax.specs.declared.expr_kind.ExprKind.TheViews.{out-Func}
use Rattle.eval_meaning.specs.States.{gives}
use Rattle.eval_meaning.specs.Frames.{first_locals}
use Rattle.eval_meaning.specs.Functions.{bound}
use Rattle.name_work.specs.Calling.{captured_at}
use Rattle.eval_work.specs.Works.{state_of}
use Rattle.eval_steps.specs.Frames.{frame_with}
use Rattle.eval_steps.proofs.CallLaws.{call_taken, call_refused}
use Rattle.eval_steps.proofs.calls.prepared_function.Goals as goal

pub returns-then-not-takes-clause-gives : goal.returns-then-not-takes-clause-gives
returns-then-not-takes-clause-gives c =
    let f = arc_value c.in_ok-func.func in
    let other : nat_eq (length (out-Func f).params) (length c.args.args.items) ≡ false = cc in
    rw (c.fault.ensures) (call_refused c.args.work.now c.args.place c.args.index f c.args.args.items c.in_ok-func.ensures.function other)

pub returns-clause-gives : goal.returns-clause-gives
returns-clause-gives c =
    let f = arc_value c.in_ok-func.func in
    let same : nat_eq (length (out-Func f).params) (length c.args.args.items) ≡ true = cc in
    let locals : c.in_ok-locals.locals ≡ first_locals (captured_at c.args.work.now.store c.args.index) (bound (out-Func f).params c.args.args.items) = c.in_ok-locals.ensures.locals ∙ ap (λ g. first_locals (captured_at c.args.work.now.store c.args.index) (bound (out-Func g).params c.args.args.items)) c.deref-2.ensures in
    call_taken c.args.work.now c.args.place c.args.index f c.args.args.items c.in_ok-func.ensures.function same
    ∙ ap (λ ls. gives (frame_with (stmts_view (out-Func f).block.items) ls) (state_of c.args.work.now)) (sym locals)
