-- The call of each event.
use Rattle.std.proofs.Common.{◌≡◌, ◌++◌, ◌∷◌, [], List, cond, sym, ap, ◌∙◌, subst, append-nil}
use Rattle.downtime_book.specs.Calls.{Call, cancelled}
use Rattle.downtime_book.specs.Contents.{StandsFor}
use Rattle.run_meaning.specs.Downtimes.{call_in}
use Rattle.run_meaning.specs.View.{status_in}
use Rattle.site_model.specs.declared.event.Event.{Event}
use Rattle.checkable_core.proofs.Calls.{call_of_end, call_of_none, call_of_result, no_move, no_status}
use Rattle.checkable_core.proofs.Listed.{on_ok}
use Rattle.checkable_core.proofs.downtimes.enter.Goals as goal

pub returns-in-Down-clause-ok : goal.returns-in-Down-clause-ok
returns-in-Down-clause-ok c =
    on_ok _ _ (λ added check calls so stands.
    subst (λ (v : Event). StandsFor c.add.new.self (calls ++ call_in check c.args.number c.args.moment v c.args.taken)) (sym c.in-Down.is) (added calls stands))
    c.add.result c.add.ensures.ok

pub returns-in-Result-clause-ok : goal.returns-in-Result-clause-ok
returns-in-Result-clause-ok c check calls so stands =
    subst (λ (cs : List Call). StandsFor c.on_result.new.self (calls ++ cs))
    (sym (call_of_result check c.args.number c.args.moment c.args.event.now c.args.taken c.args.problem c.in-Result.status (ap status_in c.in-Result.is) so))
    (c.on_result.ensures.stands calls stands)

pub returns-in-Undown-clause-ok : goal.returns-in-Undown-clause-ok
returns-in-Undown-clause-ok c check calls so stands =
    let call : call_in check c.args.number c.args.moment c.args.event.now c.args.taken ≡ cond c.args.taken (cancelled c.in-Undown.number c.args.moment ∷ []) [] =
    ap (λ (v : Event). call_in check c.args.number c.args.moment v c.args.taken) c.in-Undown.is ∙ call_of_end check c.args.number c.args.moment c.in-Undown.number c.args.taken in
    subst (λ (cs : List Call). StandsFor c.leave.new.book (calls ++ cs)) (sym call) (c.leave.ensures.stands calls stands)

pub returns-in_default-clause-ok : goal.returns-in_default-clause-ok
returns-in_default-clause-ok c check calls so stands =
    let v = c.args.event.now in
    let call : call_in check c.args.number c.args.moment v c.args.taken ≡ [] =
    call_of_none check c.args.number c.args.moment v c.args.taken (no_status v c.in_default.not-Result) (no_move v c.in_default.not-Down c.in_default.not-Undown) in
    subst (λ (cs : List Call). StandsFor c.args.book.now (calls ++ cs)) (sym call) (subst (StandsFor c.args.book.now) (sym (append-nil calls)) stands)
