use Rattle.std.proofs.Common.{◌<◌, length, List, ℕ}
use Rattle.std.proofs.lemmas.Result.{err_from_is_err_and}
use Rattle.log_text.proofs.Loops.{goes_on, ends_here, fails, none_left}
use Rattle.log_text.specs.EntryReading.{decision_at}
use Rattle.log_text.specs.Fronts.{parts_within}
use Rattle.log_text.specs.SiteNames.{names_view}
use Rattle.log_text.proofs.decisions.read_each_decision.Goals as goal

pub returns-in_err-decision : goal.returns-in_err-decision
returns-in_err-decision c =
    let p = err_from_is_err_and c.from_residual.result c.from_residual.ensures.1 in
    let bytes : List ℕ = c.args.bytes.now in
    let lt : c.loop.counter < length bytes = c.loop-test.true in
    rw (p.1, p.2) (fails (decision_at (names_view c.args.names.now)) c.in_err-decision.field-0.0 c.loop.decisions (length bytes) c.loop.counter c.loop.rest.now (parts_within (length bytes) (decision_at (names_view c.args.names.now)) bytes) lt c.in_err-decision.ensures c.loop.invariant)

pub loop-preserved : goal.loop-preserved
loop-preserved c =
    let bytes : List ℕ = c.args.bytes.now in
    let lt : c.loop.counter < length bytes = c.loop-test.true in
    rw c.in_ok-push.ensures.ok
    (goes_on (decision_at (names_view c.args.names.now)) c.loop.decisions (length bytes) c.loop.counter c.loop.rest.now c.in_ok-decision.after.now c.in-Some.next.now c.in_ok-decision.decision (parts_within (length bytes) (decision_at (names_view c.args.names.now)) bytes) lt c.in_ok-decision.ensures c.in-Some.ensures
    c.loop.invariant)

pub returns-in-None : goal.returns-in-None
returns-in-None c =
    let bytes : List ℕ = c.args.bytes.now in
    let lt : c.loop.counter < length bytes = c.loop-test.true in
    rw c.in_ok-push.ensures.ok
    (ends_here (decision_at (names_view c.args.names.now)) c.loop.decisions (length bytes) c.loop.counter c.loop.rest.now c.in_ok-decision.after.now c.in_ok-decision.decision (parts_within (length bytes) (decision_at (names_view c.args.names.now)) bytes) lt c.in_ok-decision.ensures c.in-None.ensures
    c.loop.invariant)

pub returns : goal.returns
returns c =
    let bytes : List ℕ = c.args.bytes.now in
    none_left (decision_at (names_view c.args.names.now)) c.loop.decisions (length bytes) c.loop.counter c.loop.rest.now (parts_within (length bytes) (decision_at (names_view c.args.names.now)) bytes) c.loop-test.false c.loop.invariant
