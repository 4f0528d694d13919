use Rattle.std.proofs.Common.{◌<◌, length, List, ℕ}
use Rattle.std.proofs.lemmas.Result.{err_from_is_err_and}
use Rattle.log_text.proofs.Loops.{goes_on, ends_here, fails, none_left}
use Rattle.log_text.specs.EntryReading.{sight_at}
use Rattle.log_text.specs.Fronts.{parts_within}
use Rattle.log_text.specs.SiteNames.{names_view}
use Rattle.log_text.proofs.sights.read_each_sight.Goals as goal

pub returns-in_err-sight : goal.returns-in_err-sight
returns-in_err-sight c =
    let p = err_from_is_err_and c.from_residual.result c.from_residual.ensures.1 in
    let bytes : List ℕ = c.args.bytes.now in
    let lt : c.loop.counter < length bytes = c.loop-test.true in
    rw (p.1, p.2) (fails (sight_at (names_view c.args.names.now)) c.in_err-sight.field-0.0 c.loop.sights (length bytes) c.loop.counter c.loop.rest.now (parts_within (length bytes) (sight_at (names_view c.args.names.now)) bytes) lt c.in_err-sight.ensures c.loop.invariant)

pub loop-preserved : goal.loop-preserved
loop-preserved c =
    let bytes : List ℕ = c.args.bytes.now in
    let lt : c.loop.counter < length bytes = c.loop-test.true in
    rw c.in_ok-push.ensures.ok
    (goes_on (sight_at (names_view c.args.names.now)) c.loop.sights (length bytes) c.loop.counter c.loop.rest.now c.in_ok-sight.after.now c.in-Some.next.now c.in_ok-sight.sight (parts_within (length bytes) (sight_at (names_view c.args.names.now)) bytes) lt c.in_ok-sight.ensures c.in-Some.ensures
    c.loop.invariant)

pub returns-in-None : goal.returns-in-None
returns-in-None c =
    let bytes : List ℕ = c.args.bytes.now in
    let lt : c.loop.counter < length bytes = c.loop-test.true in
    rw c.in_ok-push.ensures.ok
    (ends_here (sight_at (names_view c.args.names.now)) c.loop.sights (length bytes) c.loop.counter c.loop.rest.now c.in_ok-sight.after.now c.in_ok-sight.sight (parts_within (length bytes) (sight_at (names_view c.args.names.now)) bytes) lt c.in_ok-sight.ensures c.in-None.ensures
    c.loop.invariant)

pub returns : goal.returns
returns c =
    let bytes : List ℕ = c.args.bytes.now in
    none_left (sight_at (names_view c.args.names.now)) c.loop.sights (length bytes) c.loop.counter c.loop.rest.now (parts_within (length bytes) (sight_at (names_view c.args.names.now)) bytes) c.loop-test.false c.loop.invariant
