-- Where none is live, only the latest moment moves.
use Rattle.std.proofs.Common.{◌≡◌, ◌≤◌, subst, sym, arith}
use Rattle.downtime_book.specs.Calls.{latest}
use Rattle.downtime_book.specs.Contents.{Contents, StandsFor}
use Rattle.checkable_core.proofs.Calls.{taken_away}
use Rattle.checkable_core.proofs.downtimes.take_away.Goals as goal

pub returns-in-Err-clause-stands : goal.returns-in-Err-clause-stands
returns-in-Err-clause-stands c calls stands =
    let late : latest calls ≤ c.args.moment = let at : latest calls ≡ c.args.book.now.latest = sym stands.latest in let below = c.requires in omega (arith, at, below) in
    let same = subst (λ (b : Contents). StandsFor b calls) (sym c.in-Err.ensures.err) stands in
    taken_away c.on_result.new.self c.args.number c.args.moment calls late (sym (c.in-Err.ensures.live calls stands)) (c.on_result.ensures.stands calls same)
