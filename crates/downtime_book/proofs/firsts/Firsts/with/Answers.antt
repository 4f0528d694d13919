-- Each of the three is with one more, if that counts.
use Rattle.std.proofs.Common.{ap}
use Rattle.downtime_book.specs.declared.firsts.Firsts.{Firsts}
use Rattle.downtime_book.proofs.firsts.Firsts.with.Goals as goal

pub returns : goal.returns
returns c = λ ds e.
    let settled = ap (λ (f : Firsts). f.settled) e in
    let in_problem = ap (λ (f : Firsts). f.in_problem) e in
    let waiting = ap (λ (f : Firsts). f.waiting) e in
    cc
