-- The first that has started is the first of those that have.
use Rattle.std.proofs.Common.{◌∙◌, ap, true, false}
use Rattle.downtime_book.specs.declared.firsts.Firsts.{Firsts}
use Rattle.downtime_book.specs.Firsts.{counts}
use Rattle.downtime_book.specs.Naming.{started}
use Rattle.downtime_book.proofs.Starts.{started-first_of}
use Rattle.downtime_book.proofs.firsts.Firsts.in_effect.Goals as goal

pub returns-then-problem : goal.returns-then-problem
returns-then-problem c = λ ds e.
    let m = c.args.moment in
    let first = c.started.ensures ∙ ap (λ (f : Firsts). started m f.in_problem) e ∙ started-first_of m (counts true) ds in
    rw c.if-problem.true first

pub returns-else-problem : goal.returns-else-problem
returns-else-problem c = λ ds e.
    let m = c.args.moment in
    let first = c.started-else-problem.ensures ∙ ap (λ (f : Firsts). started m f.settled) e ∙ started-first_of m (counts false) ds in
    rw c.if-problem.false first
