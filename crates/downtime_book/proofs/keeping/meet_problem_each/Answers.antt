-- Each meets the problem, and then they are put in order.
use Rattle.std.proofs.Common.{List, IsPermutation, subst}
use Rattle.downtime_book.specs.declared.downtime.Downtime.{Downtime}
use Rattle.downtime_book.specs.Firsts.{downtimes_of}
use Rattle.downtime_book.proofs.keeping.meet_problem_each.Goals as goal

pub returns-clause-met : goal.returns-clause-met
returns-clause-met c =
    subst (λ (l : List Downtime). IsPermutation l (downtimes_of c.sort.new.placed)) c.trigger_all.ensures c.sort.ensures.same
