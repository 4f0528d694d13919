-- What a problem makes of the slice is then the list.
use Rattle.std.proofs.Common.{true, map, IsPermutation, arith}
use Rattle.downtime_book.specs.Downtime.{after_result}
use Rattle.downtime_book.specs.Firsts.{downtimes_of}
use Rattle.downtime_book.proofs.keeping.meet_problem.Goals as goal

pub returns-clause-met : goal.returns-clause-met
returns-clause-met c =
    let met = c.meet_problem_each.new.placed in
    let whole = c.make_contiguous.ensures.writes_back met (omega (arith, c.make_contiguous.ensures.len)) in
    let moved : IsPermutation (map (after_result c.args.moment true) (downtimes_of c.args.placed.now.items)) (downtimes_of met) = rw (← c.make_contiguous.ensures.value) c.meet_problem_each.ensures.met in
    rw whole moved

pub returns-clause-ordered : goal.returns-clause-ordered
returns-clause-ordered c =
    let whole = c.make_contiguous.ensures.writes_back c.meet_problem_each.new.placed (omega (arith, c.make_contiguous.ensures.len)) in
    rw whole c.meet_problem_each.ensures.ordered

pub returns-clause-told : goal.returns-clause-told
returns-clause-told c =
    let whole = c.make_contiguous.ensures.writes_back c.meet_problem_each.new.placed (omega (arith, c.make_contiguous.ensures.len)) in
    rw whole c.meet_problem_each.ensures.told
