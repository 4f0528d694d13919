-- The last place that is listed is that of an open task, which is claimed.
use Rattle.commit_board.proofs.Keeping.{claims, listed_is_open}
use Rattle.commit_board.proofs.board.Board.claim.Goals as goal

pub take_open-task-requires : goal.take_open-task-requires
take_open-task-requires g c = listed_is_open c.self.invariant c.pop.new.self.items c.in_ok-place.place c.in_ok-place.ensures.items

pub invariant_of-self-2 : goal.invariant_of-self-2
invariant_of-self-2 g c =
    rw c.take_open-task.ensures.is (claims c.self.invariant c.pop.new.self c.in_ok-place.place c.take_open-task.result c.in_ok-place.ensures.items c.in_ok-place.ensures.capacity c.take_open-task.ensures.was)

pub returns-clause-asked : goal.returns-clause-asked
returns-clause-asked g c = c.self.invariant.stands.each c.in_ok-place.place _ c.take_open-task.ensures.was
