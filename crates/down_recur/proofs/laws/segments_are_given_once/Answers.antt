use Rattle.down_recur.proofs.Once.{given_in_order, given_once}
use Rattle.down_recur.proofs.laws.segments_are_given_once.Goals as goal

pub returns-clause-once : goal.returns-clause-once
returns-clause-once c = given_once

pub returns-clause-order : goal.returns-clause-order
returns-clause-order c = given_in_order
