use Rattle.run_laws.proofs.Sorting.{due_are, due_rise}
use Rattle.run_laws.proofs.laws.due_ones_stand_in_order.Goals as goal

pub returns-clause-same : goal.returns-clause-same
returns-clause-same c = due_are

pub returns-clause-order : goal.returns-clause-order
returns-clause-order c = due_rise
