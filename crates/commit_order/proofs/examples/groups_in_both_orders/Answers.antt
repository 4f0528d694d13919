use Rattle.std.proofs.Common.{refl}
use Rattle.commit_order.proofs.Computing.{computing}
use Rattle.commit_order.proofs.examples.groups_in_both_orders.Goals as goal

pub returns-clause-x_first : goal.returns-clause-x_first
unfolding computing
returns-clause-x_first c = refl

pub returns-clause-y_first : goal.returns-clause-y_first
unfolding computing
returns-clause-y_first c = refl
