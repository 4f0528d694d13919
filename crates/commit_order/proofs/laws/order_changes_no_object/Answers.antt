use Rattle.commit_order.proofs.Commits.{same_objects, same_faults}
use Rattle.commit_order.proofs.laws.order_changes_no_object.Goals as goal

pub returns-clause-objects : goal.returns-clause-objects
returns-clause-objects c = same_objects

pub returns-clause-faults : goal.returns-clause-faults
returns-clause-faults c = same_faults
