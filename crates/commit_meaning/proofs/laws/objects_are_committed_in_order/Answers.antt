use Rattle.commit_meaning.proofs.Ordered.{committed_in_order}
use Rattle.commit_meaning.proofs.laws.objects_are_committed_in_order.Goals as goal

pub returns : goal.returns
returns c = committed_in_order
