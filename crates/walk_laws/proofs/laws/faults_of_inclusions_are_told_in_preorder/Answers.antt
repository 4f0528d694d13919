use Rattle.walk_laws.proofs.Walks.{told_in_preorder}
use Rattle.walk_laws.proofs.laws.faults_of_inclusions_are_told_in_preorder.Goals as goal

pub returns : goal.returns
returns c = told_in_preorder
