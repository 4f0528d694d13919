use Rattle.commit_order.proofs.Trees.{same_trees}
use Rattle.commit_order.proofs.laws.order_of_files_changes_no_tree.Goals as goal

pub returns : goal.returns
returns c = same_trees
