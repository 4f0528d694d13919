use Rattle.kept_tasks.proofs.Items.{item_kept}
use Rattle.kept_tasks.proofs.Pairs.{pair_kept}
use Rattle.kept_tasks.proofs.Members.{member_kept}
use Rattle.kept_tasks.proofs.laws.kept_tasks_answer_as_before.Goals as goal

pub returns-clause-item : goal.returns-clause-item
returns-clause-item c = item_kept

pub returns-clause-pair : goal.returns-clause-pair
returns-clause-pair c = pair_kept

pub returns-clause-member : goal.returns-clause-member
returns-clause-member c = member_kept
