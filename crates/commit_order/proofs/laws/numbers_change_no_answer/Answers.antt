use Rattle.commit_order.proofs.Items.{item_unordered}
use Rattle.commit_order.proofs.Rules.{rule_unordered}
use Rattle.commit_order.proofs.Groups.{groups_unordered}
use Rattle.commit_order.proofs.laws.numbers_change_no_answer.Goals as goal

pub returns-clause-item : goal.returns-clause-item
returns-clause-item c = item_unordered

pub returns-clause-rule : goal.returns-clause-rule
returns-clause-rule c = rule_unordered

pub returns-clause-groups : goal.returns-clause-groups
returns-clause-groups c = groups_unordered
