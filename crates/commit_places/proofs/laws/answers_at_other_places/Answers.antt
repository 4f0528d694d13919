use Rattle.commit_places.proofs.Items.{item_moved}
use Rattle.commit_places.proofs.Rules.{rule_moved}
use Rattle.commit_places.proofs.Groups.{groups_moved}
use Rattle.commit_places.proofs.laws.answers_at_other_places.Goals as goal

pub returns-clause-item : goal.returns-clause-item
returns-clause-item c = item_moved

pub returns-clause-rule : goal.returns-clause-rule
returns-clause-rule c = rule_moved

pub returns-clause-groups : goal.returns-clause-groups
returns-clause-groups c = groups_moved
