use Rattle.task_keys.proofs.Again.{item_again, rule_again, target_again, member_again, groups_again, statements_again}
use Rattle.task_keys.proofs.Telling.{told}
use Rattle.task_keys.proofs.TellingSyntax.{same_statements}
use Rattle.task_keys.proofs.TellingTasks.{same_item, same_rule, same_target, same_member, same_groups}
use Rattle.task_keys.proofs.laws.keys_tell_tasks.Goals as goal

pub returns : goal.returns
returns c = record {
  statements = λ b d. (told (same_statements b d), statements_again b d);
  items = λ i j. (told (same_item i j), item_again i j);
  rules = λ r q. (told (same_rule r q), rule_again r q);
  targets = λ t u. (told (same_target t u), target_again t u);
  members = λ o p. (told (same_member o p), member_again o p);
  groups = λ gs hs. (told (same_groups gs hs), groups_again gs hs);
}
