-- The plain values of what groups work with.
use Rattle.std.specs.Prelude.{ℕ, List}
use Rattle.std.specs.Borrow.{Bor}
use Rattle.eval_meaning.specs.Registered.{PlainItem}
use Rattle.eval_work.specs.Works.{plain_item}
use Rattle.eval_work.specs.declared.item.Item.{Item}
use Rattle.commit_meaning.specs.Answers as answer
use Rattle.commit_meaning.specs.Answers.{Answer}
use Rattle.commit_meaning.specs.Groups as groups
use Rattle.group_rules.specs.declared.group_answer.GroupAnswer.{GroupAnswer}
use Rattle.group_rules.specs.declared.group_answer.GroupAnswer.TheVariants as group_answers
use Rattle.group_rules.specs.declared.taking.Taken.{Taken}

abbrev pub plain_group : Bor Item → PlainItem
plain_group g = plain_item g.now

abbrev pub plain_taken : Taken → groups.Taken
plain_taken t = record { names = t.names; diags = t.diags }

abbrev pub group_answer : GroupAnswer → Answer (List (List ℕ))
group_answer (group_answers.Names ns) = answer.made ns
group_answer (group_answers.Diags ds) = answer.diagnosed ds
group_answer (group_answers.Blocked r) = answer.blocked r
