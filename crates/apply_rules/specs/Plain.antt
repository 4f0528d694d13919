-- The plain values of what rules work with.
use Rattle.std.specs.Prelude.{ℕ, List, [], ◌∷◌, ◌++◌, map, Option, Some, None, Vec}
use Rattle.std.specs.declared.alloc.Global.{Global}
use Rattle.site_base.specs.declared.item_no.ItemNo.{ItemNo}
use Rattle.site_model.specs.PlainSite.{object_view}
use Rattle.eval_meaning.specs.Registered.{PlainItem, PlainRule}
use Rattle.eval_work.specs.Works.{plain_pair, plain_rule}
use Rattle.commit_meaning.specs.Answers as answer
use Rattle.commit_meaning.specs.Answers.{Answer}
use Rattle.commit_meaning.specs.Names as names
use Rattle.commit_meaning.specs.Rules as rules
use Rattle.commit_meaning.specs.Starts.{Trees}
use Rattle.apply_rules.specs.declared.instance.Instance.{Instance}
use Rattle.apply_rules.specs.declared.rule_answer.RuleAnswer.{RuleAnswer}
use Rattle.apply_rules.specs.declared.rule_answer.RuleAnswer.TheVariants as rule_answers
use Rattle.apply_rules.specs.declared.target.Target.{Target}
use Rattle.apply_rules.specs.declared.target.Target.TheVariants as target

abbrev pub plain_target : Target → names.Target
plain_target (target.Host h) = names.host (object_view h.now)
plain_target (target.Service h s) = names.service (object_view h.now) (object_view s.now)

-- the item of a rule at a target, with this number and name, in which the names of the target and these are bound
abbrev pub item_at : ItemNo → PlainRule → names.Target → List ℕ → Trees → PlainItem
item_at n r t name own = record (rules.instance r t n.key name (names.target_names t ++ own)) { number = n }

abbrev pub plain_instance : Instance → PlainItem
plain_instance i = item_at i.number (plain_rule i.rule.now) (plain_target i.target) i.name (map plain_pair i.own.items)

abbrev pub plain_items : Vec Instance Global → List PlainItem
plain_items is = map plain_instance is.items

-- an instance that is kept, as a list of one
abbrev pub plain_kept : Option Instance → List PlainItem
plain_kept (Some i) = plain_instance i ∷ []
plain_kept None = []

abbrev pub rule_answer : RuleAnswer → Answer (List PlainItem)
rule_answer (rule_answers.Instances is) = answer.made (plain_items is)
rule_answer (rule_answers.Diag d) = answer.diagnosed (d ∷ [])
rule_answer (rule_answers.Blocked r) = answer.blocked r
