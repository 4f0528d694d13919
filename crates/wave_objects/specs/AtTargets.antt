-- What rules come to at targets, each with the rule's place.
use Rattle.std.specs.Prelude.{ℕ, List, map}
use Rattle.std.specs.List.{AllByRecursion, flat_map}
use Rattle.site_model.specs.PlainSite.{PlainObject}
use Rattle.dsl_value.specs.Contents.{Contents}
use Rattle.eval_meaning.specs.Registered.{PlainItem}
use Rattle.eval_meaning.specs.Views.{View}
use Rattle.eval_work.specs.Kept.{PairsNamed}
use Rattle.eval_work.specs.Works.{plain_rule}
use Rattle.commit_meaning.specs.Answers.{Answer}
use Rattle.commit_meaning.specs.Names.{Target}
use Rattle.commit_meaning.specs.Rules.{instances}
use Rattle.apply_rules.specs.Plain.{rule_answer}
use Rattle.apply_rules.specs.Sharing.{IsAnswerShared}
use Rattle.wave_objects.specs.ByType.{type_rules}
use Rattle.wave_objects.specs.Targets.{targets_of_one}
use Rattle.wave_objects.specs.declared.at_targets.PlacedAnswer.{PlacedAnswer}
use Rattle.wave_objects.specs.declared.by_type.PlacedRule.{PlacedRule}
use Rattle.wave_objects.specs.declared.by_type.RulesOfType.{RulesOfType}

-- what a rule comes to at a target, and the place of the rule
pub record Placed : Type 0 where
  pub place : ℕ
  pub answer : Answer (List PlainItem)

abbrev pub plain_placed : PlacedAnswer → Placed
plain_placed a = record { place = a.place; answer = rule_answer a.answer }

-- what each of these rules comes to at a target
abbrev pub placed_answer : View → Target → PlacedRule → Placed
placed_answer view t p = record { place = p.place; answer = instances view (plain_rule p.rule.now) t }

abbrev pub placed_answers : View → List PlacedRule → Target → List Placed
placed_answers view ps t = map (placed_answer view t) ps

-- what the rules that go to its type come to at one object of all, if it is a target
abbrev pub answers_of_one : View → List PlainObject → List RulesOfType → PlainObject → List Placed
answers_of_one view all types o = flat_map (placed_answers view (type_rules o.kind types)) (targets_of_one all o)

-- what each rule captured names cells and functions of a store
abbrev pub PlacedNamed : Contents → List PlacedRule → Type 0
PlacedNamed c ps = AllByRecursion (λ p. PairsNamed c p.rule.now.captured.items) ps

-- what the instances of each answer share was made in a store
abbrev pub AreAnswersShared : Contents → List PlacedAnswer → Type 0
AreAnswersShared c answers = AllByRecursion (λ a. IsAnswerShared c a.answer) answers
