-- What the items of a wave captured was captured by an item or a rule of the load.
use Rattle.std.proofs.Common.{ℕ, List, ◌++◌, filter, sym, subst}
use Rattle.std.specs.List.{flat_map, AllByRecursion}
use Rattle.dsl_value.specs.Pairs.{Pairs}
use Rattle.eval_meaning.specs.Registered.{PlainItem, PlainRule}
use Rattle.eval_meaning.specs.Load.{Loaded}
use Rattle.commit_meaning.specs.Answers.{Answer, all_made}
use Rattle.commit_meaning.specs.Rules.{instances}
use Rattle.commit_meaning.specs.Worlds.{World, targets}
use Rattle.commit_meaning.specs.Waves.{view_before, is_in_wave, rule_answers, wave_answers, item_number, wave_items, group_made, wave_groups}
use Rattle.commit_meaning.proofs.Lists.{all_of_each, all_imp, all_append, all_kept, all_map, all_flat}
use Rattle.commit_meaning.proofs.Sorting.{all_by_number}
use Rattle.commit_meaning.proofs.ItemTypes.{IsOfRule, instances_of}

module _ (P : Pairs → Type 0) (load : Loaded) (before : World) (w : ℕ) where
  abbrev pub ItemHas : PlainItem → Type 0
  ItemHas i = P i.captured

  abbrev pub RuleHas : PlainRule → Type 0
  RuleHas r = P r.captured

  abbrev AnswerHas : Answer (List PlainItem) → Type 0
  AnswerHas a = AllByRecursion ItemHas (all_made a)

  rule_has : (r : PlainRule) → RuleHas r → AllByRecursion AnswerHas (rule_answers load before r)
  rule_has r h =
      all_map (instances (view_before load before) r) (λ t. Unit {0}) AnswerHas (λ t u. all_imp (IsOfRule r) ItemHas (λ i q. subst P (sym q.1) h) (all_made (instances (view_before load before) r t)) (instances_of (view_before load before) r t)) (targets r.target before.objects) (all_of_each (λ t. Unit {0}) (λ t. tt) (targets r.target before.objects))

  answers_have : AllByRecursion RuleHas load.rules → AllByRecursion AnswerHas (wave_answers load before w)
  answers_have rs = all_flat (rule_answers load before) RuleHas AnswerHas rule_has (filter (λ r. is_in_wave w r.kind) load.rules) (all_kept RuleHas (λ r. is_in_wave w r.kind) load.rules rs)

  pub items_have : AllByRecursion ItemHas load.items → AllByRecursion RuleHas load.rules → AllByRecursion ItemHas (wave_items load before w)
  unfolding wave_items
  items_have is rs =
      all_by_number item_number ItemHas (filter (λ i. is_in_wave w i.kind) load.items ++ flat_map all_made (wave_answers load before w))
      (all_append ItemHas (filter (λ i. is_in_wave w i.kind) load.items) (flat_map all_made (wave_answers load before w)) (all_kept ItemHas (λ i. is_in_wave w i.kind) load.items is) (all_flat all_made AnswerHas ItemHas (λ a h. h) (wave_answers load before w) (answers_have rs)))

  -- so was what groups captured, those of earlier waves too
  pub groups_have : AllByRecursion ItemHas load.items → AllByRecursion RuleHas load.rules → AllByRecursion ItemHas before.groups → AllByRecursion ItemHas (wave_groups load before w)
  groups_have is rs gs = all_append ItemHas before.groups (filter (group_made (view_before load before)) (wave_items load before w)) gs (all_kept ItemHas (group_made (view_before load before)) (wave_items load before w) (items_have is rs))
