-- What the rules of a load captured names cells and functions of its store.
use Rattle.std.proofs.Common.{ℕ, List, [], ◌∷◌, map}
use Rattle.std.specs.List.{AllByRecursion, filter}
use Rattle.dsl_value.specs.Contents.{Contents}
use Rattle.eval_meaning.specs.Registered.{PlainRule}
use Rattle.eval_work.specs.Kept.{PairsNamed, RulesNamed}
use Rattle.eval_work.specs.Works.{plain_rule}
use Rattle.eval_work.specs.declared.rule.Rule.{Rule}
use Rattle.commit_meaning.specs.Waves.{is_in_wave}
use Rattle.commit_meaning.proofs.Lists.{all_kept}

pub rules_named : (c : Contents) (rs : List Rule) → RulesNamed c rs → AllByRecursion (λ (r : PlainRule). PairsNamed c r.captured) (map plain_rule rs)
rules_named c [] h = tt
rules_named c (r ∷ rs) h = (h.0, rules_named c rs h.1)

-- what the rules of a wave captured
pub kept_named : (c : Contents) (w : ℕ) (rs : List Rule) → RulesNamed c rs → AllByRecursion (λ (r : PlainRule). PairsNamed c r.captured) (filter (λ r. is_in_wave w r.kind) (map plain_rule rs))
kept_named c w rs h = all_kept (λ (r : PlainRule). PairsNamed c r.captured) (λ r. is_in_wave w r.kind) (map plain_rule rs) (rules_named c rs h)
