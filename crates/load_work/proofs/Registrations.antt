-- What a load registered captured names cells and functions of its store, also once more is registered.
use Rattle.std.proofs.Common.{List, [], ◌∷◌, ◌++◌}
use Rattle.std.specs.List.{AllByRecursion}
use Rattle.dsl_value.specs.Contents.{Contents}
use Rattle.eval_work.specs.Kept.{PairsNamed, TemplatesNamed, ItemsNamed, RulesNamed}
use Rattle.eval_work.specs.declared.item.Item.{Item}
use Rattle.eval_work.specs.declared.rule.Rule.{Rule}
use Rattle.eval_work.specs.declared.template.Template.{Template}

module _ {A : Type 0} (P : A → Type 0) where
  one_more : (xs : List A) (x : A) → AllByRecursion P xs → P x → AllByRecursion P (xs ++ x ∷ [])
  one_more [] x h k = (k, tt)
  one_more (y ∷ ys) x h k = (h.0, one_more ys x h.1 k)

pub templates_more : (c : Contents) (ts : List Template) (t : Template) → TemplatesNamed c ts → PairsNamed c t.captured.items → TemplatesNamed c (ts ++ t ∷ [])
templates_more c ts t h k = one_more (λ (x : Template). PairsNamed c x.captured.items) ts t h k

pub items_more : (c : Contents) (is : List Item) (i : Item) → ItemsNamed c is → PairsNamed c i.captured.items → ItemsNamed c (is ++ i ∷ [])
items_more c is i h k = one_more (λ (x : Item). PairsNamed c x.captured.items) is i h k

pub rules_more : (c : Contents) (rs : List Rule) (r : Rule) → RulesNamed c rs → PairsNamed c r.captured.items → RulesNamed c (rs ++ r ∷ [])
rules_more c rs r h k = one_more (λ (x : Rule). PairsNamed c x.captured.items) rs r h k
