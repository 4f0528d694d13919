use Rattle.std.proofs.Common.{◌≡◌, ◌∷◌, IfSome, ap, subst, ◌∙◌, arith, rules}
use Rattle.site_base.specs.View.{view}
use Rattle.site_base.specs.Weight.{items_weight}
use Rattle.dsl_value.specs.Loads.{bare, load}
use Rattle.dsl_value.proofs.Parted.{bare_item_added}
use Rattle.dsl_value.proofs.loading.add_bare_items.Goals as goal

pub loop-next-preserved : goal.loop-next-preserved
loop-next-preserved c =
    let first : c.loop-next.left.now ≡ c.in-Some.next.now ∷ c.in-Some.rest.now = search rules in
    let is : load (view c.in-Some.next.now) ≡ (λ n. bare c.in-Some-2.value) = subst (λ o. IfSome o (λ v. load (view c.in-Some.next.now) ≡ (λ n. bare v))) c.in-Some-2.is c.in_ok-value.ensures in
    let weights : items_weight c.loop-next.left.now ≡ items_weight (c.in-Some.next.now ∷ c.in-Some.rest.now) = ap items_weight first in (
      (λ before cells. bare_item_added c.loop-next.values.items c.push.new.self.items c.loop-next.left.now c.in-Some.next.now c.in-Some.rest.now c.in-Some-2.value first is c.in_ok-push.ensures.items before cells ∙ c.loop-next.invariant.0 before cells),
      omega (arith, weights, c.loop-next.invariant.1),
    )
