use Rattle.std.proofs.Common.{◌≡◌, ◌∷◌, IfSome, ap, subst, ◌∙◌, arith, rules}
use Rattle.site_base.specs.View.{view}
use Rattle.site_base.specs.Weight.{pairs_weight}
use Rattle.dsl_value.specs.Loads.{bare, load}
use Rattle.dsl_value.proofs.Parted.{bare_pair_added}
use Rattle.dsl_value.proofs.loading.add_bare_pairs.Goals as goal

pub loop-key-preserved : goal.loop-key-preserved
loop-key-preserved c =
    let first : c.loop-key.left.now ≡ c.in-Some.field-0-0.now ∷ c.in-Some.rest.now = search rules in
    let is : load (view c.in-Some.field-0-0.now.1) ≡ (λ n. bare c.in-Some-2.value) = subst (λ o. IfSome o (λ v. load (view c.in-Some.field-0-0.now.1) ≡ (λ n. bare v))) c.in-Some-2.is c.in_ok-value.ensures in
    let key : c.in_ok-clone.field-0 ≡ c.in-Some.field-0-0.now.0 = search rules in
    let weights : pairs_weight c.loop-key.left.now ≡ pairs_weight (c.in-Some.field-0-0.now ∷ c.in-Some.rest.now) = ap pairs_weight first in (
      (λ before cells. bare_pair_added c.loop-key.pairs.items c.push.new.self.items c.loop-key.left.now c.in_ok-clone.field-0 c.in-Some.field-0-0.now c.in-Some.rest.now c.in-Some-2.value key first is c.in_ok-push.ensures.items before cells ∙ c.loop-key.invariant.0 before cells),
      omega (arith, weights, c.loop-key.invariant.1),
    )
