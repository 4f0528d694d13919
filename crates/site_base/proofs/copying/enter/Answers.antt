use Rattle.std.proofs.Common.{◌≡◌, ◌+◌, ◌*◌, ◌++◌, IfOk, map, sym, ap, subst, ◌∙◌, arith}
use Rattle.site_base.specs.Data.{dict}
use Rattle.site_base.specs.View.{view, pair_view, pairs_of}
use Rattle.site_base.specs.Weight.{weight, pairs_weight}
use Rattle.site_base.specs.Copying.{value_of}
use Rattle.site_base.proofs.Views.{view-Dict}
use Rattle.site_base.proofs.Weights.{weight_dict}
use Rattle.site_base.proofs.Copied.{less_if}
use Rattle.site_base.proofs.copying.enter.Goals as goal

pub returns-in_ok-with_capacity-in-Dict-clause-value : goal.returns-in_ok-with_capacity-in-Dict-clause-value
returns-in_ok-with_capacity-in-Dict-clause-value c =
    subst (λ d. IfOk c.next_pair.result (λ s. value_of s ≡ d))
    (ap (λ ms. dict (pairs_of (map pair_view ms ++ map pair_view c.deref-in-Dict.result.now))) c.in_ok-with_capacity-in-Dict.ensures.items
    ∙ ap (λ ps. dict (pairs_of (map pair_view ps))) c.deref-in-Dict.ensures.value
    ∙ sym (view-Dict c.in-Dict.pairs) ∙ ap view (sym c.in-Dict.is))
    c.next_pair.ensures.value

pub returns-in_ok-with_capacity-in-Dict-clause-less : goal.returns-in_ok-with_capacity-in-Dict-clause-less
returns-in_ok-with_capacity-in-Dict-clause-less c =
    let same : pairs_weight c.deref-in-Dict.result.now ≡ pairs_weight c.in-Dict.pairs.items = ap pairs_weight c.deref-in-Dict.ensures.value in
    let all : weight c.args.tree.now ≡ 1 + pairs_weight c.in-Dict.pairs.items = ap weight c.in-Dict.is ∙ weight_dict c.in-Dict.pairs in
    less_if c.next_pair.result (1 + 2 * pairs_weight c.deref-in-Dict.result.now) (2 * weight c.args.tree.now) (omega (arith, same, all)) c.next_pair.ensures.less
