use Rattle.std.proofs.Common.{◌≡◌, ◌+◌, ◌*◌, [], IfOk, map, sym, ap, subst, ◌∙◌, arith}
use Rattle.site_base.specs.View.{view, items_view, pairs_view}
use Rattle.site_base.specs.Weight.{weight, items_weight, pairs_weight}
use Rattle.site_base.proofs.Views.{view-List, view-Dict}
use Rattle.site_base.proofs.Weights.{weight_list, weight_dict}
use Rattle.dsl_value.specs.Contents.{plain}
use Rattle.dsl_value.specs.Loading.{loaded, array_of, dict_of_pairs, value_of}
use Rattle.dsl_value.proofs.Parted.{array_begun, dict_begun, less_if}
use Rattle.dsl_value.proofs.loading.enter.Goals as goal

pub returns-in_ok-with_capacity-in-List-clause-value : goal.returns-in_ok-with_capacity-in-List-clause-value
returns-in_ok-with_capacity-in-List-clause-value c =
    let old = map plain c.args.made.now.items in
    subst (λ m. IfOk c.next_item.result (λ s. value_of c.args.before (map plain c.next_item.new.made.items) s ≡ m))
    (ap (λ vs. array_of c.args.before old vs (items_view c.deref.result.now)) c.in_ok-with_capacity-in-List.ensures.items
    ∙ ap (λ ts. array_of c.args.before old [] (items_view ts)) c.deref.ensures.value
    ∙ array_begun c.args.before old (items_view c.in-List.items.items)
    ∙ ap (loaded c.args.before old) (sym (view-List c.in-List.items) ∙ ap view (sym c.in-List.is)))
    c.next_item.ensures.value

pub returns-in_ok-with_capacity-in-List-clause-less : goal.returns-in_ok-with_capacity-in-List-clause-less
returns-in_ok-with_capacity-in-List-clause-less c =
    let same : items_weight c.deref.result.now ≡ items_weight c.in-List.items.items = ap items_weight c.deref.ensures.value in
    let all : weight c.args.tree.now ≡ 1 + items_weight c.in-List.items.items = ap weight c.in-List.is ∙ weight_list c.in-List.items in
    less_if c.next_item.result (1 + 2 * items_weight c.deref.result.now) (2 * weight c.args.tree.now) (omega (arith, same, all)) c.next_item.ensures.less

pub returns-in_ok-with_capacity-in-Dict-clause-value : goal.returns-in_ok-with_capacity-in-Dict-clause-value
returns-in_ok-with_capacity-in-Dict-clause-value c =
    let old = map plain c.args.made.now.items in
    subst (λ m. IfOk c.next_pair.result (λ s. value_of c.args.before (map plain c.next_pair.new.made.items) s ≡ m))
    (ap (λ qs. dict_of_pairs c.args.before old qs (pairs_view c.deref-in-Dict.result.now)) c.in_ok-with_capacity-in-Dict.ensures.items
    ∙ ap (λ ps. dict_of_pairs c.args.before old [] (pairs_view ps)) c.deref-in-Dict.ensures.value
    ∙ dict_begun c.args.before old (pairs_view c.in-Dict.pairs.items)
    ∙ ap (loaded c.args.before old) (sym (view-Dict c.in-Dict.pairs) ∙ ap view (sym c.in-Dict.is)))
    c.next_pair.ensures.value

pub returns-in_ok-with_capacity-in-Dict-clause-less : goal.returns-in_ok-with_capacity-in-Dict-clause-less
returns-in_ok-with_capacity-in-Dict-clause-less c =
    let same : pairs_weight c.deref-in-Dict.result.now ≡ pairs_weight c.in-Dict.pairs.items = ap pairs_weight c.deref-in-Dict.ensures.value in
    let all : weight c.args.tree.now ≡ 1 + pairs_weight c.in-Dict.pairs.items = ap weight c.in-Dict.is ∙ weight_dict c.in-Dict.pairs in
    less_if c.next_pair.result (1 + 2 * pairs_weight c.deref-in-Dict.result.now) (2 * weight c.args.tree.now) (omega (arith, same, all)) c.next_pair.ensures.less
