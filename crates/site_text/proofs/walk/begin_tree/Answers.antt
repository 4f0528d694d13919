use Rattle.std.proofs.Common.{false, ◌∷◌, [], ◌++◌, ap, ◌∙◌}
use Rattle.site_base.specs.View.{items_view, pairs_view}
use Rattle.site_text.specs.Listing.{items_text, pairs_text}
use Rattle.site_text.specs.Walk.{opened_text, opened_weight, items_weight, pairs_weight}
use Rattle.site_text.specs.declared.walk.Open.TheVariants as open_bracket
use Rattle.site_text.proofs.Walks.{list_begun, dict_begun, list_weighs, dict_weighs}
use Rattle.site_text.proofs.walk.begin_tree.Goals as goal

pub returns-in_ok-push-in-List-2-clause-text : goal.returns-in_ok-push-in-List-2-clause-text
unfolding lib.Utf8.encode
returns-in_ok-push-in-List-2-clause-text c =
    ap (λ os. c.push.new.self ++ opened_text os) c.in_ok-push-in-List-2.ensures.items
    ∙ (ap (λ out. out ++ opened_text (c.args.opened.now.items ++ open_bracket.Items false c.deref.result ∷ [])) c.in_ok-push-in-List.ensures.ok
    ∙ list_begun c.args.out.now c.args.opened.now.items (open_bracket.Items false c.deref.result) c.args.tree.now c.in-List.items c.in-List.is (ap (λ ts. items_text false (items_view ts)) c.deref.ensures.value))

pub returns-in_ok-push-in-List-2-clause-weight : goal.returns-in_ok-push-in-List-2-clause-weight
returns-in_ok-push-in-List-2-clause-weight c =
    ap opened_weight c.in_ok-push-in-List-2.ensures.items
    ∙ list_weighs c.args.opened.now.items (open_bracket.Items false c.deref.result) c.args.tree.now c.in-List.items c.in-List.is (ap (λ ts. items_weight (items_view ts)) c.deref.ensures.value)

pub returns-in_ok-push-in-Dict-2-clause-text : goal.returns-in_ok-push-in-Dict-2-clause-text
unfolding lib.Utf8.encode
returns-in_ok-push-in-Dict-2-clause-text c =
    ap (λ os. c.push-in-Dict.new.self ++ opened_text os) c.in_ok-push-in-Dict-2.ensures.items
    ∙ (ap (λ out. out ++ opened_text (c.args.opened.now.items ++ open_bracket.Pairs false c.deref-in-Dict.result ∷ [])) c.in_ok-push-in-Dict.ensures.ok
    ∙ dict_begun c.args.out.now c.args.opened.now.items (open_bracket.Pairs false c.deref-in-Dict.result) c.args.tree.now c.in-Dict.pairs c.in-Dict.is (ap (λ ps. pairs_text false (pairs_view ps)) c.deref-in-Dict.ensures.value))

pub returns-in_ok-push-in-Dict-2-clause-weight : goal.returns-in_ok-push-in-Dict-2-clause-weight
returns-in_ok-push-in-Dict-2-clause-weight c =
    ap opened_weight c.in_ok-push-in-Dict-2.ensures.items
    ∙ dict_weighs c.args.opened.now.items (open_bracket.Pairs false c.deref-in-Dict.result) c.args.tree.now c.in-Dict.pairs c.in-Dict.is (ap (λ ps. pairs_weight (pairs_view ps)) c.deref-in-Dict.ensures.value)
