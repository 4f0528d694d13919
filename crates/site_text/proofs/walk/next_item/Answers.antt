use Rattle.std.proofs.Common.{true, ◌∷◌, [], ◌++◌, refl, ap, ◌∙◌, arith}
use Rattle.site_base.specs.View.{view}
use Rattle.site_text.specs.Listing.{tree_text}
use Rattle.site_text.specs.Walk.{opened_text, opened_weight, weight}
use Rattle.site_text.specs.declared.walk.Open.{Open}
use Rattle.site_text.specs.declared.walk.Open.TheVariants as open_bracket
use Rattle.site_text.proofs.Walks.{item_next, item_weighs, on_ok}
use Rattle.site_text.proofs.walk.next_item.Goals as goal

pub returns-clause-text : goal.returns-clause-text
returns-clause-text c =
    let o : Open = open_bracket.Items true c.in-Some.rest in
    on_ok c.begin_tree.result
    (λ h.
    h
    ∙ (ap (λ os. c.push_comma.new.out ++ (tree_text (view c.in-Some.first.now) ++ opened_text os)) c.in_ok-push.ensures.items
    ∙ (ap (λ out. out ++ (tree_text (view c.in-Some.first.now) ++ opened_text (c.args.opened.now.items ++ o ∷ []))) c.in_ok-push_comma.ensures
    ∙ item_next c.args.out.now c.args.later c.args.opened.now.items o c.args.items.now c.in-Some.rest.now c.in-Some.first.now c.in-Some.ensures refl)))
    c.begin_tree.ensures.text

pub returns-clause-weight : goal.returns-clause-weight
returns-clause-weight c =
    let o : Open = open_bracket.Items true c.in-Some.rest in
    on_ok c.begin_tree.result
    (λ h. omega (arith, h, ap opened_weight c.in_ok-push.ensures.items, item_weighs c.args.opened.now.items o c.args.items.now c.in-Some.rest.now c.in-Some.first.now c.in-Some.ensures refl))
    c.begin_tree.ensures.weight
