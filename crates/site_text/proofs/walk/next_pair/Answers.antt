use Rattle.std.proofs.Common.{true, ◌∷◌, [], ◌++◌, refl, ap, ◌∙◌, arith}
use Rattle.site_base.specs.View.{view}
use Rattle.site_base.specs.Quoted.{quoted}
use Rattle.site_text.specs.Listing.{comma_if, tree_text}
use Rattle.site_text.specs.Walk.{opened_text, opened_weight, weight}
use Rattle.site_text.specs.declared.walk.Open.{Open}
use Rattle.site_text.specs.declared.walk.Open.TheVariants as open_bracket
use Rattle.site_text.proofs.Walks.{pair_next, pair_weighs, on_ok}
use Rattle.site_text.proofs.walk.next_pair.Goals as goal

pub returns-clause-text : goal.returns-clause-text
returns-clause-text c =
    let o : Open = open_bracket.Pairs true c.in-Some.rest in
    on_ok c.begin_tree.result
    (λ h.
    h
    ∙ (ap (λ os. c.push_key.new.out ++ (tree_text (view c.in-Some.pair.now.1) ++ opened_text os)) c.in_ok-push.ensures.items
    ∙ (ap (λ out. out ++ (tree_text (view c.in-Some.pair.now.1) ++ opened_text (c.args.opened.now.items ++ o ∷ []))) (c.in_ok-push_key.ensures ∙ ap (λ key. c.args.out.now ++ (comma_if c.args.later ++ (quoted key ++ 58 ∷ []))) c.as_str.ensures)
    ∙ pair_next c.args.out.now c.args.later c.args.opened.now.items o c.args.pairs.now c.in-Some.rest.now c.in-Some.pair.now c.in-Some.ensures refl)))
    c.begin_tree.ensures.text

pub returns-clause-weight : goal.returns-clause-weight
returns-clause-weight c =
    let o : Open = open_bracket.Pairs true c.in-Some.rest in
    on_ok c.begin_tree.result
    (λ h. omega (arith, h, ap opened_weight c.in_ok-push.ensures.items, pair_weighs c.args.opened.now.items o c.args.pairs.now c.in-Some.rest.now c.in-Some.pair.now c.in-Some.ensures refl))
    c.begin_tree.ensures.weight
