use Rattle.std.proofs.Common.{◌≡◌, ◌++◌, ◌∷◌, [], ap, sym, ◌∙◌, arith}
use Rattle.site_text.proofs.Walks.{opened_more, weight_more}
use Rattle.site_text.specs.Walk.{opened_text, opened_weight}
use Rattle.site_text.proofs.walk.push_tree.Goals as goal

pub loop-bracket-smaller : goal.loop-bracket-smaller
loop-bracket-smaller c =
    let popped : c.loop-bracket.opened.items ≡ c.pop.new.self.items ++ c.in-Some.bracket ∷ [] = c.in-Some.ensures.items in
    omega (arith, c.in_ok-go_on.ensures.weight, ap opened_weight popped, weight_more c.pop.new.self.items c.in-Some.bracket)

pub loop-bracket-preserved : goal.loop-bracket-preserved
loop-bracket-preserved c =
    let popped : c.loop-bracket.opened.items ≡ c.pop.new.self.items ++ c.in-Some.bracket ∷ [] = c.in-Some.ensures.items in
    c.in_ok-go_on.ensures.text ∙ (ap (λ xs. c.loop-bracket.out ++ xs) (sym (ap opened_text popped ∙ opened_more c.pop.new.self.items c.in-Some.bracket)) ∙ c.loop-bracket.invariant)
