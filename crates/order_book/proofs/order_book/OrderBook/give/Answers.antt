-- The new order is the last one.
use Rattle.std.proofs.Common.{◌+◌, ◌≤◌, ◌++◌, ◌∷◌, [], ℕ, List, map, sym, ap, ◌∙◌, subst, arith}
use Rattle.run_meaning.specs.Turns.{Outstanding}
use Rattle.order_book.specs.Orders.{Orders, Rise, outstanding_of}
use Rattle.order_book.proofs.Numbered.{map_more, more_rise, put_last}
use Rattle.order_book.proofs.order_book.OrderBook.give.Goals as goal

pub invariant_of-self-2 : goal.invariant_of-self-2
invariant_of-self-2 c =
    let g = c.self.inside.given in
    let kept = c.self.inside.checkables.entries in
    let some : 0 ≤ g = omega arith in
    subst (Rise 0 (g + 1)) (sym (c.in_ok-insert.ensures.entries ∙ put_last 0 g c.args.checkable kept c.self.invariant)) (more_rise 0 g c.args.checkable kept some c.self.invariant)

pub returns-clause-ok : goal.returns-clause-ok
returns-clause-ok c =
    let g = c.self.inside.given in
    let k = c.args.checkable in
    let kept = c.self.inside.checkables.entries in
    ap (λ (os : List (ℕ × ℕ)). record { given = g + 1; outstanding = map outstanding_of os }) (c.in_ok-insert.ensures.entries ∙ put_last 0 g k kept c.self.invariant)
    ∙ ap (λ (os : List Outstanding). record { given = g + 1; outstanding = os }) (map_more kept (g + 1, k))
    ∙ ap (λ (x : Orders). record { given = x.given + 1; outstanding = x.outstanding ++ record { order = x.given + 1; checkable = k } ∷ [] }) c.self.view_is
