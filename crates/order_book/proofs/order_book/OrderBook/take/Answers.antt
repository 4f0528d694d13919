-- The order is looked up by its number, and left out.
use Rattle.std.proofs.Common.{List, map, sym, ap, ◌∙◌, subst}
use Rattle.run_meaning.specs.Dealing.{checkable_of, without}
use Rattle.run_meaning.specs.Turns.{Outstanding}
use Rattle.order_book.specs.Orders.{Orders, Rise, outstanding_of}
use Rattle.order_book.proofs.Numbered.{found, left_out, still_rise}
use Rattle.order_book.proofs.order_book.OrderBook.take.Goals as goal

pub invariant_of-self : goal.invariant_of-self
invariant_of-self c = subst (Rise 0 c.self.inside.given) (sym c.remove.ensures.entries) (still_rise _ 0 c.self.inside.given c.self.inside.checkables.entries c.self.invariant)

pub returns-clause-checkable : goal.returns-clause-checkable
returns-clause-checkable c =
    c.remove.ensures.value ∙ found c.args.order c.self.inside.checkables.entries ∙ ap (λ (x : Orders). checkable_of c.args.order x.outstanding) c.self.view_is

pub returns-clause-left : goal.returns-clause-left
returns-clause-left c =
    ap (λ (os : List Outstanding). record { given = c.self.inside.given; outstanding = os })
    (ap (map outstanding_of) c.remove.ensures.entries ∙ left_out c.args.order 0 c.self.inside.given c.self.inside.checkables.entries c.self.invariant)
    ∙ ap (λ (x : Orders). record { given = x.given; outstanding = without c.args.order x.outstanding }) c.self.view_is
