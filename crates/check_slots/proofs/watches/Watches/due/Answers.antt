-- What the wheel has due first is the first of all that are due.
use Rattle.check_slots.proofs.OnWheel.{first_is, if_none, if_some, none_is}
use Rattle.check_slots.proofs.watches.Watches.due.Goals as goal

pub returns-clause-none : goal.returns-clause-none
returns-clause-none c = if_none _ _ (none_is _ _ _ c.args.moment c.self.invariant c.self.view_is) c.due.result c.due.ensures.none

pub returns-clause-first : goal.returns-clause-first
returns-clause-first c = if_some _ _ (λ k. first_is _ _ _ c.args.moment k c.self.invariant c.self.view_is) c.due.result c.due.ensures.first
