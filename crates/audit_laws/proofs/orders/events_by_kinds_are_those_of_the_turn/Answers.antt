use Rattle.audit_laws.proofs.KindOrder.{as_in_turn}
use Rattle.audit_laws.proofs.orders.events_by_kinds_are_those_of_the_turn.Goals as goal

pub returns : goal.returns
returns c = as_in_turn
