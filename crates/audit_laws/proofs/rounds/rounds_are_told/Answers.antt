use Rattle.audit_laws.proofs.SomeOrder.{some_order}
use Rattle.audit_laws.proofs.rounds.rounds_are_told.Goals as goal

pub returns : goal.returns
returns c = some_order
