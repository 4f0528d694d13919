use Rattle.audit_laws.proofs.UntoldEntries.{entries_same}
use Rattle.audit_laws.proofs.UntoldRounds.{lines_same, orders_same, rounds_same, ticks_same}
use Rattle.audit_laws.proofs.untold.texts_change_nothing_else.Goals as goal

pub returns-clause-entries : goal.returns-clause-entries
returns-clause-entries c = entries_same

pub returns-clause-rounds : goal.returns-clause-rounds
returns-clause-rounds c = rounds_same

pub returns-clause-ticks : goal.returns-clause-ticks
returns-clause-ticks c = ticks_same

pub returns-clause-orders : goal.returns-clause-orders
returns-clause-orders c = orders_same

pub returns-clause-lines : goal.returns-clause-lines
returns-clause-lines c = lines_same
