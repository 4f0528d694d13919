use Rattle.audit_laws.proofs.Asking.{can_be_asked}
use Rattle.audit_laws.proofs.Shown.{shown}
use Rattle.audit_laws.proofs.Told.{told_again}
use Rattle.audit_laws.proofs.lines.lines_are_read_again.Goals as goal

pub returns-clause-asked : goal.returns-clause-asked
returns-clause-asked c = λ s w. can_be_asked s

pub returns-clause-shown : goal.returns-clause-shown
returns-clause-shown c = shown

pub returns-clause-told : goal.returns-clause-told
returns-clause-told c = told_again
