use Rattle.audit_laws.proofs.Outputs.{read_again}
use Rattle.audit_laws.proofs.Shown.{reported_again}
use Rattle.audit_laws.proofs.reports.reports_are_read_again.Goals as goal

pub returns-clause-read : goal.returns-clause-read
returns-clause-read c = read_again

pub returns-clause-reported : goal.returns-clause-reported
returns-clause-reported c = reported_again
