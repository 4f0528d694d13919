use Rattle.audit_laws.proofs.Rereporting.{rereported}
use Rattle.audit_laws.proofs.reports.reports_are_refused_again.Goals as goal

pub returns : goal.returns
returns c = rereported
