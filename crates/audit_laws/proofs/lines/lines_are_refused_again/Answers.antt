use Rattle.audit_laws.proofs.Refilling.{refilled}
use Rattle.audit_laws.proofs.lines.lines_are_refused_again.Goals as goal

pub returns : goal.returns
returns c = refilled
