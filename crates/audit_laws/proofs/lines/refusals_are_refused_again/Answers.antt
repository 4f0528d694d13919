use Rattle.audit_laws.proofs.Refusing.{refused_again}
use Rattle.audit_laws.proofs.lines.refusals_are_refused_again.Goals as goal

pub returns : goal.returns
returns c = refused_again
