use Rattle.audit_laws.proofs.Hearing.{heard}
use Rattle.audit_laws.proofs.rounds.entries_are_heard.Goals as goal

pub returns : goal.returns
returns c = heard
