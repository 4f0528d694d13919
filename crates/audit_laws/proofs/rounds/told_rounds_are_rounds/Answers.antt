use Rattle.audit_laws.proofs.Retaking.{told_round}
use Rattle.audit_laws.proofs.rounds.told_rounds_are_rounds.Goals as goal

pub returns : goal.returns
returns c = told_round
