use Rattle.audit_laws.proofs.FittingRuns.{logs_fit}
use Rattle.audit_laws.proofs.legal.logs_of_runs_fit.Goals as goal

pub returns : goal.returns
returns c = λ s zone callers can some most turns logs run fits many few. logs_fit s zone callers some most can turns logs run.turns fits many few
