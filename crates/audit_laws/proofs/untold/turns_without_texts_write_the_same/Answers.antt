use Rattle.audit_laws.proofs.UntoldRuns.{logs_same}
use Rattle.audit_laws.proofs.untold.turns_without_texts_write_the_same.Goals as goal

pub returns : goal.returns
returns c = logs_same
