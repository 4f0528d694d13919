use Rattle.site_run.proofs.Going.{log_is, logs_are}
use Rattle.site_run.proofs.laws.logs_of_one_caller_are_one.Goals as goal

pub returns-clause-logs : goal.returns-clause-logs
returns-clause-logs c = logs_are

pub returns-clause-next : goal.returns-clause-next
returns-clause-next c = log_is
