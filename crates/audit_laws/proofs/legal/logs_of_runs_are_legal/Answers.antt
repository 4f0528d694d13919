use Rattle.audit_laws.proofs.LegalLogs.{only_legal, run_is_legal, said_legal}
use Rattle.audit_laws.proofs.legal.logs_of_runs_are_legal.Goals as goal

pub returns-clause-legal : goal.returns-clause-legal
returns-clause-legal c = run_is_legal

pub returns-clause-said : goal.returns-clause-said
returns-clause-said c = said_legal

pub returns-clause-only : goal.returns-clause-only
returns-clause-only c = only_legal
