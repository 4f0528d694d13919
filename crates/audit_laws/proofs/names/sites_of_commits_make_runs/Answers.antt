use Rattle.audit_laws.proofs.CommitRuns.{commit_makes_runs}
use Rattle.audit_laws.proofs.names.sites_of_commits_make_runs.Goals as goal

pub returns : goal.returns
returns c = commit_makes_runs
