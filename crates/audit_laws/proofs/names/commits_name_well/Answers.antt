use Rattle.audit_laws.proofs.SiteNames.{commit_well_named}
use Rattle.audit_laws.proofs.names.commits_name_well.Goals as goal

pub returns : goal.returns
returns c = commit_well_named
