use Rattle.audit_laws.proofs.SmallRun.{small_run, small_site_can_be_run}
use Rattle.audit_laws.proofs.examples.a_run_of_the_small_site.Goals as goal

pub returns-clause-site : goal.returns-clause-site
returns-clause-site c = small_site_can_be_run

pub returns-clause-run : goal.returns-clause-run
returns-clause-run c = small_run
