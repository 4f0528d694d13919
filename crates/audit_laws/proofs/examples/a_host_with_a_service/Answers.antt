use Rattle.audit_laws.proofs.SmallSite.{small_site_is_named}
use Rattle.audit_laws.proofs.examples.a_host_with_a_service.Goals as goal

pub returns : goal.returns
returns c = small_site_is_named
