use Rattle.audit_laws.proofs.SmallSite.{small_turn}
use Rattle.audit_laws.proofs.examples.a_turn_of_the_small_site.Goals as goal

pub returns : goal.returns
returns c = small_turn
