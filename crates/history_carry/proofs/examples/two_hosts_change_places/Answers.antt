use Rattle.std.proofs.Common.{refl}
use Rattle.history_carry.proofs.examples.two_hosts_change_places.Goals as goal

pub returns : goal.returns
returns c = refl
