use Rattle.std.proofs.Common.{false, refl}
use Rattle.object_values.proofs.SetLaws.{states_are}
use Rattle.object_values.proofs.filters.no_states.Goals as goal

pub returns : goal.returns
returns c = states_are (λ s. false) _ _ refl c.of.ensures
