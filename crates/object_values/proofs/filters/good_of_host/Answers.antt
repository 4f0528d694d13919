use Rattle.std.proofs.Common.{false, refl}
use Rattle.object_values.specs.Filters.{is_good}
use Rattle.object_values.proofs.SetLaws.{states_are}
use Rattle.object_values.proofs.filters.good_of_host.Goals as goal

pub returns : goal.returns
returns c = states_are (is_good false) _ _ refl c.of.ensures
