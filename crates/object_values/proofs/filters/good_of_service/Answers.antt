use Rattle.std.proofs.Common.{true, refl}
use Rattle.object_values.specs.Filters.{is_good}
use Rattle.object_values.proofs.SetLaws.{states_are}
use Rattle.object_values.proofs.filters.good_of_service.Goals as goal

pub returns : goal.returns
returns c = states_are (is_good true) _ _ refl c.of.ensures
