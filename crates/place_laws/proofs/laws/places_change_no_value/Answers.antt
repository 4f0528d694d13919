use Rattle.place_laws.proofs.Alike.{values_alike, bodies_alike}
use Rattle.place_laws.proofs.laws.places_change_no_value.Goals as goal

pub returns-clause-value : goal.returns-clause-value
returns-clause-value c = values_alike

pub returns-clause-body : goal.returns-clause-body
returns-clause-body c = bodies_alike
