use Rattle.place_laws.proofs.Moved.{value_moved, body_moved}
use Rattle.place_laws.proofs.laws.evaluations_at_other_places.Goals as goal

pub returns-clause-value : goal.returns-clause-value
returns-clause-value c = value_moved

pub returns-clause-body : goal.returns-clause-body
returns-clause-body c = body_moved
