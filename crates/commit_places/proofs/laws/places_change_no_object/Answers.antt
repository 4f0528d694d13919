use Rattle.commit_places.proofs.Commits.{items_alike, rules_alike}
use Rattle.commit_places.proofs.laws.places_change_no_object.Goals as goal

pub returns-clause-item : goal.returns-clause-item
returns-clause-item c = items_alike

pub returns-clause-rule : goal.returns-clause-rule
returns-clause-rule c = rules_alike
