use Rattle.wildcards.proofs.Describing.{described, describing}
use Rattle.wildcards.proofs.laws.what_matches_is_described.Goals as goal

pub returns-clause-sound : goal.returns-clause-sound
returns-clause-sound c = described

pub returns-clause-complete : goal.returns-clause-complete
returns-clause-complete c = describing
