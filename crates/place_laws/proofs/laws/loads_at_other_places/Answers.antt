use Rattle.place_laws.proofs.Moved.{load_moved}
use Rattle.place_laws.proofs.laws.loads_at_other_places.Goals as goal

pub returns : goal.returns
returns c = λ move files order keeps. load_moved move files keeps order
