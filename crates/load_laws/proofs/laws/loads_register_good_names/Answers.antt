use Rattle.load_laws.proofs.KeptLoads.{load_is_good}
use Rattle.load_laws.proofs.laws.loads_register_good_names.Goals as goal

pub returns : goal.returns
returns c = load_is_good
