use Rattle.eval_meaning.proofs.Open.{load_world}
use Rattle.eval_meaning.proofs.laws.a_load_is_over_a_world.Goals as goal

pub returns : goal.returns
returns c = load_world
