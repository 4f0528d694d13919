use Rattle.run_laws.proofs.Tracing.{traces_make}
use Rattle.run_laws.proofs.laws.traces_make_a_round.Goals as goal

pub returns : goal.returns
returns c = traces_make
