use Rattle.commit_laws.proofs.Waves.{wave_loses_nothing}
use Rattle.commit_laws.proofs.laws.a_wave_loses_nothing.Goals as goal

pub returns : goal.returns
returns c = wave_loses_nothing
