use Rattle.site_phases.proofs.Bounded.{are_turning}
use Rattle.site_phases.proofs.laws.cycles_are_those_of_any_length.Goals as goal

pub returns : goal.returns
returns c = are_turning
