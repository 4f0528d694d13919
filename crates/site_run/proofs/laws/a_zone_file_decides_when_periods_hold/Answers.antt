-- By the rules and the rows that the file spells.
use Rattle.site_run.proofs.Zones.{same_holds}
use Rattle.site_run.proofs.laws.a_zone_file_decides_when_periods_hold.Goals as goal

pub returns : goal.returns
returns c = λ file a b p q s. same_holds file a b p q s
