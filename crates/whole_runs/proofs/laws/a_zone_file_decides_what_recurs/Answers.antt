-- By the offsets that the file spells.
use Rattle.whole_runs.proofs.Recurring.{same_recurring}
use Rattle.whole_runs.proofs.laws.a_zone_file_decides_what_recurs.Goals as goal

pub returns : goal.returns
returns c = λ s a b p q. same_recurring s.zone a b p q s
