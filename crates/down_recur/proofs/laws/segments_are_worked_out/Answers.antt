use Rattle.std.proofs.Common.{refl}
use Rattle.jiff_core.specs.Calendar.{weekday_number}
use Rattle.down_recur.specs.Instants.{moment_shown}
use Rattle.down_recur.specs.Segments.{segments_around}
use Rattle.down_recur.proofs.laws.segments_are_worked_out.Goals as goal

pub returns-clause-date : goal.returns-clause-date
unfolding segments_around moment_shown
returns-clause-date c = record { early = refl; ahead = refl; again = refl; last = refl; over = refl }

pub returns-clause-weekday : goal.returns-clause-weekday
unfolding segments_around moment_shown weekday_number
returns-clause-weekday c = record { first = refl; next = refl; before = refl; start = refl; finish = refl }
