use Rattle.down_recur.proofs.Booked.{are_bookings}
use Rattle.down_recur.proofs.Readback.{lines_tell}
use Rattle.down_recur.proofs.laws.lines_tell_downtimes.Goals as goal

pub returns-clause-tell : goal.returns-clause-tell
returns-clause-tell c = lines_tell

pub returns-clause-bookings : goal.returns-clause-bookings
returns-clause-bookings c = are_bookings
