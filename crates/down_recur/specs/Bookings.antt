-- The downtimes that segments give.
use Rattle.std.specs.Prelude.{ℕ, ◌+◌, min, ◌==◌, true, not, Option, Some, None, if◌then◌else◌}
use Rattle.down_recur.specs.declared.segment.Segment.{Segment}
use Rattle.down_recur.specs.declared.booking.Booking.{Booking}
use Rattle.down_recur.specs.declared.recurring.Recurring.{Recurring}

-- when a downtime that began at a moment ends: after so many seconds, at the greatest moment at the latest; where it has none, at the segment's end
abbrev pub end_after : ℕ → ℕ → Segment → ℕ
end_after moment duration s = if duration == 0 then s.«end» else min (moment + duration) 99_999_999_999

-- over the whole segment, where none triggers it
abbrev pub plain_booking : Recurring → Segment → Booking
plain_booking r s = record {
  start = s.start;
  «end» = s.«end»;
  fixed = not r.flexible;
  duration = if r.flexible then r.duration else 0;
}

-- from a moment on
abbrev pub triggered_booking : Recurring → ℕ → Segment → Booking
triggered_booking r moment s = record { start = moment; «end» = end_after moment r.duration s; fixed = true; duration = 0 }

-- the downtime that a segment gives at a moment
abbrev pub booking_by : Option ℕ → Recurring → ℕ → Segment → Booking
booking_by None r moment s = plain_booking r s
booking_by (Some k) r moment s = triggered_booking r moment s
