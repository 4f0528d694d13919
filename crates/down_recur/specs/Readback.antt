-- What the lines of downtimes tell when they are read.
use Rattle.std.specs.Prelude.{◌≡◌, ℕ, ◌<◌, ◌≤◌, nat_lt, ◌||◌, true, false, List, Contains, Option, Some, None, if◌then◌else◌}
use Rattle.std.specs.Str.{IsUtf8}
use Rattle.jiff_tz.specs.declared.tzif.Tzif.{Tzif}
use Rattle.run_meaning.specs.Turns.{Begun}
use Rattle.site_model.specs.PlainSite.{PlainSite}
use Rattle.site_model.specs.declared.event.Event.TheVariants as event
use Rattle.event_text.specs.Checkables.{IsNamed}
use Rattle.event_text.specs.Lines.{Answer, Has, faulty, told}
use Rattle.event_text.specs.declared.line_fault.LineFault.TheVariants as fault
use Rattle.down_recur.specs.Bookings.{booking_by}
use Rattle.down_recur.specs.Giving.{given_at}
use Rattle.down_recur.specs.Lines.{line_text}
use Rattle.down_recur.specs.Recurrings.{has_semicolon, is_nameable}
use Rattle.down_recur.specs.declared.booking.Booking.{Booking}
use Rattle.down_recur.specs.declared.recurring.Recurring.{Recurring}
use Rattle.down_recur.specs.declared.segment.Segment.{Segment}

-- a downtime that starts before it ends, and whose duration counts only if it is flexible
pub record IsBooking (b : Booking) : Type 0 where
  pub starts : b.start < b.«end»
  pub ends : b.«end» ≤ 99_999_999_999
  pub lasts : b.duration ≤ 99_999_999_999
  pub fixed : b.fixed ≡ true → b.duration ≡ 0

abbrev pub IsUtf8OrNone : Option (List ℕ) → Type 0
IsUtf8OrNone None = Unit {0}
IsUtf8OrNone (Some text) = IsUtf8 text

-- its names are those of the checkable at a place, and can stand in a line; and all of it is text
pub record IsWritable (s : PlainSite) (k : ℕ) (r : Recurring) : Type 0 where
  pub named : IsNamed s r.host r.service k
  pub host : has_semicolon r.host ≡ false
  pub service : is_nameable r.service ≡ true
  pub host_text : IsUtf8 r.host
  pub service_text : IsUtf8OrNone r.service
  pub author_text : IsUtf8 r.author
  pub comment_text : IsUtf8 r.comment

-- what its line tells: the downtime, or a bad span where it is flexible and has no duration
abbrev pub told_of : ℕ → Booking → Answer
told_of k b =
    if b.fixed || nat_lt 0 b.duration then told k (event.Down b.start b.«end» b.fixed b.duration) else faulty fault.BadSpan

-- each line tells what its downtime is, of the checkable of its names
abbrev pub LinesTell : Type 0
LinesTell =
    (s : PlainSite) (moment k : ℕ) (r : Recurring) (b : Booking) → moment ≤ 99_999_999_999 → IsWritable s k r → IsBooking b
    → Has s (line_text moment r b) (told_of k b)

-- and what segments give are such downtimes
abbrev pub AreBookings : Type 0
AreBookings =
    (s : PlainSite) (zone : Option Tzif) (r : Recurring) (turn : Begun) (segment : Segment) → r.duration ≤ 99_999_999_999
    → Contains (given_at s zone turn.histories turn.moment r) segment → IsBooking (booking_by r.trigger r turn.moment segment)
