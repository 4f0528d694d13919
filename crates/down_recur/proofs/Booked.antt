-- What segments give are downtimes that start before they end.
use Rattle.std.proofs.Common.{◌≡◌, ℕ, ◌+◌, ◌<◌, ◌≤◌, min, ◌==◌, not, Bool, true, false, cond, Option, Some, None, refl, sym, arith, true≢false}
use Rattle.std.proofs.lemmas.Bool.Decides.{nat_tests}
use Rattle.down_recur.proofs.Once.{given_due}
use Rattle.down_recur.specs.Bookings.{booking_by, end_after}
use Rattle.down_recur.specs.Readback.{AreBookings, IsBooking}
use Rattle.down_recur.specs.declared.recurring.Recurring.{Recurring}
use Rattle.down_recur.specs.declared.segment.Segment.{Segment}

plain : (r : Recurring) (seg : Segment) (flexible : Bool) → seg.start < seg.«end» → seg.«end» ≤ 99999999999 → r.duration ≤ 99999999999
    → IsBooking (record { start = seg.start; «end» = seg.«end»; fixed = not flexible; duration = cond flexible r.duration 0 })
plain r seg true h k d = record { starts = h; ends = k; lasts = d; fixed = λ e. absurd (true≢false (sym e)) }
plain r seg false h k d = record { starts = h; ends = k; lasts = omega arith; fixed = λ e. refl }

end_behind : (moment duration : ℕ) (seg : Segment) → moment < seg.«end» → seg.«end» ≤ 99999999999 → moment < end_after moment duration seg
end_behind moment duration seg h k = by (duration == 0) refl
  where
    by : (b : Bool) → (duration == 0) ≡ b → moment < cond b seg.«end» (min (moment + duration) 99999999999)
    by true e = h
    by false e = longer moment duration (not_zero duration e) (omega arith)
      where
        not_zero : (n : ℕ) → (n == 0) ≡ false → 0 < n
        not_zero n e = grind (arith, nat_tests)

        longer : (m d : ℕ) → 0 < d → m < 99999999999 → m < min (m + d) 99999999999
        longer m d a b = omega arith

end_within : (moment duration : ℕ) (seg : Segment) → seg.«end» ≤ 99999999999 → end_after moment duration seg ≤ 99999999999
end_within moment duration seg k = by (duration == 0)
  where
    by : (b : Bool) → cond b seg.«end» (min (moment + duration) 99999999999) ≤ 99999999999
    by true = k
    by false = omega arith

booking : (o : Option ℕ) (r : Recurring) (moment : ℕ) (seg : Segment) → r.duration ≤ 99999999999 → seg.start < seg.«end» → seg.«end» ≤ 99999999999 → moment < seg.«end» → IsBooking (booking_by o r moment seg)
booking None r moment seg d h k l = plain r seg r.flexible h k d
booking (Some c) r moment seg d h k l = record { starts = end_behind moment r.duration seg l k; ends = end_within moment r.duration seg k; lasts = omega arith; fixed = λ e. refl }

pub are_bookings : AreBookings
are_bookings s zone r turn seg d h =
    let due = given_due s zone r turn seg h in
    booking r.trigger r turn.moment seg d due.segment.segment.rises due.segment.segment.ends.within due.lasts
