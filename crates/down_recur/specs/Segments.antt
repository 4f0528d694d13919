-- The segments of the spans of time ranges: when clocks of a zone show them.
use Rattle.std.specs.Prelude.{◌≡◌, ◌<◌, ℕ, zero, suc, ◌+◌, ◌/◌, nat_lt, ℤ, pos, ◌-ℤ◌, true, List, [], ◌++◌, Contains, Option, Some, None, if◌then◌else◌}
use Rattle.std.specs.List.{flat_map}
use Rattle.std.specs.Option.{option_to_list}
use Rattle.jiff_core.specs.Calendar.{weekday_number}
use Rattle.jiff_tz.specs.declared.tzif.Tzif.{Tzif}
use Rattle.site_base.specs.declared.day_span.DaySpan.{DaySpan}
use Rattle.time_range.specs.Period.{falls_on}
use Rattle.down_recur.specs.Instants.{IsMomentAt, moment_at}
use Rattle.down_recur.specs.declared.segment.Segment.{Segment}

-- A segment of a span on a day, which is the span's date or day of the week: from the instant of the span's start to that of its end,
-- where the first is before the second.
pub record IsSegment (zone : Option Tzif) (span : DaySpan) (day : ℤ) (s : Segment) : Type 0 where
  pub falls : falls_on day (weekday_number day) span.day ≡ true
  pub begins : IsMomentAt zone day span.from s.start
  pub ends : IsMomentAt zone day span.to s.«end»
  pub rises : s.start < s.«end»

-- a segment of one of these spans on some day
pub record IsSegmentOf (zone : Option Tzif) (spans : List DaySpan) (s : Segment) : Type 0 where
  pub span : DaySpan
  pub day : ℤ
  pub among : Contains spans span
  pub segment : IsSegment zone span day s

-- The same, calculated.

abbrev pub between : Option ℕ → Option ℕ → Option Segment
between None finish = None
between (Some start) None = None
between (Some start) (Some finish) = if nat_lt start finish then Some (record { start = start; «end» = finish }) else None

-- the segment of a span on a day, if there is one
abbrev pub segment_on : Option Tzif → DaySpan → ℤ → Option Segment
segment_on zone span day =
    if falls_on day (weekday_number day) span.day then between (moment_at zone day span.from) (moment_at zone day span.to) else None

-- the segments of a span on so many days, from the one on that is so many days after 1969-12-30
abbrev pub on_days : Option Tzif → DaySpan → ℕ → ℕ → List Segment
on_days clock span first zero = []
on_days clock span first (suc n) = option_to_list (segment_on clock span (pos first -ℤ pos 2)) ++ on_days clock span (first + 1) n

-- the day of a moment in UTC
abbrev pub day_of : ℕ → ℕ
day_of moment = moment / 86_400

-- A span's segments on the days from two days before this one to four days after it. No segment of another day begins within a day after a
-- moment of this day in UTC and ends after the moment, since clocks are ahead of UTC and behind it by less than 26 hours.
abbrev pub of_span : Option Tzif → ℕ → DaySpan → List Segment
of_span zone day span = on_days zone span day 7

-- the segments of spans on the days around a moment, in the order of the spans
unfoldable pub segments_around : Option Tzif → ℕ → List DaySpan → List Segment
segments_around zone moment spans = flat_map (of_span zone (day_of moment)) spans
