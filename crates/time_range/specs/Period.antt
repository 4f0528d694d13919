-- When a moment is inside a time period.
use Rattle.std.specs.Prelude.{ℕ, ℤ, ◌==◌, ◌&&◌, ◌||◌, not, nat_le, nat_lt, Bool, List, Option, if◌then◌else◌}
use Rattle.std.specs.List.{list_any}
use Rattle.std.specs.Ordering.{int_eq}
use Rattle.jiff_core.specs.Calendar.{weekday_number}
use Rattle.jiff_tz.specs.declared.tzif.Tzif.{Tzif}
use Rattle.site_base.specs.declared.day.Day.{Day}
use Rattle.site_base.specs.declared.day.Day.TheVariants.{Weekday, Date}
use Rattle.site_base.specs.declared.day_span.DaySpan.{DaySpan}
use Rattle.site_base.specs.declared.period_spec.PeriodSpec.{PeriodSpec}
use Rattle.time_range.specs.Zone.{local_day, local_second}

-- a date, with its day of the week, is one of a span's days
abbrev pub falls_on : ℤ → ℕ → Day → Bool
falls_on date weekday (Weekday number) = number == weekday
falls_on date weekday (Date day) = int_eq day date

-- a span holds on a date, with its day of the week, at a second of the day: from its start on, and before its end
abbrev pub span_holds : ℤ → ℕ → ℕ → DaySpan → Bool
span_holds date weekday second span = falls_on date weekday span.day && nat_le span.from second && nat_lt second span.to

-- one of the spans holds then
abbrev pub any_holds : ℤ → ℕ → ℕ → List DaySpan → Bool
any_holds date weekday second spans = list_any (span_holds date weekday second) spans

-- a span of one of the lists holds then
abbrev pub any_list_holds : ℤ → ℕ → ℕ → List (List DaySpan) → Bool
any_list_holds date weekday second lists = list_any (any_holds date weekday second) lists

-- A period holds then. Where includes are preferred: one of them holds, or its own spans do and no exclude. Else: its own
-- spans or an include hold, and no exclude.
abbrev pub period_holds : ℤ → ℕ → ℕ → PeriodSpec → Bool
period_holds date weekday second spec =
    let own = any_holds date weekday second spec.own in
    let included = any_list_holds date weekday second spec.includes in
    let excluded = any_list_holds date weekday second spec.excludes in
    if spec.prefer_includes then included || (own && not excluded) else (own || included) && not excluded

-- a moment is inside a period, in the zone's local time
abbrev pub is_inside : PeriodSpec → ℕ → Option Tzif → Bool
is_inside spec moment zone =
    period_holds (local_day zone moment) (weekday_number (local_day zone moment)) (local_second zone moment) spec
