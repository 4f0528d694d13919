-- Which segments are due at a moment, in which order, and when no others are.
use Rattle.std.specs.Prelude.{◌≡◌, ℕ, ℤ, ◌+◌, ◌-◌, ◌*◌, ◌/◌, ◌<◌, ◌≤◌, nat_le, nat_lt, Bool, ◌&&◌, Option, Some, List, [], ◌∷◌, filter, if◌then◌else◌}
use Rattle.std.specs.List.{AllByRecursion}
use Rattle.jiff_tz.specs.declared.tzif.Tzif.{Tzif}
use Rattle.site_base.specs.declared.day_span.DaySpan.{DaySpan}
use Rattle.down_recur.specs.Segments.{segment_on, segments_around}
use Rattle.down_recur.specs.declared.segment.Segment.{Segment}

-- it begins at one of two moments or between them, and ends after a third
abbrev pub is_due : ℕ → ℕ → ℕ → Segment → Bool
is_due from till moment s = nat_le from s.start && (nat_le s.start till && nat_lt moment s.«end»)

-- a segment goes before the first of these that doesn't begin before it
abbrev pub put : Segment → List Segment → List Segment
put s [] = s ∷ []
put s (t ∷ ts) = if nat_lt t.start s.start then t ∷ put s ts else s ∷ t ∷ ts

-- segments by their starts; those of one start stay in their order
abbrev pub by_start : List Segment → List Segment
by_start [] = []
by_start (s ∷ ss) = put s (by_start ss)

-- of the segments of spans those that begin from one moment on and not after another, and end after this one, by their starts and then by
-- the order of the spans. All of them are found where the other moment is at most a day after this one.
abbrev pub due_of : Option Tzif → List DaySpan → ℕ → ℕ → ℕ → List Segment
due_of zone spans from till moment = by_start (filter (is_due from till moment) (segments_around zone moment spans))

-- No segment of a span begins from one moment on and before a second, and ends after another moment.
abbrev pub IsQuietOf : Option Tzif → ℕ → ℕ → ℕ → DaySpan → Type 0
IsQuietOf zone from moment next span =
    (day : ℤ) (s : Segment) → segment_on zone span day ≡ Some s → from ≤ s.start → moment < s.«end» → next ≤ s.start

-- the same of each span
abbrev pub IsQuiet : Option Tzif → List DaySpan → ℕ → ℕ → ℕ → Type 0
IsQuiet zone spans from moment next = AllByRecursion (IsQuietOf zone from moment next) spans

-- the second before which no segment of a day behind those around a moment begins
abbrev pub horizon_of : ℕ → ℕ
horizon_of moment = (moment / 86_400 + 5) * 86_400 - 93_599

-- the least start after a second, if it is below another
abbrev pub lesser_start : ℕ → ℕ → Segment → ℕ
lesser_start after most s = if nat_lt after s.start && nat_lt s.start most then s.start else most

abbrev pub least_start : ℕ → ℕ → List Segment → ℕ
least_start after most [] = most
least_start after most (s ∷ ss) = least_start after (lesser_start after most s) ss
