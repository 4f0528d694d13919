-- The moment at which a clock of a zone shows a time of a day.
use Rattle.std.specs.Prelude.{◌≤◌, ℕ, ℤ, pos, negsuc, ◌+ℤ◌, ◌-ℤ◌, ◌*ℤ◌, ◌-◌, nat_le, Option, Some, None, if◌then◌else◌}
use Rattle.jiff_core.specs.Timestamp.{nanos_of_seconds}
use Rattle.jiff_core.specs.declared.Offset.{Offset}
use Rattle.jiff_core.specs.declared.civil.datetime.DateTime.{DateTime}
use Rattle.jiff_tz.specs.Ambiguous.{compatible_offset}
use Rattle.jiff_tz.specs.PosixRule.{ambiguous_by, match_some, rule_nanos}
use Rattle.jiff_tz.specs.Tzif.{civil_count_at, is_inside, offsets_in, rule_after, transition_at, type_after}
use Rattle.jiff_tz.specs.Year.{year_of_nanos}
use Rattle.jiff_tz.specs.Zone.{utc_offset}
use Rattle.jiff_tz.specs.declared.ambiguous.AmbiguousOffset.{AmbiguousOffset}
use Rattle.jiff_tz.specs.declared.ambiguous.AmbiguousOffset.TheVariants.{Unambiguous}
use Rattle.jiff_tz.specs.declared.posix.Dst.{Dst}
use Rattle.jiff_tz.specs.declared.tzif.Tzif.{Tzif}
use Rattle.time_range.specs.Zone.{IsCivil, IsInstant}

-- A moment is the instant of so many seconds after the midnight with which a day begins, on a clock of the zone.
pub record IsMomentAt (zone : Option Tzif) (day : ℤ) (second moment : ℕ) : Type 0 where
  pub of_day : second ≤ 86_400
  pub civil : DateTime
  pub shown : IsCivil day second civil
  pub instant : IsInstant zone civil moment
  pub within : moment ≤ 99_999_999_999

-- The same, calculated.

-- the seconds of a civil time from 1970-01-01T00:00:00 on
abbrev pub civil_second : ℤ → ℕ → ℤ
civil_second day second = day *ℤ pos 86_400 +ℤ pos second

-- the offsets at which a clock shows such a civil time, by a rule of two offsets
abbrev pub offsets_of_year : Offset → Dst → ℤ → ℤ → AmbiguousOffset
offsets_of_year std d year second =
    ambiguous_by std d.offset (rule_nanos year d.rule.start (pos 0), rule_nanos year d.rule.end (pos 0)) (nanos_of_seconds second)

abbrev pub offsets_by_rule : Offset → Option Dst → ℤ → AmbiguousOffset
offsets_by_rule std None second = Unambiguous std
offsets_by_rule std (Some d) second = offsets_of_year std d (year_of_nanos (nanos_of_seconds second)) second

-- past so many transitions of a table
abbrev pub offsets_after : Tzif → ℕ → ℤ → AmbiguousOffset
offsets_after z count second =
    match_some (rule_after z count) (Unambiguous (type_after z count).offset) (λ rule. offsets_by_rule rule.std_offset rule.dst second)

abbrev pub offsets_in_table : Tzif → ℕ → ℤ → AmbiguousOffset
offsets_in_table z count second =
    if is_inside z count second then offsets_in (transition_at z (count - 1)) else offsets_after z count second

-- on a clock of a zone
abbrev pub offsets_at : Option Tzif → ℤ → AmbiguousOffset
offsets_at None second = Unambiguous utc_offset
offsets_at (Some z) second = offsets_in_table z (civil_count_at z second) second

-- the moment so many seconds after 1970, if it is one
abbrev pub moment_of : ℤ → Option ℕ
moment_of (pos n) = if nat_le n 99_999_999_999 then Some n else None
moment_of (negsuc n) = None

-- the moment at which a clock of a zone shows such a civil time, by the offset before a gap or a fold
unfoldable pub moment_shown : Option Tzif → ℤ → Option ℕ
moment_shown zone second = moment_of (second -ℤ (compatible_offset (offsets_at zone second)).seconds)

-- so many seconds after the midnight with which a day begins
abbrev pub moment_at : Option Tzif → ℤ → ℕ → Option ℕ
moment_at zone day second = if nat_le second 86_400 then moment_shown zone (civil_second day second) else None
