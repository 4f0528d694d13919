-- A time zone: the table of its file, and none for UTC. Offsets and civil times are those of `jiff`.
use Rattle.std.specs.Prelude.{◌≡◌, ◌⊎◌, ℕ, ℤ, pos, ◌+ℤ◌, ◌*ℤ◌, unsigned_abs, Option, Some, None, Ok, Err, List}
use Rattle.std.specs.Int.{int_div_euclid, int_rem_euclid}
use Rattle.jiff_core.specs.DateTime.{civil_nanos}
use Rattle.jiff_core.specs.Timestamp.{nanos_of_seconds}
use Rattle.jiff_core.specs.declared.civil.datetime.DateTime.{DateTime}
use Rattle.jiff_core.specs.declared.error.TzifFault.{TzifFault}
use Rattle.jiff_tz.specs.Ambiguous.{compatible_offset, instant_of}
use Rattle.jiff_tz.specs.Tzif.{tzif_view, RuleAgrees, HasBadRule}
use Rattle.jiff_tz.specs.Tzif as Table
use Rattle.jiff_tz.specs.TzifReader.{read_tzif}
use Rattle.jiff_tz.specs.Zone.{utc_offset}
use Rattle.jiff_tz.specs.declared.ambiguous.AmbiguousOffset.{AmbiguousOffset}
use Rattle.jiff_tz.specs.declared.ambiguous.AmbiguousOffset.TheVariants.{Unambiguous}
use Rattle.jiff_tz.specs.declared.tzif.Tzif.{Tzif}

-- how many seconds a clock of the zone is ahead of UTC at an instant
abbrev pub ahead : Option Tzif → ℤ → ℤ
ahead None nanos = pos 0
ahead (Some table) nanos = (Table.offset_at table nanos).seconds

-- the offsets at which a clock of the zone shows a civil time
abbrev pub offsets : Option Tzif → DateTime → AmbiguousOffset
offsets None civil = Unambiguous utc_offset
offsets (Some table) civil = Table.ambiguous_at table civil

-- the civil time that a clock of the zone shows at a moment
abbrev pub Shows : Option Tzif → ℕ → DateTime → Type 0
Shows zone moment civil =
    civil_nanos civil ≡ nanos_of_seconds (pos moment) +ℤ nanos_of_seconds (ahead zone (nanos_of_seconds (pos moment)))

-- the seconds of that civil time from 1970-01-01T00:00:00 on
abbrev pub clock_seconds : Option Tzif → ℕ → ℤ
clock_seconds zone moment = pos moment +ℤ ahead zone (nanos_of_seconds (pos moment))

-- its date, as days since 1970-01-01
abbrev pub local_day : Option Tzif → ℕ → ℤ
local_day zone moment = int_div_euclid (clock_seconds zone moment) (pos 86_400)

-- its seconds since midnight
abbrev pub local_second : Option Tzif → ℕ → ℕ
local_second zone moment = unsigned_abs (int_rem_euclid (clock_seconds zone moment) (pos 86_400))

-- a civil time is so many seconds after the midnight with which a day begins
abbrev pub IsCivil : ℤ → ℕ → DateTime → Type 0
IsCivil day second civil = civil_nanos civil ≡ nanos_of_seconds (day *ℤ pos 86_400 +ℤ pos second)

-- a moment is the instant of a civil time, by the offset before a gap or a fold
abbrev pub IsInstant : Option Tzif → DateTime → ℕ → Type 0
IsInstant zone civil moment = nanos_of_seconds (pos moment) ≡ instant_of civil (compatible_offset (offsets zone civil))

-- the table is the one that is read from the bytes of a zone file
pub record IsTableOf (bytes : List ℕ) (table : Tzif) : Type 0 where
  pub read : read_tzif bytes ≡ Ok (tzif_view table)
  pub agrees : RuleAgrees table

-- the reader of zone files refuses the bytes: for a fault of the format, or for a rule that contradicts the table
abbrev pub IsBadFile : List ℕ → Type 0
IsBadFile bytes = ((fault : TzifFault) × (read_tzif bytes ≡ Err fault)) ⊎ HasBadRule (read_tzif bytes)
