-- The moment of a civil time, as it is calculated.
use Rattle.std.proofs.Common.{◌≡◌, ℕ, ◌-◌, ◌<◌, ◌≤◌, Bool, true, false, cond, nat_le, Option, Some, None, ℤ, pos, negsuc, ◌+ℤ◌, ◌-ℤ◌, ◌*ℤ◌, ◌≤ℤ◌, refl, sym, ap, subst, ◌∙◌, arith, IfSome, IfNone}
use Rattle.jiff.proofs.SpanFacts.{signed_arith}
use Rattle.jiff_core.proofs.DateTimeLemmas.{civil_nanos-civil_seconds}
use Rattle.jiff_core.specs.DateTime.{civil_nanos, civil_seconds}
use Rattle.jiff_core.specs.Timestamp.{nanos_of_seconds}
use Rattle.jiff_core.specs.declared.Offset.{Offset}
use Rattle.jiff_core.specs.declared.civil.datetime.DateTime.{DateTime}
use Rattle.jiff_tz.proofs.YearLemmas.{year_of_nanos-civil}
use Rattle.jiff_tz.specs.Ambiguous.{compatible_offset, instant_of}
use Rattle.jiff_tz.specs.PosixRule as Posix
use Rattle.jiff_tz.specs.PosixRule.{match_some}
use Rattle.jiff_tz.specs.Tzif as Table
use Rattle.jiff_tz.specs.Tzif.{civil_count_at, is_inside, offsets_in, rule_after, transition_at, type_after}
use Rattle.jiff_tz.specs.Year.{year_of_nanos}
use Rattle.jiff_tz.specs.declared.ambiguous.AmbiguousOffset.{AmbiguousOffset}
use Rattle.jiff_tz.specs.declared.ambiguous.AmbiguousOffset.TheVariants.{Unambiguous}
use Rattle.jiff_tz.specs.declared.posix.Dst.{Dst}
use Rattle.jiff_tz.specs.declared.posix.TimeZone.{TimeZone}
use Rattle.jiff_tz.specs.declared.tzif.Tzif.{Tzif}
use Rattle.time_range.specs.Zone.{IsCivil, IsInstant, offsets}
use Rattle.down_recur.proofs.Civil.{has_civil}
use Rattle.down_recur.specs.Instants.{IsMomentAt, civil_second, moment_at, moment_of, moment_shown, offsets_after, offsets_at, offsets_by_rule, offsets_in_table}

-- ---- offsets

-- a civil time of whole seconds has these seconds
seconds_are : (civil : DateTime) (second : ℤ) → civil_nanos civil ≡ nanos_of_seconds second → civil_seconds civil ≡ second
seconds_are civil second e =
    let below : civil.time.subsec_nanosecond < 1000000000 = omega arith in
    omega (arith, signed_arith, civil_nanos-civil_seconds civil)

by_rule : (std : Offset) (dst : Option Dst) (civil : DateTime) (second : ℤ) → civil_nanos civil ≡ nanos_of_seconds second → Posix.ambiguous_at_by std dst civil ≡ offsets_by_rule std dst second
by_rule std None civil second e = refl
by_rule std (Some d) civil second e =
    let year = year_of_nanos-civil civil (nanos_of_seconds second) e in
    ap (λ y. Posix.ambiguous_by std d.offset (Posix.rule_nanos y d.rule.start (pos 0), Posix.rule_nanos y d.rule.end (pos 0)) (civil_nanos civil)) year
    ∙ ap (λ n. Posix.ambiguous_by std d.offset (Posix.rule_nanos (year_of_nanos (nanos_of_seconds second)) d.rule.start (pos 0), Posix.rule_nanos (year_of_nanos (nanos_of_seconds second)) d.rule.end (pos 0)) n) e

by_some : (rule : Option TimeZone) (otherwise : AmbiguousOffset) (civil : DateTime) (second : ℤ) → civil_nanos civil ≡ nanos_of_seconds second → match_some rule otherwise (λ tz. Posix.ambiguous_at tz civil) ≡ match_some rule otherwise (λ tz. offsets_by_rule tz.std_offset tz.dst second)
by_some None otherwise civil second e = refl
by_some (Some tz) otherwise civil second e = by_rule tz.std_offset tz.dst civil second e

after_count : (z : Tzif) (count : ℕ) (civil : DateTime) (second : ℤ) → civil_nanos civil ≡ nanos_of_seconds second → Table.ambiguous_after z count civil ≡ offsets_after z count second
after_count z count civil second e = by_some (rule_after z count) (Unambiguous (type_after z count).offset) civil second e

in_table : (z : Tzif) (civil : DateTime) (second : ℤ) → civil_nanos civil ≡ nanos_of_seconds second → Table.ambiguous_at z civil ≡ offsets_in_table z (civil_count_at z second) second
in_table z civil second e =
    let same = seconds_are civil second e in
    ap (λ s. cond (is_inside z (civil_count_at z s) s) (offsets_in (transition_at z (civil_count_at z s - 1))) (Table.ambiguous_after z (civil_count_at z s) civil)) same
    ∙ ap (λ o. cond (is_inside z (civil_count_at z second) second) (offsets_in (transition_at z (civil_count_at z second - 1))) o) (after_count z (civil_count_at z second) civil second e)

offsets_are : (zone : Option Tzif) (civil : DateTime) (second : ℤ) → civil_nanos civil ≡ nanos_of_seconds second → offsets zone civil ≡ offsets_at zone second
offsets_are None civil second e = refl
offsets_are (Some z) civil second e = in_table z civil second e

-- ---- moments

moment_is : (z : ℤ) (moment : ℕ) → z ≡ pos moment → moment ≤ 99999999999 → moment_of z ≡ Some moment
moment_is z moment e h = ap moment_of e ∙ grind arith

is_moment : (z : ℤ) (moment : ℕ) → moment_of z ≡ Some moment → (z ≡ pos moment) × (moment ≤ 99999999999)
is_moment (pos n) moment e = by (nat_le n 99999999999) refl e
  where
    by : (b : Bool) → nat_le n 99999999999 ≡ b → cond b (Some n) None ≡ Some moment → (pos n ≡ pos moment) × (moment ≤ 99999999999)
    by true t e = let same : n ≡ moment = cc in (ap pos same, grind arith)
    by false t e = absurd cc
is_moment (negsuc n) moment e = absurd cc

instant_whole : (s o : ℤ) (moment : ℕ) (nanos : ℤ) → nanos ≡ nanos_of_seconds s → nanos_of_seconds (pos moment) ≡ nanos -ℤ nanos_of_seconds o → s -ℤ o ≡ pos moment
instant_whole s o moment nanos e h = omega (arith, signed_arith)

whole_instant : (s o : ℤ) (moment : ℕ) (nanos : ℤ) → nanos ≡ nanos_of_seconds s → s -ℤ o ≡ pos moment → nanos_of_seconds (pos moment) ≡ nanos -ℤ nanos_of_seconds o
whole_instant s o moment nanos e h = omega (arith, signed_arith)

-- the instant of a civil time is what is calculated
shown_at : (zone : Option Tzif) (day : ℤ) (second moment : ℕ) (civil : DateTime) → IsCivil day second civil → IsInstant zone civil moment → moment ≤ 99999999999 → moment_shown zone (civil_second day second) ≡ Some moment
unfolding moment_shown
shown_at zone day second moment civil shown instant within =
    let same = offsets_are zone civil (civil_second day second) shown in
    let at = subst (λ o. nanos_of_seconds (pos moment) ≡ instant_of civil (compatible_offset o)) same instant in
    moment_is (civil_second day second -ℤ (compatible_offset (offsets_at zone (civil_second day second))).seconds) moment
    (instant_whole (civil_second day second) (compatible_offset (offsets_at zone (civil_second day second))).seconds moment (civil_nanos civil) shown at) within

pub moment_right : (zone : Option Tzif) (day : ℤ) (second moment : ℕ) → IsMomentAt zone day second moment → moment_at zone day second ≡ Some moment
moment_right zone day second moment is =
    let test : nat_le second 86400 ≡ true = grind (arith, is.of_day) in
    ap (λ b. cond b (moment_shown zone (civil_second day second)) None) test ∙ shown_at zone day second moment is.civil is.shown is.instant is.within

-- a moment is the instant of a civil time where the calculation says so
found_at : (zone : Option Tzif) (day : ℤ) (second moment : ℕ) → second ≤ 86400 → moment_shown zone (civil_second day second) ≡ Some moment → IsMomentAt zone day second moment
unfolding moment_shown
found_at zone day second moment h e =
    let offset = compatible_offset (offsets_at zone (civil_second day second)) in
    let is = is_moment (civil_second day second -ℤ offset.seconds) moment e in
    let number = is.0 in
    let within = is.1 in
    let low = offset.in_range.0 in
    let high = offset.in_range.1 in
    let there = has_civil day second (omega (arith, signed_arith), omega (arith, signed_arith)) (omega (arith, signed_arith), omega (arith, signed_arith)) h in
    let at = whole_instant (civil_second day second) offset.seconds moment (civil_nanos there.0) there.1 number in
    let same = offsets_are zone there.0 (civil_second day second) there.1 in
    record {
      of_day = h;
      civil = there.0;
      shown = there.1;
      instant = subst (λ o. nanos_of_seconds (pos moment) ≡ instant_of there.0 (compatible_offset o)) (sym same) at;
      within = within;
    }

pub moment_found : (zone : Option Tzif) (day : ℤ) (second moment : ℕ) → moment_at zone day second ≡ Some moment → IsMomentAt zone day second moment
moment_found zone day second moment e = by (nat_le second 86400) refl e
  where
    by : (b : Bool) → nat_le second 86400 ≡ b → cond b (moment_shown zone (civil_second day second)) None ≡ Some moment → IsMomentAt zone day second moment
    by true t e = found_at zone day second moment (grind arith) e
    by false t e = absurd cc

-- what the zone answers is what is calculated
pub instant_gives : (zone : Option Tzif) (day : ℤ) (second : ℕ) (r : Option ℕ) → second ≤ 86400 → IfSome r (λ m. m ≤ 99999999999) → IfSome r (λ m. (civil : DateTime) × IsCivil day second civil × IsInstant zone civil m) → IfNone r ((civil : DateTime) (m : ℕ) → m ≤ 99999999999 → IsCivil day second civil → IsInstant zone civil m → ⊥) → r ≡ moment_at zone day second
instant_gives zone day second (Some m) h within value none =
    sym (moment_right zone day second m (record { of_day = h; civil = value.0; shown = value.1; instant = value.2; within = within }))
instant_gives zone day second None h within value none = by (moment_at zone day second) refl
  where
    by : (r : Option ℕ) → moment_at zone day second ≡ r → None ≡ moment_at zone day second
    by None e = sym e
    by (Some m) e = let is = moment_found zone day second m e in absurd (none is.civil m is.within is.shown is.instant)

-- ---- how far moments are from their days

near : (zone : Option Tzif) (day : ℤ) (second moment : ℕ) → second ≤ 86400 → moment_shown zone (civil_second day second) ≡ Some moment → ((day *ℤ pos 86400 -ℤ pos 93599) ≤ℤ pos moment) × (pos moment ≤ℤ (day *ℤ pos 86400 +ℤ pos 179999))
unfolding moment_shown
near zone day second moment h e =
    let offset = compatible_offset (offsets_at zone (civil_second day second)) in
    let number = (is_moment (civil_second day second -ℤ offset.seconds) moment e).0 in
    let low = offset.in_range.0 in
    let high = offset.in_range.1 in
    (omega (arith, signed_arith), omega (arith, signed_arith))

-- no more than 26 hours before a day begins, or after it ends
pub moment_within : (zone : Option Tzif) (day : ℤ) (second moment : ℕ) → moment_at zone day second ≡ Some moment → ((day *ℤ pos 86400 -ℤ pos 93599) ≤ℤ pos moment) × (pos moment ≤ℤ (day *ℤ pos 86400 +ℤ pos 179999))
moment_within zone day second moment e = by (nat_le second 86400) refl e
  where
    by : (b : Bool) → nat_le second 86400 ≡ b → cond b (moment_shown zone (civil_second day second)) None ≡ Some moment → ((day *ℤ pos 86400 -ℤ pos 93599) ≤ℤ pos moment) × (pos moment ≤ℤ (day *ℤ pos 86400 +ℤ pos 179999))
    by true t e = near zone day second moment (grind arith) e
    by false t e = absurd cc
