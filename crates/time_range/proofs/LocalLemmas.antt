-- The civil time that a clock of a zone shows, and its date and second as they are calculated.
use Rattle.std.proofs.Common.{◌≡◌, ℕ, ℤ, pos, ◌+ℤ◌, ◌*ℤ◌, ◌*◌, ◌≤◌, ◌<◌, Option, refl, sym, ap, subst, ◌∙◌, arith, unsigned_abs, ◌-ℤ◌, ◌+◌}
use Rattle.std.specs.Int.{int_div_euclid, int_rem_euclid}
use Rattle.jiff.proofs.SpanFacts.{signed_arith}
use Rattle.jiff.proofs.Family.{civil_nanos-parts, time_nanos_bound, same_datetime}
use Rattle.jiff_core.specs.Calendar.{weekday_number}
use Rattle.jiff_core.specs.Date.{epoch_day, weekday_of}
use Rattle.jiff_core.specs.Time.{time_seconds, time_nanos}
use Rattle.jiff_core.specs.Timestamp.{nanos_of_seconds}
use Rattle.jiff_core.specs.declared.civil.datetime.DateTime.{DateTime}
use Rattle.jiff_tz.specs.declared.tzif.Tzif.{Tzif}
use Rattle.site_base.specs.declared.period_spec.PeriodSpec.{PeriodSpec}
use Rattle.time_range.specs.Period.{period_holds, is_inside}
use Rattle.std.specs.Int.RustNames.{int_div}
use Rattle.jiff_core.specs.Timestamp.{IsTimestampNanos}
use Rattle.jiff_core.specs.Calendar.{IsEpochDay}
use Rattle.jiff.proofs.Family.{epoch_day_range}
use Rattle.jiff_core.specs.declared.Offset.{Offset}
use Rattle.jiff_tz.specs.Ambiguous.{compatible_offset, instant_of}
use Rattle.time_range.specs.Zone.{offsets, IsCivil, IsInstant, Shows, ahead, clock_seconds, local_day, local_second}

pub holds_shown : (spec : PeriodSpec) (day : ℤ) (weekday second : ℕ) (civil : DateTime) → day ≡ epoch_day civil.date → weekday ≡ weekday_of civil.date → second ≡ time_seconds civil.time → period_holds day weekday second spec ≡ period_holds (epoch_day civil.date) (weekday_of civil.date) (time_seconds civil.time) spec
holds_shown spec day weekday second civil d w s = rw (d, w, s) refl

-- whole nanoseconds of a day and of whole seconds are days and seconds
whole_seconds : (day z : ℤ) (second sub : ℕ) → second < 86400 → sub < 1000000000 → day *ℤ pos 86400000000000 +ℤ pos (second * 1000000000 + sub) ≡ z *ℤ pos 1000000000 → day *ℤ pos 86400 +ℤ pos second ≡ z
whole_seconds day z second sub h k e = omega (arith, signed_arith)

divided : (day z : ℤ) (second : ℕ) → second < 86400 → day *ℤ pos 86400 +ℤ pos second ≡ z → int_div_euclid z (pos 86400) ≡ day
divided day z second h e = omega (arith, signed_arith)

left_over : (day z : ℤ) (second : ℕ) → second < 86400 → day *ℤ pos 86400 +ℤ pos second ≡ z → unsigned_abs (int_rem_euclid z (pos 86400)) ≡ second
left_over day z second h e = omega (arith, signed_arith)

nanos_together : (a b : ℤ) → nanos_of_seconds a +ℤ nanos_of_seconds b ≡ (a +ℤ b) *ℤ pos 1000000000
nanos_together a b = omega (arith, signed_arith)

-- the shown time in seconds
shown_seconds : (zone : Option Tzif) (moment : ℕ) (civil : DateTime) → Shows zone moment civil → epoch_day civil.date *ℤ pos 86400 +ℤ pos (time_seconds civil.time) ≡ clock_seconds zone moment
shown_seconds zone moment civil shown =
    whole_seconds (epoch_day civil.date) (clock_seconds zone moment) (time_seconds civil.time) civil.time.subsec_nanosecond (omega arith) (omega arith)
    (sym (civil_nanos-parts civil) ∙ shown ∙ nanos_together (pos moment) (ahead zone (nanos_of_seconds (pos moment))))

pub inside_shown : (spec : PeriodSpec) (moment : ℕ) (zone : Option Tzif) (civil : DateTime) → Shows zone moment civil → period_holds (epoch_day civil.date) (weekday_of civil.date) (time_seconds civil.time) spec ≡ is_inside spec moment zone
inside_shown spec moment zone civil shown =
    let seconds = shown_seconds zone moment civil shown in
    let day : local_day zone moment ≡ epoch_day civil.date = divided (epoch_day civil.date) (clock_seconds zone moment) (time_seconds civil.time) (omega arith) seconds in
    let second : local_second zone moment ≡ time_seconds civil.time = left_over (epoch_day civil.date) (clock_seconds zone moment) (time_seconds civil.time) (omega arith) seconds in
    let weekday : weekday_number (local_day zone moment) ≡ weekday_of civil.date = ap weekday_number day in
    sym (rw (weekday, day, second) refl)

-- Civil times and their instants.

day_of_nanos : (a b : ℤ) (s t : ℕ) → s < 86400000000000 → t < 86400 → a *ℤ pos 86400000000000 +ℤ pos s ≡ (b *ℤ pos 86400 +ℤ pos t) *ℤ pos 1000000000 → a ≡ b
day_of_nanos a b s t h k e = omega (arith, signed_arith)

-- the date of a civil time is its day
pub civil_day : (day : ℤ) (second : ℕ) (civil : DateTime) → second < 86400 → IsCivil day second civil → epoch_day civil.date ≡ day
civil_day day second civil h e =
    day_of_nanos (epoch_day civil.date) day (time_nanos civil.time) second (time_nanos_bound civil.time) h (sym (civil_nanos-parts civil) ∙ e)

pub civil_in_range : (day : ℤ) (second : ℕ) (civil : DateTime) → second < 86400 → IsCivil day second civil → IsEpochDay day
civil_in_range day second civil h e = subst IsEpochDay (civil_day day second civil h e) (epoch_day_range civil.date)

pub civil_made : (civil : DateTime) (day : ℤ) (second : ℕ) → epoch_day civil.date ≡ day → time_nanos civil.time ≡ second * 1000000000 → IsCivil day second civil
civil_made civil day second d t = civil_nanos-parts civil ∙ rw (d, t) (omega (arith, signed_arith))

-- one day and second have one civil time
pub one_civil : (day : ℤ) (second : ℕ) (a b : DateTime) → IsCivil day second a → IsCivil day second b → a ≡ b
one_civil day second a b x y = same_datetime a b (x ∙ sym y)

exact_div : (z : ℤ) → int_div (z *ℤ pos 1000000000) (pos 1000000000) ≡ z
exact_div z = omega (arith, signed_arith)

instant_nanos : (day : ℤ) (second : ℕ) (civil : DateTime) (offset : Offset) → IsCivil day second civil → instant_of civil offset ≡ (day *ℤ pos 86400 +ℤ pos second -ℤ offset.seconds) *ℤ pos 1000000000
instant_nanos day second civil offset is = rw is (omega (arith, signed_arith))

-- the whole seconds of an instant
instant_seconds : (day : ℤ) (second : ℕ) (civil : DateTime) (offset : Offset) → IsCivil day second civil → nanos_of_seconds (int_div (instant_of civil offset) (pos 1000000000)) ≡ instant_of civil offset
instant_seconds day second civil offset is =
    let whole = instant_nanos day second civil offset is in
    ap (λ n. nanos_of_seconds (int_div n (pos 1000000000))) whole ∙ ap nanos_of_seconds (exact_div (day *ℤ pos 86400 +ℤ pos second -ℤ offset.seconds)) ∙ sym whole

pub instant_is : (zone : Option Tzif) (civil : DateTime) (day : ℤ) (second moment : ℕ) (nanos s : ℤ) → IsCivil day second civil → nanos ≡ instant_of civil (compatible_offset (offsets zone civil)) → s ≡ int_div nanos (pos 1000000000) → pos moment ≡ s → IsInstant zone civil moment
instant_is zone civil day second moment nanos s is at seconds m =
    ap nanos_of_seconds (m ∙ seconds ∙ ap (λ n. int_div n (pos 1000000000)) at) ∙ instant_seconds day second civil (compatible_offset (offsets zone civil)) is

-- and the other way round
pub seconds_are : (zone : Option Tzif) (civil shown : DateTime) (day : ℤ) (second moment : ℕ) (nanos s : ℤ) → IsCivil day second shown → IsCivil day second civil → IsInstant zone civil moment → nanos ≡ instant_of shown (compatible_offset (offsets zone shown)) → s ≡ int_div nanos (pos 1000000000) → pos moment ≡ s
seconds_are zone civil shown day second moment nanos s a b is at seconds =
    let same : civil ≡ shown = one_civil day second civil shown b a in
    let here : IsInstant zone shown moment = subst (λ c. IsInstant zone c moment) same is in
    sym (seconds ∙ ap (λ n. int_div n (pos 1000000000)) (at ∙ sym here) ∙ exact_div (pos moment))

-- a moment is in range as an instant
pub moment_in_range : (zone : Option Tzif) (civil shown : DateTime) (day : ℤ) (second moment : ℕ) → moment ≤ 99999999999 → IsCivil day second shown → IsCivil day second civil → IsInstant zone civil moment → IsTimestampNanos (instant_of shown (compatible_offset (offsets zone shown)))
moment_in_range zone civil shown day second moment most a b is =
    let same : civil ≡ shown = one_civil day second civil shown b a in
    let here : IsInstant zone shown moment = subst (λ c. IsInstant zone c moment) same is in
    subst IsTimestampNanos here (omega (arith, signed_arith), omega (arith, signed_arith))
