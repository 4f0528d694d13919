-- The calendar has each day of its range, and so a civil time.
use Rattle.std.proofs.Common.{◌≡◌, ℕ, zero, suc, ◌+◌, ◌*◌, ◌/◌, ◌%◌, ◌<◌, ◌≤◌, inl, inr, ℤ, pos, neg_ℤ, ◌+ℤ◌, ◌*ℤ◌, ◌<ℤ◌, ◌-◌, refl, sym, ap, subst, ◌∙◌, arith}
use Rattle.std.specs.Int.{IsInRange}
use Rattle.std.proofs.lemmas.Bool.{cases_order}
use Rattle.std.proofs.lemmas.Int.{by_lt_z}
use Rattle.jiff.proofs.SpanFacts.{signed_arith}
use Rattle.jiff.proofs.Family.{days_from_civil-day, days_from_civil-next_month, days_from_civil-next_year, days_from_civil-min, days_from_civil-max}
use Rattle.jiff_core.specs.Calendar.{days_in_month, days_from_civil, IsEpochDay, IsYear}
use Rattle.jiff_core.specs.Date.{epoch_day}
use Rattle.jiff_core.specs.Time.{time_nanos}
use Rattle.jiff_core.specs.Timestamp.{nanos_of_seconds}
use Rattle.jiff_core.specs.declared.civil.date.Date.{Date}
use Rattle.jiff_core.specs.declared.civil.datetime.DateTime.{DateTime}
use Rattle.jiff_core.specs.declared.civil.time.Time.{Time}
use borrow.Author.Differences.{up, down}
use Rattle.time_range.proofs.LocalLemmas.{civil_made}
use Rattle.time_range.specs.Zone.{IsCivil}

-- there is a date of this number
abbrev HasDate : ℤ → Type 0
HasDate n = (d : Date) × (epoch_day d ≡ n)

-- a date of these parts
made : (y : ℤ) (m d : ℕ) → IsYear y → IsInRange 1 12 m → IsInRange 1 (days_in_month y m) d → HasDate (days_from_civil y m d)
made y m d year month day = (record { year = y; month = m; day = d; year_in = year; month_in = month; day_in = day }, refl)

month_days : (y : ℤ) (m : ℕ) → 28 ≤ days_in_month y m
month_days y m = grind arith

last_month : (y : ℤ) → days_in_month y 12 ≡ 31
last_month y = refl

first : HasDate (neg_ℤ (pos 4371587))
first = subst HasDate days_from_civil-min (made (neg_ℤ (pos 9999)) 1 1 (omega (arith, signed_arith), omega (arith, signed_arith)) (omega arith, omega arith) (omega arith, omega arith))

next_in_month : (d : Date) → d.day < days_in_month d.year d.month → HasDate (epoch_day d +ℤ pos 1)
next_in_month d h =
    let later : days_from_civil d.year d.month (d.day + 1) ≡ epoch_day d +ℤ pos 1 = omega (arith, signed_arith, days_from_civil-day d.year d.month d.day (d.day + 1) (omega arith) (omega arith)) in
    subst HasDate later (made d.year d.month (d.day + 1) d.year_in d.month_in (omega arith, omega arith))

next_month : (d : Date) → d.day ≡ days_in_month d.year d.month → d.month < 12 → HasDate (epoch_day d +ℤ pos 1)
next_month d e h =
    let later = days_from_civil-next_month d.year d.month d.day (omega arith) e in
    subst HasDate later (made d.year (d.month + 1) 1 d.year_in (omega arith, omega arith) (omega arith, omega (arith, month_days d.year (d.month + 1))))

at_last : (d : Date) → d.month ≡ 12 → d.day ≡ 31 → epoch_day d ≡ days_from_civil d.year 12 31
at_last d m e = ap (λ k. days_from_civil d.year k d.day) m ∙ ap (λ k. days_from_civil d.year 12 k) e

not_last : (d : Date) → d.month ≡ 12 → d.day ≡ 31 → epoch_day d <ℤ pos 2932896 → d.year <ℤ pos 9999
not_last d m e h =
    by_lt_z d.year (pos 9999) (λ lt. lt) (λ ge.
    let same : d.year ≡ pos 9999 = omega (arith, signed_arith, d.year_in.1) in
    let value = at_last d m e ∙ ap (λ y. days_from_civil y 12 31) same ∙ days_from_civil-max in
    absurd (omega (arith, signed_arith)))

next_year : (d : Date) → d.day ≡ days_in_month d.year d.month → d.month ≡ 12 → epoch_day d <ℤ pos 2932896 → HasDate (epoch_day d +ℤ pos 1)
next_year d e m h =
    let last : d.day ≡ 31 = e ∙ ap (λ k. days_in_month d.year k) m ∙ last_month d.year in
    let low = d.year_in.0 in
    let below = not_last d m last h in
    let later = days_from_civil-next_year d.year (d.year +ℤ pos 1) (omega (arith, signed_arith)) refl in
    subst HasDate (later ∙ ap (λ n. n +ℤ pos 1) (sym (at_last d m last)))
    (made (d.year +ℤ pos 1) 1 1 (omega (arith, signed_arith), omega (arith, signed_arith)) (omega arith, omega arith) (omega arith, omega (arith, month_days (d.year +ℤ pos 1) 1)))

next : (d : Date) → epoch_day d <ℤ pos 2932896 → HasDate (epoch_day d +ℤ pos 1)
next d h =
    elim (cases_order d.day (days_in_month d.year d.month)) [
      | inl same ↦ elim (cases_order d.month 12) [
        | inl last ↦ next_year d same last h
        | inr (inl lt) ↦ next_month d same lt
        | inr (inr gt) ↦ absurd (omega (arith, d.month_in.1))
      ]
      | inr (inl lt) ↦ next_in_month d lt
      | inr (inr gt) ↦ absurd (omega (arith, d.day_in.1))
    ]

after_first : (n : ℕ) → n ≤ 7304483 → HasDate (neg_ℤ (pos 4371587) +ℤ pos n)
after_first zero h = subst HasDate (omega (arith, signed_arith)) first
after_first (suc n) h =
    let here = after_first n (omega arith) in
    let number = here.1 in
    subst HasDate (ap (λ k. k +ℤ pos 1) number ∙ omega (arith, signed_arith)) (next here.0 (omega (arith, signed_arith)))

-- each day of the calendar has a date
has_date : (day : ℤ) → IsEpochDay day → HasDate day
has_date day h =
    let low = h.0 in
    let high = h.1 in
    let n = up day + 4371587 - down day in
    let e : neg_ℤ (pos 4371587) +ℤ pos n ≡ day = omega (arith, signed_arith) in
    subst HasDate e (after_first n (omega (arith, signed_arith)))

-- and each second before a day's end a time of day
has_time : (second : ℕ) → second < 86400 → (t : Time) × (time_nanos t ≡ second * 1000000000)
has_time second h =
    (record { hour = second / 3600; minute = second / 60 % 60; second = second % 60; subsec_nanosecond = 0; hour_in = omega arith; minute_in = omega arith; second_in = omega arith; subsec_in = omega arith }, omega arith)

civil_before : (day : ℤ) (second : ℕ) → IsEpochDay day → second < 86400 → (civil : DateTime) × IsCivil day second civil
civil_before day second h k =
    let date = has_date day h in
    let time = has_time second k in
    let civil : DateTime = record { date = date.0; time = time.0 } in
    (civil, civil_made civil day second date.1 time.1)

-- so many seconds after the midnight of a day there is a civil time
pub has_civil : (day : ℤ) (second : ℕ) → IsEpochDay day → IsEpochDay (day +ℤ pos 1) → second ≤ 86400 → (civil : DateTime) × IsCivil day second civil
has_civil day second h n k =
    elim (cases_order second 86400) [
      | inl same ↦
          let there = civil_before (day +ℤ pos 1) 0 n (omega arith) in
          let e : nanos_of_seconds ((day +ℤ pos 1) *ℤ pos 86400 +ℤ pos 0) ≡ nanos_of_seconds (day *ℤ pos 86400 +ℤ pos second) = omega (arith, signed_arith) in
          (there.0, there.1 ∙ e)
      | inr (inl lt) ↦ civil_before day second h lt
      | inr (inr gt) ↦ absurd (omega arith)
    ]
