-- The day that a key names, as it is written and as it is read.
use Rattle.std.proofs.Common.{◌≡◌, ℕ, zero, suc, ℤ, pos, ◌+◌, ◌*◌, ◌/◌, ◌%◌, ◌<◌, ◌≤◌, ◌==◌, ◌&&◌, true, false, cond, inl, inr, Option, Some, None, List, length, get_or, slice_get, option_map, option_and_then, codes, refl, sym, ap, subst, ◌∙◌, arith, nat_le}
use Rattle.std.specs.Str.{bytes_eq}
use Rattle.std.proofs.lemmas.Bool.{cases_Bool}
use Rattle.std.proofs.lemmas.Bool.Decides.{nat_tests}
use Rattle.std.proofs.lemmas.Slice.Eq.{bytes_eq-Decides, text_from_reads}
use Rattle.std.specs.Int.{IsInRange}
use Rattle.jiff_core.specs.Date.{epoch_day}
use Rattle.jiff_core.specs.declared.civil.date.Date.{Date as Civil}
use Rattle.jiff_core.specs.Calendar.{IsYear, IsCivilDate, days_from_civil, days_in_month}
use Rattle.jiff.proofs.SpanFacts.{signed_arith}
use Rattle.site_base.specs.declared.day.Day.{Day}
use Rattle.site_base.specs.declared.day.Day.TheVariants.{Weekday, Date}
use Rattle.time_range.specs.Clock.{number_of}
use Rattle.time_range.specs.Days.{weekdays, date_text, Names, weekday_named, is_lawful, lawful_day, date_written, day_or, day_of}
use Rattle.time_range.proofs.ClockLemmas.{chosen, guarded, both, number_found, number_again}

-- one name after another is tried
name_step : (key name : List ℕ) (i n : ℕ) (rest : Option ℕ) → slice_get weekdays i ≡ Some name → (rest ≡ Some n → slice_get weekdays n ≡ Some key) → cond (bytes_eq key name) (Some i) rest ≡ Some n → slice_get weekdays n ≡ Some key
name_step key name i n rest at later e =
    elim (chosen (bytes_eq key name) e) [
      | inl hit ↦ (let same : key ≡ name = (bytes_eq-Decides key name).0 hit.0 in
          let number : i ≡ n = cc in
          ap (slice_get weekdays) (sym number) ∙ at ∙ ap Some (sym same))
      | inr miss ↦ later miss.1
    ]

weekday_found : (key : List ℕ) (n : ℕ) → weekday_named key ≡ Some n → slice_get weekdays n ≡ Some key
weekday_found key n e =
    name_step key (codes "monday") 0 n _ refl
    (name_step key (codes "tuesday") 1 n _ refl
    (name_step key (codes "wednesday") 2 n _ refl
    (name_step key (codes "thursday") 3 n _ refl
    (name_step key (codes "friday") 4 n _ refl
    (name_step key (codes "saturday") 5 n _ refl
    (name_step key (codes "sunday") 6 n _ refl (λ none. absurd (cc)))))))) e

weekday_again : (n : ℕ) (key : List ℕ) → slice_get weekdays n ≡ Some key → weekday_named key ≡ Some n
weekday_again zero key e = let same : codes "monday" ≡ key = cc in subst (λ k. weekday_named k ≡ Some 0) same refl
weekday_again (suc zero) key e = let same : codes "tuesday" ≡ key = cc in subst (λ k. weekday_named k ≡ Some 1) same refl
weekday_again (suc (suc zero)) key e = let same : codes "wednesday" ≡ key = cc in subst (λ k. weekday_named k ≡ Some 2) same refl
weekday_again (suc (suc (suc zero))) key e = let same : codes "thursday" ≡ key = cc in subst (λ k. weekday_named k ≡ Some 3) same refl
weekday_again (suc (suc (suc (suc zero)))) key e = let same : codes "friday" ≡ key = cc in subst (λ k. weekday_named k ≡ Some 4) same refl
weekday_again (suc (suc (suc (suc (suc zero))))) key e = let same : codes "saturday" ≡ key = cc in subst (λ k. weekday_named k ≡ Some 5) same refl
weekday_again (suc (suc (suc (suc (suc (suc zero)))))) key e = let same : codes "sunday" ≡ key = cc in subst (λ k. weekday_named k ≡ Some 6) same refl
weekday_again (suc (suc (suc (suc (suc (suc (suc n))))))) key e = absurd (cc)

-- a name of another length is none of these
differs : (key name : List ℕ) → (length key ≡ length name → ⊥) → bytes_eq key name ≡ false
differs key name apart =
    elim (cases_Bool (bytes_eq key name)) [
      | inl same ↦ absurd (apart (ap length ((bytes_eq-Decides key name).0 same)))
      | inr other ↦ other
    ]

no_weekday : (key : List ℕ) → length key ≡ 10 → weekday_named key ≡ None
no_weekday key ten =
    rw (
      differs key (codes "monday") (λ e. omega arith),
      differs key (codes "tuesday") (λ e. omega arith),
      differs key (codes "wednesday") (λ e. omega arith),
      differs key (codes "thursday") (λ e. omega arith),
      differs key (codes "friday") (λ e. omega arith),
      differs key (codes "saturday") (λ e. omega arith),
      differs key (codes "sunday") (λ e. omega arith),
    ) refl

-- the calendar has a day of a year below 10,000 where the test says so
lawful_found : (year month day : ℕ) → year < 10000 → is_lawful year month day ≡ true → IsCivilDate (pos year) month day
lawful_found year month day h e =
    let a = both (nat_le 1 month && nat_le month 12 && nat_le 1 day) (nat_le day (days_in_month (pos year) month)) e in
    let b = both (nat_le 1 month && nat_le month 12) (nat_le 1 day) a.0 in
    let c = both (nat_le 1 month) (nat_le month 12) b.0 in
    ((omega (arith, signed_arith), omega (arith, signed_arith)), (grind (arith, nat_tests, c.0), grind (arith, nat_tests, c.1)), (grind (arith, nat_tests, b.1), grind (arith, nat_tests, a.1)))

lawful_again : (year month day : ℕ) → IsCivilDate (pos year) month day → is_lawful year month day ≡ true
lawful_again year month day h = grind (arith, nat_tests, h.1.0, h.1.1, h.2.0, h.2.1)

-- numbers, one after the other
four_then : {A : Type 0} (w x y v : Option ℕ) (f : ℕ → ℕ → ℕ → ℕ → Option A) (z : A) → option_and_then (λ a. option_and_then (λ b. option_and_then (λ c. option_and_then (λ d. f a b c d) v) y) x) w ≡ Some z → (a : ℕ) × (b : ℕ) × (c : ℕ) × (d : ℕ) × (w ≡ Some a) × (x ≡ Some b) × (y ≡ Some c) × (v ≡ Some d) × (f a b c d ≡ Some z)
four_then None x y v f z e = absurd (cc)
four_then (Some a) None y v f z e = absurd (cc)
four_then (Some a) (Some b) None v f z e = absurd (cc)
four_then (Some a) (Some b) (Some c) None f z e = absurd (cc)
four_then (Some a) (Some b) (Some c) (Some d) f z e = (a, b, c, d, refl, refl, refl, refl, e)

date_found : (key : List ℕ) (days : ℤ) → date_written key ≡ Some days → Names key (Date days)
unfolding date_written
date_found key days e =
    let g = guarded ((length key == 10) && (get_or key 4 0 == 45) && (get_or key 7 0 == 45)) e in
    let t = four_then (number_of (get_or key 0 0) (get_or key 1 0)) (number_of (get_or key 2 0) (get_or key 3 0)) (number_of (get_or key 5 0) (get_or key 6 0)) (number_of (get_or key 8 0) (get_or key 9 0)) (λ century year month day. lawful_day (century * 100 + year) month day) days g.1 in
    let shape = both ((length key == 10) && (get_or key 4 0 == 45)) (get_or key 7 0 == 45) g.0 in
    let front = both (length key == 10) (get_or key 4 0 == 45) shape.0 in
    let ten : length key ≡ 10 = grind (arith, nat_tests, front.0) in
    let first : get_or key 4 0 ≡ 45 = grind (arith, nat_tests, front.1) in
    let second : get_or key 7 0 ≡ 45 = grind (arith, nat_tests, shape.1) in
    let century = number_found _ _ t.0 t.4 in
    let year = number_found _ _ t.1 t.5 in
    let month = number_found _ _ t.2 t.6 in
    let day = number_found _ _ t.3 t.7 in
    let law = guarded (is_lawful (t.0 * 100 + t.1) t.2 t.3) t.8 in
    let high : (t.0 * 100 + t.1) / 100 ≡ t.0 = omega (arith, year.0) in
    let low : (t.0 * 100 + t.1) % 100 ≡ t.1 = omega (arith, year.0) in
    let small : t.0 * 100 + t.1 < 10000 = omega (arith, year.0, century.0) in
    let text : key ≡ date_text (t.0 * 100 + t.1) t.2 t.3 =
    text_from_reads key (date_text (t.0 * 100 + t.1) t.2 t.3) ten (rw high century.1, (rw high century.2, (rw low year.1, (rw low year.2, (first, (month.1, (month.2, (second, (day.1, (day.2, tt)))))))))) in
    let value : days_from_civil (pos (t.0 * 100 + t.1)) t.2 t.3 ≡ days = cc in
    (t.0 * 100 + t.1, t.2, t.3, text, lawful_found (t.0 * 100 + t.1) t.2 t.3 small law.0, sym value)

date_again : (year month day : ℕ) → IsCivilDate (pos year) month day → date_written (date_text year month day) ≡ Some (days_from_civil (pos year) month day)
unfolding date_written
date_again year month day lawful =
    let most : year ≤ 9999 = omega (arith, signed_arith, lawful.0.1) in
    let long : day ≤ 31 = grind (arith, nat_tests, lawful.2.1) in
    let century = number_again (year / 100) (omega arith) in
    let rest = number_again (year % 100) (omega arith) in
    let month_read = number_again month (omega (arith, lawful.1.1)) in
    let day_read = number_again day (omega arith) in
    let whole : (year / 100) * 100 + year % 100 ≡ year = omega arith in
    rw (century, rest, month_read, day_read, whole, lawful_again year month day lawful) refl

date_day : (key : List ℕ) (day : Day) (o : Option ℤ) → date_written key ≡ o → option_map Date o ≡ Some day → Names key day
date_day key day None is e = absurd (cc)
date_day key day (Some days) is e = let same : Date days ≡ day = cc in subst (Names key) same (date_found key days is)

week_day : (key : List ℕ) (day : Day) (o : Option ℕ) → weekday_named key ≡ o → day_or o (date_written key) ≡ Some day → Names key day
week_day key day (Some n) is e = let same : Weekday n ≡ day = cc in subst (Names key) same (weekday_found key n is)
week_day key day None is e = date_day key day (date_written key) refl e

pub day_found : (key : List ℕ) (day : Day) → day_of key ≡ Some day → Names key day
day_found key day e = week_day key day (weekday_named key) refl e

pub day_again : (key : List ℕ) (day : Day) → Names key day → day_of key ≡ Some day
day_again key (Weekday n) named = ap (λ o. day_or o (date_written key)) (weekday_again n key named)
day_again key (Date days) named =
    let year = named.0 in
    let month = named.1 in
    let day = named.2 in
    let read : date_written key ≡ Some days = ap date_written named.3 ∙ date_again named.0 named.1 named.2 named.4 ∙ ap Some (sym named.5) in
    let none : weekday_named key ≡ None = no_weekday key (ap length named.3) in
    rw (none, read) refl

-- a date of these numbers is the day that is read from them
pub date_made : (date : Civil) (year month day : ℕ) → date.year ≡ pos year → date.month ≡ month → date.day ≡ day → Some (epoch_day date) ≡ lawful_day year month day
date_made date year month day y m d =
    let in_year : IsYear (pos year) = subst IsYear y date.year_in in
    let in_month : IsInRange 1 12 month = subst (IsInRange 1 12) m date.month_in in
    let in_day : IsInRange 1 (days_in_month (pos year) month) day =
    subst (λ z. IsInRange 1 (days_in_month z month) day) y (subst (λ n. IsInRange 1 (days_in_month date.year n) day) m (subst (IsInRange 1 (days_in_month date.year date.month)) d date.day_in)) in
    let law : is_lawful year month day ≡ true = lawful_again year month day (in_year, in_month, in_day) in
    rw (law, y, m, d) refl
