-- When no segments are due.
use Rattle.std.proofs.Common.{◌≡◌, ℕ, ◌+◌, ◌-◌, ◌/◌, ◌<◌, ◌≤◌, inl, inr, Bool, true, false, cond, nat_lt, List, [], ◌∷◌, filter, Option, Some, None, ℤ, pos, ◌+ℤ◌, ◌-ℤ◌, ◌*ℤ◌, ◌≤ℤ◌, ◌<ℤ◌, refl, sym, ap, subst, ◌∙◌, arith}
use Rattle.std.proofs.lemmas.Bool.{cases_lt}
use Rattle.std.proofs.lemmas.Bool.Decides.{nat_tests}
use Rattle.jiff.proofs.SpanFacts.{signed_arith}
use Rattle.jiff_core.specs.Calendar.{weekday_number}
use Rattle.jiff_tz.specs.declared.tzif.Tzif.{Tzif}
use Rattle.site_base.specs.declared.day_span.DaySpan.{DaySpan}
use Rattle.time_range.specs.Period.{falls_on}
use Rattle.down_recur.proofs.Finding.{Among, IsFound, all_weaker, found_around, in_filter}
use Rattle.down_recur.proofs.Instants.{moment_within}
use Rattle.down_recur.specs.Due.{IsQuiet, IsQuietOf, by_start, due_of, horizon_of, is_due, least_start, lesser_start, put}
use Rattle.down_recur.specs.Instants.{moment_at}
use Rattle.down_recur.specs.Segments.{between, segment_on, segments_around}
use Rattle.down_recur.specs.declared.segment.Segment.{Segment}
use borrow.Author.Differences.{up, down}

-- ---- what a segment is

pub record IsBetween (start finish : Option ℕ) (s : Segment) : Type 0 where
  pub start_is : start ≡ Some s.start
  pub end_is : finish ≡ Some s.«end»
  pub rises : s.start < s.«end»

between_is : (start finish : Option ℕ) (s : Segment) → between start finish ≡ Some s → IsBetween start finish s
between_is None finish s e = absurd cc
between_is (Some a) None s e = absurd cc
between_is (Some a) (Some b) s e = by (nat_lt a b) refl e
  where
    by : (t : Bool) → nat_lt a b ≡ t → cond t (Some (record { start = a; «end» = b })) None ≡ Some s → IsBetween (Some a) (Some b) s
    by true t e =
        let same : record { start = a; «end» = b } ≡ s = cc in
        subst (IsBetween (Some a) (Some b)) same (record { start_is = refl; end_is = refl; rises = grind (arith, nat_tests) })
    by false t e = absurd cc

pub segment_is : (clock : Option Tzif) (span : DaySpan) (day : ℤ) (s : Segment) → segment_on clock span day ≡ Some s → IsBetween (moment_at clock day span.from) (moment_at clock day span.to) s
segment_is clock span day s e = by (falls_on day (weekday_number day) span.day) e
  where
    by : (b : Bool) → cond b (between (moment_at clock day span.from) (moment_at clock day span.to)) None ≡ Some s → IsBetween (moment_at clock day span.from) (moment_at clock day span.to) s
    by true e = between_is (moment_at clock day span.from) (moment_at clock day span.to) s e
    by false e = absurd cc

-- ---- on which days

-- a segment that ends after a moment is of no day before those around it
not_before : (day : ℤ) (moment finish : ℕ) → pos finish ≤ℤ (day *ℤ pos 86400 +ℤ pos 179999) → moment < finish → (pos (moment / 86400) -ℤ pos 2) ≤ℤ day
not_before day moment finish e h = omega (arith, signed_arith)

-- and one that begins before the horizon is of no day behind them
not_behind : (day : ℤ) (moment start : ℕ) → (day *ℤ pos 86400 -ℤ pos 93599) ≤ℤ pos start → start < horizon_of moment → day <ℤ (pos (moment / 86400) +ℤ pos 5)
not_behind day moment start e h = omega (arith, signed_arith)

-- such a day is so many days from the first of them
step_of : (day : ℤ) (d : ℕ) → (pos d -ℤ pos 2) ≤ℤ day → day <ℤ (pos d +ℤ pos 5) → (k : ℕ) × (k < 7) × (day ≡ pos (d + k) -ℤ pos 2)
step_of day d h e =
    let k = up day + 2 - (down day + d) in
    (k, omega (arith, signed_arith), omega (arith, signed_arith))

-- so a segment that ends after a moment and begins before the horizon is found
pub is_around : (clock : Option Tzif) (moment : ℕ) (found : List Segment) (span : DaySpan) (day : ℤ) (s : Segment) → IsFound clock (moment / 86400) found span → segment_on clock span day ≡ Some s → moment < s.«end» → s.start < horizon_of moment → Among s found
is_around clock moment found span day s f e h k =
    let is = segment_is clock span day s e in
    let first = moment_within clock day span.from s.start is.start_is in
    let last = moment_within clock day span.to s.«end» is.end_is in
    let step = step_of day (moment / 86400) (not_before day moment s.«end» last.1 h) (not_behind day moment s.start first.0 k) in
    f step.0 s step.1 (ap (segment_on clock span) (sym step.2) ∙ e)

-- ---- the least start

least_most : (after most : ℕ) (ss : List Segment) → least_start after most ss ≤ most
least_most after most [] = omega arith
least_most after most (s ∷ ss) =
    let less : lesser_start after most s ≤ most = grind (arith, nat_tests) in
    omega (arith, least_most after (lesser_start after most s) ss)

least_of : (after most : ℕ) (ss : List Segment) (s : Segment) → Among s ss → after < s.start → least_start after most ss ≤ s.start
least_of after most [] s h k = elim h [ ]
least_of after most (t ∷ ts) s (inl e) k =
    let start : t.start ≡ s.start = ap (λ x. x.start) e in
    let less : lesser_start after most t ≤ s.start = grind (arith, nat_tests) in
    omega (arith, least_most after (lesser_start after most t) ts)
least_of after most (t ∷ ts) s (inr h) k = least_of after (lesser_start after most t) ts s h k

-- ---- when none are due

no_put : (s : Segment) (ss : List Segment) → put s ss ≡ [] → ⊥
no_put s [] e = absurd cc
no_put s (t ∷ ts) e = by (nat_lt t.start s.start) e
  where
    by : (b : Bool) → cond b (t ∷ put s ts) (s ∷ t ∷ ts) ≡ [] → ⊥
    by true e = absurd cc
    by false e = absurd cc

none_by_start : (s : Segment) (ss : List Segment) → by_start ss ≡ [] → Among s ss → ⊥
none_by_start s [] e h = elim h [ ]
none_by_start s (t ∷ ts) e h = no_put t (by_start ts) e

pub due_test : (from till moment : ℕ) (s : Segment) → from ≤ s.start → s.start ≤ till → moment < s.«end» → is_due from till moment s ≡ true
due_test from till moment s a b e = grind (arith, nat_tests)

-- each segment that is found and begins after a second begins at the least such start or later
behind_least : (till moment : ℕ) (found : List Segment) (s : Segment) → till < s.start → (s.start < horizon_of moment → Among s found) → least_start till (horizon_of moment) found ≤ s.start
behind_least till moment found s a there =
    elim (cases_lt s.start (horizon_of moment)) [
      | inl lt ↦ least_of till (horizon_of moment) found s (there lt) a
      | inr ge ↦ omega (arith, least_most till (horizon_of moment) found)
    ]

-- no segment behind those looked for begins before the least start
pub quiet_behind : (clock : Option Tzif) (spans : List DaySpan) (till moment : ℕ) → IsQuiet clock spans (till + 1) moment (least_start till (horizon_of moment) (segments_around clock moment spans))
quiet_behind clock spans till moment =
    all_weaker (IsFound clock (moment / 86400) (segments_around clock moment spans)) (IsQuietOf clock (till + 1) moment (least_start till (horizon_of moment) (segments_around clock moment spans)))
    (λ span f day s e a h. behind_least till moment (segments_around clock moment spans) s (omega arith) (is_around clock moment (segments_around clock moment spans) span day s f e h)) spans (found_around clock moment spans)

-- a segment that would be due is behind those looked for, where none is due
none_within : (from till moment : ℕ) (found : List Segment) (s : Segment) → till ≤ moment + 86400 → by_start (filter (is_due from till moment) found) ≡ [] → from ≤ s.start → moment < s.«end» → (s.start < horizon_of moment → Among s found) → till < s.start
none_within from till moment found s near none a h there =
    elim (cases_lt till s.start) [
      | inl lt ↦ lt
      | inr le ↦
          let soon : s.start < horizon_of moment = omega arith in
          absurd (none_by_start s (filter (is_due from till moment) found) none (in_filter (is_due from till moment) s found (due_test from till moment s a le h) (there soon)))
    ]

-- and where none is due none at all
pub quiet_from : (clock : Option Tzif) (spans : List DaySpan) (from till moment : ℕ) → till ≤ moment + 86400 → due_of clock spans from till moment ≡ [] → IsQuiet clock spans from moment (least_start till (horizon_of moment) (segments_around clock moment spans))
quiet_from clock spans from till moment near none =
    all_weaker (IsFound clock (moment / 86400) (segments_around clock moment spans)) (IsQuietOf clock from moment (least_start till (horizon_of moment) (segments_around clock moment spans)))
    (λ span f day s e a h.
    let there = is_around clock moment (segments_around clock moment spans) span day s f e h in
    behind_least till moment (segments_around clock moment spans) s (none_within from till moment (segments_around clock moment spans) s near none a h there) there) spans (found_around clock moment spans)
