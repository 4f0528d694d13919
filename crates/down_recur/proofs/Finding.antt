-- Where segments are found.
use Rattle.std.proofs.Common.{◌≡◌, ℕ, zero, suc, ◌+◌, ◌-◌, ◌/◌, ◌<◌, ◌⊎◌, inl, inr, Bool, true, false, cond, List, [], ◌∷◌, ◌++◌, filter, Option, Some, None, pos, ◌-ℤ◌, sym, ap, subst, ◌∙◌, arith}
use Rattle.std.specs.List.{AllByRecursion, flat_map}
use Rattle.std.specs.Option.{option_to_list}
use Rattle.jiff_tz.specs.declared.tzif.Tzif.{Tzif}
use Rattle.site_base.specs.declared.day_span.DaySpan.{DaySpan}
use Rattle.down_recur.specs.Segments.{on_days, segment_on, of_span, segments_around}
use Rattle.down_recur.specs.declared.segment.Segment.{Segment}

-- the days from the k-th on are that one and those from the next on
pub days_next : (clock : Option Tzif) (span : DaySpan) (first k n : ℕ) → k < n → on_days clock span (first + k) (n - k) ≡ option_to_list (segment_on clock span (pos (first + k) -ℤ pos 2)) ++ on_days clock span (first + (k + 1)) (n - (k + 1))
days_next clock span first k n h =
    let more : n - k ≡ suc (n - (k + 1)) = omega arith in
    let place : first + k + 1 ≡ first + (k + 1) = omega arith in
    ap (on_days clock span (first + k)) more ∙ ap (λ p. option_to_list (segment_on clock span (pos (first + k) -ℤ pos 2)) ++ on_days clock span p (n - (k + 1))) place

-- ---- a segment among others

abbrev pub Among : Segment → List Segment → Type 0
Among s [] = ⊥
Among s (t ∷ ts) = (t ≡ s) ⊎ Among s ts

pub among_left : (s : Segment) (xs ys : List Segment) → Among s xs → Among s (xs ++ ys)
among_left s [] ys h = elim h [ ]
among_left s (x ∷ xs) ys (inl e) = inl e
among_left s (x ∷ xs) ys (inr h) = inr (among_left s xs ys h)

pub among_right : (s : Segment) (xs ys : List Segment) → Among s ys → Among s (xs ++ ys)
among_right s [] ys h = h
among_right s (x ∷ xs) ys h = inr (among_right s xs ys h)

among_some : (s : Segment) (o : Option Segment) → o ≡ Some s → Among s (option_to_list o)
among_some s None e = absurd cc
among_some s (Some t) e = let same : t ≡ s = cc in inl same

-- the segment of one of the days is among those of all
pub in_days : (clock : Option Tzif) (span : DaySpan) (s : Segment) (n first k : ℕ) → k < n → segment_on clock span (pos (first + k) -ℤ pos 2) ≡ Some s → Among s (on_days clock span first n)
in_days clock span s zero first k h e = absurd (omega arith)
in_days clock span s (suc n) first zero h e =
    let place : first + 0 ≡ first = omega arith in
    among_left s (option_to_list (segment_on clock span (pos first -ℤ pos 2))) (on_days clock span (first + 1) n) (among_some s (segment_on clock span (pos first -ℤ pos 2)) (ap (λ p. segment_on clock span (pos p -ℤ pos 2)) (sym place) ∙ e))
in_days clock span s (suc n) first (suc k) h e =
    let place : first + 1 + k ≡ first + suc k = omega arith in
    among_right s (option_to_list (segment_on clock span (pos first -ℤ pos 2))) (on_days clock span (first + 1) n) (in_days clock span s n (first + 1) k (omega arith) (ap (λ p. segment_on clock span (pos p -ℤ pos 2)) place ∙ e))

pub all_weaker : {A : Type 0} (P Q : A → Type 0) → ((x : A) → P x → Q x) → (xs : List A) → AllByRecursion P xs → AllByRecursion Q xs
all_weaker P Q f [] h = tt
all_weaker P Q f (x ∷ xs) h = (f x h.0, all_weaker P Q f xs h.1)

-- the segment of each span on each of the days around a day is found
abbrev pub IsFound : Option Tzif → ℕ → List Segment → DaySpan → Type 0
IsFound clock day found span = (k : ℕ) (s : Segment) → k < 7 → segment_on clock span (pos (day + k) -ℤ pos 2) ≡ Some s → Among s found

found_in : (clock : Option Tzif) (day : ℕ) (spans : List DaySpan) → AllByRecursion (IsFound clock day (flat_map (of_span clock day) spans)) spans
found_in clock day [] = tt
found_in clock day (span ∷ spans) = (
  λ k s h e. among_left s (of_span clock day span) (flat_map (of_span clock day) spans) (in_days clock span s 7 day k h e),
  all_weaker (IsFound clock day (flat_map (of_span clock day) spans)) (IsFound clock day (flat_map (of_span clock day) (span ∷ spans)))
      (λ other f k s h e. among_right s (of_span clock day span) (flat_map (of_span clock day) spans) (f k s h e)) spans (found_in clock day spans),
)

pub found_around : (clock : Option Tzif) (moment : ℕ) (spans : List DaySpan) → AllByRecursion (IsFound clock (moment / 86400) (segments_around clock moment spans)) spans
unfolding segments_around
found_around clock moment spans = found_in clock (moment / 86400) spans

pub in_filter : (p : Segment → Bool) (s : Segment) (ss : List Segment) → p s ≡ true → Among s ss → Among s (filter p ss)
in_filter p s [] e h = elim h [ ]
in_filter p s (t ∷ ts) e (inl same) = subst (λ b. Among s (cond b (t ∷ filter p ts) (filter p ts))) (sym (ap p same ∙ e)) (inl same)
in_filter p s (t ∷ ts) e (inr h) = by (in_filter p s ts e h) (p t)
  where
    by : Among s (filter p ts) → (b : Bool) → Among s (cond b (t ∷ filter p ts) (filter p ts))
    by rest true = inr rest
    by rest false = rest
