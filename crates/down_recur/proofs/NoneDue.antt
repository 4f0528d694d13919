-- While no segment begins none is due.
use Rattle.std.proofs.Common.{◌≡◌, ℕ, zero, suc, ◌+◌, ◌/◌, ◌<◌, ◌≤◌, Bool, true, false, cond, List, [], ◌∷◌, ◌++◌, filter, Option, Some, None, pos, ◌-ℤ◌, refl, ap, arith}
use Rattle.std.proofs.lemmas.Bool.Decides.{nat_tests}
use Rattle.std.specs.List.{flat_map}
use Rattle.std.specs.Option.{option_to_list}
use Rattle.jiff_tz.specs.declared.tzif.Tzif.{Tzif}
use Rattle.site_base.specs.declared.day_span.DaySpan.{DaySpan}
use Rattle.down_recur.specs.Due.{IsQuiet, IsQuietOf, by_start, due_of, is_due}
use Rattle.down_recur.specs.Segments.{of_span, on_days, segment_on, segments_around}
use Rattle.down_recur.specs.declared.segment.Segment.{Segment}

filter_append : (p : Segment → Bool) (xs ys : List Segment) → filter p xs ≡ [] → filter p ys ≡ [] → filter p (xs ++ ys) ≡ []
filter_append p [] ys h k = k
filter_append p (x ∷ xs) ys h k = by (λ e. filter_append p xs ys e k) (p x) h
  where
    by : (filter p xs ≡ [] → filter p (xs ++ ys) ≡ []) → (b : Bool) → cond b (x ∷ filter p xs) (filter p xs) ≡ [] → cond b (x ∷ filter p (xs ++ ys)) (filter p (xs ++ ys)) ≡ []
    by more true e = absurd cc
    by more false e = more e

not_due : (from till moment seen next : ℕ) (s : Segment) → (from ≤ s.start → seen < s.«end» → next ≤ s.start) → seen ≤ moment → till < next → is_due from till moment s ≡ false
not_due from till moment seen next s quiet h k = grind (arith, nat_tests)

none_of : (from till moment seen next : ℕ) (o : Option Segment) → ((s : Segment) → o ≡ Some s → from ≤ s.start → seen < s.«end» → next ≤ s.start) → seen ≤ moment → till < next → filter (is_due from till moment) (option_to_list o) ≡ []
none_of from till moment seen next None quiet h k = refl
none_of from till moment seen next (Some s) quiet h k = ap (λ b. cond b (s ∷ []) []) (not_due from till moment seen next s (quiet s refl) h k)

none_on : (clock : Option Tzif) (span : DaySpan) (from till moment seen next : ℕ) → IsQuietOf clock from seen next span → seen ≤ moment → till < next → (first n : ℕ) → filter (is_due from till moment) (on_days clock span first n) ≡ []
none_on clock span from till moment seen next quiet h k first zero = refl
none_on clock span from till moment seen next quiet h k first (suc n) =
    filter_append (is_due from till moment) (option_to_list (segment_on clock span (pos first -ℤ pos 2))) (on_days clock span (first + 1) n)
    (none_of from till moment seen next (segment_on clock span (pos first -ℤ pos 2)) (quiet (pos first -ℤ pos 2)) h k)
    (none_on clock span from till moment seen next quiet h k (first + 1) n)

none_in : (clock : Option Tzif) (from till moment seen next day : ℕ) (spans : List DaySpan) → IsQuiet clock spans from seen next → seen ≤ moment → till < next → filter (is_due from till moment) (flat_map (of_span clock day) spans) ≡ []
none_in clock from till moment seen next day [] quiet h k = refl
none_in clock from till moment seen next day (span ∷ spans) quiet h k =
    filter_append (is_due from till moment) (of_span clock day span) (flat_map (of_span clock day) spans)
    (none_on clock span from till moment seen next quiet.0 h k day 7)
    (none_in clock from till moment seen next day spans quiet.1 h k)

-- nothing is due as long as nothing begins
pub quiet_none : (clock : Option Tzif) (spans : List DaySpan) (from till moment seen next : ℕ) → IsQuiet clock spans from seen next → seen ≤ moment → till < next → due_of clock spans from till moment ≡ []
unfolding segments_around
quiet_none clock spans from till moment seen next quiet h k = ap by_start (none_in clock from till moment seen next (moment / 86400) spans quiet h k)
