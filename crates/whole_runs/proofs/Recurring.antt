-- A zone's file decides what recurs.
use Rattle.std.proofs.Common.{◌≡◌, ℕ, zero, suc, ℤ, Option, List, ◌++◌, ◌+◌, filter, map, cond, refl, ap}
use Rattle.std.specs.List.{flat_map}
use Rattle.std.specs.Option.{option_to_list}
use Rattle.std.specs.Prelude.{pos, ◌-ℤ◌, None, []}
use Rattle.jiff_core.specs.Calendar.{weekday_number}
use Rattle.jiff_tz.specs.declared.tzif.Tzif.{Tzif}
use Rattle.run_meaning.specs.Turns.{Histories}
use Rattle.site_base.specs.declared.day_span.DaySpan.{DaySpan}
use Rattle.site_model.specs.PlainSite.{PlainSite}
use Rattle.time_range.specs.Period.{falls_on}
use Rattle.down_recur.specs.Due.{by_start, due_of, is_due}
use Rattle.down_recur.specs.Giving.{after_at, done_after, given_at, is_triggered, lead, lines_at, lines_of}
use Rattle.down_recur.specs.Recurrings.{recurrings}
use Rattle.down_recur.specs.Segments.{between, day_of, of_span, on_days, segment_on, segments_around}
use Rattle.down_recur.specs.declared.recurring.Recurring.{Recurring}
use Rattle.down_recur.specs.declared.segment.Segment.{Segment}
use Rattle.site_run.specs.Feeds.{lines_fed}
use Rattle.turn_engine.specs.Ready.{IsZoneOf}
use Rattle.whole_runs.specs.Recurring.{recurring_lines}
use Rattle.whole_runs.proofs.Zones.{same_moment}

module _ (file : Option (List ℕ)) (a b : Option Tzif) (p : IsZoneOf file a) (q : IsZoneOf file b) where
  same_segment : (span : DaySpan) (day : ℤ) → segment_on a span day ≡ segment_on b span day
  same_segment span day =
      let from = same_moment file a b p q day span.from in
      let to = same_moment file a b p q day span.to in
      λ i. cond (falls_on day (weekday_number day) span.day) (between (from i) (to i)) None

  same_days : (span : DaySpan) (first n : ℕ) → on_days a span first n ≡ on_days b span first n
  same_days span first zero = refl
  same_days span first (suc n) =
      let one = same_segment span (pos first -ℤ pos 2) in
      let rest = same_days span (first + 1) n in
      λ i. option_to_list (one i) ++ rest i

  same_around : (moment : ℕ) (spans : List DaySpan) → segments_around a moment spans ≡ segments_around b moment spans
  unfolding segments_around
  same_around moment spans = λ i. flat_map (λ span. same_days span (day_of moment) 7 i) spans

  same_given : (s : PlainSite) (histories : Histories) (moment : ℕ) (r : Recurring) → given_at s a histories moment r ≡ given_at s b histories moment r
  same_given s histories moment r =
      ap (λ (segments : List Segment). cond (is_triggered s histories moment r.trigger) (by_start (filter (is_due r.done (moment + lead r.trigger) moment) segments)) []) (same_around moment r.spans)

  same_lines : (s : PlainSite) (histories : Histories) (moment : ℕ) (r : Recurring) → lines_at s a histories moment r ≡ lines_at s b histories moment r
  same_lines s histories moment r = ap (lines_of moment r) (same_given s histories moment r)

  same_after : (s : PlainSite) (histories : Histories) (moment : ℕ) (r : Recurring) → after_at s a histories moment r ≡ after_at s b histories moment r
  same_after s histories moment r =
      ap (λ (segments : List Segment). record r { done = done_after (moment + lead r.trigger) segments r.done }) (same_given s histories moment r)

  pub same_recurring : (s : PlainSite) → recurring_lines s a ≡ recurring_lines s b
  same_recurring s = λ i. lines_fed (λ rs histories moment. flat_map (λ r. same_lines s histories moment r i) rs) (λ rs histories moment. map (λ r. same_after s histories moment r i) rs) (recurrings s)
