-- A zone's file decides what its clocks show.
use Rattle.std.proofs.Common.{◌≡◌, ◌==◌, ◌-◌, ℕ, zero, suc, ℤ, pos, Bool, true, false, cond, Option, Some, None, List, [], ◌∷◌, length, map, option_map, get_or, slice_get, refl, sym, ap, ◌∙◌, ◌+◌}
use Rattle.std.proofs.Props.{props}
use Rattle.std.proofs.lemmas.List.{length-map}
use Rattle.std.specs.Bool.{IsTrue}
use Rattle.std.specs.Int.{int_div_euclid, int_rem_euclid}
use Rattle.std.specs.List.{prefix_len}
use Rattle.std.specs.Prelude.{◌+ℤ◌, int_le, unsigned_abs, vec_len}
use mathlib.Core.HLevel.{is_prop→PathP}
use Rattle.jiff_core.specs.Calendar.{IsWithin, weekday_number}
use Rattle.jiff_core.specs.Timestamp.{nanos_of_seconds}
use Rattle.jiff_core.specs.declared.Offset.{Offset}
use Rattle.jiff_tz.specs.PosixDay.{is_rule_day}
use Rattle.jiff_tz.specs.PosixRule as Posix
use Rattle.jiff_tz.specs.PosixRule.{dst_at_by, in_window, match_some, utc_window}
use Rattle.jiff_tz.specs.PosixText.{dst_view, tz_view}
use Rattle.jiff_tz.specs.Tzif as Table
use Rattle.jiff_tz.specs.Tzif.{count_at, floor_second, no_transition, rule_after, transition_at, type_after, tzif_view}
use Rattle.jiff_tz.specs.TzifText.{transition_text, type_view}
use Rattle.jiff_tz.specs.Year.{year_of_nanos}
use Rattle.jiff_tz.specs.declared.posix.DayTime.{DayTime}
use Rattle.jiff_tz.specs.declared.posix.Dst.{Dst}
use Rattle.jiff_tz.specs.declared.posix.TimeZone.{TimeZone}
use Rattle.jiff_tz.specs.declared.tzif.Tzif.{Tzif}
use Rattle.jiff_tz.specs.declared.tzif.transition.Transition.{Transition}
use Rattle.depend_graph.specs.Outlooks.{holds_in, holds_then}
use Rattle.site_base.specs.declared.period_spec.PeriodSpec.{PeriodSpec}
use Rattle.site_model.specs.PlainSite.{PlainSite}
use Rattle.time_range.specs.Period.{period_holds}
use Rattle.time_range.specs.Zone.{ahead}
use Rattle.turn_engine.specs.Ready.{IsZoneOf}

-- Rules that say the same.

pub same_day_time : (a b : DayTime) → a.date ≡ b.date → a.time ≡ b.time → a ≡ b
same_day_time a b d t = λ i. record {
  date = d i;
  time = t i;
  date_in = is_prop→PathP (λ j. IsTrue (is_rule_day (d j))) (λ j. hlevel props) a.date_in b.date_in i;
  time_in = is_prop→PathP (λ j. IsWithin 604_799 (t j)) (λ j. hlevel props) a.time_in b.time_in i;
}

same_window : (a b : Dst) (y : ℤ) (s t : Offset) → dst_view a ≡ dst_view b → s.seconds ≡ t.seconds → utc_window a y s ≡ utc_window b y t
unfolding utc_window
same_window a b y s t e std =
    let start : a.rule.start ≡ b.rule.start = same_day_time a.rule.start b.rule.start (ap (λ v. v.start.0) e) (ap (λ v. v.start.1) e) in
    let finish : a.rule.end ≡ b.rule.end = same_day_time a.rule.end b.rule.end (ap (λ v. v.finish.0) e) (ap (λ v. v.finish.1) e) in
    let seconds : a.offset.seconds ≡ b.offset.seconds = ap (λ v. v.seconds) e in
    rw (start, finish, seconds, std) refl

windowed : (s t : Offset) (d e : Dst) (v w : Bool) → v ≡ w → s.seconds ≡ t.seconds → dst_view d ≡ dst_view e
    → (match_some (cond v (Some d) None) s (λ (x : Dst). x.offset)).seconds ≡ (match_some (cond w (Some e) None) t (λ (x : Dst). x.offset)).seconds
windowed s t d e true true same std days = ap (λ x. x.seconds) days
windowed s t d e false false same std days = std
windowed s t d e true false same std days = absurd cc
windowed s t d e false true same std days = absurd cc

ruled : (s t : Offset) (n : ℤ) (d e : Option Dst) → s.seconds ≡ t.seconds → option_map dst_view d ≡ option_map dst_view e
    → (match_some (dst_at_by s d n) s (λ (x : Dst). x.offset)).seconds ≡ (match_some (dst_at_by t e n) t (λ (x : Dst). x.offset)).seconds
ruled s t n None None std days = std
ruled s t n None (Some e) std days = absurd cc
ruled s t n (Some d) None std days = absurd cc
ruled s t n (Some d) (Some e) std days =
    let same : dst_view d ≡ dst_view e = cc in
    windowed s t d e (in_window (utc_window d (year_of_nanos n) s) n) (in_window (utc_window e (year_of_nanos n) t) n)
    (ap (λ w. in_window w n) (same_window d e (year_of_nanos n) s t same std)) std same

by_rules : (o p : Option TimeZone) (a b : Offset) (n : ℤ) → option_map tz_view o ≡ option_map tz_view p → a.seconds ≡ b.seconds
    → (match_some o a (λ tz. Posix.offset_at tz n)).seconds ≡ (match_some p b (λ tz. Posix.offset_at tz n)).seconds
by_rules None None a b n rules seconds = seconds
by_rules None (Some q) a b n rules seconds = absurd cc
by_rules (Some r) None a b n rules seconds = absurd cc
by_rules (Some r) (Some q) a b n rules seconds =
    let same : tz_view r ≡ tz_view q = cc in ruled r.std_offset q.std_offset n r.dst q.dst (ap (λ x. x.std_seconds) same) (ap (λ x. x.dst) same)

-- Rows that say the same.

counted : (s : ℤ) (xs ys : List Transition) → map transition_text xs ≡ map transition_text ys → prefix_len (λ (t : Transition). int_le t.second s) xs ≡ prefix_len (λ (t : Transition). int_le t.second s) ys
counted s [] [] e = refl
counted s [] (y ∷ ys) e = absurd cc
counted s (x ∷ xs) [] e = absurd cc
counted s (x ∷ xs) (y ∷ ys) e =
    let first : transition_text x ≡ transition_text y = cc in
    let others : map transition_text xs ≡ map transition_text ys = cc in
    let second : x.second ≡ y.second = ap (λ t. t.second) first in
    let rest = counted s xs ys others in
    λ i. cond (int_le (second i) s) (1 + rest i) 0

pub got : (xs ys : List Transition) (d e : Transition) → map transition_text xs ≡ map transition_text ys → transition_text d ≡ transition_text e → (i : ℕ) → transition_text (get_or xs i d) ≡ transition_text (get_or ys i e)
got [] [] d e same none i = none
got [] (y ∷ ys) d e same none i = absurd cc
got (x ∷ xs) [] d e same none i = absurd cc
got (x ∷ xs) (y ∷ ys) d e same none zero = cc
got (x ∷ xs) (y ∷ ys) d e same none (suc i) = let others : map transition_text xs ≡ map transition_text ys = cc in got xs ys d e others none i

module _ (x y : Tzif) (same : tzif_view x ≡ tzif_view y) where
  pub rows : map transition_text x.transitions.items ≡ map transition_text y.transitions.items
  rows = ap (λ t. t.transitions) same

  first : type_view x.first ≡ type_view y.first
  first = ap (λ t. t.first) same

  pub no_row : transition_text (no_transition x) ≡ transition_text (no_transition y)
  no_row = λ i. record { second = pos 0; before = (first i).seconds; after = first i }

  as_long : vec_len x.transitions ≡ vec_len y.transitions
  as_long =
      x.transitions.ok.0 ∙ sym (length-map x.transitions.items transition_text) ∙ ap length rows ∙ length-map y.transitions.items transition_text ∙ sym y.transitions.ok.0

  pub typed : (count : ℕ) → type_view (type_after x count) ≡ type_view (type_after y count)
  typed count = by (count == 0)
    where
      by : (b : Bool) → type_view (cond b x.first (transition_at x (count - 1)).after) ≡ type_view (cond b y.first (transition_at y (count - 1)).after)
      by true = first
      by false = ap (λ t. t.after) (got x.transitions.items y.transitions.items (no_transition x) (no_transition y) rows no_row (count - 1))

  pub rules : (count : ℕ) → option_map tz_view (rule_after x count) ≡ option_map tz_view (rule_after y count)
  rules count = by (count == vec_len x.transitions) (count == vec_len y.transitions) (ap (λ n. count == n) as_long)
    where
      by : (b c : Bool) → b ≡ c → option_map tz_view (cond b x.posix_tz None) ≡ option_map tz_view (cond c y.posix_tz None)
      by true true e = ap (λ t. t.rule) same
      by false false e = refl
      by true false e = absurd cc
      by false true e = absurd cc

  as_far_ahead : (n : ℤ) → (Table.offset_at x n).seconds ≡ (Table.offset_at y n).seconds
  as_far_ahead n =
      let counts : count_at x (floor_second n) ≡ count_at y (floor_second n) = counted (floor_second n) x.transitions.items y.transitions.items rows in
      let count = count_at x (floor_second n) in
      by_rules (rule_after x count) (rule_after y count) (type_after x count).offset (type_after y count).offset n (rules count) (ap (λ t. t.seconds) (typed count))
      ∙ ap (λ k. (match_some (rule_after y k) (type_after y k).offset (λ tz. Posix.offset_at tz n)).seconds) counts

-- Two tables of one file.

same_ahead : (file : Option (List ℕ)) (a b : Option Tzif) → IsZoneOf file a → IsZoneOf file b → (n : ℤ) → ahead a n ≡ ahead b n
same_ahead None a b p q n = ap (λ z. ahead z n) (p ∙ sym q)
same_ahead (Some bytes) None b p q n = absurd p
same_ahead (Some bytes) (Some x) None p q n = absurd q
same_ahead (Some bytes) (Some x) (Some y) p q n = let r = p.read in let s = q.read in let same : tzif_view x ≡ tzif_view y = cc in as_far_ahead x y same n

module _ (file : Option (List ℕ)) (a b : Option Tzif) (p : IsZoneOf file a) (q : IsZoneOf file b) where
  same_then : (o : Option PeriodSpec) (moment : ℕ) → holds_then o moment a ≡ holds_then o moment b
  same_then None moment = refl
  same_then (Some spec) moment =
      ap (λ s. let clock = pos moment +ℤ s in
      period_holds (int_div_euclid clock (pos 86_400)) (weekday_number (int_div_euclid clock (pos 86_400))) (unsigned_abs (int_rem_euclid clock (pos 86_400))) spec)
      (same_ahead file a b p q (nanos_of_seconds (pos moment)))

  -- periods hold at the same moments
  pub same_holds : (s : PlainSite) → holds_in s a ≡ holds_in s b
  same_holds s = λ i k moment. same_then (slice_get s.periods k) moment i
