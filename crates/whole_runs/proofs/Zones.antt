-- A zone's file decides when clocks show the times of a day.
use Rattle.std.proofs.Common.{◌≡◌, ◌==◌, ◌-◌, ℕ, ℤ, Bool, true, false, cond, Option, Some, None, List, [], ◌∷◌, map, option_map, refl, sym, ap, ◌∙◌, ◌+◌}
use Rattle.std.proofs.Props.{props}
use Rattle.std.specs.List.{prefix_len}
use Rattle.std.specs.Prelude.{pos, int_le, int_lt, nat_le, ◌-ℤ◌}
use mathlib.Core.HLevel.{is_prop→PathP}
use Rattle.jiff_core.specs.Timestamp.{IsOffsetSeconds, nanos_of_seconds}
use Rattle.jiff_core.specs.declared.Offset.{Offset}
use Rattle.jiff_tz.specs.PosixRule.{ambiguous_by, match_some, rule_nanos}
use Rattle.jiff_tz.specs.PosixText.{dst_view, tz_view}
use Rattle.jiff_tz.specs.Tzif.{civil_count_at, is_inside, no_transition, offsets_in, rule_after, transition_at, type_after, tzif_view}
use Rattle.jiff_tz.specs.TzifText as Text
use Rattle.jiff_tz.specs.TzifText.{TransitionText, transition_text, type_view}
use Rattle.jiff_tz.specs.Year.{year_of_nanos}
use Rattle.jiff_tz.specs.declared.ambiguous.AmbiguousOffset.{AmbiguousOffset}
use Rattle.jiff_tz.specs.declared.ambiguous.AmbiguousOffset.TheVariants.{Fold, Gap, Unambiguous}
use Rattle.jiff_tz.specs.declared.posix.Dst.{Dst}
use Rattle.jiff_tz.specs.declared.posix.TimeZone.{TimeZone}
use Rattle.jiff_tz.specs.declared.tzif.Tzif.{Tzif}
use Rattle.jiff_tz.specs.declared.tzif.transition.Transition.{Transition}
use Rattle.jiff_tz.specs.Ambiguous.{compatible_offset}
use Rattle.down_recur.specs.Instants.{civil_second, moment_at, moment_of, moment_shown, offsets_after, offsets_at, offsets_by_rule, offsets_in_table}
use Rattle.site_run.proofs.Zones.{got, no_row, rows, rules, same_day_time, typed}
use Rattle.turn_engine.specs.Ready.{IsZoneOf}

-- Offsets are their seconds.
same_offset : (a b : Offset) → a.seconds ≡ b.seconds → a ≡ b
same_offset a b e = λ i. record { seconds = e i; in_range = is_prop→PathP (λ j. IsOffsetSeconds (e j)) (λ j. hlevel props) a.in_range b.in_range i }

-- Rows that say the same.

counted : (test : TransitionText → Bool) (xs ys : List Transition) → map transition_text xs ≡ map transition_text ys → prefix_len (λ (t : Transition). test (transition_text t)) xs ≡ prefix_len (λ (t : Transition). test (transition_text t)) ys
counted test [] [] e = refl
counted test [] (y ∷ ys) e = absurd cc
counted test (x ∷ xs) [] e = absurd cc
counted test (x ∷ xs) (y ∷ ys) e =
    let first : transition_text x ≡ transition_text y = cc in
    let others : map transition_text xs ≡ map transition_text ys = cc in
    let rest = counted test xs ys others in
    λ i. cond (test (first i)) (1 + rest i) 0

same_in : (t u : Transition) → transition_text t ≡ transition_text u → offsets_in t ≡ offsets_in u
same_in t u e =
    let before : t.before ≡ u.before = same_offset t.before u.before (ap (λ x. x.before) e) in
    let after : t.after.offset ≡ u.after.offset = same_offset t.after.offset u.after.offset (ap (λ x. x.after.seconds) e) in
    λ i. cond (int_lt (before i).seconds (after i).seconds) (Gap (before i) (after i)) (Fold (before i) (after i))

-- Rules that say the same.

by_rule : (a b : Offset) (d e : Option Dst) (second : ℤ) → a.seconds ≡ b.seconds → option_map dst_view d ≡ option_map dst_view e → offsets_by_rule a d second ≡ offsets_by_rule b e second
by_rule a b None None second std days = ap Unambiguous (same_offset a b std)
by_rule a b None (Some e) second std days = absurd cc
by_rule a b (Some d) None second std days = absurd cc
by_rule a b (Some d) (Some e) second std days =
    let same : dst_view d ≡ dst_view e = cc in
    let year = year_of_nanos (nanos_of_seconds second) in
    let start : d.rule.start ≡ e.rule.start = same_day_time d.rule.start e.rule.start (ap (λ v. v.start.0) same) (ap (λ v. v.start.1) same) in
    let finish : d.rule.end ≡ e.rule.end = same_day_time d.rule.end e.rule.end (ap (λ v. v.finish.0) same) (ap (λ v. v.finish.1) same) in
    let ahead = same_offset d.offset e.offset (ap (λ v. v.seconds) same) in
    let standard = same_offset a b std in
    λ i. ambiguous_by (standard i) (ahead i) (rule_nanos year (start i) (pos 0), rule_nanos year (finish i) (pos 0)) (nanos_of_seconds second)

by_rules : (o p : Option TimeZone) (a b : Offset) (second : ℤ) → option_map tz_view o ≡ option_map tz_view p → a.seconds ≡ b.seconds
    → match_some o (Unambiguous a) (λ (rule : TimeZone). offsets_by_rule rule.std_offset rule.dst second) ≡ match_some p (Unambiguous b) (λ (rule : TimeZone). offsets_by_rule rule.std_offset rule.dst second)
by_rules None None a b second rules seconds = ap Unambiguous (same_offset a b seconds)
by_rules None (Some q) a b second rules seconds = absurd cc
by_rules (Some r) None a b second rules seconds = absurd cc
by_rules (Some r) (Some q) a b second rules seconds =
    let same : tz_view r ≡ tz_view q = cc in by_rule r.std_offset q.std_offset r.dst q.dst second (ap (λ x. x.std_seconds) same) (ap (λ x. x.dst) same)

-- Tables that say the same.

module _ (x y : Tzif) (same : tzif_view x ≡ tzif_view y) where
  row : (k : ℕ) → transition_text (transition_at x k) ≡ transition_text (transition_at y k)
  row k = got x.transitions.items y.transitions.items (no_transition x) (no_transition y) (rows x y same) (no_row x y same) k

  inside : (count : ℕ) (second : ℤ) → is_inside x count second ≡ is_inside y count second
  inside count second = ap (λ (t : TransitionText). cond (count == 0) false (int_lt second (Text.civil_end t))) (row (count - 1))

  past : (count : ℕ) (second : ℤ) → offsets_after x count second ≡ offsets_after y count second
  past count second =
      by_rules (rule_after x count) (rule_after y count) (type_after x count).offset (type_after y count).offset second (rules x y same count) (ap (λ t. t.seconds) (typed x y same count))

  in_table : (count : ℕ) (second : ℤ) → offsets_in_table x count second ≡ offsets_in_table y count second
  in_table count second = λ i. cond (inside count second i) (same_in (transition_at x (count - 1)) (transition_at y (count - 1)) (row (count - 1)) i) (past count second i)

  as_many : (second : ℤ) → civil_count_at x second ≡ civil_count_at y second
  as_many second = counted (λ t. int_le (Text.civil_start t) second) x.transitions.items y.transitions.items (rows x y same)

  in_tables : (second : ℤ) → offsets_at (Some x) second ≡ offsets_at (Some y) second
  in_tables second = ap (λ n. offsets_in_table x n second) (as_many second) ∙ in_table (civil_count_at y second) second

same_offsets : (file : Option (List ℕ)) (a b : Option Tzif) → IsZoneOf file a → IsZoneOf file b → (second : ℤ) → offsets_at a second ≡ offsets_at b second
same_offsets None a b p q second = ap (λ z. offsets_at z second) (p ∙ sym q)
same_offsets (Some bytes) None b p q second = absurd p
same_offsets (Some bytes) (Some x) None p q second = absurd q
same_offsets (Some bytes) (Some x) (Some y) p q second = let r = p.read in let s = q.read in let same : tzif_view x ≡ tzif_view y = cc in in_tables x y same second

-- clocks show a time of a day at the same moment
pub same_moment : (file : Option (List ℕ)) (a b : Option Tzif) → IsZoneOf file a → IsZoneOf file b → (day : ℤ) (second : ℕ) → moment_at a day second ≡ moment_at b day second
unfolding moment_shown
same_moment file a b p q day second =
    ap (λ o. moment_by o) (same_offsets file a b p q (civil_second day second))
  where
    moment_by : AmbiguousOffset → Option ℕ
    moment_by o = cond (nat_le second 86400) (moment_of (civil_second day second -ℤ (compatible_offset o).seconds)) None
