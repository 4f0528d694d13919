-- Files that the reader of zone files refuses, and files that it takes.
use Rattle.std.proofs.Common.{◌≡◌, ℕ, ℤ, inl, inr, Bool, true, false, cond, Option, Some, None, Ok, Err, List, option_map, map, IfSome, get_or, length, ◌-◌, refl, sym, ap, subst, ◌∙◌}
use Rattle.std.proofs.Props.{props}
use Rattle.std.specs.Bool.{IsTrue}
use mathlib.Core.HLevel.{is_prop→PathP}
use Rattle.jiff_core.specs.Calendar.{IsWithin}
use Rattle.jiff_core.specs.declared.Offset.{Offset}
use Rattle.jiff_core.specs.declared.error.TzifFault.{TzifFault}
use Rattle.jiff_core.specs.Timestamp.{nanos_of_seconds}
use Rattle.jiff_tz.specs.Abbreviation.{abbreviation_text}
use Rattle.jiff_tz.specs.PosixDay.{is_rule_day}
use Rattle.jiff_tz.specs.PosixRule.{match_some, utc_window, in_window, dst_at_by, dst_info, std_info, info_at}
use Rattle.jiff_tz.specs.Year.{year_of_nanos}
use Rattle.jiff_tz.specs.PosixText.{tz_view, dst_view}
use Rattle.jiff_tz.specs.Tzif.{tzif_view, RuleAgrees, HasBadRule}
use Rattle.jiff_tz.specs.TzifAgree.{RowAgrees, FooterAgrees}
use Rattle.jiff_tz.specs.TzifReader.{TzifText, Parsed, read_tzif}
use Rattle.jiff_tz.specs.TzifText.{TransitionText, transition_text, no_row}
use Rattle.jiff_tz.specs.declared.info.OffsetInfo.{OffsetInfo}
use Rattle.jiff_tz.specs.declared.posix.DayTime.{DayTime}
use Rattle.jiff_tz.specs.declared.posix.Dst.{Dst}
use Rattle.jiff_tz.specs.declared.posix.TimeZone.{TimeZone}
use Rattle.jiff_tz.specs.declared.tzif.Tzif.{Tzif}
use Rattle.time_range.specs.Zone.{IsBadFile}

-- two rules that say the same are one but for where their names lie in memory
same_day_time : (a b : DayTime) → a.date ≡ b.date → a.time ≡ b.time → a ≡ b
same_day_time a b d t = λ i. record {
  date = d i;
  time = t i;
  date_in = is_prop→PathP (λ j. IsTrue (is_rule_day (d j))) (λ j. hlevel props) a.date_in b.date_in i;
  time_in = is_prop→PathP (λ j. IsWithin 604_799 (t j)) (λ j. hlevel props) a.time_in b.time_in i;
}

same_window : (a b : Dst) (y : ℤ) (s t : Offset) → dst_view a ≡ dst_view b → s.seconds ≡ t.seconds → utc_window a y s ≡ utc_window b y t
unfolding utc_window
same_window a b y s t e std =
    let start : a.rule.start ≡ b.rule.start = same_day_time a.rule.start b.rule.start (ap (λ v. v.start.0) e) (ap (λ v. v.start.1) e) in
    let finish : a.rule.end ≡ b.rule.end = same_day_time a.rule.end b.rule.end (ap (λ v. v.finish.0) e) (ap (λ v. v.finish.1) e) in
    let seconds : a.offset.seconds ≡ b.offset.seconds = ap (λ v. v.seconds) e in
    rw (start, finish, seconds, std) refl

-- what two clocks show in the same way
record SameInfo (a b : OffsetInfo) : Type 0 where
  seconds : a.offset.seconds ≡ b.offset.seconds
  flag : a.dst ≡ b.dst
  name : abbreviation_text a.abbreviation ≡ abbreviation_text b.abbreviation

windowed : (a b : TimeZone) (d e : Dst) (v w : Bool) → v ≡ w → tz_view a ≡ tz_view b → dst_view d ≡ dst_view e → SameInfo (match_some (cond v (Some d) None) (std_info a) dst_info) (match_some (cond w (Some e) None) (std_info b) dst_info)
windowed a b d e true true same rules days = record { seconds = ap (λ x. x.seconds) days; flag = refl; name = ap (λ x. x.name) days }
windowed a b d e false false same rules days = record { seconds = ap (λ x. x.std_seconds) rules; flag = refl; name = ap (λ x. x.std_name) rules }
windowed a b d e true false same rules days = absurd (cc)
windowed a b d e false true same rules days = absurd (cc)

infos : (a b : TimeZone) (n : ℤ) (d e : Option Dst) → tz_view a ≡ tz_view b → option_map dst_view d ≡ option_map dst_view e → SameInfo (match_some (dst_at_by a.std_offset d n) (std_info a) dst_info) (match_some (dst_at_by b.std_offset e n) (std_info b) dst_info)
infos a b n None None rules days = record { seconds = ap (λ x. x.std_seconds) rules; flag = refl; name = ap (λ x. x.std_name) rules }
infos a b n None (Some e) rules days = absurd (cc)
infos a b n (Some d) None rules days = absurd (cc)
infos a b n (Some d) (Some e) rules days =
    let same : dst_view d ≡ dst_view e = cc in
    windowed a b d e (in_window (utc_window d (year_of_nanos n) a.std_offset) n) (in_window (utc_window e (year_of_nanos n) b.std_offset) n)
    (ap (λ w. in_window w n) (same_window d e (year_of_nanos n) a.std_offset b.std_offset same (ap (λ x. x.std_seconds) rules))) rules same

same_info : (a b : TimeZone) (n : ℤ) → tz_view a ≡ tz_view b → SameInfo (info_at a n) (info_at b n)
same_info a b n rules = infos a b n a.dst b.dst rules (ap (λ x. x.dst) rules)

row_again : (a b : TimeZone) (row : TransitionText) → tz_view a ≡ tz_view b → RowAgrees a row → RowAgrees b row
row_again a b row rules agrees =
    let same = same_info a b (nanos_of_seconds row.second) rules in
    (sym same.seconds ∙ agrees.0, sym same.flag ∙ agrees.1, sym same.name ∙ agrees.2)

footer_again : (rows : List TransitionText) (a b : TimeZone) → tz_view a ≡ tz_view b → FooterAgrees rows a → FooterAgrees rows b
footer_again rows a b rules agrees = λ some. row_again a b (get_or rows (length rows - 1) no_row) rules (agrees some)

rule_again : (rows : List TransitionText) (o : Option TimeZone) (rule : TimeZone) → option_map tz_view o ≡ Some (tz_view rule) → IfSome o (λ tz. FooterAgrees rows tz) → FooterAgrees rows rule
rule_again rows None rule e agrees = absurd (cc)
rule_again rows (Some tz) rule e agrees = let same : tz_view tz ≡ tz_view rule = cc in footer_again rows tz rule same agrees

no_bad_rule : (read : Parsed TzifText) (table : Tzif) → read ≡ Ok (tzif_view table) → RuleAgrees table → HasBadRule read → ⊥
no_bad_rule read table is agrees bad =
    let same : bad.text ≡ tzif_view table = cc in
    let rule : option_map tz_view table.posix_tz ≡ Some (tz_view bad.rule) = ap (λ t. t.rule) (sym same) ∙ bad.is_rule in
    bad.disagrees (subst (λ rows. FooterAgrees rows bad.rule) (ap (λ t. t.transitions) (sym same)) (rule_again (map transition_text table.transitions.items) table.posix_tz bad.rule rule agrees))

no_fault : (read : Parsed TzifText) (text : TzifText) (fault : TzifFault) → read ≡ Ok text → read ≡ Err fault → ⊥
no_fault read text fault is other = absurd (cc)

-- a file that is read is not refused
pub not_bad : (bytes : List ℕ) (table : Tzif) → read_tzif bytes ≡ Ok (tzif_view table) → RuleAgrees table → IsBadFile bytes → ⊥
not_bad bytes table is agrees (inl fault) = no_fault (read_tzif bytes) (tzif_view table) fault.0 is fault.1
not_bad bytes table is agrees (inr bad) = no_bad_rule (read_tzif bytes) table is agrees bad
