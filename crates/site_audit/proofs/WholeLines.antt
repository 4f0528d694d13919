-- Each line of a turn has its newline at its end and no other.
use Rattle.std.proofs.Common.{◌≡◌, ℕ, suc, ◌+◌, ◌/◌, ◌%◌, ◌==◌, ◌||◌, nat_lt, not, Bool, true, false, cond, List, [], ◌∷◌, ◌++◌, map, codes, get_or, refl, sym, ap, ◌∙◌, subst, append_assoc, arith, Option, Some, None}
use Rattle.std.proofs.lemmas.Bool.Decides.{nat_tests}
use Rattle.std.specs.Fmt.{decimal}
use Rattle.std.specs.List.{AllByRecursion, concat, flat_map, onto_first}
use Rattle.jiff_tz.specs.declared.tzif.Tzif.{Tzif}
use Rattle.site_base.specs.Quoted.{escaped, octal, quoted}
use Rattle.site_model.specs.PlainSite.{PlainSite, full_names}
use Rattle.site_model.specs.declared.decision.Decision.{Decision}
use Rattle.site_model.specs.declared.entry.Entry.{Entry}
use Rattle.site_model.specs.declared.event.Event.{Event}
use Rattle.site_model.specs.declared.event.Event.TheVariants as event
use Rattle.site_model.specs.declared.note_kind.NoteKind.{NoteKind}
use Rattle.site_model.specs.declared.note_kind.NoteKind.TheVariants as kind
use Rattle.site_model.specs.declared.outcome.Outcome.{Outcome}
use Rattle.site_model.specs.declared.outcome.Outcome.TheVariants as outcome
use Rattle.site_model.specs.declared.sight.Sight.{Sight}
use Rattle.site_text.specs.Entries.{decision_text, depend_names, effect_text, head_text, list_text, lists_text, name_text, note_text, notify_names, outcome_text, parts_text, sight_text, start_text, user_names, users_text}
use Rattle.event_text.specs.Faults.{fault_name}
use Rattle.event_text.specs.Lines.{Answer, told, faulty}
use Rattle.event_text.specs.Reading.{line_read}
use Rattle.event_text.specs.declared.line_fault.LineFault.{LineFault}
use Rattle.event_text.specs.declared.line_fault.LineFault.TheVariants as fault
use Rattle.log_text.specs.EntryTwo.{told_text}
use Rattle.log_text.specs.LogLines.{order_start, turn_line, words_text}
use Rattle.run_meaning.specs.Dealing.{Refusal, checkable_of, line_refusals, refused_line, refused_report, refusing, report_refusals, without}
use Rattle.run_meaning.specs.Runs.{IsTurn, Stage, TurnLog, refusals_of}
use Rattle.run_meaning.specs.Turns.{Command, Histories, Outstanding, Reported, missing, words}
use Rattle.run_text.specs.LogText.{command_line, ordered_line, refusal_line, round_lines, styled_entry, turn_lines}
use Rattle.run_text.specs.TurnReading.{as_line, lines_read, turn_read}
use Rattle.run_text.specs.declared.style.Style.{Style}
use Rattle.run_text.specs.declared.style.Style.TheVariants.{One, Two}
use Rattle.site_edge.specs.declared.turn.Turn.{Turn}
use Rattle.turn_engine.specs.Stages.{basis_of_site}
use Rattle.site_audit.specs.Blocks.{lines_of}
use Rattle.site_audit.proofs.Bytes.{both_so, decimal_lacks, first_so, lacks, lacks_append, rest_so}
use Rattle.site_audit.proofs.Seen.{effect_plain, no_newline}

-- Texts without a newline.

abbrev free : List ℕ → Bool
free bs = lacks 10 bs

and_free : (xs ys : List ℕ) → free xs ≡ true → free ys ≡ true → free (xs ++ ys) ≡ true
and_free xs ys h g = lacks_append 10 xs ys h g

number_free : (n : ℕ) → free (decimal n) ≡ true
number_free n = decimal_lacks 10 n refl

high : (n : ℕ) → not ((48 + n) == 10) ≡ true
high n = let e : ((48 + n) == 10) ≡ false = grind (arith, nat_tests) in ap not e

octal_free : (b : ℕ) → free (octal b) ≡ true
octal_free b =
    and_free (92 ∷ []) ((48 + b / 64) ∷ (48 + b / 8 % 8) ∷ (48 + b % 8) ∷ []) refl
    (both_so (not ((48 + b / 64) == 10)) (free ((48 + b / 8 % 8) ∷ (48 + b % 8) ∷ [])) (high (b / 64))
    (both_so (not ((48 + b / 8 % 8) == 10)) (free ((48 + b % 8) ∷ [])) (high (b / 8 % 8)) (both_so (not ((48 + b % 8) == 10)) true (high (b % 8)) refl)))

escaped_free : (b : ℕ) → free (escaped b) ≡ true
escaped_free b = by (b == 34) (b == 92) (b == 10) refl (b == 9) (b == 13) (nat_lt b 32 || b == 127)
  where
    by : (o p q : Bool) → (b == 10) ≡ q → (t u v : Bool) → free (cond o (92 ∷ 34 ∷ []) (cond p (92 ∷ 92 ∷ []) (cond q (92 ∷ 110 ∷ []) (cond t (92 ∷ 116 ∷ []) (cond u (92 ∷ 114 ∷ []) (cond v (octal b) (b ∷ []))))))) ≡ true
    by true p q e t u v = refl
    by false true q e t u v = refl
    by false false true e t u v = refl
    by false false false e true u v = refl
    by false false false e false true v = refl
    by false false false e false false true = octal_free b
    by false false false e false false false = both_so (not (b == 10)) true (ap not e) refl

flat_free : (bs : List ℕ) → free (flat_map escaped bs) ≡ true
flat_free [] = refl
flat_free (b ∷ bs) = and_free (escaped b) (flat_map escaped bs) (escaped_free b) (flat_free bs)

quoted_free : (text : List ℕ) → free (quoted text) ≡ true
quoted_free text = and_free (34 ∷ []) (flat_map escaped text ++ 34 ∷ []) refl (and_free (flat_map escaped text) (34 ∷ []) (flat_free text) refl)

name_free : (names : List (List ℕ)) (k : ℕ) → free (name_text names k) ≡ true
name_free names k = quoted_free (get_or names k [])

-- Entries.

parts_free : (later : Bool) (parts : List (List ℕ)) → AllByRecursion (λ p. free p ≡ true) parts → free (parts_text later parts) ≡ true
parts_free later [] h = refl
parts_free true (p ∷ ps) h = and_free (codes ", ") (p ++ parts_text true ps) refl (and_free p (parts_text true ps) h.0 (parts_free true ps h.1))
parts_free false (p ∷ ps) h = and_free p (parts_text true ps) h.0 (parts_free true ps h.1)

list_free : (parts : List (List ℕ)) → AllByRecursion (λ p. free p ≡ true) parts → free (list_text parts) ≡ true
list_free [] h = refl
list_free (p ∷ ps) h = parts_free false (p ∷ ps) h

each_free : {A : Type 0} (text : A → List ℕ) → ((x : A) → free (text x) ≡ true) → (xs : List A) → AllByRecursion (λ p. free p ≡ true) (map text xs)
each_free text f [] = tt
each_free text f (x ∷ xs) = (f x, each_free text f xs)

note_free : (k : NoteKind) → free (note_text k) ≡ true
note_free kind.Problem = refl
note_free kind.Recovery = refl
note_free kind.Acknowledgement = refl
note_free kind.Custom = refl
note_free kind.DowntimeStart = refl
note_free kind.DowntimeEnd = refl
note_free kind.DowntimeRemoved = refl
note_free kind.FlappingStart = refl
note_free kind.FlappingEnd = refl

fault_free : (f : LineFault) → free (fault_name f) ≡ true
fault_free fault.NotText = refl
fault_free fault.NoBracket = refl
fault_free fault.BadMoment = refl
fault_free fault.UnknownCommand = refl
fault_free fault.FieldCount = refl
fault_free fault.UnknownCheckable = refl
fault_free fault.BadNumber = refl
fault_free fault.BadSpan = refl
fault_free fault.PassiveOff = refl

told_free : (v : Event) → free (told_text v) ≡ true
told_free (event.Result status passive output perf) = and_free (quoted output) (32 ∷ quoted perf) (quoted_free output) (and_free (32 ∷ []) (quoted perf) refl (quoted_free perf))
told_free event.Tick = refl
told_free (event.Ack sticky notify) = refl
told_free event.Unack = refl
told_free (event.Down start end fixed duration) = refl
told_free (event.Undown number) = refl
told_free (event.Checks on) = refl
told_free (event.Notes on) = refl
told_free (event.Check moment forced) = refl

words_free : (later : Bool) (ws : List (List ℕ)) → free (words_text later ws) ≡ true
words_free later [] = refl
words_free true (w ∷ ws) = and_free (codes " ") (quoted w ++ words_text true ws) refl (and_free (quoted w) (words_text true ws) (quoted_free w) (words_free true ws))
words_free false (w ∷ ws) = and_free (quoted w) (words_text true ws) (quoted_free w) (words_free true ws)

module _ (s : PlainSite) where
  users_free : (us : List ℕ) → free (users_text s us) ≡ true
  users_free [] = refl
  users_free (u ∷ us) = and_free (32 ∷ name_text (user_names s) u) (users_text s us) (and_free (32 ∷ []) (name_text (user_names s) u) refl (name_free (user_names s) u)) (users_free us)

  outcome_free : (o : Outcome) → free (outcome_text s o) ≡ true
  outcome_free (outcome.Sent users) = and_free (codes "Sent") (users_text s users) refl (users_free users)
  outcome_free outcome.Disabled = refl
  outcome_free (outcome.Dependency depend) = and_free (codes "Dependency ") (name_text (depend_names s) depend) refl (name_free (depend_names s) depend)
  outcome_free (outcome.Host checkable) = and_free (codes "Host ") (name_text (full_names s) checkable) refl (name_free (full_names s) checkable)
  outcome_free (outcome.Downtime number) = and_free (codes "Downtime ") (decimal number) refl (number_free number)
  outcome_free outcome.Flapping = refl
  outcome_free outcome.Acknowledged = refl
  outcome_free outcome.Period = refl
  outcome_free outcome.Kind = refl
  outcome_free outcome.State = refl
  outcome_free outcome.TooEarly = refl
  outcome_free outcome.TooLate = refl
  outcome_free outcome.Repeat = refl
  outcome_free outcome.NoUsers = refl

  sight_free : (x : Sight) → free (sight_text s x) ≡ true
  sight_free x = and_free (name_text (full_names s) x.checkable) (32 ∷ decimal x.count) (name_free (full_names s) x.checkable) (and_free (32 ∷ []) (decimal x.count) refl (number_free x.count))

  decision_free : (d : Decision) → free (decision_text s d) ≡ true
  decision_free d =
      and_free (name_text (notify_names s) d.notification) (32 ∷ (note_text d.kind ++ 32 ∷ outcome_text s d.outcome)) (name_free (notify_names s) d.notification)
      (and_free (32 ∷ []) (note_text d.kind ++ 32 ∷ outcome_text s d.outcome) refl (and_free (note_text d.kind) (32 ∷ outcome_text s d.outcome) (note_free d.kind) (and_free (32 ∷ []) (outcome_text s d.outcome) refl (outcome_free d.outcome))))

  head_free : (number caller moment : ℕ) → free (head_text number caller moment) ≡ true
  head_free number caller moment =
      and_free (decimal number) (codes " by " ++ (decimal caller ++ (codes " at " ++ (decimal moment ++ codes ": ")))) (number_free number)
      (and_free (codes " by ") (decimal caller ++ (codes " at " ++ (decimal moment ++ codes ": "))) refl
      (and_free (decimal caller) (codes " at " ++ (decimal moment ++ codes ": ")) (number_free caller) (and_free (codes " at ") (decimal moment ++ codes ": ") refl (and_free (decimal moment) (codes ": ") (number_free moment) refl))))

  start_free : (k : ℕ) (e : Entry) → free (start_text s k e) ≡ true
  unfolding start_text
  start_free k e =
      and_free (codes "entry ") (name_text (full_names s) k ++ 32 ∷ head_text e.number e.caller e.moment) refl
      (and_free (name_text (full_names s) k) (32 ∷ head_text e.number e.caller e.moment) (name_free (full_names s) k) (and_free (32 ∷ []) (head_text e.number e.caller e.moment) refl (head_free e.number e.caller e.moment)))

  effect_free : (e : Entry) → free (effect_text e) ≡ true
  unfolding effect_text
  effect_free e = no_newline (effect_text e) (effect_plain e.event e.taken e.state e.hard e.attempt)

  lists_free : (e : Entry) → free (lists_text s e) ≡ true
  unfolding lists_text
  lists_free e =
      let seen : List ℕ = list_text (map (sight_text s) e.sights) in
      let decided : List ℕ = list_text (map (decision_text s) e.decisions) in
      and_free (codes " | ") (seen ++ (codes " | " ++ decided)) refl
      (and_free seen (codes " | " ++ decided) (list_free (map (sight_text s) e.sights) (each_free (sight_text s) sight_free e.sights))
      (and_free (codes " | ") decided refl (list_free (map (decision_text s) e.decisions) (each_free (decision_text s) decision_free e.decisions))))

-- Lines.

-- a line with its newline, and without another
pub record IsWhole (line : List ℕ) : Type 0 where
  pub body : List ℕ
  pub is : line ≡ body ++ 10 ∷ []
  pub lacking : lacks 10 body ≡ true

end_whole : IsWhole (10 ∷ [])
end_whole = record { body = []; is = refl; lacking = refl }

behind_whole : (front rest : List ℕ) → free front ≡ true → IsWhole rest → IsWhole (front ++ rest)
behind_whole front rest h w = record {
  body = front ++ w.body;
  is = ap (λ xs. front ++ xs) w.is ∙ sym (append_assoc front w.body (10 ∷ []));
  lacking = and_free front w.body h w.lacking;
}

turn_whole : (number moment : ℕ) → IsWhole (turn_line number moment)
turn_whole number moment =
    behind_whole (codes "turn ") (decimal number ++ 32 ∷ (decimal moment ++ 10 ∷ [])) refl
    (behind_whole (decimal number) (32 ∷ (decimal moment ++ 10 ∷ [])) (number_free number) (behind_whole (32 ∷ []) (decimal moment ++ 10 ∷ []) refl (behind_whole (decimal moment) (10 ∷ []) (number_free moment) end_whole)))

refused_line_whole : (n : ℕ) (f : LineFault) → IsWhole (refusal_line (refused_line n (fault_name f)))
refused_line_whole n f =
    behind_whole (codes "refused line ") (decimal n ++ 32 ∷ (fault_name f ++ 10 ∷ [])) refl
    (behind_whole (decimal n) (32 ∷ (fault_name f ++ 10 ∷ [])) (number_free n) (behind_whole (32 ∷ []) (fault_name f ++ 10 ∷ []) refl (behind_whole (fault_name f) (10 ∷ []) (fault_free f) end_whole)))

refused_report_whole : (n : ℕ) → IsWhole (refusal_line (refused_report n))
refused_report_whole n = behind_whole (codes "refused report ") (decimal n ++ 10 ∷ []) refl (behind_whole (decimal n) (10 ∷ []) (number_free n) end_whole)

entry_whole : (style : Style) (s : PlainSite) (k : ℕ) (e : Entry) → IsWhole (styled_entry style s k e)
entry_whole One s k e =
    behind_whole (start_text s k e) (effect_text e ++ (lists_text s e ++ 10 ∷ [])) (start_free s k e)
    (behind_whole (effect_text e) (lists_text s e ++ 10 ∷ []) (effect_free s e) (behind_whole (lists_text s e) (10 ∷ []) (lists_free s e) end_whole))
entry_whole Two s k e =
    behind_whole (start_text s k e) (effect_text e ++ (lists_text s e ++ (codes " | " ++ (told_text e.event ++ 10 ∷ [])))) (start_free s k e)
    (behind_whole (effect_text e) (lists_text s e ++ (codes " | " ++ (told_text e.event ++ 10 ∷ []))) (effect_free s e)
    (behind_whole (lists_text s e) (codes " | " ++ (told_text e.event ++ 10 ∷ [])) (lists_free s e) (behind_whole (codes " | ") (told_text e.event ++ 10 ∷ []) refl (behind_whole (told_text e.event) (10 ∷ []) (told_free e.event) end_whole))))

order_free : (s : PlainSite) (n k : ℕ) → free (order_start s n k) ≡ true
order_free s n k =
    and_free (codes "order ") (decimal n ++ 32 ∷ name_text (full_names s) k) refl
    (and_free (decimal n) (32 ∷ name_text (full_names s) k) (number_free n) (and_free (32 ∷ []) (name_text (full_names s) k) refl (name_free (full_names s) k)))

lacking_whole : (s : PlainSite) (n k : ℕ) (macro : List ℕ) → IsWhole (order_start s n k ++ (codes " missing " ++ (quoted macro ++ 10 ∷ [])))
lacking_whole s n k macro =
    behind_whole (order_start s n k) (codes " missing " ++ (quoted macro ++ 10 ∷ [])) (order_free s n k)
    (behind_whole (codes " missing ") (quoted macro ++ 10 ∷ []) refl (behind_whole (quoted macro) (10 ∷ []) (quoted_free macro) end_whole))

command_whole : (style : Style) (s : PlainSite) (n k : ℕ) (c : Command) → IsWhole (command_line style s n k c)
command_whole One s n k (words ws) = behind_whole (order_start s n k) (10 ∷ []) (order_free s n k) end_whole
command_whole Two s n k (words ws) =
    behind_whole (order_start s n k) (32 ∷ (words_text false ws ++ 10 ∷ [])) (order_free s n k)
    (behind_whole (32 ∷ []) (words_text false ws ++ 10 ∷ []) refl (behind_whole (words_text false ws) (10 ∷ []) (words_free false ws) end_whole))
command_whole One s n k (missing macro) = lacking_whole s n k macro
command_whole Two s n k (missing macro) = lacking_whole s n k macro

-- All lines of a turn.

abbrev pub AreWhole : List (List ℕ) → Type 0
AreWhole ls = AllByRecursion IsWhole ls

append_whole : (ls ms : List (List ℕ)) → AreWhole ls → AreWhole ms → AreWhole (ls ++ ms)
append_whole [] ms h g = g
append_whole (l ∷ ls) ms h g = (h.0, append_whole ls ms h.1 g)

map_whole : {A : Type 0} (line : A → List ℕ) → ((x : A) → IsWhole (line x)) → (xs : List A) → AreWhole (map line xs)
map_whole line f [] = tt
map_whole line f (x ∷ xs) = (f x, map_whole line f xs)

round_whole : (style : Style) (s : PlainSite) (k : ℕ) (round : Histories) → AreWhole (flat_map (λ lines. lines) (round_lines style s k round))
round_whole style s k [] = tt
round_whole style s k (es ∷ round) = append_whole (map (styled_entry style s k) es) (flat_map (λ lines. lines) (round_lines style s (suc k) round)) (map_whole (styled_entry style s k) (entry_whole style s k) es) (round_whole style s (suc k) round)

lines_whole_of : (s : PlainSite) (n : ℕ) (lines : List (List ℕ)) → AreWhole (map refusal_line (line_refusals n (lines_read s lines)))
lines_whole_of s n [] = tt
lines_whole_of s n (l ∷ ls) = by (line_read s l) (λ m. lines_whole_of s m ls)
  where
    by : (a : Answer) → ((m : ℕ) → AreWhole (map refusal_line (line_refusals m (lines_read s ls)))) → AreWhole (map refusal_line (line_refusals n (as_line a ∷ lines_read s ls)))
    by (told k e) again = again (n + 1)
    by (faulty f) again = (refused_line_whole n f, again (n + 1))

reports_whole_of : (os : List Outstanding) (rs : List Reported) → AreWhole (map refusal_line (report_refusals os rs))
reports_whole_of os [] = tt
reports_whole_of os (r ∷ rs) = by (checkable_of r.order os) (reports_whole_of (without r.order os) rs)
  where
    by : (o : Option ℕ) → AreWhole (map refusal_line (report_refusals (without r.order os) rs)) → AreWhole (map refusal_line (refusing r o (report_refusals (without r.order os) rs)))
    by None again = (refused_report_whole r.order, again)
    by (Some c) again = again

map_both : (rs qs : List Refusal) → AreWhole (map refusal_line rs) → AreWhole (map refusal_line qs) → AreWhole (map refusal_line (rs ++ qs))
map_both [] qs h g = g
map_both (r ∷ rs) qs h g = (h.0, map_both rs qs h.1 g)

pub turn_lines_whole : (style : Style) (s : PlainSite) (zone : Option Tzif) (callers : ℕ) (st : Stage) (t : Turn) (l : TurnLog) → IsTurn (basis_of_site s zone) callers st (turn_read s t) l → AreWhole (turn_lines style s l)
turn_lines_whole style s zone callers st t l is =
    let refused : AreWhole (map refusal_line (refusals_of (basis_of_site s zone) st (turn_read s t) l.moment)) =
    map_both (line_refusals 1 (lines_read s t.lines)) (report_refusals st.plans.outstanding (st.due ++ (turn_read s t).reports)) (lines_whole_of s 1 t.lines) (reports_whole_of st.plans.outstanding (st.due ++ (turn_read s t).reports)) in (
      turn_whole l.number l.moment,
      append_whole (map refusal_line l.refusals ++ flat_map (λ lines. lines) (round_lines style s 0 l.round)) (map (ordered_line style s) l.orders)
          (append_whole (map refusal_line l.refusals) (flat_map (λ lines. lines) (round_lines style s 0 l.round)) (subst (λ rs. AreWhole (map refusal_line rs)) (sym is.refusals) refused) (round_whole style s 0 l.round))
          (map_whole (ordered_line style s) (λ o. command_whole style s o.number o.checkable o.command) l.orders),
    )

-- Lines are cut where they end.

line_is_cut : (body rest : List ℕ) → free body ≡ true → lines_of ((body ++ 10 ∷ []) ++ rest) ≡ (body ++ 10 ∷ []) ∷ lines_of rest
line_is_cut [] rest h = refl
line_is_cut (b ∷ bs) rest h = by (b == 10) (first_so (not (b == 10)) (free bs) h) (line_is_cut bs rest (rest_so (not (b == 10)) (free bs) h))
  where
    by : (t : Bool) → not t ≡ true → lines_of ((bs ++ 10 ∷ []) ++ rest) ≡ (bs ++ 10 ∷ []) ∷ lines_of rest → cond t ((b ∷ []) ∷ lines_of ((bs ++ 10 ∷ []) ++ rest)) (onto_first b (lines_of ((bs ++ 10 ∷ []) ++ rest))) ≡ (b ∷ bs ++ 10 ∷ []) ∷ lines_of rest
    by true e again = absurd cc
    by false e again = ap (onto_first b) again

pub lines_back : (ls : List (List ℕ)) → AreWhole ls → lines_of (concat ls) ≡ ls
lines_back [] h = refl
lines_back (l ∷ ls) h =
    ap (λ z. lines_of (z ++ concat ls)) h.0.is
    ∙ (line_is_cut h.0.body (concat ls) h.0.lacking ∙ (ap (λ z. z ∷ lines_of (concat ls)) (sym h.0.is) ∙ ap (λ zs. l ∷ zs) (lines_back ls h.1)))
