-- What a log of each version tells of a turn is what it tells of the same turn with the texts that it shows.
use Rattle.std.proofs.Common.{◌≡◌, ◌+◌, ◌||◌, ℕ, Bool, List, [], ◌∷◌, length, map, refl, ap, ap₂, ◌∙◌}
use Rattle.std.proofs.lemmas.List.{length-map}
use Rattle.std.specs.List.{list_any}
use Rattle.site_model.specs.PlainSite.{PlainSite}
use Rattle.site_model.specs.declared.entry.Entry.{Entry}
use Rattle.site_model.specs.declared.event.Event.{Event}
use Rattle.site_model.specs.declared.event.Event.TheVariants as event
use Rattle.event_text.specs.Faults.{fault_name}
use Rattle.event_text.specs.Lines.{Answer, told, faulty}
use Rattle.log_text.specs.EntryTwo.{untold, without_texts}
use Rattle.run_meaning.specs.Dealing.{line_events, line_refusals, refused_line, ticks}
use Rattle.run_meaning.specs.Runs.{joined}
use Rattle.run_meaning.specs.Schedule.{schedule}
use Rattle.run_meaning.specs.Turns.{Asked, Command, Histories, Plans, Reported, of_index}
use Rattle.run_meaning.proofs.Outstanding as run
use Rattle.run_text.specs.LogText.{round_lines}
use Rattle.run_text.specs.TurnReading.{as_line}
use Rattle.run_text.specs.declared.style.Style.{Style}
use Rattle.run_text.specs.declared.style.Style.TheVariants.{One, Two}
use Rattle.audit_laws.specs.Alike.{untold_report}
use Rattle.audit_laws.specs.Refilled.{refused_from, AreOfLines}
use Rattle.audit_laws.specs.Versions.{told_event, untold_all, untold_asked}
use Rattle.audit_laws.proofs.UntoldRounds.{indexed, orders_same, ticks_same}
use Rattle.audit_laws.proofs.UntoldRuns.{joined_same, round_lines_same}

-- with the texts that a version shows
abbrev pub shown_histories : Style → Histories → Histories
shown_histories One histories = untold_all histories
shown_histories Two histories = histories

abbrev pub shown_events : Style → List Asked → List Asked
shown_events One as' = map untold_asked as'
shown_events Two as' = as'

abbrev pub shown_reports : Style → List Reported → List Reported
shown_reports One rs = map untold_report rs
shown_reports Two rs = rs

abbrev pub shown_answers : Style → List Answer → List Answer
shown_answers style [] = []
shown_answers style (told k e ∷ as') = told k (told_event style e) ∷ shown_answers style as'
shown_answers style (faulty f ∷ as') = faulty f ∷ shown_answers style as'

-- what is shown twice is shown once
pub twice_event : (e : Event) → without_texts (without_texts e) ≡ without_texts e
twice_event (event.Result status passive output perf) = refl
twice_event event.Tick = refl
twice_event (event.Ack sticky notify) = refl
twice_event event.Unack = refl
twice_event (event.Down start end fixed duration) = refl
twice_event (event.Undown number) = refl
twice_event (event.Checks on) = refl
twice_event (event.Notes on) = refl
twice_event (event.Check moment forced) = refl

-- ---- lines

pub line_refusals_shown : (style : Style) (n : ℕ) (as' : List Answer) → line_refusals n (map as_line (shown_answers style as')) ≡ line_refusals n (map as_line as')
line_refusals_shown style n [] = refl
line_refusals_shown style n (told k e ∷ as') = line_refusals_shown style (n + 1) as'
line_refusals_shown style n (faulty f ∷ as') = ap (λ rs. refused_line n (fault_name f) ∷ rs) (line_refusals_shown style (n + 1) as')

pub refused_shown : (style : Style) (n : ℕ) (as' : List Answer) → refused_from n (shown_answers style as') ≡ refused_from n as'
refused_shown style n [] = refl
refused_shown style n (told k e ∷ as') = refused_shown style (n + 1) as'
refused_shown style n (faulty f ∷ as') = ap (λ rs. record { number = n; fault = f } ∷ rs) (refused_shown style (n + 1) as')

pub of_lines_shown : (style : Style) (s : PlainSite) (as' : List Answer) → AreOfLines s as' → AreOfLines s (shown_answers style as')
of_lines_shown style s [] h = tt
of_lines_shown style s (told k e ∷ as') h = of_lines_shown style s as' h
of_lines_shown style s (faulty f ∷ as') h = (h.0, of_lines_shown style s as' h.1)

-- ---- events

pub lines_shown : (style : Style) (as' : List Answer) → shown_events style (line_events (map as_line as')) ≡ line_events (map as_line (shown_answers style as'))
lines_shown One [] = refl
lines_shown One (told k e ∷ as') = ap (λ xs. record { checkable = k; event = without_texts e } ∷ xs) (lines_shown One as')
lines_shown One (faulty f ∷ as') = lines_shown One as'
lines_shown Two [] = refl
lines_shown Two (told k e ∷ as') = ap (λ xs. record { checkable = k; event = e } ∷ xs) (lines_shown Two as')
lines_shown Two (faulty f ∷ as') = lines_shown Two as'

pub ticks_shown : (style : Style) (s : PlainSite) (before : Histories) (moment : ℕ) → ticks s (shown_histories style before) moment ≡ ticks s before moment
ticks_shown One s before moment = ticks_same s before moment
ticks_shown Two s before moment = refl

-- ---- rounds

pub schedule_shown : (style : Style) (s : PlainSite) (holds : ℕ → ℕ → Bool) (command : ℕ → Command) (plans : Plans) (moment : ℕ) (before round : Histories)
    → schedule s holds command plans moment (shown_histories style before) (shown_histories style round) ≡ schedule s holds command plans moment before round
schedule_shown One s holds command plans moment before round = orders_same s holds command plans moment before round
schedule_shown Two s holds command plans moment before round = refl

pub joined_shown : (style : Style) (before round : Histories) → shown_histories style (joined before round) ≡ joined (shown_histories style before) (shown_histories style round)
joined_shown One before round = joined_same before round
joined_shown Two before round = refl

pub round_lines_shown : (style : Style) (s : PlainSite) (round : Histories) → round_lines style s 0 (shown_histories style round) ≡ round_lines style s 0 round
round_lines_shown One s round = round_lines_same s 0 round
round_lines_shown Two s round = refl

-- ---- entries

abbrev reports_in : List Entry → Bool
reports_in es = list_any (λ e. run.is_report e.event) es

bare_report : (e : Event) → run.is_report (without_texts e) ≡ run.is_report e
bare_report (event.Result status passive output perf) = refl
bare_report event.Tick = refl
bare_report (event.Ack sticky notify) = refl
bare_report event.Unack = refl
bare_report (event.Down start end fixed duration) = refl
bare_report (event.Undown number) = refl
bare_report (event.Checks on) = refl
bare_report (event.Notes on) = refl
bare_report (event.Check moment forced) = refl

bare_reports : (es : List Entry) → reports_in (map untold es) ≡ reports_in es
bare_reports [] = refl
bare_reports (e ∷ es) = ap₂ (λ a b. a || b) (bare_report e.event) (bare_reports es)

pub reports_in_shown : (style : Style) (c : ℕ) (round : Histories) → list_any (λ e. run.is_report e.event) (of_index c (shown_histories style round)) ≡ list_any (λ e. run.is_report e.event) (of_index c round)
reports_in_shown One c round = ap reports_in (indexed c round) ∙ bare_reports (of_index c round)
reports_in_shown Two c round = refl

pub entries_many : (style : Style) (c : ℕ) (histories : Histories) → length (of_index c (shown_histories style histories)) ≡ length (of_index c histories)
entries_many One c histories = ap length (indexed c histories) ∙ length-map (of_index c histories) untold
entries_many Two c histories = refl
