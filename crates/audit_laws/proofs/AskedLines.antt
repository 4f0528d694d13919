-- Whatever a turn's lines ask for can be asked for, and its ticks rise by their checkables.
use Rattle.std.proofs.Common.{◌≡◌, ◌<◌, ◌≤◌, ◌+◌, ◌||◌, ℕ, zero, suc, List, [], ◌∷◌, length, map, slice_get, not, cond, Bool, true, false, Option, Some, refl, ap, ◌∙◌, subst, arith}
use Rattle.std.specs.List.{AllByRecursion, list_any}
use Rattle.site_model.specs.PlainSite.{PlainCheck, PlainSite}
use Rattle.site_model.specs.declared.event.Event.{Event}
use Rattle.site_model.specs.declared.event.Event.TheVariants as event
use Rattle.event_text.specs.Lines.{Answer, Has, told, faulty}
use Rattle.event_text.specs.Reading.{line_read}
use Rattle.event_text.proofs.LineLaws.{judged}
use Rattle.run_meaning.specs.Dealing.{line_events, ticks_from, wants_tick}
use Rattle.run_meaning.specs.Turns.{Asked, Histories, is_command, of_index}
use Rattle.run_text.specs.TurnReading.{as_line, lines_read}
use Rattle.run_text.specs.declared.style.Style.{Style}
use Rattle.audit_laws.specs.Askable.{CanBeAsked, IsInRange}
use Rattle.audit_laws.specs.Kinds.{AllRise}
use Rattle.audit_laws.specs.Names.{IsWellNamed}
use Rattle.audit_laws.specs.Refilled.{AreOfLines}
use Rattle.audit_laws.proofs.Asking.{can_be_asked}
use Rattle.audit_laws.proofs.ByVersion.{shown_answers}
use Rattle.audit_laws.proofs.Shown.{shown}

pub all_at : {A : Type 0} (P : A → Type 0) (xs : List A) (i : ℕ) (x : A) → AllByRecursion P xs → slice_get xs i ≡ Some x → P x
all_at P [] i x h e = absurd cc
all_at P (y ∷ xs) zero x h e = let same : y ≡ x = cc in subst P same h.0
all_at P (y ∷ xs) (suc i) x h e = all_at P xs i x h.1 e

-- ---- lines as they are read

abbrev pub answers_of : PlainSite → List (List ℕ) → List Answer
answers_of s lines = map (line_read s) lines

abbrev pub Askable : PlainSite → Asked → Type 0
Askable s a = CanBeAsked s a.checkable a.event

pub answered : (s : PlainSite) (lines : List (List ℕ)) → lines_read s lines ≡ map as_line (answers_of s lines)
answered s [] = refl
answered s (l ∷ lines) = ap (λ xs. as_line (line_read s l) ∷ xs) (answered s lines)

pub of_lines : (s : PlainSite) → IsWellNamed s → (lines : List (List ℕ)) → AreOfLines s (answers_of s lines)
of_lines s w [] = tt
of_lines s w (l ∷ lines) = by (line_read s l) (judged s l w.names) (of_lines s w lines)
  where
    by : (a : Answer) → Has s l a → AreOfLines s (answers_of s lines) → AreOfLines s (a ∷ answers_of s lines)
    by (told k e) h rest = rest
    by (faulty f) h rest = ((l, h), rest)

pub can_all : (style : Style) (s : PlainSite) → IsWellNamed s → (lines : List (List ℕ)) → AllByRecursion (Askable s) (line_events (map as_line (shown_answers style (answers_of s lines))))
can_all style s w [] = tt
can_all style s w (l ∷ lines) = by (line_read s l) (judged s l w.names) (can_all style s w lines)
  where
    by : (a : Answer) → Has s l a → AllByRecursion (Askable s) (line_events (map as_line (shown_answers style (answers_of s lines)))) → AllByRecursion (Askable s) (line_events (map as_line (shown_answers style (a ∷ answers_of s lines))))
    by (told k e) h rest = (shown style s k e (can_be_asked s l k e h), rest)
    by (faulty f) h rest = rest

pub all_asked : (s : PlainSite) → IsWellNamed s → (lines : List (List ℕ)) → AllByRecursion (λ a. CanBeAsked s a.checkable a.event) (line_events (lines_read s lines))
all_asked s w [] = tt
all_asked s w (l ∷ lines) = by (line_read s l) (judged s l w.names) (all_asked s w lines)
  where
    by : (a : Answer) → Has s l a → AllByRecursion (Askable s) (line_events (lines_read s lines)) → AllByRecursion (Askable s) (line_events (as_line a ∷ lines_read s lines))
    by (told k e) h rest = (can_be_asked s l k e h, rest)
    by (faulty f) h rest = rest

command_asked : (host : Option ℕ) (e : Event) → IsInRange host e → is_command e ≡ true
command_asked host (event.Result status passive output perf) h = h.0
command_asked host event.Tick h = absurd h
command_asked host (event.Ack sticky notify) h = refl
command_asked host event.Unack h = refl
command_asked host (event.Down start end fixed duration) h = refl
command_asked host (event.Undown number) h = refl
command_asked host (event.Checks on) h = refl
command_asked host (event.Notes on) h = refl
command_asked host (event.Check moment forced) h = refl

pub commands_alone : (s : PlainSite) (as' : List Asked) → AllByRecursion (Askable s) as' → not (list_any (λ (a : Asked). not (is_command a.event)) as') ≡ true
commands_alone s [] h = refl
commands_alone s (a ∷ as') h = ap (λ t. not (not t || list_any (λ (a : Asked). not (is_command a.event)) as')) (command_asked h.0.check.host a.event h.0.range) ∙ commands_alone s as' h.1

-- ---- ticks

ticks_from_rise : (k : ℕ) (cs : List PlainCheck) (before : Histories) (moment j : ℕ) → j < k → AllByRecursion (λ (b : Asked). j < b.checkable) (ticks_from k cs before moment)
ticks_from_rise k [] before moment j lt = tt
ticks_from_rise k (c ∷ cs) before moment j lt = by (wants_tick c (of_index k before) moment) (ticks_from_rise (suc k) cs before moment j (omega (arith, lt)))
  where
    by : (t : Bool) → AllByRecursion (λ (b : Asked). j < b.checkable) (ticks_from (suc k) cs before moment) → AllByRecursion (λ (b : Asked). j < b.checkable) (cond t (record { checkable = k; event = event.Tick } ∷ ticks_from (suc k) cs before moment) (ticks_from (suc k) cs before moment))
    by true rest = (lt, rest)
    by false rest = rest

abbrev place : Asked → ℕ
place a = a.checkable

pub all_rise : (k : ℕ) (cs : List PlainCheck) (before : Histories) (moment : ℕ) → AllRise place (ticks_from k cs before moment)
all_rise k [] before moment = tt
all_rise k (c ∷ cs) before moment = by (wants_tick c (of_index k before) moment) (all_rise (suc k) cs before moment)
  where
    by : (t : Bool) → AllRise place (ticks_from (suc k) cs before moment) → AllRise place (cond t (record { checkable = k; event = event.Tick } ∷ ticks_from (suc k) cs before moment) (ticks_from (suc k) cs before moment))
    by true rest = (ticks_from_rise (suc k) cs before moment k (omega arith), rest)
    by false rest = rest

abbrev pub IsTickBelow : ℕ → Asked → Type 0
IsTickBelow many a = (a.event ≡ event.Tick) × (a.checkable < many)

pub all_ticks : (many k : ℕ) (cs : List PlainCheck) (before : Histories) (moment : ℕ) → k + length cs ≤ many → AllByRecursion (IsTickBelow many) (ticks_from k cs before moment)
all_ticks many k [] before moment le = tt
all_ticks many k (c ∷ cs) before moment le = by (wants_tick c (of_index k before) moment) (all_ticks many (suc k) cs before moment (omega (arith, le)))
  where
    by : (t : Bool) → AllByRecursion (IsTickBelow many) (ticks_from (suc k) cs before moment) → AllByRecursion (IsTickBelow many) (cond t (record { checkable = k; event = event.Tick } ∷ ticks_from (suc k) cs before moment) (ticks_from (suc k) cs before moment))
    by true rest = ((refl, omega (arith, le)), rest)
    by false rest = rest
