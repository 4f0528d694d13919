-- The entries of a turn can stand in memory where their numbers have their bits.
use Rattle.std.proofs.Common.{◌≡◌, ◌<◌, ◌≤◌, ◌+◌, ◌==◌, ◌^◌, ℕ, zero, suc, min, nat_eq, cond, Bool, true, false, List, [], ◌∷◌, ◌++◌, length, filter, map, reverse, slice_get, take, Option, Some, sym, ap, ◌∙◌, refl, subst, arith, eq-eqb}
use Rattle.std.proofs.lemmas.List.{length-append}
use Rattle.std.specs.List.{AllByRecursion}
use Rattle.std.specs.Str.{IsUtf8}
use Rattle.jiff_tz.specs.declared.tzif.Tzif.{Tzif}
use Rattle.depend_graph.specs.Outlooks.{holds_in}
use Rattle.site_edge.specs.declared.turn.Turn.{Turn}
use Rattle.site_model.specs.PlainSite.{PlainCheck, PlainSite}
use Rattle.site_model.specs.declared.entry.Entry.{Entry}
use Rattle.site_model.specs.declared.event.Event.{Event}
use Rattle.site_model.specs.declared.event.Event.TheVariants as event
use Rattle.site_model.specs.declared.sight.Sight.{Sight}
use Rattle.log_text.specs.EntryTwo.{FitsEntry, FitsEvent, FitsOutcome}
use Rattle.run_meaning.specs.Acts.{Act, Rules, Seen, draft_of, entry_of}
use Rattle.run_meaning.specs.Dealing.{Taken, dealt, dealt_to, goes_to, line_events, lines_to, ordered_result, taken_reports, ticks}
use Rattle.run_meaning.specs.Downtimes.{is_live}
use Rattle.run_meaning.specs.Rounds.{IsMade, all_seen, behind, entries_by, events_on}
use Rattle.run_meaning.specs.Runs.{Basis, IsTurn, Stage, TurnLog, reports_of}
use Rattle.run_meaning.specs.Turns.{Asked, from_on, of_index}
use Rattle.run_meaning.specs.View.{attempt_at, problems}
use Rattle.run_meaning.proofs.Lists.{length_from_on, length_map, of_index_each, within}
use Rattle.run_text.specs.TurnReading.{lines_read, turn_read}
use Rattle.turn_engine.specs.Stages.{basis_of_site}
use Rattle.audit_laws.specs.Askable.{IsDuration, IsInRange}
use Rattle.audit_laws.specs.Names.{IsWellNamed}
use Rattle.audit_laws.proofs.AskedLines.{all_asked, all_at, all_ticks, Askable, IsTickBelow}
use Rattle.audit_laws.proofs.DecidedNumbers.{decisions_fit}
use Rattle.audit_laws.proofs.EventFacts.{all_imply, all_kept, taken_facts, IsTaken}
use Rattle.audit_laws.proofs.OutputTexts.{output_text, perf_text}
use Rattle.audit_laws.proofs.Printing.{all_from, taken_many}

pub all_behind : {A : Type 0} (P : A → Type 0) (xs ys : List A) → AllByRecursion P xs → AllByRecursion P ys → AllByRecursion P (xs ++ ys)
all_behind P [] ys h g = g
all_behind P (x ∷ xs) ys h g = (h.0, all_behind P xs ys h.1 g)

pub onto : {A B : Type 0} (f : A → B) (P : B → Type 0) (xs : List A) → AllByRecursion (λ a. P (f a)) xs → AllByRecursion P (map f xs)
onto f P [] h = tt
onto f P (x ∷ xs) h = (h.0, onto f P xs h.1)

-- ---- events

lasting : (fixed : Bool) (duration : ℕ) → IsDuration fixed duration → duration < 2 ^ 64
lasting true duration h = omega (arith, h)
lasting false duration h = let le = h.1 in omega (arith, le)

range_fits : (host : Option ℕ) (e : Event) → IsInRange host e → FitsEvent e
range_fits host (event.Result status passive output perf) h = (subst IsUtf8 h.2.output_is (output_text h.2.bytes 0), subst IsUtf8 h.2.perf_is (perf_text h.2.bytes 0))
range_fits host event.Tick h = tt
range_fits host (event.Ack sticky notify) h = tt
range_fits host event.Unack h = tt
range_fits host (event.Down start finish fixed duration) h = let lt = h.0 in let le = h.1 in (omega (arith, lt, le), le, lasting fixed duration h.2)
range_fits host (event.Undown number) h = omega (arith, h)
range_fits host (event.Checks on) h = tt
range_fits host (event.Notes on) h = tt
range_fits host (event.Check moment forced) h = h

abbrev FitsAsked : Asked → Type 0
FitsAsked a = FitsEvent a.event

abbrev taken_event : Taken → Asked
taken_event t = t.asked

result_fits : (status : ℕ) (output : List ℕ) → FitsEvent (ordered_result status output)
result_fits status output = (output_text output status, perf_text output status)

on_one : (c : ℕ) (as' : List Asked) → AllByRecursion FitsAsked as' → AllByRecursion FitsEvent (events_on c as')
on_one c [] h = tt
on_one c (a ∷ as') h = by (nat_eq a.checkable c) (on_one c as' h.1)
  where
    by : (t : Bool) → AllByRecursion FitsEvent (events_on c as') → AllByRecursion FitsEvent (cond t (a.event ∷ events_on c as') (events_on c as'))
    by true rest = (h.0, rest)
    by false rest = rest

lines_fit : (k : ℕ) (lines : List Asked) → AllByRecursion FitsAsked lines → AllByRecursion FitsAsked (lines_to k lines)
lines_fit zero lines h = h
lines_fit (suc k) lines h = tt

-- the event of an entry is one of its caller's
of_caller : (k : ℕ) (es : List Entry) → AllByRecursion FitsEvent (map (λ e. e.event) (entries_by k es)) → (i : ℕ) (e : Entry) → slice_get es i ≡ Some e → nat_eq e.caller k ≡ true → FitsEvent e.event
of_caller k [] fit i e at mine = absurd cc
of_caller k (x ∷ xs) fit i e at mine = by (nat_eq x.caller k) refl fit i at (λ rest j there. of_caller k xs rest j e there mine)
  where
    by : (t : Bool) → nat_eq x.caller k ≡ t → AllByRecursion FitsEvent (map (λ (y : Entry). y.event) (cond t (x ∷ entries_by k xs) (entries_by k xs))) → (j : ℕ) → slice_get (x ∷ xs) j ≡ Some e
        → (AllByRecursion FitsEvent (map (λ (y : Entry). y.event) (entries_by k xs)) → (n : ℕ) → slice_get xs n ≡ Some e → FitsEvent e.event) → FitsEvent e.event
    by true same these zero here rest = let is : x ≡ e = cc in subst (λ (y : Entry). FitsEvent y.event) is these.0
    by true same these (suc j) there rest = rest these.1 j there
    by false same these zero here rest =
        let is : x ≡ e = cc in
        let no : false ≡ true = sym same ∙ ap (λ (y : Entry). nat_eq y.caller k) is ∙ mine in
        absurd cc
    by false same these (suc j) there rest = rest these j there

-- ---- attempts

attempt_low : (c : PlainCheck) (n : ℕ) → c.max < 2 ^ 32 → attempt_at c n < 2 ^ 32
attempt_low c n lt = by (n == 0)
  where
    by : (t : Bool) → cond t 1 (min n c.max) < 2 ^ 32
    by true = omega arith
    by false = omega (arith, lt)

made_low : (r : Rules) (k : ℕ) (c : PlainCheck) (history : List Entry) (seen : List Seen) (a : Act) → c.max < 2 ^ 32 → (entry_of r k c history seen a).attempt < 2 ^ 32
made_low r k c history seen a lt = attempt_low c (problems c (reverse (history ++ _ ∷ []))) lt

-- ---- a turn

module _ (s : PlainSite) (zone : Option Tzif) (callers : ℕ) (most : callers ≤ 2 ^ 32) (w : IsWellNamed s) (attempts : AllByRecursion (λ c. c.max < 2 ^ 32) s.checkables) (st : Stage) (t : Turn) (l : TurnLog) (is : IsTurn (basis_of_site s zone) callers st (turn_read s t) l) (moment : l.moment ≤ 99999999999) (room : (c : ℕ) → length (behind st.histories l.round c) < 2 ^ 64) where
  abbrev b : Basis
  b = basis_of_site s zone

  abbrev lines : List Asked
  lines = line_events (lines_read s t.lines)

  abbrev taken : List Taken
  taken = taken_reports st.plans.outstanding (reports_of st (turn_read s t))

  abbrev late : List Asked
  late = ticks s st.histories l.moment

  abbrev all : List (List Asked)
  all = dealt callers lines taken late

  each_fits : (k : ℕ) → AllByRecursion FitsAsked (dealt_to callers lines taken late k)
  each_fits k =
      let mine : Taken → Bool = λ u. goes_to callers k u.order in
      let to_it : Asked → Bool = λ a. goes_to callers k a.checkable in
      all_behind FitsAsked (lines_to k lines) (map taken_event (filter mine taken) ++ filter to_it late)
      (lines_fit k lines (all_imply (Askable s) FitsAsked (λ a can. range_fits can.check.host a.event can.range) lines (all_asked s w t.lines)))
      (all_behind FitsAsked (map taken_event (filter mine taken)) (filter to_it late)
      (onto taken_event FitsAsked (filter mine taken) (all_kept (λ u. FitsAsked (taken_event u)) mine taken (all_imply (IsTaken st.plans.outstanding (reports_of st (turn_read s t))) (λ u. FitsAsked (taken_event u)) (λ u h. subst FitsEvent (sym h.event) (result_fits h.status h.output)) taken (taken_facts st.plans.outstanding (reports_of st (turn_read s t))))))
      (all_kept FitsAsked to_it late (all_imply (IsTickBelow (length s.checkables)) FitsAsked (λ a h. subst FitsEvent (sym h.0) tt) late (all_ticks (length s.checkables) 0 s.checkables st.histories l.moment (omega arith)))))

  many_dealt : length all ≡ callers
  many_dealt = length_map (dealt_to callers lines taken late) (from_on 0 callers) ∙ length_from_on 0 callers

  event_fits : (c i : ℕ) (e : Entry) → slice_get (of_index c l.round) i ≡ Some e → FitsEvent e.event
  event_fits c i e at =
      let lt = is.round.callers c i e at in
      let low : e.caller < callers = subst (λ n. e.caller < n) many_dealt lt in
      let z : 0 + e.caller ≡ e.caller = omega arith in
      let same : of_index e.caller all ≡ dealt_to callers lines taken late e.caller = of_index_each (dealt_to callers lines taken late) 0 callers e.caller low ∙ ap (dealt_to callers lines taken late) z in
      of_caller e.caller (of_index c l.round)
      (subst (AllByRecursion FitsEvent) (sym (is.round.taken e.caller c lt)) (on_one c (of_index e.caller all) (subst (AllByRecursion FitsAsked) (sym same) (each_fits e.caller))))
      i e at (eq-eqb e.caller e.caller refl)

  entry_fits : (c i : ℕ) (e : Entry) → slice_get (of_index c l.round) i ≡ Some e → FitsEntry e
  entry_fits c i e at = record {
    caller = (let lt = is.round.callers c i e at in let d = many_dealt in omega (arith, lt, d, most));
    number = number_low;
    moment = (let m = ap (λ (x : Entry). x.moment) made.made in omega (arith, m, moment));
    event = event_fits c i e at;
    attempt = (let a = ap (λ (x : Entry). x.attempt) made.made in let lt = made_low b.rules c made.check history seen act (all_at (λ (p : PlainCheck). p.max < 2 ^ 32) s.checkables c made.check attempts made.is) in omega (arith, a, lt));
    sights = all_from (λ (x : Sight). x.count < 2 ^ 64) e.sights (λ j x there. let le = (is.round.seen c i j e x at there).1 in let lt = room x.checkable in omega (arith, le, lt));
    decisions = subst (λ (x : Entry). AllByRecursion (λ d. FitsOutcome d.outcome) x.decisions) (sym made.made) (decisions_fit s (holds_in s zone) c made.check history (draft_of is_live made.check history act) seen low);
  }
    where
      history : List Entry
      history = of_index c st.histories ++ take i (of_index c l.round)

      made : IsMade b.rules l.moment (behind st.histories l.round) c history e
      made = is.round.made c i e at

      act : Act
      act = record { caller = e.caller; moment = l.moment; event = e.event; sights = e.sights }

      seen : List Seen
      seen = all_seen s (behind st.histories l.round) e.sights

      many : length history + 1 ≤ length (behind st.histories l.round c)
      many =
          let a = length-append (of_index c st.histories) (take i (of_index c l.round)) in
          let d = length-append (of_index c st.histories) (of_index c l.round) in
          let lt = within (of_index c l.round) i e at in
          let k = taken_many i (of_index c l.round) (omega (arith, lt)) in
          omega (arith, a, d, lt, k)

      number_low : e.number < 2 ^ 64
      number_low = let n : e.number ≡ length history + 1 = ap (λ (x : Entry). x.number) made.made in let le = many in let lt = room c in omega (arith, n, le, lt)

      low : 1 + length (history ++ draft_of is_live made.check history act ∷ []) ≤ 2 ^ 64
      low = let a = length-append history (draft_of is_live made.check history act ∷ []) in let le = many in let lt = room c in omega (arith, a, le, lt)

  pub entries_fit : (c : ℕ) → AllByRecursion FitsEntry (of_index c l.round)
  entries_fit c = all_from FitsEntry (of_index c l.round) (entry_fits c)
