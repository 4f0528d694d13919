-- All that a turn names is the site's, so that it can be printed.
use Rattle.std.proofs.Common.{◌≡◌, ◌<◌, ◌≤◌, ◌+◌, ◌^◌, ℕ, zero, suc, List, [], ◌∷◌, ◌++◌, All, length, slice_get, take, Option, Some, refl, sym, ap, ◌∙◌, subst, arith, eq-eqb}
use Rattle.std.proofs.lemmas.List.{append-nil, length-append}
use Rattle.std.proofs.lemmas.List.Elements.{All-weaker}
use Rattle.std.proofs.lemmas.Option.{slice_get_within}
use Rattle.std.specs.List.{AllByRecursion}
use Rattle.jiff_tz.specs.declared.tzif.Tzif.{Tzif}
use Rattle.checkable_core.specs.Histories.{DecidesOwn, NamesOwn}
use Rattle.checkable_core.proofs.Own.{all_parts, ancestors_own, decisions_own}
use Rattle.depend_graph.specs.Outlooks.{holds_in}
use Rattle.run_meaning.specs.Acts.{Act, draft_of}
use Rattle.run_meaning.specs.Dealing.{dealt, dealt_to, line_events, taken_reports, ticks}
use Rattle.run_meaning.specs.Downtimes.{is_live}
use Rattle.run_meaning.specs.Rounds.{all_seen, behind}
use Rattle.run_meaning.specs.Runs.{IsTurn, Stage, TurnLog, joined, reports_of}
use Rattle.run_meaning.specs.Turns.{Histories, from_on, of_index}
use Rattle.run_meaning.proofs.Lists.{get_within, length_from_on, length_map}
use Rattle.site_edge.specs.declared.turn.Turn.{Turn}
use Rattle.site_model.specs.PlainSite.{PlainSite}
use Rattle.site_model.specs.Sound.{IsIndex, IsSound}
use Rattle.site_model.specs.declared.entry.Entry.{Entry}
use Rattle.site_model.specs.declared.outcome.Outcome.{Outcome}
use Rattle.site_model.specs.declared.outcome.Outcome.TheVariants as outcome
use Rattle.site_model.specs.declared.sight.Sight.{Sight}
use Rattle.site_text.specs.Entries.{IsDecisionOf, IsInForm, IsOutcomeOf, IsPrintable}
use Rattle.log_text.specs.EntryTwo.{FitsEntry}
use Rattle.run_text.specs.TurnReading.{lines_read, turn_read}
use Rattle.turn_engine.specs.Stages.{basis_of_site}
use Rattle.engine_log.proofs.EventForms.{dealt_in_form, of_caller, on_one}

-- ---- entries

named : (s : PlainSite) (o : Outcome) → NamesOwn s o → IsOutcomeOf s o
named s (outcome.Sent users) h = h
named s (outcome.Dependency depend) h = h
named s (outcome.Host host) h = h
named s outcome.Disabled h = tt
named s (outcome.Downtime number) h = tt
named s outcome.Flapping h = tt
named s outcome.Acknowledged h = tt
named s outcome.Period h = tt
named s outcome.Kind h = tt
named s outcome.State h = tt
named s outcome.TooEarly h = tt
named s outcome.TooLate h = tt
named s outcome.Repeat h = tt
named s outcome.NoUsers h = tt

pub all_from : {A : Type 0} (P : A → Type 0) (xs : List A) → ((i : ℕ) (x : A) → slice_get xs i ≡ Some x → P x) → AllByRecursion P xs
all_from P [] h = tt
all_from P (x ∷ xs) h = (h 0 x refl, all_from P xs (λ i. h (suc i)))

all_at : {A : Type 0} (P : A → Type 0) (xs : List A) (i : ℕ) (x : A) → AllByRecursion P xs → slice_get xs i ≡ Some x → P x
all_at P [] i x h e = absurd cc
all_at P (y ∷ xs) zero x h e = let same : y ≡ x = cc in subst P same h.0
all_at P (y ∷ xs) (suc i) x h e = all_at P xs i x h.1 e

pub taken_many : {A : Type 0} (n : ℕ) (xs : List A) → n ≤ length xs → length (take n xs) ≡ n
taken_many zero xs le = refl
taken_many (suc n) [] le = absurd (omega (arith, le))
taken_many (suc n) (x ∷ xs) le = ap suc (taken_many n xs (omega (arith, le)))

pub joined_at : (before round : Histories) (c : ℕ) → of_index c (joined before round) ≡ of_index c before ++ of_index c round
joined_at [] round c = refl
joined_at (es ∷ before) [] c = sym (append-nil (of_index c (es ∷ before)))
joined_at (es ∷ before) (fs ∷ round) zero = refl
joined_at (es ∷ before) (fs ∷ round) (suc c) = joined_at before round c

module _ (s : PlainSite) (zone : Option Tzif) (callers : ℕ) (st : Stage) (turn : Turn) (l : TurnLog) (is : IsTurn (basis_of_site s zone) callers st (turn_read s turn) l) where
  in_form : (c i : ℕ) (e : Entry) → slice_get (of_index c l.round) i ≡ Some e → IsInForm e.event
  in_form c i e at =
      let t = turn_read s turn in
      let lines = line_events (lines_read s turn.lines) in
      let reports = taken_reports st.plans.outstanding (reports_of st t) in
      let late = ticks s st.histories l.moment in
      let lt = is.round.callers c i e at in
      let many : length (dealt callers lines reports late) ≡ callers = length_map (dealt_to callers lines reports late) (from_on 0 callers) ∙ length_from_on 0 callers in
      let all = on_one c _ (dealt_in_form s turn.lines st.plans.outstanding (reports_of st t) st.histories l.moment callers e.caller (subst (λ n. e.caller < n) many lt)) in
      of_caller e.caller (of_index c l.round) (subst (All IsInForm) (sym (is.round.taken e.caller c lt)) all) i e at (eq-eqb e.caller e.caller refl)

  printable : IsSound s → (c i : ℕ) (e : Entry) → slice_get (of_index c l.round) i ≡ Some e → IsPrintable s c e
  printable sound c i e at =
      let m = is.round.made c i e at in
      let history = of_index c st.histories ++ take i (of_index c l.round) in
      let act : Act = record { caller = e.caller; moment = l.moment; event = e.event; sights = e.sights } in
      let seen = all_seen s (behind st.histories l.round) e.sights in
      record {
        own = slice_get_within s.checkables c m.check m.is;
        in_form = in_form c i e at;
        seen = all_parts (IsIndex (length s.checkables)) (λ (x : Sight). x.checkable) e.sights (subst (All (IsIndex (length s.checkables))) (sym (is.round.ancestors c i e at)) (ancestors_own s c));
        decided =
            All-weaker (DecidesOwn s) (IsDecisionOf s) (λ d own. record { notification = own.notification; named = named s d.outcome own.outcome }) e.decisions
            (subst (λ (x : Entry). All (DecidesOwn s) x.decisions) (sym m.made) (decisions_own s (holds_in s zone) c m.check history (draft_of is_live m.check history act) seen sound));
      }

  pub all_printable : IsSound s → (c : ℕ) → AllByRecursion (IsPrintable s c) (of_index c l.round)
  all_printable sound c = all_from (IsPrintable s c) (of_index c l.round) (printable sound c)

  -- where its numbers have their bits, there is room for a checkable's entries
  pub roomy : ((k : ℕ) → AllByRecursion FitsEntry (of_index k l.round)) → ((c : ℕ) → length (of_index c st.histories) < 2 ^ 64) → (c : ℕ) → length (behind st.histories l.round c) < 2 ^ 64
  roomy fits room c = by (length (of_index c l.round)) refl
    where
      both : length (behind st.histories l.round c) ≡ length (of_index c st.histories) + length (of_index c l.round)
      both = length-append (of_index c st.histories) (of_index c l.round)

      by : (n : ℕ) → length (of_index c l.round) ≡ n → length (behind st.histories l.round c) < 2 ^ 64
      by zero e = let r = room c in let d = both in omega (arith, r, d, e)
      by (suc n) e =
          let (last, at) = get_within (of_index c l.round) n (omega (arith, e)) in
          let m = is.round.made c n last at in
          let number : last.number ≡ length (of_index c st.histories ++ take n (of_index c l.round)) + 1 = ap (λ (x : Entry). x.number) m.made in
          let a = length-append (of_index c st.histories) (take n (of_index c l.round)) in
          let t = taken_many n (of_index c l.round) (omega (arith, e)) in
          let f = (all_at FitsEntry (of_index c l.round) n last (fits c) at).number in
          let d = both in
          omega (arith, number, a, t, f, d, e)
