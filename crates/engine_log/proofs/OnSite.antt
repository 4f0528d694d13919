-- All that a turn names is the site's.
use Rattle.std.proofs.Common.{◌≡◌, ◌<◌, ◌+◌, ℕ, zero, suc, nat_eq, nat_lt, Bool, true, false, cond, List, [], ◌∷◌, ◌++◌, All, length, map, slice_get, take, Option, Some, None, refl, sym, ◌∙◌, subst, arith, eq-eqb}
use Rattle.std.proofs.lemmas.List.Elements.{All-cons, All-nil, All-push, All-weaker}
use Rattle.std.proofs.lemmas.Option.{slice_get_within}
use Rattle.jiff_tz.specs.declared.tzif.Tzif.{Tzif}
use Rattle.checkable_core.specs.Histories.{DecidesOwn, NamesOwn}
use Rattle.checkable_core.proofs.Own.{all_parts, ancestors_own, decisions_own}
use Rattle.depend_graph.specs.Outlooks.{holds_in}
use Rattle.run_meaning.specs.Acts.{Act, draft_of}
use Rattle.run_meaning.specs.Dealing.{dealt, dealt_to, line_events, taken_reports, ticks}
use Rattle.run_meaning.specs.Downtimes.{is_live}
use Rattle.run_meaning.specs.Reachability.{Outlook}
use Rattle.run_meaning.specs.Rounds.{all_seen, behind}
use Rattle.run_meaning.specs.Runs.{Basis, IsTurn, Stage, TurnLog, reports_of}
use Rattle.run_meaning.specs.Schedule.{Due, Walk, due_from, gets_order, ordering, outlook_after, skipping, walk_from, walk_over, walk_with, watches_after}
use Rattle.run_meaning.specs.Turns.{Command, Histories, Ordered, from_on, of_index}
use Rattle.run_meaning.proofs.Lists.{length_from_on, length_map}
use Rattle.site_edge.specs.declared.turn.Turn.{Turn}
use Rattle.site_model.specs.PlainSite.{PlainCheck, PlainSite}
use Rattle.site_model.specs.Sound.{IsIndex, IsSound}
use Rattle.site_model.specs.declared.decision.Decision.{Decision}
use Rattle.site_model.specs.declared.entry.Entry.{Entry}
use Rattle.site_model.specs.declared.outcome.Outcome.{Outcome}
use Rattle.site_model.specs.declared.outcome.Outcome.TheVariants as outcome
use Rattle.site_model.specs.declared.sight.Sight.{Sight}
use Rattle.site_posts.specs.Segments.{segments_from}
use Rattle.site_posts.specs.declared.segment.Segment.{Segment}
use Rattle.run_text.specs.TurnReading.{lines_read, turn_read}
use Rattle.site_text.specs.Entries.{IsDecisionOf, IsInForm, IsOutcomeOf, IsPrintable}
use Rattle.turn_engine.specs.Orders.{command_of, order_as}
use Rattle.turn_engine.specs.Stages.{basis_of_site}
use Rattle.turn_engine.specs.declared.turn_out.TurnOut.{TurnOut}
use Rattle.engine_log.specs.OnSite.{IsTurnOf}
use Rattle.engine_log.proofs.EventForms.{dealt_in_form, of_caller, on_one}

-- Orders.

abbrev AreWithin : ℕ → List Ordered → Type 0
AreWithin n os = All (λ o. o.checkable < n) os

stepped : (command : ℕ → Command) (o : Outlook) (d : Due) (c : Option PlainCheck) (w : Walk) → slice_get o.site.checkables d.checkable ≡ c → AreWithin (length o.site.checkables) w.orders → AreWithin (length o.site.checkables) (walk_with command o d c w).orders
stepped command o d None w at all = all
stepped command o d (Some c) w at all = by (gets_order o d c w)
  where
    by : (b : Bool) → AreWithin (length o.site.checkables) (cond b (ordering command d.checkable w) (skipping c d.checkable o.moment w)).orders
    by true = All-push (λ (x : Ordered). x.checkable < length o.site.checkables) w.orders _ all (slice_get_within o.site.checkables d.checkable c at)
    by false = all

walked : (command : ℕ → Command) (o : Outlook) (ds : List Due) (w : Walk) → AreWithin (length o.site.checkables) w.orders → AreWithin (length o.site.checkables) (walk_over command o ds w).orders
walked command o [] w all = all
walked command o (d ∷ ds) w all =
    let next : Walk = walk_with command o d (slice_get o.site.checkables d.checkable) w in
    let rest : AreWithin (length o.site.checkables) (walk_over command o ds next).orders = walked command o ds next (stepped command o d (slice_get o.site.checkables d.checkable) w refl all) in
    elim (nat_lt w.outstanding o.site.max_orders) as (λ b. AreWithin (length o.site.checkables) (cond b (walk_over command o ds next) w).orders) [ true ↦ rest | false ↦ all ]

-- Decisions.

named : (s : PlainSite) (o : Outcome) → NamesOwn s o → IsOutcomeOf s o
named s (outcome.Sent users) h = h
named s (outcome.Dependency depend) h = h
named s (outcome.Host host) h = h
named s outcome.Disabled h = tt
named s (outcome.Downtime number) h = tt
named s outcome.Flapping h = tt
named s outcome.Acknowledged h = tt
named s outcome.Period h = tt
named s outcome.Kind h = tt
named s outcome.State h = tt
named s outcome.TooEarly h = tt
named s outcome.TooLate h = tt
named s outcome.Repeat h = tt
named s outcome.NoUsers h = tt

all_decided : (s : PlainSite) (ds : List Decision) → All (DecidesOwn s) ds → All (IsDecisionOf s) ds
all_decided s ds h = All-weaker (DecidesOwn s) (IsDecisionOf s) (λ d own. record { notification = own.notification; named = named s d.outcome own.outcome }) ds h

-- Entries.

each : {X : Type 0} (P : X → Type 0) (xs : List X) → ((i : ℕ) (x : X) → slice_get xs i ≡ Some x → P x) → All P xs
each P [] h = All-nil P
each P (x ∷ xs) h = All-cons P x xs (h zero x refl) (each P xs (λ i. h (suc i)))

abbrev ArePrintable : PlainSite → List Segment → Type 0
ArePrintable s xs = All (λ x. All (IsPrintable s x.checkable) x.entries) xs

segments_printable : (s : PlainSite) (k : ℕ) (round : Histories) → ((j i : ℕ) (e : Entry) → slice_get (of_index j round) i ≡ Some e → IsPrintable s (k + j) e) → ArePrintable s (segments_from k round)
segments_printable s k [] h = All-nil (λ (x : Segment). All (IsPrintable s x.checkable) x.entries)
segments_printable s k ([] ∷ round) h =
    segments_printable s (suc k) round (λ j i e at. let n : k + suc j ≡ suc k + j = omega arith in subst (λ m. IsPrintable s m e) n (h (suc j) i e at))
segments_printable s k ((f ∷ fs) ∷ round) h =
    All-cons (λ (x : Segment). All (IsPrintable s x.checkable) x.entries) (record { checkable = k; entries = f ∷ fs }) (segments_from (suc k) round)
    (each (IsPrintable s k) (f ∷ fs) (λ i e at. let n : k + 0 ≡ k = omega arith in subst (λ m. IsPrintable s m e) n (h zero i e at)))
    (segments_printable s (suc k) round (λ j i e at. let n : k + suc j ≡ suc k + j = omega arith in subst (λ m. IsPrintable s m e) n (h (suc j) i e at)))

module _ (s : PlainSite) (zone : Option Tzif) (callers : ℕ) (st : Stage) (turn : Turn) (l : TurnLog) (is : IsTurn (basis_of_site s zone) callers st (turn_read s turn) l) (sound : IsSound s) where
  abbrev b : Basis
  b = basis_of_site s zone

  in_form : (c i : ℕ) (e : Entry) → slice_get (of_index c l.round) i ≡ Some e → IsInForm e.event
  in_form c i e at =
      let t = turn_read s turn in
      let lines = line_events (lines_read s turn.lines) in
      let reports = taken_reports st.plans.outstanding (reports_of st t) in
      let late = ticks s st.histories l.moment in
      let lt = is.round.callers c i e at in
      let many : length (dealt callers lines reports late) ≡ callers = length_map (dealt_to callers lines reports late) (from_on 0 callers) ∙ length_from_on 0 callers in
      let all = on_one c _ (dealt_in_form s turn.lines st.plans.outstanding (reports_of st t) st.histories l.moment callers e.caller (subst (λ n. e.caller < n) many lt)) in
      of_caller e.caller (of_index c l.round) (subst (All IsInForm) (sym (is.round.taken e.caller c lt)) all) i e at (eq-eqb e.caller e.caller refl)

  printable : (c i : ℕ) (e : Entry) → slice_get (of_index c l.round) i ≡ Some e → IsPrintable s c e
  printable c i e at =
      let m = is.round.made c i e at in
      let history = of_index c st.histories ++ take i (of_index c l.round) in
      let act : Act = record { caller = e.caller; moment = l.moment; event = e.event; sights = e.sights } in
      let seen = all_seen s (behind st.histories l.round) e.sights in
      record {
        own = slice_get_within s.checkables c m.check m.is;
        in_form = in_form c i e at;
        seen = all_parts (IsIndex (length s.checkables)) (λ (x : Sight). x.checkable) e.sights (subst (All (IsIndex (length s.checkables))) (sym (is.round.ancestors c i e at)) (ancestors_own s c));
        decided =
            all_decided s e.decisions
            (subst (λ (x : Entry). All (DecidesOwn s) x.decisions) (sym m.made) (decisions_own s (holds_in s zone) c m.check history (draft_of is_live m.check history act) seen sound));
      }

  round_printable : ArePrintable s (segments_from 0 l.round)
  round_printable = segments_printable s 0 l.round (λ j i e at. let n : j ≡ 0 + j = omega arith in subst (λ m. IsPrintable s m e) n (printable j i e at))

  orders_within : AreWithin (length s.checkables) l.orders
  orders_within =
      let o = outlook_after s (holds_in s zone) l.moment st.histories l.round in
      let watches = watches_after s st.plans st.histories l.round in
      subst (AreWithin (length s.checkables)) (sym is.orders)
      (walked (command_of s) o (due_from l.moment 0 watches) (walk_from st.plans watches) (All-nil (λ (x : Ordered). x.checkable < length s.checkables)))

-- the entries of a turn can be printed
pub entries_are : (s : PlainSite) (out : TurnOut) → IsSound s → IsTurnOf s out → ArePrintable s out.segments
entries_are s out sound t = subst (ArePrintable s) (sym t.tells.entries) (round_printable s t.zone t.callers t.stage t.turn t.log t.is sound)

-- and its orders are of checkables of the site
pub orders_are : (s : PlainSite) (out : TurnOut) → IsSound s → IsTurnOf s out → All (λ o. o.checkable < length s.checkables) out.orders.items
orders_are s out sound t =
    all_parts (λ (x : Ordered). x.checkable < length s.checkables) order_as out.orders.items
    (subst (AreWithin (length s.checkables)) (sym t.tells.ordered) (orders_within s t.zone t.callers t.stage t.turn t.log t.is sound))
