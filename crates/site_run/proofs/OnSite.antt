-- All that the turns of a run give is on checkables of the site.
use Rattle.std.proofs.Common.{◌≡◌, ◌<◌, ◌≤◌, ◌+◌, ◌⊎◌, inl, inr, ℕ, zero, suc, nat_lt, max, Bool, true, false, cond, List, [], ◌∷◌, ◌++◌, All, filter, length, map, slice_get, Option, Some, None, refl, sym, ap, ◌∙◌, subst, arith}
use Rattle.std.proofs.lemmas.Bool.{cases_lt}
use Rattle.std.proofs.lemmas.List.Elements.{All-head, All-nil, All-push, All-tail}
use Rattle.std.proofs.lemmas.List.{map-append}
use Rattle.std.proofs.lemmas.Option.{slice_get_within}
use Rattle.event_text.specs.Reading.{line_read}
use Rattle.depend_graph.specs.Outlooks.{holds_in}
use Rattle.jiff_tz.specs.declared.tzif.Tzif.{Tzif}
use Rattle.run_meaning.specs.Alone.{AreOnSite, IsOnSite, all_events, one_by_one, round_of, run_alone, turn_alone}
use Rattle.run_meaning.specs.Dealing.{Taken, dealt, dealt_to, goes_to, line_events, lines_to, still, taken_reports, ticks}
use Rattle.run_meaning.specs.Reachability.{Outlook}
use Rattle.run_meaning.specs.Runs.{Basis, IsRun, IsRunFrom, IsTurn, Stage, TurnLog, events_of, planned_of, refusals_of, reports_of, begun_by, lines_of, stage_after, stage_by, start}
use Rattle.run_meaning.specs.Schedule.{Due, Walk, due_from, gets_order, ordering, outlook_after, skipping, walk_from, walk_over, walk_with, watches_after}
use Rattle.run_meaning.specs.Turns.{Asked, Command, Histories, Ordered, Outstanding, from_on, of_index}
use Rattle.run_meaning.proofs.Counting.{AreWithin, within_still}
use Rattle.run_meaning.proofs.Lists.{get_map, get_of_map, length_from_on, length_map, of_index_each, of_index_past}
use Rattle.run_meaning.proofs.OneLog.{is_log}
use Rattle.run_meaning.proofs.Parts.{get_kept}
use Rattle.run_meaning.proofs.Shares.{one_after_another}
use Rattle.run_text.specs.TurnReading.{as_line, lines_read, turn_read}
use Rattle.site_edge.specs.declared.turn.Turn.{Turn}
use Rattle.site_model.specs.PlainSite.{PlainCheck, PlainSite}
use Rattle.turn_engine.specs.Orders.{command_of}
use Rattle.site_run.specs.Feeds.{Fed, basis_with}
use Rattle.turn_engine.proofs.OnSite.{both_on_site, lines_on_site, reports_on_site, ticks_on_site}

one_of : {A : Type 0} (x y : A) → Some x ≡ Some y → x ≡ y
one_of x y h = cc

-- Orders.

abbrev AreOrdersWithin : ℕ → List Ordered → Type 0
AreOrdersWithin n os = All (λ o. o.checkable < n) os

stepped : (command : ℕ → Command) (o : Outlook) (d : Due) (c : Option PlainCheck) (w : Walk) → slice_get o.site.checkables d.checkable ≡ c → AreOrdersWithin (length o.site.checkables) w.orders → AreOrdersWithin (length o.site.checkables) (walk_with command o d c w).orders
stepped command o d None w at all = all
stepped command o d (Some c) w at all = by (gets_order o d c w)
  where
    by : (b : Bool) → AreOrdersWithin (length o.site.checkables) (cond b (ordering command d.checkable w) (skipping c d.checkable o.moment w)).orders
    by true = All-push (λ (x : Ordered). x.checkable < length o.site.checkables) w.orders _ all (slice_get_within o.site.checkables d.checkable c at)
    by false = all

walked : (command : ℕ → Command) (o : Outlook) (ds : List Due) (w : Walk) → AreOrdersWithin (length o.site.checkables) w.orders → AreOrdersWithin (length o.site.checkables) (walk_over command o ds w).orders
walked command o [] w all = all
walked command o (d ∷ ds) w all =
    let next : Walk = walk_with command o d (slice_get o.site.checkables d.checkable) w in
    let rest : AreOrdersWithin (length o.site.checkables) (walk_over command o ds next).orders = walked command o ds next (stepped command o d (slice_get o.site.checkables d.checkable) w refl all) in
    elim (nat_lt w.outstanding o.site.max_orders) as (λ b. AreOrdersWithin (length o.site.checkables) (cond b (walk_over command o ds next) w).orders) [ true ↦ rest | false ↦ all ]

ordered_at : (n : ℕ) (os : List Ordered) → AreOrdersWithin n os → (i : ℕ) (o : Ordered) → slice_get os i ≡ Some o → o.checkable < n
ordered_at n [] all i o at = absurd cc
ordered_at n (x ∷ xs) all zero o at = subst (λ (y : Ordered). y.checkable < n) (one_of x o at) (All-head (λ (y : Ordered). y.checkable < n) x xs all)
ordered_at n (x ∷ xs) all (suc i) o at = ordered_at n xs (All-tail (λ (y : Ordered). y.checkable < n) x xs all) i o at

abbrev outstanding_of : Ordered → Outstanding
outstanding_of o = record { order = o.number; checkable = o.checkable }

new_within : (n : ℕ) (os : List Ordered) → AreOrdersWithin n os → AreWithin n (map outstanding_of os)
new_within n os all i o at =
    let (x, there, is) = get_map outstanding_of os i o at in
    subst (λ (y : Outstanding). y.checkable < n) is (ordered_at n os all i x there)

both_within : (n : ℕ) (os ps : List Outstanding) → AreWithin n os → AreWithin n ps → AreWithin n (os ++ ps)
both_within n [] ps p q i x at = q i x at
both_within n (o ∷ os) ps p q zero x at = p zero x at
both_within n (o ∷ os) ps p q (suc i) x at = both_within n os ps (λ j y there. p (suc j) y there) q i x at

-- Turns.

module _ (s : PlainSite) (zone : Option Tzif) (fed : Fed) where
  abbrev count : ℕ
  count = length s.checkables

  -- what its lines ask for, those that are fed and its own
  asked_on_site : (st : Stage) (t : Turn) (moment : ℕ) → AreOnSite s (line_events (lines_of (basis_with s zone fed) st (turn_read s t) moment))
  asked_on_site st t moment =
      let before = fed (begun_by st moment) in
      subst (λ ls. AreOnSite s (line_events ls)) (map-append (λ line. as_line (line_read s line)) before t.lines) (lines_on_site s (before ++ t.lines))

  events_on_site : (st : Stage) (t : Turn) (moment : ℕ) → AreWithin count st.plans.outstanding → AreOnSite s (all_events (basis_with s zone fed) st (turn_read s t) moment)
  events_on_site st t moment within =
      let os = st.plans.outstanding in
      let reports = reports_of st (turn_read s t) in
      both_on_site s (line_events (lines_of (basis_with s zone fed) st (turn_read s t) moment)) (map (λ (x : Taken). x.asked) (taken_reports os reports) ++ ticks s st.histories moment) (asked_on_site st t moment)
      (both_on_site s (map (λ (x : Taken). x.asked) (taken_reports os reports)) (ticks s st.histories moment) (reports_on_site s os reports within) (ticks_on_site s st.histories moment))

  -- whatever round it has, what a turn orders is on checkables of the site
  planned_within : (st : Stage) (moment : ℕ) (round : Histories) → AreOrdersWithin count (planned_of (basis_with s zone fed) st moment round).orders
  planned_within st moment round =
      let o = outlook_after s (holds_in s zone) moment st.histories round in
      let watches = watches_after s st.plans st.histories round in
      walked (command_of s) o (due_from moment 0 watches) (walk_from st.plans watches) (All-nil (λ (x : Ordered). x.checkable < count))

  -- and so is what is outstanding behind it
  within_after : (st : Stage) (t : Turn) (l : TurnLog) → AreOrdersWithin count l.orders → AreWithin count st.plans.outstanding → AreWithin count (stage_after (basis_with s zone fed) st (turn_read s t) l).plans.outstanding
  within_after st t l orders within =
      let reports = reports_of st (turn_read s t) in
      both_within count (still reports st.plans.outstanding) (map outstanding_of l.orders) (within_still count reports st.plans.outstanding within) (new_within count l.orders orders)

  turns_on_site : (ts : List Turn) (st : Stage) → AreWithin count st.plans.outstanding → IsOnSite (basis_with s zone fed) st (map (turn_read s) ts)
  turns_on_site [] st within = tt
  turns_on_site (t ∷ ts) st within =
      let read = turn_read s t in
      let l = turn_alone (basis_with s zone fed) st read in (
        events_on_site st t (max st.moment t.moment) within,
        turns_on_site ts (stage_after (basis_with s zone fed) st read l) (within_after st t l (planned_within st l.moment l.round) within),
      )

  -- Turns of several callers.

  module _ (callers : ℕ) where
    abbrev b : Basis
    b = basis_with s zone fed

    kept_on_site : (test : Asked → Bool) (xs : List Asked) → AreOnSite s xs → AreOnSite s (filter test xs)
    kept_on_site test xs p i a at = let (j, there, is) = get_kept test xs i a at in p j a there

    taken_on_site : (test : Taken → Bool) (xs : List Taken) → AreOnSite s (map (λ (x : Taken). x.asked) xs) → AreOnSite s (map (λ (x : Taken). x.asked) (filter test xs))
    taken_on_site test xs p i a at =
        let (x, kept, is) = get_map (λ (x : Taken). x.asked) (filter test xs) i a at in
        let (j, there, tested) = get_kept test xs i x kept in
        subst (λ (y : Asked). y.checkable < count) is (p j x.asked (get_of_map (λ (x : Taken). x.asked) xs j x there))

    own_lines : (k : ℕ) (xs : List Asked) → AreOnSite s xs → AreOnSite s (lines_to k xs)
    own_lines zero xs p = p
    own_lines (suc k) xs p = λ i a at. absurd cc

    -- what each takes is on checkables of the site
    dealt_on_site : (st : Stage) (t : Turn) (moment : ℕ) → AreWithin count st.plans.outstanding → (k : ℕ) → AreOnSite s (of_index k (events_of b callers st (turn_read s t) moment))
    dealt_on_site st t moment within k = by (cases_lt k callers)
      where
        os : List Outstanding
        os = st.plans.outstanding

        lines : List Asked
        lines = line_events (lines_of b st (turn_read s t) moment)

        reports : List Taken
        reports = taken_reports st.plans.outstanding (reports_of st (turn_read s t))

        looks : List Asked
        looks = ticks s st.histories moment

        each : AreOnSite s (dealt_to callers lines reports looks k)
        each =
            both_on_site s (lines_to k lines) (map (λ (x : Taken). x.asked) (filter (λ (x : Taken). goes_to callers k x.order) reports) ++ filter (λ (a : Asked). goes_to callers k a.checkable) looks)
            (own_lines k lines (asked_on_site st t moment))
            (both_on_site s (map (λ (x : Taken). x.asked) (filter (λ (x : Taken). goes_to callers k x.order) reports)) (filter (λ (a : Asked). goes_to callers k a.checkable) looks)
            (taken_on_site (λ (x : Taken). goes_to callers k x.order) reports (reports_on_site s st.plans.outstanding (reports_of st (turn_read s t)) within))
            (kept_on_site (λ (a : Asked). goes_to callers k a.checkable) looks (ticks_on_site s st.histories moment)))

        by : (k < callers) ⊎ (callers ≤ k) → AreOnSite s (of_index k (events_of b callers st (turn_read s t) moment))
        by (inl lt) =
            let same : k ≡ 0 + k = omega arith in
            subst (AreOnSite s) (sym (of_index_each (dealt_to callers lines reports looks) 0 callers k lt)) (subst (λ j. AreOnSite s (dealt_to callers lines reports looks j)) same each)
        by (inr le) =
            let many = length_map (dealt_to callers lines reports looks) (from_on 0 callers) ∙ length_from_on 0 callers in
            subst (AreOnSite s) (sym (of_index_past (dealt callers lines reports looks) k (omega (arith, many, le)))) (λ i a at. absurd cc)

    -- a log of a turn: of callers that act one after another
    abbrev some_log : Stage → Turn → TurnLog
    some_log st t =
        let moment = max st.moment t.moment in
        let round = round_of b.rules moment st.histories (one_by_one 0 (events_of b callers st (turn_read s t) moment)) in
        record {
          number = st.turns + 1;
          moment = moment;
          refusals = refusals_of b st (turn_read s t) moment;
          round = round;
          orders = (planned_of b st moment round).orders;
        }

    is_some : (st : Stage) (t : Turn) → AreWithin count st.plans.outstanding → IsTurn b callers st (turn_read s t) (some_log st t)
    is_some st t within =
        let moment = max st.moment t.moment in
        record {
          number = refl;
          moment = refl;
          refusals = refl;
          round = one_after_another b.rules moment st.histories (events_of b callers st (turn_read s t) moment) (dealt_on_site st t moment within);
          orders = refl;
        }

    -- turns have logs
    some_logs : (ts : List Turn) (st : Stage) → AreWithin count st.plans.outstanding → (ls : List TurnLog) × IsRunFrom b callers st (map (turn_read s) ts) ls
    some_logs [] st within = ([], refl)
    some_logs (t ∷ ts) st within =
        let l = some_log st t in
        let rest = some_logs ts (stage_after b st (turn_read s t) l) (within_after st t l (planned_within st l.moment l.round) within) in
        (l ∷ rest.0, (is_some st t within, rest.1))

    within_by : (ts : List Turn) (ls : List TurnLog) (st : Stage) → IsRunFrom b callers st (map (turn_read s) ts) ls → AreWithin count st.plans.outstanding → AreWithin count (stage_by b st (map (turn_read s) ts) ls).plans.outstanding
    within_by [] ls st run within = within
    within_by (t ∷ ts) [] st run within = within
    within_by (t ∷ ts) (l ∷ ls) st run within =
        within_by ts ls (stage_after b st (turn_read s t) l) run.1
        (within_after st t l (subst (AreOrdersWithin count) (sym run.0.orders) (planned_within st l.moment l.round)) within)

    -- and so have more of them, behind those that a run from its start has
    pub more_logs : (given : Histories) (done : List Turn) (ls : List TurnLog) → IsRunFrom b callers (start s given) (map (turn_read s) done) ls → (more : List Turn)
        → (rest : List TurnLog) × IsRunFrom b callers (stage_by b (start s given) (map (turn_read s) done) ls) (map (turn_read s) more) rest
    more_logs given done ls run more = some_logs more (stage_by b (start s given) (map (turn_read s) done) ls) (within_by done ls (start s given) run (λ i o at. absurd cc))

-- the logs that turns have one after the other are those of a run with one caller
pub runs_alone : (s : PlainSite) (zone : Option Tzif) (fed : Fed) (given : Histories) (ts : List Turn)
    → IsRun (basis_with s zone fed) 1 (start s given) (map (turn_read s) ts) (run_alone (basis_with s zone fed) (start s given) (map (turn_read s) ts))
runs_alone s zone fed given ts = is_log (basis_with s zone fed) (start s given) (map (turn_read s) ts) (turns_on_site s zone fed ts (start s given) (λ i o at. absurd cc))
