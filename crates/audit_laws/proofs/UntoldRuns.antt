-- Runs over turns that are the same but for the texts of results have one log in version one.
use Rattle.std.proofs.Common.{◌≡◌, ◌+◌, ℕ, zero, suc, max, min, Bool, true, false, cond, List, [], ◌∷◌, ◌++◌, length, map, slice_get, refl, sym, ap, ap₂, ◌∙◌, arith, Option, Some, None}
use Rattle.std.proofs.lemmas.List.{length-map, map-append}
use Rattle.std.specs.List.{concat, flat_map}
use Rattle.site_model.specs.PlainSite.{PlainCheck, PlainSite}
use Rattle.site_model.specs.declared.entry.Entry.{Entry}
use Rattle.site_model.specs.declared.event.Event.{Event}
use Rattle.site_model.specs.declared.event.Event.TheVariants as event
use Rattle.site_model.specs.declared.sight.Sight.{Sight}
use Rattle.site_text.specs.Entries.{entry_line}
use Rattle.log_text.specs.EntryTwo.{untold, without_texts}
use Rattle.log_text.specs.LogLines.{turn_line}
use Rattle.run_meaning.specs.Acts.{Act, entry_of}
use Rattle.run_meaning.specs.Alone.{Move, adding, all_events, alone, moves_of, next_entry, round_from, run_alone, sights_now, turn_alone, with_entry}
use Rattle.run_meaning.specs.Dealing.{Refusal, refused_line, refused_report, Taken, checkable_of, line_events, line_refusals, ordered_result, refusing, report_refusals, still, taken_reports, taking, ticks, ticks_from, wants_tick, without}
use Rattle.run_meaning.specs.Meaning.{basis_of, rules_of}
use Rattle.run_meaning.specs.Rounds.{all_seen, behind}
use Rattle.run_meaning.specs.Runs.{Basis, Stage, TurnLog, due_of, joined, no_entries, planned_of, reports_of, stage_after}
use Rattle.run_meaning.specs.Schedule.{schedule}
use Rattle.run_meaning.specs.Turns.{Asked, Command, Histories, Line, asking, faulty, Ordered, Outstanding, Planned, Plans, ReadTurn, Reported, Slot, of_index}
use Rattle.run_text.specs.LogText.{ordered_line, refusal_line, round_lines, turn_lines}
use Rattle.run_text.specs.TurnReading.{nothing_fed}
use Rattle.run_text.specs.declared.style.Style.TheVariants.{One}
use Rattle.audit_laws.specs.Alike.{AlikeReports, AlikeStages, AlikeTurns, AllAlike, WriteTheSame, untold_line, untold_report}
use Rattle.audit_laws.specs.Versions.{untold_act, untold_all, untold_asked}
use Rattle.audit_laws.proofs.Outputs.{empty_output, told_again}
use Rattle.audit_laws.proofs.UntoldEntries.{entries_same}
use Rattle.audit_laws.proofs.UntoldRounds.{all_seen_same, behind_same, lines_same, orders_same, ticks_same}
use Rattle.audit_laws.proofs.UntoldViews.{bare}

-- ---- lines

pub events_of_lines : (ls : List Line) → map untold_asked (line_events ls) ≡ line_events (map untold_line ls)
events_of_lines [] = refl
events_of_lines (asking a ∷ ls) = ap (λ xs. untold_asked a ∷ xs) (events_of_lines ls)
events_of_lines (faulty f ∷ ls) = events_of_lines ls

pub refusals_of_lines : (n : ℕ) (ls : List Line) → line_refusals n (map untold_line ls) ≡ line_refusals n ls
refusals_of_lines n [] = refl
refusals_of_lines n (asking a ∷ ls) = refusals_of_lines (n + 1) ls
refusals_of_lines n (faulty f ∷ ls) = ap (λ xs. refused_line n f ∷ xs) (refusals_of_lines (n + 1) ls)

-- ---- reports

pub untold_result : (status : ℕ) (output : List ℕ) → without_texts (ordered_result status output) ≡ ordered_result (min status 3) []
untold_result status output =
    sym (ap (λ r. event.Result r.status false r.output r.perf) (told_again empty_output.bytes [] [] (min status 3) empty_output.output_is empty_output.perf_is)
    ∙ ap (λ n. event.Result n false [] []) low)
  where
    low : min (min status 3) 3 ≡ min status 3
    low = omega arith

abbrev asked_in : Taken → Asked
asked_in x = x.asked

taken_same : (r : Reported) (o : Option ℕ) (xs ys : List Taken) → map untold_asked (map asked_in xs) ≡ map asked_in ys → map untold_asked (map asked_in (taking r o xs)) ≡ map asked_in (taking (untold_report r) o ys)
taken_same r None xs ys e = e
taken_same r (Some c) xs ys e = ap₂ (λ (x : Event) (zs : List Asked). record { checkable = c; event = x } ∷ zs) (untold_result r.status r.output) e

pub events_of_reports : (os : List Outstanding) (rs : List Reported) → map untold_asked (map asked_in (taken_reports os rs)) ≡ map asked_in (taken_reports os (map untold_report rs))
events_of_reports os [] = refl
events_of_reports os (r ∷ rs) = taken_same r (checkable_of r.order os) (taken_reports (without r.order os) rs) (taken_reports (without r.order os) (map untold_report rs)) (events_of_reports (without r.order os) rs)

refusing_same : (r : Reported) (o : Option ℕ) (xs ys : List Refusal) → xs ≡ ys → refusing (untold_report r) o xs ≡ refusing r o ys
refusing_same r None xs ys e = ap (λ zs. refused_report r.order ∷ zs) e
refusing_same r (Some c) xs ys e = e

pub refusals_of_reports : (os : List Outstanding) (rs : List Reported) → report_refusals os (map untold_report rs) ≡ report_refusals os rs
refusals_of_reports os [] = refl
refusals_of_reports os (r ∷ rs) = refusing_same r (checkable_of r.order os) (report_refusals (without r.order os) (map untold_report rs)) (report_refusals (without r.order os) rs) (refusals_of_reports (without r.order os) rs)

pub still_same : (rs : List Reported) (os : List Outstanding) → still (map untold_report rs) os ≡ still rs os
still_same [] os = refl
still_same (r ∷ rs) os = still_same rs (without r.order os)

-- ---- ticks

pub ticks_bare : (k : ℕ) (cs : List PlainCheck) (before : Histories) (moment : ℕ) → map untold_asked (ticks_from k cs before moment) ≡ ticks_from k cs before moment
ticks_bare k [] before moment = refl
ticks_bare k (c ∷ cs) before moment = by (wants_tick c (of_index k before) moment) (ticks_bare (suc k) cs before moment)
  where
    by : (t : Bool) → map untold_asked (ticks_from (suc k) cs before moment) ≡ ticks_from (suc k) cs before moment
        → map untold_asked (cond t (record { checkable = k; event = event.Tick } ∷ ticks_from (suc k) cs before moment) (ticks_from (suc k) cs before moment)) ≡ cond t (record { checkable = k; event = event.Tick } ∷ ticks_from (suc k) cs before moment) (ticks_from (suc k) cs before moment)
    by true ih = ap (λ xs. record { checkable = k; event = event.Tick } ∷ xs) ih
    by false ih = ih

-- ---- rounds of one caller

abbrev none : List Entry
none = []

abbrev sight_of : ℕ → ℕ → Sight
sight_of p n = record { checkable = p; count = n }

abbrev order_open : Ordered → Outstanding
order_open o = record { order = o.number; checkable = o.checkable }

with_same : (k : ℕ) (e : Entry) (round : Histories) → untold_all (with_entry k e round) ≡ with_entry k (untold e) (untold_all round)
with_same k e [] = refl
with_same zero e (es ∷ round) = ap (λ xs. xs ∷ untold_all round) (map-append untold es (e ∷ []))
with_same (suc k) e (es ∷ round) = ap (λ xss. bare es ∷ xss) (with_same k e round)

module _ (s : PlainSite) (holds : ℕ → ℕ → Bool) (moment : ℕ) where
  abbrev now : Histories → Histories → ℕ → List Entry
  now before round = behind before round

  sights_same : (before round : Histories) (c : ℕ) → sights_now (rules_of s holds) c (now (untold_all before) (untold_all round)) ≡ sights_now (rules_of s holds) c (now before round)
  sights_same before round c = over ((rules_of s holds).ancestors c)
    where
      over : (ps : List ℕ) → map (λ (p : ℕ). sight_of p (length (now (untold_all before) (untold_all round) p))) ps ≡ map (λ (p : ℕ). sight_of p (length (now before round p))) ps
      over [] = refl
      over (p ∷ ps) =
          ap₂ (λ (n : ℕ) xs. sight_of p n ∷ xs) (ap length (behind_same before round p) ∙ length-map (now before round p) untold) (over ps)

  next_same : (before round : Histories) (k c : ℕ) (check : PlainCheck) (e : Event)
      → next_entry (rules_of s holds) moment (now (untold_all before) (untold_all round)) k c check (without_texts e) ≡ untold (next_entry (rules_of s holds) moment (now before round) k c check e)
  next_same before round k c check e =
      ap (λ xs. entry_of (rules_of s holds) c check (now (untold_all before) (untold_all round) c) (all_seen s (now (untold_all before) (untold_all round)) xs) (record { caller = k; moment = moment; event = without_texts e; sights = xs })) (sights_same before round c)
      ∙ (ap₂ (λ es seen. entry_of (rules_of s holds) c check es seen (untold_act act)) (behind_same before round c) (all_seen_same s before round sights)
      ∙ entries_same s holds c check (now before round c) (all_seen s (now before round) sights) act)
    where
      sights : List Sight
      sights = sights_now (rules_of s holds) c (now before round)

      act : Act
      act = record { caller = k; moment = moment; event = e; sights = sights }

  abbrev untold_move : Move → Move
  untold_move m = record m { asked = untold_asked m.asked }

  adding_same : (before round : Histories) (m : Move) (o : Option PlainCheck) → adding (rules_of s holds) moment (untold_all before) (untold_all round) (untold_move m) o ≡ untold_all (adding (rules_of s holds) moment before round m o)
  adding_same before round m None = refl
  adding_same before round m (Some check) =
      ap (λ e. with_entry m.asked.checkable e (untold_all round)) (next_same before round m.caller m.asked.checkable check m.asked.event)
      ∙ sym (with_same m.asked.checkable (next_entry (rules_of s holds) moment (now before round) m.caller m.asked.checkable check m.asked.event) round)

  round_same : (before : Histories) (moves : List Move) (round : Histories) → round_from (rules_of s holds) moment (untold_all before) (map untold_move moves) (untold_all round) ≡ untold_all (round_from (rules_of s holds) moment before moves round)
  round_same before [] round = refl
  round_same before (m ∷ moves) round =
      ap (round_from (rules_of s holds) moment (untold_all before) (map untold_move moves)) (adding_same before round m (slice_get s.checkables m.asked.checkable))
      ∙ round_same before moves (adding (rules_of s holds) moment before round m (slice_get s.checkables m.asked.checkable))

  moves_same : (events : List Asked) → moves_of 0 (map untold_asked events) ≡ map untold_move (moves_of 0 events)
  moves_same [] = refl
  moves_same (a ∷ events) = ap (λ xs. untold_move (record { caller = 0; asked = a }) ∷ xs) (moves_same events)

  pub alone_same : (before : Histories) (events : List Asked) → alone (rules_of s holds) moment (untold_all before) (map untold_asked events) ≡ untold_all (alone (rules_of s holds) moment before events)
  alone_same before events =
      ap₂ (λ moves round. round_from (rules_of s holds) moment (untold_all before) moves round) (moves_same events) (nothing s.checkables)
      ∙ round_same before (moves_of 0 events) (no_entries s)
    where
      nothing : (cs : List PlainCheck) → map (λ (c : PlainCheck). none) cs ≡ untold_all (map (λ (c : PlainCheck). none) cs)
      nothing [] = refl
      nothing (c ∷ cs) = ap (λ xss. none ∷ xss) (nothing cs)

-- ---- turns

pub joined_same : (before round : Histories) → untold_all (joined before round) ≡ joined (untold_all before) (untold_all round)
joined_same [] round = refl
joined_same (es ∷ before) [] = refl
joined_same (es ∷ before) (fs ∷ round) = ap₂ (λ xs xss. xs ∷ xss) (map-append untold es fs) (joined_same before round)

-- an entry has one line
lines_in : (s : PlainSite) (k : ℕ) (es : List Entry) → map (entry_line s k) (bare es) ≡ map (entry_line s k) es
lines_in s k [] = refl
lines_in s k (e ∷ es) = ap₂ (λ x xs. x ∷ xs) (lines_same s k e) (lines_in s k es)

pub round_lines_same : (s : PlainSite) (k : ℕ) (round : Histories) → round_lines One s k (untold_all round) ≡ round_lines One s k round
round_lines_same s k [] = refl
round_lines_same s k (es ∷ round) = ap₂ (λ x xs. x ∷ xs) (lines_in s k es) (round_lines_same s (suc k) round)

-- what two turns write is the same, as far as it counts
record SameTurn (l m : TurnLog) : Type 0 where
  number : l.number ≡ m.number
  moment : l.moment ≡ m.moment
  refusals : l.refusals ≡ m.refusals
  round : untold_all l.round ≡ untold_all m.round
  orders : l.orders ≡ m.orders

abbrev lines_by : PlainSite → ℕ → ℕ → List Refusal → List (List (List ℕ)) → List Ordered → List (List ℕ)
lines_by s number moment refusals round orders = turn_line number moment ∷ ((map refusal_line refusals ++ flat_map (λ lines. lines) round) ++ map (ordered_line One s) orders)

turn_lines_same : (s : PlainSite) (l m : TurnLog) → SameTurn l m → turn_lines One s l ≡ turn_lines One s m
turn_lines_same s l m h =
    ap₂ (λ n x. lines_by s n x l.refusals (round_lines One s 0 l.round) l.orders) h.number h.moment
    ∙ (ap₂ (λ rs xs. lines_by s m.number m.moment rs xs l.orders) h.refusals
    (sym (round_lines_same s 0 l.round) ∙ (ap (round_lines One s 0) h.round ∙ round_lines_same s 0 m.round))
    ∙ ap (lines_by s m.number m.moment m.refusals (round_lines One s 0 m.round)) h.orders)

abbrev plans_of : ℕ → List Outstanding → List Slot → Plans
plans_of given outstanding slots = record { given = given; outstanding = outstanding; slots = slots }

module _ (s : PlainSite) (holds : ℕ → ℕ → Bool) (command : ℕ → Command) where
  abbrev b : Basis
  b = basis_of s holds command nothing_fed

  abbrev taken_of : List Line → List Outstanding → List Reported → Histories → ℕ → List Asked
  taken_of ls os rs before moment = line_events ls ++ (map asked_in (taken_reports os rs) ++ ticks s before moment)

  of_turn : (st : Stage) (t : ReadTurn) (moment : ℕ) → map untold_asked (all_events b st t moment) ≡ taken_of (map untold_line t.lines) st.plans.outstanding (map untold_report (reports_of st t)) (untold_all st.histories) moment
  of_turn st t moment =
      map-append untold_asked (line_events t.lines) (map asked_in (taken_reports st.plans.outstanding (reports_of st t)) ++ ticks s st.histories moment)
      ∙ ap₂ (λ xs ys. xs ++ ys) (events_of_lines t.lines)
      (map-append untold_asked (map asked_in (taken_reports st.plans.outstanding (reports_of st t))) (ticks s st.histories moment)
      ∙ ap₂ (λ xs ys. xs ++ ys) (events_of_reports st.plans.outstanding (reports_of st t))
      (ticks_bare 0 s.checkables st.histories moment ∙ sym (ticks_same s st.histories moment)))

  module _ (st other : Stage) (t u : ReadTurn) (a : AlikeStages st other) (h : AlikeTurns t u) where
    abbrev l : TurnLog
    l = turn_alone b st t

    abbrev m : TurnLog
    m = turn_alone b other u

    reports_alike : AlikeReports (reports_of st t) (reports_of other u)
    reports_alike = map-append untold_report st.due t.reports ∙ (ap₂ (λ xs ys. xs ++ ys) a.due h.reports ∙ sym (map-append untold_report other.due u.reports))

    outstanding : st.plans.outstanding ≡ other.plans.outstanding
    outstanding = ap (λ (p : Plans). p.outstanding) a.plans

    events_alike : (moment : ℕ) → map untold_asked (all_events b st t moment) ≡ map untold_asked (all_events b other u moment)
    events_alike moment =
        of_turn st t moment
        ∙ (ap₂ (λ ls os. taken_of ls os (map untold_report (reports_of st t)) (untold_all st.histories) moment) h.lines outstanding
        ∙ (ap₂ (λ rs before. taken_of (map untold_line u.lines) other.plans.outstanding rs before moment) reports_alike a.histories
        ∙ sym (of_turn other u moment)))

    moments : l.moment ≡ m.moment
    moments = ap₂ max a.moment h.moment

    rounds : untold_all l.round ≡ untold_all m.round
    rounds =
        sym (alone_same s holds l.moment st.histories (all_events b st t l.moment))
        ∙ (ap₂ (λ before events. alone (rules_of s holds) l.moment before events) a.histories (events_alike l.moment)
        ∙ (ap (λ n. alone (rules_of s holds) n (untold_all other.histories) (map untold_asked (all_events b other u n))) moments
        ∙ alone_same s holds m.moment other.histories (all_events b other u m.moment)))

    refusals : l.refusals ≡ m.refusals
    refusals =
        ap₂ (λ xs ys. xs ++ ys) (sym (refusals_of_lines 1 t.lines) ∙ (ap (line_refusals 1) h.lines ∙ refusals_of_lines 1 u.lines))
        (sym (refusals_of_reports st.plans.outstanding (reports_of st t)) ∙ (ap₂ report_refusals outstanding reports_alike ∙ refusals_of_reports other.plans.outstanding (reports_of other u)))

    planned : planned_of b st l.moment l.round ≡ planned_of b other m.moment m.round
    planned =
        sym (orders_same s holds command st.plans l.moment st.histories l.round)
        ∙ (ap₂ (λ p n. schedule s holds command p n (untold_all st.histories) (untold_all l.round)) a.plans moments
        ∙ (ap₂ (λ before round. schedule s holds command other.plans m.moment before round) a.histories rounds
        ∙ orders_same s holds command other.plans m.moment other.histories m.round))

    orders : l.orders ≡ m.orders
    orders = ap (λ (p : Planned). p.orders) planned

    same_turn : SameTurn l m
    same_turn = record { number = ap (λ n. n + 1) a.turns; moment = moments; refusals = refusals; round = rounds; orders = orders }

    given : st.plans.given + length l.orders ≡ other.plans.given + length m.orders
    given = ap₂ (λ (p : Plans) (os : List Ordered). p.given + length os) a.plans orders

    open_after : still (reports_of st t) st.plans.outstanding ++ map order_open l.orders ≡ still (reports_of other u) other.plans.outstanding ++ map order_open m.orders
    open_after =
        ap₂ (λ xs os. xs ++ map order_open os)
        (sym (still_same (reports_of st t) st.plans.outstanding) ∙ (ap₂ still reports_alike outstanding ∙ still_same (reports_of other u) other.plans.outstanding)) orders

    stages : AlikeStages (stage_after b st t l) (stage_after b other u m)
    stages = record {
      turns = ap (λ n. n + 1) a.turns;
      moment = moments;
      histories = joined_same st.histories l.round ∙ (ap₂ joined a.histories rounds ∙ sym (joined_same other.histories m.round));
      plans =
          ap₂ (λ n os. plans_of n os (planned_of b st l.moment l.round).slots) given open_after
          ∙ ap (plans_of (other.plans.given + length m.orders) (still (reports_of other u) other.plans.outstanding ++ map order_open m.orders)) (ap (λ (p : Planned). p.slots) planned);
      due = ap (λ os. map untold_report (due_of os)) orders;
    }

  runs : (st other : Stage) (ts us : List ReadTurn) → AlikeStages st other → AllAlike ts us → flat_map (turn_lines One s) (run_alone b st ts) ≡ flat_map (turn_lines One s) (run_alone b other us)
  runs st other [] [] a h = refl
  runs st other [] (u ∷ us) a h = absurd h
  runs st other (t ∷ ts) [] a h = absurd h
  runs st other (t ∷ ts) (u ∷ us) a h =
      ap₂ (λ xs ys. xs ++ ys) (turn_lines_same s (turn_alone b st t) (turn_alone b other u) (same_turn st other t u a h.0))
      (runs (stage_after b st t (turn_alone b st t)) (stage_after b other u (turn_alone b other u)) ts us (stages st other t u a h.0) h.1)

pub logs_same : (s : PlainSite) (holds : ℕ → ℕ → Bool) (command : ℕ → Command) → WriteTheSame s holds command
logs_same s holds command st other ts us a h = ap concat (runs s holds command st other ts us a h)
