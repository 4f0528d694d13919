-- In version one the log of a run is legal too: the turns that its blocks tell have a run whose rounds are the same but for
-- the texts of results, and this version doesn't show these.
use Rattle.std.proofs.Common.{◌≡◌, ◌<◌, ◌≤◌, ◌+◌, ◌^◌, ℕ, suc, cond, false, List, [], ◌∷◌, ◌++◌, length, map, refl, sym, ap, ap₂, ◌∙◌, subst, arith, eq-eqb, Option, Some, None, lit<}
use Rattle.std.proofs.lemmas.List.{length-append, map-append}
use Rattle.std.proofs.lemmas.Slice.Eq.{bytes_eq-Decides}
use Rattle.std.specs.List.{AllByRecursion, concat}
use Rattle.jiff_tz.specs.declared.tzif.Tzif.{Tzif}
use Rattle.depend_graph.specs.Outlooks.{holds_in}
use Rattle.site_edge.specs.declared.turn.Turn.{Turn}
use Rattle.site_model.specs.PlainSite.{PlainCheck, PlainSite, full_names}
use Rattle.site_model.specs.declared.entry.Entry.{Entry}
use Rattle.site_model.specs.declared.event.Event.TheVariants as event
use Rattle.event_text.specs.Lines.{Answer}
use Rattle.log_text.specs.Fronts.{◌>>=◌}
use Rattle.log_text.specs.SiteNames.{names_of}
use Rattle.run_meaning.specs.Dealing.{Taken, dealt, line_events, line_refusals, report_refusals, still, taken_reports, ticks}
use Rattle.run_meaning.specs.Rounds.{IsRound, behind}
use Rattle.run_meaning.specs.Runs.{Basis, IsRunFrom, IsTurn, Stage, TurnLog, joined, no_entries, planned_of, stage_after, start}
use Rattle.run_meaning.specs.Shares.{orders_refused}
use Rattle.run_meaning.specs.Turns.{Asked, Histories, Ordered, Outstanding, Planned, Plans, Reported, Slot, of_index}
use Rattle.run_meaning.proofs.Lists.{length_map, of_index_nothing}
use Rattle.run_meaning.proofs.Lookback.{given}
use Rattle.run_text.specs.LogText.{turn_lines}
use Rattle.run_text.specs.TurnReading.{as_line, lines_read, report_read, turn_read}
use Rattle.run_text.specs.declared.style.Style.TheVariants.{One}
use Rattle.turn_engine.specs.Orders.{command_of}
use Rattle.turn_engine.specs.Stages.{basis_of_site}
use Rattle.site_audit.specs.Agreeing.{AreBlocks}
use Rattle.site_audit.specs.Audit.{IsLegal}
use Rattle.site_audit.specs.BlockReading.{block_read}
use Rattle.site_audit.specs.Telling.{is_report}
use Rattle.site_audit.specs.Told.{all_told, no_orders, orders_after, orders_with, turn_told, turns_from, turns_with}
use Rattle.audit_laws.specs.Types.{Block, Open}
use Rattle.audit_laws.specs.Alike.{untold_report}
use Rattle.audit_laws.specs.Askable.{CanBeAsked}
use Rattle.audit_laws.specs.Fitting.{FitsLog, FitsOrder}
use Rattle.audit_laws.specs.LegalLogs.{blocks_written, CanBeRun}
use Rattle.audit_laws.specs.Retaken.{lines_from, HaveRoom}
use Rattle.audit_laws.specs.ToldTurns.{block_of, IsTellable, IsToldBy}
use Rattle.audit_laws.specs.Versions.{untold_all}
use Rattle.audit_laws.proofs.AskedLines.{all_asked, all_rise, all_ticks, answered, answers_of, can_all, of_lines}
use Rattle.audit_laws.proofs.BlocksBack.{block_back}
use Rattle.audit_laws.proofs.ByVersion.{entries_many, joined_shown, line_refusals_shown, lines_shown, of_lines_shown, refused_shown, schedule_shown, shown_answers, ticks_shown}
use Rattle.audit_laws.proofs.CallersTold.{turn_told_by}
use Rattle.audit_laws.proofs.DealtShown.{asked_text, commands_with, dealt_with, lacking_with, reports_with, taken_text, text, texts, ticks_with, told_same}
use Rattle.audit_laws.proofs.EventFacts.{all_imply, command_is}
use Rattle.audit_laws.proofs.Lacking.{given_low}
use Rattle.audit_laws.proofs.CanRun.{has, others, start_kept}
use Rattle.audit_laws.proofs.LogBlocks.{blocks_back}
use Rattle.audit_laws.proofs.Opening.{number_at, order_line}
use Rattle.audit_laws.proofs.OpensKept.{gives, kept, IsKept}
use Rattle.audit_laws.proofs.Printing.{all_printable, joined_at, roomy}
use Rattle.audit_laws.proofs.Rereporting.{refusals_append, still_append, taken_append}
use Rattle.audit_laws.proofs.Retexting.{many_with, retexted, round_with, untold_with}
use Rattle.audit_laws.proofs.TurnTold.{due_are, reports_are}
use Rattle.audit_laws.proofs.UntoldRuns.{refusals_of_reports, still_same}
use Rattle.audit_laws.proofs.ShowingAlike.{same_lines, ShowsAlike}

module _ (s : PlainSite) (zone : Option Tzif) (can : CanBeRun s) (callers : ℕ) (some : 1 ≤ callers) (most : callers ≤ 64) where
  abbrev b : Basis
  b = basis_of_site s zone

  -- ---- a turn

  module _ (st : Stage) (opens : List (Option Open)) (t : Turn) (l : TurnLog) (is : IsTurn b callers st (turn_read s t) l) (fits : FitsLog l) (k : IsKept s st opens) (low : st.plans.given < 2 ^ 64) (room : (c : ℕ) → length (behind st.histories l.round c) < 2 ^ 64) (other : Stage) (a : ShowsAlike One st other) where
    abbrev os : List Outstanding
    os = st.plans.outstanding

    abbrev left : List Outstanding
    left = still st.due os

    abbrev reports : List Reported
    reports = map report_read t.reports

    abbrev bare_reports : List Reported
    bare_reports = map untold_report reports

    abbrev answers : List Answer
    answers = answers_of s t.lines

    abbrev bare_answers : List Answer
    bare_answers = shown_answers One answers

    abbrev late : List Asked
    late = ticks s st.histories l.moment

    abbrev round : Histories
    round = round_with (text opens) 0 l.round

    same_round : untold_all round ≡ untold_all l.round
    same_round = untold_with (text opens) (texts opens) l.round

    tellable : IsTellable s opens os st.due answers late
    tellable = record {
      refused = of_lines s can.names t.lines;
      asked = subst (λ ls. AllByRecursion (λ a. CanBeAsked s a.checkable a.event) (line_events ls)) (answered s t.lines) (all_asked s can.names t.lines);
      opened = k.opened;
      fit = λ c o h. let le = number_at st.plans.given opens c o k.numbers h in omega (arith, le, low);
      due_taken = k.due_taken;
      due_rise = k.due_rise;
      are_ticks = all_ticks (2 ^ 32) 0 s.checkables st.histories l.moment (let f = can.few in omega (arith, f));
      ticks_rise = all_rise 0 s.checkables st.histories l.moment;
    }

    bare_tellable : IsTellable s opens os st.due bare_answers late
    bare_tellable = record {
      refused = of_lines_shown One s answers (of_lines s can.names t.lines);
      asked = can_all One s can.names t.lines;
      opened = tellable.opened;
      fit = tellable.fit;
      due_taken = tellable.due_taken;
      due_rise = tellable.due_rise;
      are_ticks = tellable.are_ticks;
      ticks_rise = tellable.ticks_rise;
    }

    abbrev lines : List Asked
    lines = line_events (map as_line answers)

    abbrev taken : List Taken
    taken = taken_reports os (st.due ++ reports)

    round_is : IsRound b.rules l.moment st.histories (dealt callers lines taken late) l.round
    round_is = subst (λ ls. IsRound b.rules l.moment st.histories (dealt callers (line_events ls) taken late) l.round) (answered s t.lines) is.round

    lines_are : map (asked_text opens) lines ≡ line_events (map as_line bare_answers)
    lines_are =
        commands_with opens lines (all_imply (λ (x : Asked). CanBeAsked s x.checkable x.event) (λ x. is_report x.event ≡ false) (λ x h. (command_is None x.checkable h.check.host x.event h.range).1) lines tellable.asked)
        ∙ lines_shown One answers

    taken_are : map (taken_text opens) taken ≡ taken_reports os (st.due ++ bare_reports)
    taken_are =
        ap (map (taken_text opens)) (taken_append os st.due reports)
        ∙ (map-append (taken_text opens) (taken_reports os st.due) (taken_reports left reports)
        ∙ (ap₂ (λ xs ys. xs ++ ys)
        (lacking_with opens s os left (taken_reports os st.due) (due_are s can.names opens os st.due reports answers late l.moment (map order_line l.orders) b.rules st.histories l.round tellable))
        (reports_with opens s os left reports (reports_are s can.names opens os st.due reports answers late l.moment (map order_line l.orders) b.rules st.histories l.round tellable))
        ∙ sym (taken_append os st.due bare_reports)))

    ticks_are : map (asked_text opens) late ≡ late
    ticks_are = ticks_with opens late (all_imply (λ (x : Asked). (x.event ≡ event.Tick) × (x.checkable < 2 ^ 32)) (λ x. x.event ≡ event.Tick) (λ x h. h.0) late tellable.are_ticks)

    abbrev bare_dealt : List (List Asked)
    bare_dealt = dealt callers (line_events (map as_line bare_answers)) (taken_reports os (st.due ++ bare_reports)) late

    dealt_are : map (map (asked_text opens)) (dealt callers lines taken late) ≡ bare_dealt
    dealt_are =
        dealt_with opens callers lines taken late
        ∙ (ap₂ (λ xs us. dealt callers xs us (map (asked_text opens) late)) lines_are taken_are
        ∙ ap (dealt callers (line_events (map as_line bare_answers)) (taken_reports os (st.due ++ bare_reports))) ticks_are)

    told_round : IsRound b.rules l.moment other.histories bare_dealt round
    told_round = subst (λ es. IsRound b.rules l.moment other.histories es round) dealt_are (retexted (text opens) (texts opens) s (holds_in s zone) l.moment st.histories other.histories a.histories (dealt callers lines taken late) l.round round_is)

    have_room : HaveRoom callers (behind other.histories round) (length round)
    have_room = record {
      callers_fit = most;
      checkables_fit = (let e = many_with (text opens) 0 l.round in let w = is.round.whole in let f = can.few in omega (arith, e, w, f));
      entries_fit = λ c.
          let d = length-append (of_index c other.histories) (of_index c round) in
          let e = length-append (of_index c st.histories) (of_index c l.round) in
          let x = sym (entries_many One c other.histories) ∙ (ap (λ hs. length (of_index c hs)) a.histories ∙ entries_many One c st.histories) in
          let y = sym (entries_many One c round) ∙ (ap (λ hs. length (of_index c hs)) same_round ∙ entries_many One c l.round) in
          let lt = room c in
          omega (arith, d, e, x, y, lt);
    }

    told : IsToldBy callers s opens os st.due bare_reports bare_answers late l.moment (map order_line l.orders) b.rules other.histories round
    told = turn_told_by callers some s can.names opens os st.due bare_reports bare_answers late l.moment (map order_line l.orders) b.rules other.histories round bare_tellable told_round have_room (others s zone can)

    -- what its lines are read as tells this turn

    abbrev block_with : Histories → Block
    block_with entries = block_of os (st.due ++ bare_reports) bare_answers l.moment (map order_line l.orders) entries

    abbrev block : Block
    block = block_with (untold_all l.round)

    same_refusals : report_refusals os (st.due ++ bare_reports) ≡ report_refusals os (st.due ++ reports)
    same_refusals = refusals_append os st.due bare_reports ∙ (ap (λ fs. report_refusals os st.due ++ fs) (refusals_of_reports left reports) ∙ sym (refusals_append os st.due reports))

    named : length (full_names s) ≡ length s.checkables
    named = length_map (λ (c : PlainCheck). c.name) s.checkables

    read : block_read One (names_of s) (turn_lines One s l) ≡ Some block
    read =
        block_back One s (has s zone can) can.texts l answers os (st.due ++ reports)
        (is.refusals ∙ ap (λ ls. line_refusals 1 ls ++ report_refusals os (st.due ++ reports)) (answered s t.lines)) fits (all_printable s zone callers st t l is can.sound)
        (all_imply (λ (o : Ordered). o.checkable < length s.checkables) (λ o. o.checkable < length (full_names s)) (λ o lt. let e = named in omega (arith, lt, e)) l.orders
        (gives One s zone callers some can.names st opens t l is k).counted.inside)
        ∙ ap₂ (λ refused orders. Some (record { moment = l.moment; lines = refused; reports = orders; entries = lines_from 0 (untold_all l.round); orders = map order_line l.orders }))
        (sym (refused_shown One 1 answers)) (ap orders_refused (sym same_refusals))

    told_is : turn_told callers s opens block ≡ Some told.turn
    told_is =
        ap (λ hs. turn_told callers s opens (block_with hs)) (sym same_round)
        ∙ (told_same opens callers s (block_with round) l.round ∙ told.is)

    -- and the other stage goes on so

    abbrev m : TurnLog
    m = record l { round = round }

    abbrev reports_told : List Reported
    reports_told = map report_read told.turn.reports

    outstanding : other.plans.outstanding ≡ os
    outstanding = ap (λ (p : Plans). p.outstanding) a.plans

    same_ticks : ticks s other.histories l.moment ≡ late
    same_ticks = sym (ticks_shown One s other.histories l.moment) ∙ (ap (λ hs. ticks s hs l.moment) a.histories ∙ ticks_shown One s st.histories l.moment)

    planned : planned_of b other l.moment round ≡ planned_of b st l.moment l.round
    planned =
        sym (schedule_shown One s (holds_in s zone) (command_of s) other.plans l.moment other.histories round)
        ∙ (ap (λ p. b.schedule p l.moment (untold_all other.histories) (untold_all round)) a.plans
        ∙ (ap₂ (λ hs r. b.schedule st.plans l.moment hs r) a.histories same_round
        ∙ schedule_shown One s (holds_in s zone) (command_of s) st.plans l.moment st.histories l.round))

    again : IsTurn b callers other (turn_read s told.turn) m
    again = record {
      number = (let x = a.turns in let y = is.number in omega (arith, x, y));
      moment = (let x = told.at in let y = is.moment in let z = a.moment in omega (arith, x, y, z));
      refusals =
          is.refusals
          ∙ (ap₂ (λ xs ys. xs ++ ys) (ap (line_refusals 1) (answered s t.lines) ∙ (sym (line_refusals_shown One 1 answers) ∙ sym told.refusals)) (sym same_refusals ∙ sym told.reports_refused)
          ∙ sym (ap₂ (λ ps ds. line_refusals 1 (lines_read s told.turn.lines) ++ report_refusals ps (ds ++ reports_told)) outstanding a.due));
      round =
          subst (λ es. IsRound b.rules l.moment other.histories es round)
          (sym (ap₂ (λ ps ds. dealt callers (line_events (lines_read s told.turn.lines)) (taken_reports ps (ds ++ reports_told)) (ticks s other.histories l.moment)) outstanding a.due
          ∙ ap (dealt callers (line_events (lines_read s told.turn.lines)) (taken_reports os (st.due ++ reports_told))) same_ticks))
          told.round_is;
      orders = is.orders ∙ ap (λ (p : Planned). p.orders) (sym planned);
    }

    writes : turn_lines One s m ≡ turn_lines One s l
    writes = same_lines One s l m (record { number = refl; moment = refl; refusals = refl; round = same_round; orders = refl })

    still_out : still (other.due ++ reports_told) other.plans.outstanding ≡ still (st.due ++ reports) os
    still_out =
        ap₂ (λ ps ds. still (ds ++ reports_told) ps) outstanding a.due
        ∙ (told.outstanding ∙ (still_append os st.due bare_reports ∙ (still_same reports left ∙ sym (still_append os st.due reports))))

    abbrev plans_of : ℕ → List Outstanding → List Slot → Plans
    plans_of n ps slots = record { given = n; outstanding = ps; slots = slots }

    alike : ShowsAlike One (stage_after b st (turn_read s t) l) (stage_after b other (turn_read s told.turn) m)
    alike = record {
      turns = refl;
      moment = refl;
      histories = joined_shown One other.histories round ∙ (ap₂ joined a.histories same_round ∙ sym (joined_shown One st.histories l.round));
      plans =
          ap₂ (λ (p : Plans) ps. plans_of (p.given + length l.orders) (ps ++ map given l.orders) (planned_of b other l.moment round).slots) a.plans still_out
          ∙ ap (λ (p : Planned). plans_of (st.plans.given + length l.orders) (still (st.due ++ reports) os ++ map given l.orders) p.slots) planned;
      due = refl;
    }

  -- ---- a run

  record IsToldRun (other : Stage) (opens : List (Option Open)) (ls : List TurnLog) : Type 0 where
    turns : List Turn
    told_are : turns_from callers s One opens (map (turn_lines One s) ls) ≡ turns
    many : length turns ≡ length ls
    logs : List TurnLog
    run : IsRunFrom b callers other (map (turn_read s) turns) logs
    texts : AreBlocks One s logs (map (turn_lines One s) ls)

  none_told : (other : Stage) (opens : List (Option Open)) → IsToldRun other opens []
  none_told other opens = record { turns = []; told_are = refl; many = refl; logs = []; run = refl; texts = tt }

  walk : (ts : List Turn) (ls : List TurnLog) (st other : Stage) (opens : List (Option Open)) → IsRunFrom b callers st (map (turn_read s) ts) ls → AllByRecursion FitsLog ls → IsKept s st opens → ShowsAlike One st other → st.plans.given < 2 ^ 64 → ((c : ℕ) → length (of_index c st.histories) < 2 ^ 64) → IsToldRun other opens ls
  walk [] ls st other opens run fits k a low room = subst (IsToldRun other opens) (sym run) (none_told other opens)
  walk (t ∷ ts) [] st other opens run fits k a low room = absurd run
  walk (t ∷ ts) (l ∷ ls) st other opens run fits k a low room =
      let all = roomy s zone callers st t l run.0 fits.0.entries room in
      let more = gives One s zone callers some can.names st opens t l run.0 k in
      let blk = block st opens t l run.0 fits.0 k low all other a in
      let is_read = read st opens t l run.0 fits.0 k low all other a in
      let told_now = told st opens t l run.0 fits.0 k low all other a in
      let now = m st opens t l run.0 fits.0 k low all other a in
      let rest = walk ts ls (stage_after b st (turn_read s t) l) (stage_after b other (turn_read s told_now.turn) now) (orders_after opens blk) run.1 fits.1
      (kept One s zone callers some can.names st opens t l run.0 k)
      (alike st opens t l run.0 fits.0 k low all other a)
      (given_low st.plans.given (2 ^ 64) l.orders more.counted.numbers low (all_imply FitsOrder (λ (o : Ordered). o.number < 2 ^ 64) (λ o f. f.number) l.orders fits.0.orders))
      (λ c. let e = ap (length {A = Entry}) (joined_at st.histories l.round c) in let lt = all c in omega (arith, e, lt)) in
      record {
        turns = told_now.turn ∷ rest.turns;
        told_are =
            ap₂ (λ ns o. turns_with (λ os. turns_from callers s One os (map (turn_lines One s) ls)) ns o) (ap (orders_with opens) is_read)
            (ap (λ o. o >>= turn_told callers s opens) is_read ∙ told_is st opens t l run.0 fits.0 k low all other a)
            ∙ ap (λ us. told_now.turn ∷ us) rest.told_are;
        many = ap suc rest.many;
        logs = now ∷ rest.logs;
        run = (again st opens t l run.0 fits.0 k low all other a, rest.run);
        texts = (
          (bytes_eq-Decides (concat (turn_lines One s l)) (concat (turn_lines One s now))).1 (ap concat (sym (writes st opens t l run.0 fits.0 k low all other a))),
          rest.texts,
        );
      }

  pub run_is_legal_untold : (ts : List Turn) (ls : List TurnLog) → IsRunFrom b callers (start s (no_entries s)) (map (turn_read s) ts) ls → AllByRecursion FitsLog ls → IsLegal One b callers s (blocks_written One s ls)
  run_is_legal_untold ts ls run fits =
      let first = start s (no_entries s) in
      let all = walk ts ls first first (no_orders s) run fits (start_kept s zone can) (record { turns = refl; moment = refl; histories = refl; plans = refl; due = refl }) (lit< tt) (λ c. let e = ap (length {A = Entry}) (of_index_nothing s.checkables c) in omega (arith, e)) in
      subst (IsLegal One b callers s) (sym (blocks_back One s zone callers ts ls first run))
      (record {
        turns = all.turns;
        told =
            ap (all_told (length (map (turn_lines One s) ls))) all.told_are
            ∙ ap (λ t. cond t (Some all.turns) None) (eq-eqb (length all.turns) (length (map (turn_lines One s) ls)) (all.many ∙ sym (length_map (turn_lines One s) ls)));
        written = record { logs = all.logs; run = all.run; texts = all.texts };
      })
