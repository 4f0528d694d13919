-- In version two the log of a run is legal, whatever callers it has: of the turns that its blocks tell the same logs are those of a run.
use Rattle.std.proofs.Common.{◌≡◌, ◌<◌, ◌≤◌, ◌^◌, ℕ, suc, cond, List, [], ◌∷◌, ◌++◌, length, map, refl, sym, ap, ap₂, ◌∙◌, subst, arith, eq-eqb, Option, Some, None, lit<}
use Rattle.std.proofs.lemmas.Slice.Eq.{bytes_eq-Decides}
use Rattle.std.specs.List.{AllByRecursion, concat}
use Rattle.jiff_tz.specs.declared.tzif.Tzif.{Tzif}
use Rattle.site_edge.specs.declared.turn.Turn.{Turn}
use Rattle.site_model.specs.PlainSite.{PlainCheck, PlainSite, full_names}
use Rattle.site_model.specs.declared.entry.Entry.{Entry}
use Rattle.event_text.specs.Lines.{Answer}
use Rattle.log_text.specs.Fronts.{◌>>=◌}
use Rattle.log_text.specs.SiteNames.{names_of}
use Rattle.run_meaning.specs.Dealing.{dealt, line_events, line_refusals, report_refusals, taken_reports, ticks}
use Rattle.run_meaning.specs.Rounds.{IsRound, behind}
use Rattle.run_meaning.specs.Runs.{Basis, IsRunFrom, IsTurn, Stage, TurnLog, no_entries, stage_after, start}
use Rattle.run_meaning.specs.Turns.{Asked, Ordered, Outstanding, Reported, of_index}
use Rattle.run_meaning.proofs.Lists.{length_map, of_index_nothing}
use Rattle.run_meaning.proofs.Lookback.{given}
use Rattle.run_text.specs.LogText.{turn_lines}
use Rattle.run_text.specs.TurnReading.{as_line, report_read, turn_read}
use Rattle.run_text.specs.declared.style.Style.TheVariants.{Two}
use Rattle.turn_engine.specs.Stages.{basis_of_site}
use Rattle.site_audit.specs.Agreeing.{AreBlocks}
use Rattle.site_audit.specs.Audit.{IsLegal}
use Rattle.site_audit.specs.BlockReading.{block_read}
use Rattle.site_audit.specs.Told.{all_told, no_orders, orders_after, orders_with, turn_told, turns_from, turns_with}
use Rattle.audit_laws.specs.Types.{Block, Open}
use Rattle.audit_laws.specs.Askable.{CanBeAsked}
use Rattle.audit_laws.specs.Fitting.{FitsLog, FitsOrder}
use Rattle.audit_laws.specs.LegalLogs.{blocks_written, CanBeRun}
use Rattle.audit_laws.specs.ToldTurns.{block_of, IsTellable, IsToldBy}
use Rattle.audit_laws.proofs.AskedLines.{all_asked, all_rise, all_ticks, answered, answers_of, of_lines}
use Rattle.audit_laws.proofs.BlocksBack.{block_back}
use Rattle.audit_laws.proofs.CallersTold.{turn_told_by}
use Rattle.audit_laws.proofs.EventFacts.{all_imply}
use Rattle.audit_laws.proofs.Lacking.{given_low}
use Rattle.audit_laws.proofs.CanRun.{has, others, start_kept}
use Rattle.audit_laws.proofs.LogBlocks.{blocks_back}
use Rattle.audit_laws.proofs.Opening.{number_at, order_line}
use Rattle.audit_laws.proofs.OpensKept.{gives, kept, IsKept}
use Rattle.audit_laws.proofs.Printing.{all_printable, joined_at, roomy}

module _ (s : PlainSite) (zone : Option Tzif) (can : CanBeRun s) (callers : ℕ) (some : 1 ≤ callers) (most : callers ≤ 64) where
  abbrev b : Basis
  b = basis_of_site s zone

  -- ---- a turn

  module _ (st : Stage) (opens : List (Option Open)) (t : Turn) (l : TurnLog) (is : IsTurn b callers st (turn_read s t) l) (fits : FitsLog l) (k : IsKept s st opens) (low : st.plans.given < 2 ^ 64) (room : (c : ℕ) → length (behind st.histories l.round c) < 2 ^ 64) where
    abbrev os : List Outstanding
    os = st.plans.outstanding

    abbrev reports : List Reported
    reports = map report_read t.reports

    abbrev answers : List Answer
    answers = answers_of s t.lines

    abbrev late : List Asked
    late = ticks s st.histories l.moment

    abbrev block : Block
    block = block_of os (st.due ++ reports) answers l.moment (map order_line l.orders) l.round

    tellable : IsTellable s opens os st.due answers late
    tellable = record {
      refused = of_lines s can.names t.lines;
      asked = subst (λ ls. AllByRecursion (λ a. CanBeAsked s a.checkable a.event) (line_events ls)) (answered s t.lines) (all_asked s can.names t.lines);
      opened = k.opened;
      fit = λ c o h. let le = number_at st.plans.given opens c o k.numbers h in omega (arith, le, low);
      due_taken = k.due_taken;
      due_rise = k.due_rise;
      are_ticks = all_ticks (2 ^ 32) 0 s.checkables st.histories l.moment (let f = can.few in omega (arith, f));
      ticks_rise = all_rise 0 s.checkables st.histories l.moment;
    }

    round_is : IsRound b.rules l.moment st.histories (dealt callers (line_events (map as_line answers)) (taken_reports os (st.due ++ reports)) late) l.round
    round_is = subst (λ ls. IsRound b.rules l.moment st.histories (dealt callers (line_events ls) (taken_reports os (st.due ++ reports)) late) l.round) (answered s t.lines) is.round

    told : IsToldBy callers s opens os st.due reports answers late l.moment (map order_line l.orders) b.rules st.histories l.round
    told =
        turn_told_by callers some s can.names opens os st.due reports answers late l.moment (map order_line l.orders) b.rules st.histories l.round tellable round_is
        (record { callers_fit = most; checkables_fit = (let e = is.round.whole in let f = can.few in omega (arith, e, f)); entries_fit = room }) (others s zone can)

    named : length (full_names s) ≡ length s.checkables
    named = length_map (λ (c : PlainCheck). c.name) s.checkables

    read : block_read Two (names_of s) (turn_lines Two s l) ≡ Some block
    read =
        block_back Two s (has s zone can) can.texts l answers os (st.due ++ reports)
        (is.refusals ∙ ap (λ ls. line_refusals 1 ls ++ report_refusals os (st.due ++ reports)) (answered s t.lines)) fits (all_printable s zone callers st t l is can.sound)
        (all_imply (λ (o : Ordered). o.checkable < length s.checkables) (λ o. o.checkable < length (full_names s)) (λ o lt. let e = named in omega (arith, lt, e)) l.orders
        (gives Two s zone callers some can.names st opens t l is k).counted.inside)

    -- the same log is one of the told turn
    again : IsTurn b callers st (turn_read s told.turn) l
    again = record {
      number = is.number;
      moment = (let x = told.at in let y = is.moment in omega (arith, x, y));
      refusals =
          is.refusals
          ∙ ap₂ (λ xs ys. xs ++ ys) (ap (line_refusals 1) (answered s t.lines) ∙ sym told.refusals) (sym told.reports_refused);
      round = told.round_is;
      orders = is.orders;
    }

    abbrev with_left : List Outstanding → Stage
    with_left ps = record (stage_after b st (turn_read s t) l) { plans = record (stage_after b st (turn_read s t) l).plans { outstanding = ps ++ map given l.orders } }

    same_stage : stage_after b st (turn_read s told.turn) l ≡ stage_after b st (turn_read s t) l
    same_stage = ap with_left told.outstanding

  -- ---- a run

  record IsToldRun (st : Stage) (opens : List (Option Open)) (ls : List TurnLog) : Type 0 where
    turns : List Turn
    told_are : turns_from callers s Two opens (map (turn_lines Two s) ls) ≡ turns
    many : length turns ≡ length ls
    run : IsRunFrom b callers st (map (turn_read s) turns) ls

  none_told : (st : Stage) (opens : List (Option Open)) → IsToldRun st opens []
  none_told st opens = record { turns = []; told_are = refl; many = refl; run = refl }

  walk : (ts : List Turn) (ls : List TurnLog) (st : Stage) (opens : List (Option Open)) → IsRunFrom b callers st (map (turn_read s) ts) ls → AllByRecursion FitsLog ls → IsKept s st opens → st.plans.given < 2 ^ 64 → ((c : ℕ) → length (of_index c st.histories) < 2 ^ 64) → IsToldRun st opens ls
  walk [] ls st opens run fits k low room = subst (IsToldRun st opens) (sym run) (none_told st opens)
  walk (t ∷ ts) [] st opens run fits k low room = absurd run
  walk (t ∷ ts) (l ∷ ls) st opens run fits k low room =
      let all = roomy s zone callers st t l run.0 fits.0.entries room in
      let more = gives Two s zone callers some can.names st opens t l run.0 k in
      let next = stage_after b st (turn_read s t) l in
      let blk = block st opens t l run.0 fits.0 k low all in
      let is_read = read st opens t l run.0 fits.0 k low all in
      let told_now = told st opens t l run.0 fits.0 k low all in
      let rest = walk ts ls next (orders_after opens blk) run.1 fits.1 (kept Two s zone callers some can.names st opens t l run.0 k)
      (given_low st.plans.given (2 ^ 64) l.orders more.counted.numbers low (all_imply FitsOrder (λ (o : Ordered). o.number < 2 ^ 64) (λ o f. f.number) l.orders fits.0.orders))
      (λ c. let e = ap (length {A = Entry}) (joined_at st.histories l.round c) in let lt = all c in omega (arith, e, lt)) in
      record {
        turns = told_now.turn ∷ rest.turns;
        told_are =
            ap₂ (λ ns o. turns_with (λ os. turns_from callers s Two os (map (turn_lines Two s) ls)) ns o) (ap (orders_with opens) is_read)
            (ap (λ o. o >>= turn_told callers s opens) is_read ∙ told_now.is)
            ∙ ap (λ us. told_now.turn ∷ us) rest.told_are;
        many = ap suc rest.many;
        run = (again st opens t l run.0 fits.0 k low all, subst (λ z. IsRunFrom b callers z (map (turn_read s) rest.turns) ls) (sym (same_stage st opens t l run.0 fits.0 k low all)) rest.run);
      }

  same_blocks : (ls : List TurnLog) → AreBlocks Two s ls (map (turn_lines Two s) ls)
  same_blocks [] = tt
  same_blocks (l ∷ ls) = ((bytes_eq-Decides (concat (turn_lines Two s l)) (concat (turn_lines Two s l))).1 refl, same_blocks ls)

  pub run_is_legal_by : (ts : List Turn) (ls : List TurnLog) → IsRunFrom b callers (start s (no_entries s)) (map (turn_read s) ts) ls → AllByRecursion FitsLog ls → IsLegal Two b callers s (blocks_written Two s ls)
  run_is_legal_by ts ls run fits =
      let all = walk ts ls (start s (no_entries s)) (no_orders s) run fits (start_kept s zone can) (lit< tt) (λ c. let e = ap (length {A = Entry}) (of_index_nothing s.checkables c) in omega (arith, e)) in
      subst (IsLegal Two b callers s) (sym (blocks_back Two s zone callers ts ls (start s (no_entries s)) run))
      (record {
        turns = all.turns;
        told =
            ap (all_told (length (map (turn_lines Two s) ls))) all.told_are
            ∙ ap (λ t. cond t (Some all.turns) None) (eq-eqb (length all.turns) (length (map (turn_lines Two s) ls)) (all.many ∙ sym (length_map (turn_lines Two s) ls)));
        written = record { logs = ls; run = all.run; texts = same_blocks ls };
      })
