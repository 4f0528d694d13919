-- From turn to turn the orders of the checkables, as blocks tell of them, are those that are outstanding, whatever callers make the turns.
use Rattle.std.proofs.Common.{◌≡◌, ◌<◌, ◌≤◌, ◌&&◌, ◌||◌, ℕ, List, [], ◌∷◌, ◌++◌, length, get_or, map, nat_eq, not, cond, Bool, true, false, Option, Some, None, refl, sym, ap, ◌∙◌, subst, true≢false, ◌⊎◌, inl, inr}
use Rattle.std.specs.List.{AllByRecursion, list_any}
use Rattle.jiff_tz.specs.declared.tzif.Tzif.{Tzif}
use Rattle.depend_graph.specs.Outlooks.{holds_in}
use Rattle.site_edge.specs.declared.turn.Turn.{Turn}
use Rattle.site_model.specs.PlainSite.{PlainSite}
use Rattle.site_model.specs.declared.entry.Entry.{Entry}
use Rattle.run_meaning.specs.Dealing.{checkable_of, line_events, report_refusals, still}
use Rattle.run_meaning.specs.Lookback.{ask_commands}
use Rattle.run_meaning.specs.Runs.{Basis, IsTurn, Stage, TurnLog, stage_after}
use Rattle.run_meaning.specs.Schedule.{is_waiting}
use Rattle.run_meaning.specs.Turns.{Histories, Ordered, Outstanding, Reported, of_index}
use Rattle.run_meaning.proofs.Lookback.{given}
use Rattle.run_meaning.proofs.Outstanding as run
use Rattle.run_meaning.proofs.Outstanding.{round_reports, waits_still}
use Rattle.run_text.specs.TurnReading.{lines_read, report_read, turn_read}
use Rattle.run_text.specs.declared.style.Style.{Style}
use Rattle.turn_engine.specs.Stages.{basis_of_site}
use Rattle.turn_engine.specs.Orders.{command_of}
use Rattle.site_audit.specs.Order.{stands}
use Rattle.site_audit.specs.Telling.{after_entries}
use Rattle.site_audit.specs.Told.{orders_after}
use Rattle.audit_laws.specs.Types.{Block, Open}
use Rattle.audit_laws.specs.Names.{IsWellNamed}
use Rattle.audit_laws.specs.Rereported.{orders_of}
use Rattle.audit_laws.specs.Retaken.{lines_from}
use Rattle.audit_laws.specs.ToldTurns.{block_of, AreRising}
use Rattle.audit_laws.proofs.AskedLines.{all_asked, answers_of, commands_alone}
use Rattle.audit_laws.proofs.ByVersion.{reports_in_shown, shown_answers, shown_histories, shown_reports}
use Rattle.audit_laws.proofs.EventFacts.{not_of, was_still}
use Rattle.audit_laws.proofs.Giving.{turn_gives, AreNumbered, GivesOrders}
use Rattle.audit_laws.proofs.Opening.{ahead_none, ahead_waits, behind_single, either_there, entries_keep, entries_long, inside_given, none_lacks, numbers_after, order_line, orders_keep, orders_long, orders_open, AreUpTo}
use Rattle.audit_laws.proofs.Lacking.{due_there, none_refused, rising_due}
use Rattle.audit_laws.proofs.Ordering.{is_eq}
use Rattle.audit_laws.proofs.Rereporting.{still_append}

-- ---- what stands between turns

-- the orders of the checkables are those that are outstanding; those that lack a macro are reported next
pub record IsKept (s : PlainSite) (st : Stage) (opens : List (Option Open)) : Type 0 where
  pub numbered : AreNumbered st.plans.given st.plans.outstanding
  pub inside : (n c : ℕ) → checkable_of n st.plans.outstanding ≡ Some c → c < length s.checkables
  pub opened : (c n : ℕ) → checkable_of n st.plans.outstanding ≡ Some c → get_or opens c None ≡ Some (record { number = n; missing = stands (orders_of st.due) n })
  pub numbers : AreUpTo st.plans.given opens
  pub long : length opens ≡ length s.checkables
  pub due_taken : report_refusals st.plans.outstanding st.due ≡ []
  pub due_rise : AreRising (orders_of st.due)

waits_for : (n c : ℕ) (ps : List Outstanding) → checkable_of n ps ≡ Some c → is_waiting ps c ≡ true
waits_for n c [] h = absurd cc
waits_for n c (o ∷ ps) h = by (nat_eq o.order n) h (waits_for n c ps)
  where
    or_true : (a b : Bool) → b ≡ true → (a || b) ≡ true
    or_true true b e = refl
    or_true false b e = e

    by : (t : Bool) → cond t (Some o.checkable) (checkable_of n ps) ≡ Some c → (checkable_of n ps ≡ Some c → is_waiting ps c ≡ true) → (nat_eq o.checkable c || is_waiting ps c) ≡ true
    by true h f = let e : o.checkable ≡ c = cc in ap (λ t. t || is_waiting ps c) (is_eq o.checkable c e)
    by false h f = or_true (nat_eq o.checkable c) (is_waiting ps c) (f h)

-- ---- a turn of some callers

module _ (style : Style) (s : PlainSite) (zone : Option Tzif) (callers : ℕ) (some : 1 ≤ callers) (w : IsWellNamed s) (st : Stage) (opens : List (Option Open)) (t : Turn) (l : TurnLog) (is : IsTurn (basis_of_site s zone) callers st (turn_read s t) l) (k : IsKept s st opens) where
  abbrev b : Basis
  b = basis_of_site s zone

  abbrev os : List Outstanding
  os = st.plans.outstanding

  abbrev reports : List Reported
  reports = map report_read t.reports

  abbrev left : List Outstanding
  left = still (st.due ++ reports) os

  abbrev next : Stage
  next = stage_after b st (turn_read s t) l

  asked : ask_commands (lines_read s t.lines) ≡ true
  asked = commands_alone s (line_events (lines_read s t.lines)) (all_asked s w t.lines)

  pub gives : GivesOrders s st.plans.given l.orders next.plans.outstanding
  gives = turn_gives s (holds_in s zone) (command_of s) b.feed callers some st (turn_read s t) l is asked k.numbered

  abbrev shown_round : Histories
  shown_round = shown_histories style l.round

  abbrev reports_in : List Entry → Bool
  reports_in es = list_any (λ e. run.is_report e.event) es

  waiting : (c : ℕ) → is_waiting left c ≡ (is_waiting os c && not (reports_in (of_index c l.round)))
  waiting c =
      waits_still (st.due ++ reports) os c k.numbered.single
      ∙ ap (λ a. is_waiting os c && not a) (sym (round_reports b.rules l.moment st.histories l.round callers (line_events (lines_read s t.lines)) os (st.due ++ reports) c some asked is.round))

  no_report : (n c : ℕ) → checkable_of n left ≡ Some c → reports_in (of_index c l.round) ≡ false
  no_report n c h = by (is_waiting os c) (reports_in (of_index c l.round)) refl (sym (waiting c) ∙ waits_for n c left h)
    where
      by : (a t : Bool) → reports_in (of_index c l.round) ≡ t → (a && not t) ≡ true → t ≡ false
      by a false e f = refl
      by true true e f = absurd (true≢false (sym f))
      by false true e f = absurd (true≢false (sym f))

  abbrev cleared : List (Option Open)
  cleared = after_entries opens (lines_from 0 shown_round)

  abbrev block : Block
  block = block_of os (shown_reports style st.due ++ shown_reports style reports) (shown_answers style (answers_of s t.lines)) l.moment (map order_line l.orders) shown_round

  cleared_long : length cleared ≡ length s.checkables
  cleared_long = entries_long (lines_from 0 shown_round) opens ∙ k.long

  single_orders : run.AreSingle (map given l.orders)
  single_orders = behind_single left (map given l.orders) gives.numbered.single

  opened_after : (c n : ℕ) → checkable_of n next.plans.outstanding ≡ Some c → get_or (orders_after opens block) c None ≡ Some (record { number = n; missing = stands (orders_of next.due) n })
  opened_after c n h = by (either_there left (map given l.orders) n c h)
    where
      by : (checkable_of n left ≡ Some c) ⊎ (checkable_of n (map given l.orders) ≡ Some c) → get_or (orders_after opens block) c None ≡ Some (record { number = n; missing = stands (orders_of next.due) n })
      by (inl e) =
          let none : stands (orders_of next.due) n ≡ false = none_lacks l.orders n (ahead_none left (map given l.orders) n c gives.numbered.single e) in
          let early : checkable_of n (still st.due os) ≡ Some c = was_still reports n c (still st.due os) (ap (checkable_of n) (sym (still_append os st.due reports)) ∙ e) in
          orders_keep l.orders cleared c (ahead_waits left (map given l.orders) n c gives.numbered.single e)
          ∙ (entries_keep shown_round opens c (reports_in_shown style c l.round ∙ no_report n c e)
          ∙ (k.opened c n (was_still st.due n c os early)
          ∙ ap (λ m. Some (record { number = n; missing = m })) (not_of st.due os n c early ∙ sym none)))
      by (inr e) = orders_open l.orders cleared n c single_orders (subst (λ m. AllByRecursion (λ (o : Ordered). o.checkable < m) l.orders) (sym cleared_long) gives.counted.inside) e

  pub kept : IsKept s next (orders_after opens block)
  kept = record {
    numbered = gives.numbered;
    inside = inside_after;
    opened = opened_after;
    numbers = numbers_after st.plans.given (lines_from 0 shown_round) l.orders opens gives.counted.numbers k.numbers;
    long = orders_long l.orders cleared ∙ cleared_long;
    due_taken = none_refused next.plans.outstanding next.due (due_there left l.orders) (rising_due st.plans.given l.orders gives.counted.numbers);
    due_rise = rising_due st.plans.given l.orders gives.counted.numbers;
  }
    where
      inside_after : (n c : ℕ) → checkable_of n next.plans.outstanding ≡ Some c → c < length s.checkables
      inside_after n c h = by (either_there left (map given l.orders) n c h)
        where
          by : (checkable_of n left ≡ Some c) ⊎ (checkable_of n (map given l.orders) ≡ Some c) → c < length s.checkables
          by (inl e) = k.inside n c (was_still (st.due ++ reports) n c os e)
          by (inr e) = inside_given (length s.checkables) l.orders n c gives.counted.inside e
