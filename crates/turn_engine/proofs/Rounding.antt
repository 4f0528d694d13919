-- From what is dealt at the beginning of a turn to its round.
use Rattle.std.proofs.Common.{◌≡◌, ℕ, ◌≤◌, ◌<◌, ◌^◌, max, All, List, [], ◌∷◌, ◌++◌, length, map, Result, IfOk, refl, sym, ap, ◌∙◌, subst, arith}
use Rattle.check_plan.specs.Plans.{Plan}
use Rattle.checkable_core.specs.Contents.{Contents}
use Rattle.lasting_problems.specs.Noted.{late_in}
use Rattle.lasting_problems.proofs.Ticking.{ticks_are}
use Rattle.run_meaning.specs.Alone.{AreOnSite}
use Rattle.run_meaning.specs.Dealing.{Taken, dealt, dealt_to, line_events, line_refusals, report_refusals, still, taken_reports, ticks}
use Rattle.run_meaning.specs.Rounds.{IsRound}
use Rattle.run_meaning.specs.Runs.{begun_by, events_of, joined}
use Rattle.run_meaning.specs.Turns.{Asked, Begun, Histories, from_on}
use Rattle.run_meaning.proofs.Dealt.{dealt_to_one}
use Rattle.run_meaning.proofs.Lists.{length_map}
use Rattle.site_edge.specs.declared.report.Report.{Report}
use Rattle.site_edge.specs.declared.turn.Turn.{Turn}
use Rattle.site_model.specs.PlainSite.{PlainSite, site_view}
use Rattle.site_posts.specs.Books.{AreBooks, histories_of}
use Rattle.site_posts.specs.Made.{asked_of}
use Rattle.site_posts.specs.Segments.{segments_of}
use Rattle.site_posts.specs.declared.segment.Segment.{Segment}
use Rattle.run_text.specs.TurnReading.{lines_read, report_read}
use Rattle.turn_deal.specs.Dealt.{refusal_of, taken_of, tick_of, with_outstanding}
use Rattle.turn_deal.specs.declared.dealt.Dealt.{Dealt}
use Rattle.turn_deal.proofs.ByCaller.{many_numbers}
use Rattle.site_posts.specs.Many.{IsRoundOf}
use Rattle.turn_engine.specs.Midst.{Deals, IsOpen, IsRounded, basis_at, read_at, stage_at, told_at}
use Rattle.turn_engine.specs.Ready.{IsReady, running}
use Rattle.turn_engine.specs.Stages.{TellsTurn, stage_of}
use Rattle.turn_engine.specs.declared.turn_out.TurnOut.{TurnOut}
use Rattle.turn_engine.specs.declared.state.EngineState.{EngineState}
use Rattle.turn_engine.proofs.OnSite.{both_on_site, dealt_on_site, lines_on_site, reports_on_site, ticks_on_site}
use Rattle.turn_engine.proofs.Turning.{later_books}

-- what is dealt opens the turn
pub opened : {w : EngineState} {turn : Turn} {m : ℕ} {plan : Plan} {d : Dealt} (left : List Report) → left ≡ w.not_started.items → IsReady w → m ≡ max w.moment turn.moment
    → map asked_of d.acts.lines.items ≡ line_events (lines_read (site_view w.site) turn.lines)
    → map taken_of d.acts.reports.items ≡ taken_reports w.plan.orders.outstanding (map report_read left ++ map report_read turn.reports)
    → map asked_of d.acts.ticks.items ≡ map tick_of (late_in m w.problems)
    → map refusal_of d.refusals.items ≡ line_refusals 1 (lines_read (site_view w.site) turn.lines) ++ report_refusals w.plan.orders.outstanding (map report_read left ++ map report_read turn.reports)
    → plan ≡ with_outstanding (still (map report_read left ++ map report_read turn.reports) w.plan.orders.outstanding) w.plan
    → IsOpen w turn m d (record w { plan = plan })
opened {w = w} {turn = turn} {m = m} left same ready m_is lines reports late refused taken = record {
  ready = ready;
  moment_is = m_is;
  deals = record {
    lines = lines;
    reports = reports ∙ ap (λ xs. taken_reports w.plan.orders.outstanding (map report_read xs ++ map report_read turn.reports)) same;
    late = late ∙ ap (λ ps. map tick_of (late_in m ps)) ready.problems ∙ sym (ticks_are (site_view w.site) (histories_of w.books.items) m);
    refused = refused ∙ ap (λ xs. line_refusals 1 (lines_read (site_view w.site) turn.lines) ++ report_refusals w.plan.orders.outstanding (map report_read xs ++ map report_read turn.reports)) same;
    taken = taken ∙ ap (λ xs. with_outstanding (still (map report_read xs ++ map report_read turn.reports) w.plan.orders.outstanding) w.plan) same;
  };
  others = refl;
}

-- A turn that is open.

module _ {old : EngineState} {turn : Turn} {m : ℕ} {d : Dealt} {w : EngineState} (h : IsOpen old turn m d w) where
  -- what it began with, in the words of what there is now
  abbrev pub began : EngineState
  began = record w { plan = old.plan }

  pub still_ready : IsReady began
  still_ready = subst IsReady (sym h.others) h.ready

  deals : Deals began turn m d w.plan
  deals = subst (λ v. Deals v turn m d w.plan) (sym h.others) h.deals

  pub moment_is : m ≡ max w.moment turn.moment
  moment_is = h.moment_is ∙ ap (λ (v : EngineState). max v.moment turn.moment) (sym h.others)

  pub books_now : AreBooks (site_view w.site) m w.books.items
  books_now = let e = moment_is in later_books (site_view w.site) w.moment m w.books.items (omega (arith, e)) still_ready.books

  pub still_few : old.turns < 2 ^ 40 → w.turns < 2 ^ 40
  still_few few = subst (λ (v : EngineState). v.turns < 2 ^ 40) (sym h.others) few

  -- what it gives to its round

  abbrev s : PlainSite
  s = site_view w.site

  abbrev lines : List Asked
  lines = line_events (lines_read s turn.lines)

  abbrev reports : List Taken
  reports = taken_reports old.plan.orders.outstanding (told_at began turn)

  abbrev late : List Asked
  late = ticks s (histories_of w.books.items) m

  -- as one caller takes it, and as so many do
  abbrev pub given : List Asked
  given = map asked_of d.acts.lines.items ++ (map (λ t. t.asked) (map taken_of d.acts.reports.items) ++ map asked_of d.acts.ticks.items)

  abbrev pub given_to : ℕ → List (List Asked)
  given_to callers = dealt callers (map asked_of d.acts.lines.items) (map taken_of d.acts.reports.items) (map asked_of d.acts.ticks.items)

  abbrev shares : ℕ → List (List Asked)
  shares callers = events_of (basis_at began) callers (stage_at began) (read_at began turn) m

  given_is : given ≡ lines ++ (map (λ t. t.asked) reports ++ late)
  given_is =
      ap (λ z. z ++ (map (λ (t : Taken). t.asked) (map taken_of d.acts.reports.items) ++ map asked_of d.acts.ticks.items)) deals.lines
      ∙ ap (λ z. lines ++ (map (λ (t : Taken). t.asked) z ++ map asked_of d.acts.ticks.items)) deals.reports
      ∙ ap (λ z. lines ++ (map (λ (t : Taken). t.asked) reports ++ z)) deals.late

  pub given_to_are : (callers : ℕ) → given_to callers ≡ shares callers
  given_to_are callers =
      ap (λ z. dealt callers z (map taken_of d.acts.reports.items) (map asked_of d.acts.ticks.items)) deals.lines
      ∙ ap (λ z. dealt callers lines z (map asked_of d.acts.ticks.items)) deals.reports
      ∙ ap (λ z. dealt callers lines reports z) deals.late

  pub many_lists : (callers : ℕ) → length (given_to callers) ≡ callers
  many_lists callers =
      length_map (dealt_to callers (map asked_of d.acts.lines.items) (map taken_of d.acts.reports.items) (map asked_of d.acts.ticks.items)) (from_on 0 callers) ∙ many_numbers 0 callers

  -- all of it is on checkables of the site

  reported_on_site : AreOnSite s (map (λ t. t.asked) reports)
  reported_on_site = reports_on_site s old.plan.orders.outstanding (told_at began turn) still_ready.plan.given.within

  pub given_on_site : AreOnSite s given
  given_on_site =
      subst (AreOnSite s) (sym given_is)
      (both_on_site s lines (map (λ (t : Taken). t.asked) reports ++ late) (lines_on_site s turn.lines)
      (both_on_site s (map (λ (t : Taken). t.asked) reports) late reported_on_site (ticks_on_site s (histories_of w.books.items) m)))

  pub given_to_on_site : (callers : ℕ) → All (λ events. AreOnSite s events) (given_to callers)
  given_to_on_site callers =
      subst (All (λ events. AreOnSite s events)) (sym (given_to_are callers))
      (dealt_on_site s callers lines reports late (lines_on_site s turn.lines) reported_on_site (ticks_on_site s (histories_of w.books.items) m))

  -- its round

  -- made by so many callers
  pub rounded : {callers : ℕ} {books : List Contents} {segments : List Segment} → 1 ≤ callers → IsRoundOf s w.zone m w.books.items books (given_to callers) segments → IsRounded began callers turn m d.refusals.items segments w.plan books
  rounded {callers = callers} {books = books} {segments = segments} some made = record {
    ready = still_ready;
    moment_is = moment_is;
    someone = some;
    refused = deals.refused;
    taken = deals.taken;
    made = subst (λ es. IsRoundOf s w.zone m w.books.items books es segments) (given_to_are callers) made;
  }

  -- made by one
  pub rounded_alone : {books : List Contents} {segments : List Segment} (acts : List Asked) (made : Histories) → acts ≡ given → IsRound (basis_at began).rules m (histories_of w.books.items) (acts ∷ []) made
      → segments ≡ segments_of made → histories_of books ≡ joined (histories_of w.books.items) made → AreBooks s m books → IsRounded began 1 turn m d.refusals.items segments w.plan books
  rounded_alone acts made are is told behind stand = rounded (omega arith) (record {
    round = made;
    is = subst (λ es. IsRound (basis_at began).rules m (histories_of w.books.items) es made) (ap (λ as'. as' ∷ []) are ∙ sym (dealt_to_one (map asked_of d.acts.lines.items) (map taken_of d.acts.reports.items) (map asked_of d.acts.ticks.items))) is;
    told = told;
    behind = behind;
    books = stand;
  })

  -- what it tells of what it began with
  pub taken_so : {E : Type 0} (r : Result TurnOut E) (callers : ℕ) (begun : List Begun) (new : EngineState)
      → IfOk r (λ out. TellsTurn (basis_at began) callers (stage_of (running began) begun) (read_at began turn) out (stage_of (running new) (begun_by (stage_of (running began) begun) new.moment)))
      → IfOk r (λ out. TellsTurn (basis_at old) callers (stage_of (running old) begun) (read_at old turn) out (stage_of (running new) (begun_by (stage_of (running old) begun) new.moment)))
  taken_so r callers begun new is =
      subst (λ v. IfOk r (λ out. TellsTurn (basis_at v) callers (stage_of (running v) begun) (read_at v turn) out (stage_of (running new) (begun_by (stage_of (running v) begun) new.moment)))) h.others is
