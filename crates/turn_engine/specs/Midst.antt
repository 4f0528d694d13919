-- A turn in its midst: what it gives to its round, and what stands once the round is made.
use Rattle.std.specs.Prelude.{◌≡◌, ◌<◌, ◌≤◌, ◌+◌, ◌^◌, ℕ, List, [], All, Vec, length, map, max}
use Rattle.std.specs.declared.alloc.Global.{Global}
use Rattle.check_plan.specs.Plans.{Plan}
use Rattle.checkable_core.specs.Contents.{Contents}
use Rattle.depend_graph.specs.Graph.{IsGraphOf}
use Rattle.run_meaning.specs.Dealing.{line_events, still, taken_reports, ticks}
use Rattle.run_meaning.specs.Runs.{Basis, Stage, events_of, refusals_of, reports_of}
use Rattle.run_meaning.specs.Turns.{ReadTurn, Reported}
use Rattle.site_edge.specs.declared.turn.Turn.{Turn}
use Rattle.site_model.specs.PlainSite.{site_view}
use Rattle.site_posts.specs.Books.{AreBooks, histories_of}
use Rattle.site_posts.specs.Made.{asked_of}
use Rattle.site_posts.specs.declared.segment.Segment.{Segment}
use Rattle.run_text.specs.TurnReading.{lines_read, turn_read}
use Rattle.turn_deal.specs.Dealt.{refusal_of, taken_of, with_outstanding}
use Rattle.turn_deal.specs.declared.dealt.Dealt.{Dealt}
use Rattle.turn_deal.specs.declared.refusal.Refusal.{Refusal}
use Rattle.site_posts.specs.Many.{IsRoundOf}
use Rattle.turn_engine.specs.Ready.{IsReady, running}
use Rattle.turn_engine.specs.Stages.{basis_of_site, stage_of}
use Rattle.turn_engine.specs.declared.state.EngineState.{EngineState}

-- In the words of runs: what a run stands on, how far it has come, not counting what stood when its turns began, and a turn
-- as it is read.

abbrev pub basis_at : EngineState → Basis
basis_at w = basis_of_site (site_view w.site) w.zone

abbrev pub stage_at : EngineState → Stage
stage_at w = stage_of (running w) []

abbrev pub read_at : EngineState → Turn → ReadTurn
read_at w turn = turn_read (site_view w.site) turn

-- all reports of a turn
abbrev pub told_at : EngineState → Turn → List Reported
told_at w turn = reports_of (stage_at w) (read_at w turn)

-- what is dealt at the beginning of a turn: the acts of its round, by their kinds, and what is refused; the plan is this one then
pub record Deals (w : EngineState) (turn : Turn) (moment : ℕ) (dealt : Dealt) (plan : Plan) : Type 0 where
  pub lines : map asked_of dealt.acts.lines.items ≡ line_events (lines_read (site_view w.site) turn.lines)
  pub reports : map taken_of dealt.acts.reports.items ≡ taken_reports w.plan.orders.outstanding (told_at w turn)
  pub late : map asked_of dealt.acts.ticks.items ≡ ticks (site_view w.site) (histories_of w.books.items) moment
  pub refused : map refusal_of dealt.refusals.items ≡ refusals_of (basis_at w) (stage_at w) (read_at w turn) moment
  pub taken : plan ≡ with_outstanding (still (told_at w turn) w.plan.orders.outstanding) w.plan

-- a turn is open: what it gives is dealt, and nothing but the plan has changed
pub record IsOpen (old : EngineState) (turn : Turn) (moment : ℕ) (dealt : Dealt) (w : EngineState) : Type 0 where
  pub ready : IsReady old
  pub moment_is : moment ≡ max old.moment turn.moment
  pub deals : Deals old turn moment dealt w.plan
  pub others : record w { plan = old.plan } ≡ old

-- so it was with this plan and these books, when the turn began
abbrev pub begun_with : Plan → Vec Contents Global → EngineState → EngineState
begun_with plan books w = record w { plan = plan; books = books }

-- the round of a turn is made, of what is dealt to so many callers
pub record IsRounded (old : EngineState) (callers : ℕ) (turn : Turn) (moment : ℕ) (refusals : List Refusal) (segments : List Segment) (plan : Plan) (books : List Contents) : Type 0 where
  pub ready : IsReady old
  pub moment_is : moment ≡ max old.moment turn.moment
  pub someone : 1 ≤ callers
  pub refused : map refusal_of refusals ≡ refusals_of (basis_at old) (stage_at old) (read_at old turn) moment
  pub taken : plan ≡ with_outstanding (still (told_at old turn) old.plan.orders.outstanding) old.plan
  pub made : IsRoundOf (site_view old.site) old.zone moment old.books.items books (events_of (basis_at old) callers (stage_at old) (read_at old turn) moment) segments

-- what follows a round can begin
pub record CanSettle (moment : ℕ) (segments : List Segment) (w : EngineState) : Type 0 where
  pub graph : IsGraphOf (site_view w.site) w.graph
  pub books : AreBooks (site_view w.site) moment w.books.items
  pub whole : length w.plan.watches ≡ length (site_view w.site).checkables
  pub within : All (λ x. x.checkable < length (site_view w.site).checkables) segments
  pub numbers : w.plan.orders.given + (site_view w.site).max_orders < 2 ^ 64
  pub turns : w.turns < 2 ^ 40
