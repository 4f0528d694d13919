-- What an engine is at, in the words of runs.
use Rattle.std.specs.Prelude.{◌≡◌, ℕ, List, map, Option}
use Rattle.jiff_tz.specs.declared.tzif.Tzif.{Tzif}
use Rattle.depend_graph.specs.Outlooks.{holds_in}
use Rattle.run_meaning.specs.Meaning.{basis_of}
use Rattle.run_meaning.specs.Alone.{turn_alone}
use Rattle.run_meaning.specs.Runs.{Basis, IsTurn, Stage, TurnLog, begun_by, stage_after}
use Rattle.run_meaning.specs.Turns.{Begun, Histories, Plans, ReadTurn, Reported}
use Rattle.site_edge.specs.declared.turn.Turn.{Turn}
use Rattle.site_model.specs.PlainSite.{PlainSite, site_view}
use Rattle.site_model.specs.declared.site.Site.{Site}
use Rattle.site_posts.specs.Segments.{segments_of}
use Rattle.run_text.specs.TurnReading.{nothing_fed, turn_read}
use Rattle.turn_deal.specs.Dealt.{refusal_of}
use Rattle.turn_engine.specs.Orders.{command_of, order_as}
use Rattle.turn_engine.specs.declared.turn_out.TurnOut.{TurnOut}

-- what clauses see of an engine: its site with its zone, and how far its run has come
pub record Running : Type 0 where
  pub site : Site
  pub zone : Option Tzif
  pub turns : ℕ
  pub moment : ℕ
  pub histories : Histories
  pub plans : Plans
  pub due : List Reported

-- what its run stands on: commands are those of the site, and nothing is fed
abbrev pub basis_of_site : PlainSite → Option Tzif → Basis
basis_of_site s zone = basis_of s (holds_in s zone) (command_of s) nothing_fed

-- with this as what stood when each turn so far began
abbrev pub stage_of : Running → List Begun → Stage
stage_of r begun =
    record { turns = r.turns; moment = r.moment; histories = r.histories; plans = r.plans; due = r.due; begun = begun }

-- what a run from here stands on, and a turn as it is read there
abbrev pub basis_of_run : Running → Basis
basis_of_run r = basis_of_site (site_view r.site) r.zone

abbrev pub turn_as_read : Running → Turn → ReadTurn
turn_as_read r turn = turn_read (site_view r.site) turn

-- the stage after a turn, by the run before it and after it
abbrev pub stage_from : Running → List Begun → Running → Stage
stage_from old begun new = stage_of new (begun_by (stage_of old begun) new.moment)

-- the log of a turn that one caller takes
abbrev pub log_alone : Running → List Begun → Turn → TurnLog
log_alone r begun turn = turn_alone (basis_of_run r) (stage_of r begun) (turn_as_read r turn)

-- it tells this log of a turn
pub record Tells (out : TurnOut) (l : TurnLog) : Type 0 where
  pub number : out.number ≡ l.number
  pub moment : out.moment ≡ l.moment
  pub refused : map refusal_of out.refusals.items ≡ l.refusals
  pub entries : out.segments ≡ segments_of l.round
  pub ordered : map order_as out.orders.items ≡ l.orders

-- a turn of so many callers as it is told, and the stage after it
pub record TellsTurn (b : Basis) (callers : ℕ) (st : Stage) (t : ReadTurn) (out : TurnOut) (next : Stage) : Type 0 where
  pub log : TurnLog
  pub tells : Tells out log
  pub is : IsTurn b callers st t log
  pub after : next ≡ stage_after b st t log
