-- Turns over a site.
use Rattle.std.specs.Prelude.{ℕ, Option}
use Rattle.jiff_tz.specs.declared.tzif.Tzif.{Tzif}
use Rattle.run_meaning.specs.Runs.{IsTurn, Stage, TurnLog}
use Rattle.site_edge.specs.declared.turn.Turn.{Turn}
use Rattle.site_model.specs.PlainSite.{PlainSite}
use Rattle.run_text.specs.TurnReading.{turn_read}
use Rattle.turn_engine.specs.Stages.{Tells, basis_of_site}
use Rattle.turn_engine.specs.declared.turn_out.TurnOut.{TurnOut}

-- it tells the log of some turn over this site, in some zone, with some number of callers and at some stage of a run
pub record IsTurnOf (s : PlainSite) (out : TurnOut) : Type 0 where
  pub zone : Option Tzif
  pub callers : ℕ
  pub stage : Stage
  pub turn : Turn
  pub log : TurnLog
  pub is : IsTurn (basis_of_site s zone) callers stage (turn_read s turn) log
  pub tells : Tells out log
