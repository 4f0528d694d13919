-- Turns that were taken one after another, and the entries of all of them.
use Rattle.std.specs.Prelude.{◌≡◌, ℕ, false, List, [], ◌++◌, length}
use Rattle.run_meaning.specs.Runs.{TurnLog}
use Rattle.run_text.specs.declared.style.Style.TheVariants as style
use Rattle.site_edge.specs.declared.turn.Turn.{Turn}
use Rattle.site_keep.specs.StateFile.{lines_of}
use Rattle.site_model.specs.PlainSite.{site_view}
use Rattle.site_run.specs.Courses.{AreLogsOf, Course, behind_over}
use Rattle.site_run.specs.Feeds.{basis_with, no_lines}
use Rattle.turn_engine.specs.Ready.{EngineView}
use Rattle.turn_engine.specs.Stages.{Running, stage_of}

-- a run with nothing fed, which goes on from an engine as it is
abbrev pub course : Running → Course
course r = record { basis = basis_with (site_view r.site) r.zone no_lines; stage = stage_of r []; style = style.One }

-- some turns were taken, after which this is the engine, and these are the lines of its entries
pub record Keeps (callers : ℕ) (r : Running) (all left : List Turn) (engine : EngineView) (kept : List (List (List ℕ))) : Type 0 where
  pub done : List Turn
  pub logs : List TurnLog
  pub both : done ++ left ≡ all
  pub are : AreLogsOf callers (course r) done logs
  pub stage : stage_of engine.run (behind_over (course r) done logs).stage.begun ≡ (behind_over (course r) done logs).stage
  pub fresh : engine.spent ≡ false
  pub site : engine.run.site ≡ r.site
  pub zone : engine.run.zone ≡ r.zone
  pub lines : kept ≡ lines_of (site_view r.site) engine.run.histories
  pub whole : length engine.run.histories ≡ length (site_view r.site).checkables
  pub turns : engine.run.turns ≡ length done
