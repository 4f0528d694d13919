-- How far the run of a generated site has come.
use Rattle.std.specs.Prelude.{◌≡◌, ◌≤◌, ◌+◌, ◌-◌, ℕ, false, List, map, Option}
use Rattle.jiff_tz.specs.declared.tzif.Tzif.{Tzif}
use Rattle.run_meaning.specs.Alone.{run_alone}
use Rattle.run_meaning.specs.Runs.{Stage, TurnLog, no_entries, stage_by, start}
use Rattle.run_meaning.specs.Turns.{from_on}
use Rattle.run_text.specs.TurnReading.{turn_read}
use Rattle.site_edge.specs.declared.turn.Turn.{Turn}
use Rattle.site_model.specs.PlainSite.{PlainSite, site_view}
use Rattle.turn_engine.specs.Ready.{EngineView, IsZoneOf}
use Rattle.turn_engine.specs.Stages.{basis_of_site, stage_of}
use Rattle.site_gen.specs.Counts.{counts_of}
use Rattle.site_gen.specs.Turns.{turn_of}
use Rattle.site_gen.specs.declared.counts.Counts.{Counts}

-- the turns before the one of this number
unfoldable pub turns_before : ℕ → ℕ → List Turn
turns_before n k = map (turn_of n) (from_on 1 (k - 1))

-- their logs, and the stage behind them
unfoldable pub logs_before : ℕ → PlainSite → Option Tzif → ℕ → List TurnLog
logs_before n s zone k = run_alone (basis_of_site s zone) (start s (no_entries s)) (map (turn_read s) (turns_before n k))

unfoldable pub stage_before : ℕ → PlainSite → Option Tzif → ℕ → Stage
stage_before n s zone k = stage_by (basis_of_site s zone) (start s (no_entries s)) (map (turn_read s) (turns_before n k)) (run_alone (basis_of_site s zone) (start s (no_entries s)) (map (turn_read s) (turns_before n k)))

-- engine and counts stand before the turn of this number
pub record IsSoFar (n : ℕ) (s : PlainSite) (k : ℕ) (e : EngineView) (c : Counts) : Type 0 where
  pub some : 1 ≤ k
  pub few : k ≤ 7
  pub turns : e.run.turns + 1 ≡ k
  pub fresh : e.spent ≡ false
  pub site : site_view e.run.site ≡ s
  pub zone : IsZoneOf s.zone e.run.zone
  pub stage : stage_of e.run (stage_before n s e.run.zone k).begun ≡ stage_before n s e.run.zone k
  pub counts : c ≡ counts_of (logs_before n s e.run.zone k)
