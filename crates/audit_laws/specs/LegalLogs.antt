-- Logs that are legal.
use Rattle.std.specs.Prelude.{ℕ, ◌<◌, ◌≤◌, ◌^◌, List, length, map, take, All, Option}
use Rattle.std.specs.List.{AllByRecursion, concat, flat_map}
use Rattle.jiff_tz.specs.declared.tzif.Tzif.{Tzif}
use Rattle.depend_graph.specs.Cycles.{IsOnCycle}
use Rattle.site_edge.specs.declared.turn.Turn.{Turn}
use Rattle.site_model.specs.PlainSite.{PlainSite}
use Rattle.site_model.specs.Sound.{IsSound}
use Rattle.log_text.specs.EntryTwo.{AreTexts}
use Rattle.log_text.specs.SiteNames.{names_of}
use Rattle.run_meaning.specs.Runs.{IsRun, TurnLog, no_entries, start}
use Rattle.run_text.specs.LogText.{turn_lines}
use Rattle.run_text.specs.TurnReading.{turn_read}
use Rattle.run_text.specs.declared.style.Style.{Style}
use Rattle.turn_engine.specs.Orders.{command_of}
use Rattle.turn_engine.specs.Stages.{basis_of_site}
use Rattle.site_run.specs.Logs.{nothing_given, IsLog, Output}
use Rattle.site_audit.specs.Blocks.{blocks_of, lines_of}
use Rattle.site_audit.specs.LogLines.{IsOfTexts}
use Rattle.audit_laws.specs.Fitting.{entries_in, FitsLog, FitsTurn}
use Rattle.audit_laws.specs.Names.{IsWellNamed}

-- what a site has that an engine can be made of: it is sound, its names are in their form and texts, no dependency is on a cycle, 32 bits
-- name each checkable, its numbers of attempts have their bits, and its commands have texts
pub record CanBeRun (s : PlainSite) : Type 0 where
  pub sound : IsSound s
  pub names : IsWellNamed s
  pub texts : AreTexts (names_of s)
  pub free : All (λ d. IsOnCycle s d → ⊥) s.depends
  pub few : length s.checkables ≤ 2 ^ 32
  pub attempts : AllByRecursion (λ c. c.max < 2 ^ 32) s.checkables
  pub commands : (k : ℕ) → IsOfTexts (command_of s k)

-- what a run prints of a site is UTF-8, as all texts are that stand in memory: its names, and the words of its commands or the names of the macros
-- that they lack
pub record HasTexts (s : PlainSite) : Type 0 where
  pub names : AreTexts (names_of s)
  pub commands : (k : ℕ) → IsOfTexts (command_of s k)

-- the logs of a run of so many callers over these turns, without given histories and with nothing fed, all of which can stand in memory
pub record IsRunInMemory (callers : ℕ) (s : PlainSite) (zone : Option Tzif) (turns : List Turn) (logs : List TurnLog) : Type 0 where
  pub run : IsRun (basis_of_site s zone) callers (start s (no_entries s)) (map (turn_read s) turns) logs
  pub fits : AllByRecursion FitsLog logs

-- the blocks of the text of these turns
abbrev pub blocks_written : Style → PlainSite → List TurnLog → List (List (List ℕ))
blocks_written style s logs = blocks_of (lines_of (concat (flat_map (turn_lines style s) logs)))

-- what is written of such a run over the first so many of these turns: each of them can stand in memory, they are at most 2^40, and no checkable
-- gets 2^64 entries
pub record IsLogInMemory (callers : ℕ) (style : Style) (limit : ℕ) (s : PlainSite) (turns : List Turn) (w : Output) : Type 0 where
  pub log : IsLog callers style limit s (nothing_given s) turns w
  pub turns_fit : AllByRecursion FitsTurn (take limit turns)
  pub few_turns : length (take limit turns) ≤ 2 ^ 40
  pub few_entries : (k : ℕ) → entries_in k log.logs < 2 ^ 64
