-- What is counted of a run.
use Rattle.std.specs.Prelude.{◌≡◌, ℕ, Bool, true, false, not, List, filter, length}
use Rattle.std.specs.List.{flat_map}
use Rattle.run_meaning.specs.Runs.{TurnLog}
use Rattle.site_model.specs.PlainSite.{PlainSite}
use Rattle.site_model.specs.declared.decision.Decision.{Decision}
use Rattle.site_model.specs.declared.entry.Entry.{Entry}
use Rattle.site_model.specs.declared.outcome.Outcome.{Outcome}
use Rattle.site_model.specs.declared.outcome.Outcome.TheVariants as outcome
use Rattle.site_run.specs.Logs.{AreLogs, nothing_given}
use Rattle.site_gen.specs.Turns.{all_turns}
use Rattle.site_gen.specs.declared.counts.Counts.{Counts}

abbrev pub is_sending : Outcome → Bool
is_sending (outcome.Sent users) = true
is_sending o = false

abbrev pub is_sent : Decision → Bool
is_sent d = is_sending d.outcome

-- the entries that all checkables get in a turn
abbrev pub entries_of : TurnLog → List Entry
entries_of l = flat_map (λ es. es) l.round

abbrev pub decisions_in : List Entry → List Decision
decisions_in es = flat_map (λ e. e.decisions) es

-- by the logs of a run
abbrev pub counts_of : List TurnLog → Counts
counts_of ls =
    let decisions = decisions_in (flat_map entries_of ls) in
    record {
      entries = length (flat_map entries_of ls);
      sent = length (filter is_sent decisions);
      suppressed = length (filter (λ d. not (is_sent d)) decisions);
      orders = length (flat_map (λ l. l.orders) ls);
    }

-- they are those of a run of all turns over so many hosts, with one caller
pub record AreCounts (n : ℕ) (s : PlainSite) (c : Counts) : Type 0 where
  pub logs : List TurnLog
  pub are : AreLogs 1 s (nothing_given s) (all_turns n) logs
  pub counts : c ≡ counts_of logs
