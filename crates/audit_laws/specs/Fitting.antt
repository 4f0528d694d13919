-- What each log in memory meets: its numbers have their bits, its moments are in their range, and its texts are UTF-8. And what of turns
-- makes it so.
use Rattle.std.specs.Prelude.{ℕ, ◌+◌, ◌<◌, ◌≤◌, ◌^◌, List, [], ◌∷◌, length}
use Rattle.std.specs.List.{AllByRecursion}
use Rattle.log_text.specs.EntryTwo.{FitsEntry}
use Rattle.run_meaning.specs.Dealing.{Refusal, refused_line, refused_report}
use Rattle.run_meaning.specs.Runs.{TurnLog}
use Rattle.run_meaning.specs.Turns.{Ordered, of_index}
use Rattle.site_edge.specs.declared.turn.Turn.{Turn}
use Rattle.site_audit.specs.LogLines.{IsOfTexts}

-- the number of a refused line, or of the order of a refused report
abbrev pub FitsRefusal : Refusal → Type 0
FitsRefusal (refused_line number fault) = number < 2 ^ 64
FitsRefusal (refused_report order) = order < 2 ^ 64

-- the words of an ordered check, or the name of the macro that is missing, are texts
pub record FitsOrder (o : Ordered) : Type 0 where
  pub number : o.number < 2 ^ 64
  pub texts : IsOfTexts o.command

-- the log of a turn
pub record FitsLog (l : TurnLog) : Type 0 where
  pub number : l.number < 2 ^ 64
  pub moment : l.moment ≤ 99999999999
  pub refusals : AllByRecursion FitsRefusal l.refusals
  pub entries : (k : ℕ) → AllByRecursion FitsEntry (of_index k l.round)
  pub orders : AllByRecursion FitsOrder l.orders

-- a turn, as it comes
pub record FitsTurn (t : Turn) : Type 0 where
  pub moment : t.moment ≤ 99999999999
  pub reports : AllByRecursion (λ r. r.order < 2 ^ 64) t.reports
  pub lines : length t.lines < 2 ^ 64

-- how many entries the checkable of this index gets in these turns
abbrev pub entries_in : ℕ → List TurnLog → ℕ
entries_in k [] = 0
entries_in k (l ∷ ls) = length (of_index k l.round) + entries_in k ls
