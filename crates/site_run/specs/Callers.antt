-- So many callers take the events of a turn.
use Rattle.std.specs.Prelude.{◌≡◌, ◌≤◌, ℕ, List, [], ◌∷◌}
use Rattle.run_meaning.specs.Runs.{Stage, TurnLog}
use Rattle.run_text.specs.LogText.{turn_lines}
use Rattle.site_edge.specs.declared.order.Order.{Order}
use Rattle.site_edge.specs.declared.turn.Turn.{Turn}
use Rattle.site_run.specs.Courses.{Course, IsNextLog, behind_over}
use Rattle.site_run.specs.Starts.{started_of}

-- at least one, and no more than 64
abbrev pub AreCallers : ℕ → Type 0
AreCallers callers = (1 ≤ callers) × (callers ≤ 64)

-- the next turn of a run with so many callers, by its lines, the orders that are started of it, and the stage after it
pub record IsTaken (callers : ℕ) (c : Course) (t : Turn) (lines : List (List ℕ)) (orders : List Order) (next : Stage) : Type 0 where
  pub log : TurnLog
  pub is : IsNextLog callers c [] [] t log
  pub lines_are : lines ≡ turn_lines c.style c.basis.rules.site log
  pub orders_are : orders ≡ started_of log.orders
  pub after : next ≡ (behind_over c (t ∷ []) (log ∷ [])).stage
