-- Turns whose rounds are told.
use Rattle.std.specs.Prelude.{◌≡◌, ℕ, List}
use Rattle.run_meaning.specs.Runs.{Basis, IsTurn, Stage, TurnLog}
use Rattle.run_meaning.specs.Turns.{ReadTurn}
use Rattle.round_check.specs.Making.{told_in}
use Rattle.round_check.specs.declared.told.Told.{Told}
use Rattle.turn_engine.specs.Stages.{TellsTurn}
use Rattle.turn_engine.specs.declared.turn_out.TurnOut.{TurnOut}

-- it is the turn of so many callers whose round is told so
pub record IsOnlyTurn (b : Basis) (callers : ℕ) (st : Stage) (t : ReadTurn) (told : List Told) (out : TurnOut) (next : Stage) : Type 0 where
  pub found : TellsTurn b callers st t out next
  pub only : (l : TurnLog) → IsTurn b callers st t l → told_in l.round ≡ told → l ≡ found.log

-- there is no such turn
abbrev pub IsNoTurn : Basis → ℕ → Stage → ReadTurn → List Told → Type 0
IsNoTurn b callers st t told = (l : TurnLog) → IsTurn b callers st t l → told_in l.round ≡ told → ⊥
