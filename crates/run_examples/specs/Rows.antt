-- What is looked at in a turn's log.
use Rattle.std.specs.Prelude.{ℕ, Bool, List, [], ◌∷◌, map}
use Rattle.site_model.specs.declared.decision.Decision.{Decision}
use Rattle.site_model.specs.declared.event.Event.{Event}
use Rattle.site_model.specs.declared.note_kind.NoteKind.{NoteKind}
use Rattle.site_model.specs.declared.outcome.Outcome.{Outcome}
use Rattle.site_model.specs.declared.outcome.Outcome.TheVariants as outcome
use Rattle.site_model.specs.declared.state.State.{State}
use Rattle.run_meaning.specs.Turns.{of_index}
use Rattle.run_meaning.specs.Runs.{TurnLog}

-- what an entry shows, and what was decided at it
pub record Row : Type 0 where
  pub moment : ℕ
  pub state : State
  pub hard : Bool
  pub attempt : ℕ
  pub decisions : List Decision

abbrev pub row : ℕ → State → Bool → ℕ → List Decision → Row
row moment s hard attempt ds = record { moment = moment; state = s; hard = hard; attempt = attempt; decisions = ds }

-- those of the checkable of index k in a turn
abbrev pub rows_on : ℕ → TurnLog → List Row
rows_on k l = map (λ e. row e.moment e.state e.hard e.attempt e.decisions) (of_index k l.round)

-- those of the service
abbrev pub rows_of : TurnLog → List Row
rows_of l = rows_on 1 l

abbrev pub decided : TurnLog → List (List Decision)
decided l = map (λ e. e.decisions) (of_index 1 l.round)

-- which of the service's entries were taken
abbrev pub taken_of : TurnLog → List Bool
taken_of l = map (λ e. e.taken) (of_index 1 l.round)

abbrev pub on_one : NoteKind → Outcome → Decision
on_one k o = record { notification = 0; kind = k; outcome = o }

-- it was sent to the first user
abbrev pub sent : NoteKind → List Decision
sent k = on_one k (outcome.Sent (0 ∷ [])) ∷ []

-- a turn's events on each checkable
abbrev pub statuses : TurnLog → List (List Event)
statuses l = map (λ es. map (λ e. e.event) es) l.round

-- each order of a turn with its checkable
pub record Order : Type 0 where
  pub number : ℕ
  pub checkable : ℕ

abbrev pub order : ℕ → ℕ → Order
order n k = record { number = n; checkable = k }

abbrev pub orders_of : TurnLog → List Order
orders_of l = map (λ o. order o.number o.checkable) l.orders
