-- How far a run came when it ends.
use Rattle.std.specs.Prelude.{◌≡◌, ◌<◌, ◌≤◌, ◌⊎◌, ℕ, List, [], ◌∷◌, ◌++◌, length, take, Option, None, Some, IfSome, MatchOption, false, Result, Ok, Err}
use Rattle.run_meaning.specs.Runs.{Stage, TurnLog}
use Rattle.site_edge.specs.Lists.{Adds, AddsPart}
use Rattle.site_edge.specs.declared.order.Order.{Order}
use Rattle.site_edge.specs.declared.turn.Turn.{Turn}
use Rattle.turn_engine.specs.Ready.{EngineView}
use Rattle.turn_engine.specs.Stages.{stage_of}
use Rattle.site_run.specs.Courses.{AreLogsOf, Course, IsNextLog, behind_over, calls_over, orders, orders_over, text, text_of, text_over}
use Rattle.site_run.specs.Feeds.{Changing, feed_after}
use Rattle.site_run.specs.Starts.{calls_with, started_of}
use Rattle.site_run.specs.Stops.{status_of}
use Rattle.site_run.specs.declared.status.Status.{Status}
use Rattle.site_run.specs.declared.status.Status.TheVariants as status
use Rattle.site_run.specs.declared.stop.Stop.{Stop}
use Rattle.site_run.specs.declared.stop.Stop.TheVariants as stop

-- what is told of the world and of the sink: the turns left, the orders started, and with which it was called, call by call; the bytes
-- written, and how many of them are kept back
pub record Outside : Type 0 where
  pub turns : Option (List Turn)
  pub started : Option (List Order)
  pub calls : Option (List (List Order))
  pub written : Option (List ℕ)
  pub kept_back : ℕ

abbrev pub outside : Option (List Turn) → Option (List Order) → Option (List (List Order)) → Option (List ℕ) → ℕ → Outside
outside turns started calls written kept_back = record { turns = turns; started = started; calls = calls; written = written; kept_back = kept_back }

-- these were taken off the front; what isn't told stays so
abbrev pub Takes : List Turn → Option (List Turn) → Option (List Turn) → Type 0
Takes taken old new = MatchOption old (new ≡ None) (λ all. (left : List Turn) × (all ≡ taken ++ left) × (new ≡ Some left))

-- these turns were taken, these bytes written, and these orders started by these calls, and no others
pub record IsAt (taken : List Turn) (bytes : List ℕ) (begun : List Order) (by_calls : List (List Order)) (old new : Outside) : Type 0 where
  pub turns : Takes taken old.turns new.turns
  pub written : Adds bytes old.written new.written
  pub started : Adds begun old.started new.started
  pub calls : Adds by_calls old.calls new.calls

-- so, and of this text the first bytes were written too
pub record IsPartWritten (taken : List Turn) (written text : List ℕ) (started : List Order) (by_calls : List (List Order)) (old new : Outside) : Type 0 where
  pub part : List ℕ
  pub rest : List ℕ
  pub are : text ≡ part ++ rest
  pub at : IsAt taken (written ++ part) started by_calls old new

-- so, and of these orders, of which there are some, the first were started too, by one call with all of them, which may be told or not.
-- Nothing that was written is kept back then.
pub record IsPartStarted (taken : List Turn) (written : List ℕ) (started orders : List Order) (by_calls : List (List Order)) (old new : Outside) : Type 0 where
  pub part : List Order
  pub rest : List Order
  pub are : orders ≡ part ++ rest
  pub some : 1 ≤ length orders
  pub tried : List (List Order)
  pub untold : List (List Order)
  pub one : orders ∷ [] ≡ tried ++ untold
  pub at : IsAt taken written (started ++ part) (by_calls ++ tried) old new
  pub through : new.kept_back ≡ 0

-- nothing is kept back, if nothing was at first
abbrev pub StaysThrough : Outside → Outside → Type 0
StaysThrough old new = old.kept_back ≡ 0 → new.kept_back ≡ 0

-- Within one turn.

-- where it stops: in the text, or once that is written and handed on in the orders
abbrev pub StopsIn : Stop → List ℕ → List Order → Outside → Outside → Type 0
StopsIn stop.Sink text orders old new = IsPartWritten [] [] text [] [] old new
StopsIn stop.World text orders old new = IsPartStarted [] text [] orders [] old new
StopsIn stop.OutOfMemory text orders old new = IsPartWritten [] [] text [] [] old new ⊎ IsPartStarted [] text [] orders [] old new

-- a turn of so many callers was gone through: its text is written and handed on, and then its orders are started
pub record IsGone (callers : ℕ) (c : Course) (t : Turn) (next : Stage) (old new : Outside) : Type 0 where
  pub log : TurnLog
  pub is : IsNextLog callers c [] [] t log
  pub at : IsAt [] (text_of c log) (started_of log.orders) (calls_with (started_of log.orders)) old new
  pub through : new.kept_back ≡ 0
  pub after : next ≡ (behind_over c (t ∷ []) (log ∷ [])).stage

-- or the run stops in it: before anything happened, if there was no memory, or in the text or the orders of such a turn
abbrev pub StopsTurn : ℕ → Course → Turn → Stop → Outside → Outside → Type 0
StopsTurn callers c t why old new =
    ((why ≡ stop.OutOfMemory) × (new ≡ old)) ⊎ ((l : TurnLog) × IsNextLog callers c [] [] t l × StopsIn why (text_of c l) (started_of l.orders) old new)

-- Within a run, after turns with these logs.

-- between two turns: of those that were taken all is written, handed on and started
abbrev pub IsBetween : Course → List Turn → List TurnLog → Outside → Outside → Type 0
IsBetween c done ls old new = IsAt done (text_over c ls) (orders_over ls) (calls_over ls) old new × StaysThrough old new

-- before a turn: it was taken, and nothing of it is written or started; what is written is handed on
abbrev pub IsBefore : Course → List Turn → List TurnLog → Turn → Outside → Outside → Type 0
IsBefore c done ls t old new = IsAt (done ++ t ∷ []) (text_over c ls) (orders_over ls) (calls_over ls) old new × StaysThrough old new

-- in the lines of a turn with this log: the first bytes of its text are written, and nothing of it is started
abbrev pub IsInLines : Course → List Turn → List TurnLog → Turn → TurnLog → Outside → Outside → Type 0
IsInLines c done ls t l old new = IsPartWritten (done ++ t ∷ []) (text_over c ls) (text_of c l) (orders_over ls) (calls_over ls) old new

-- in the orders of a turn with this log: its text is written and handed on, and the first of its orders are started
abbrev pub IsInOrders : Course → List Turn → List TurnLog → Turn → TurnLog → Outside → Outside → Type 0
IsInOrders c done ls t l old new =
    IsPartStarted (done ++ t ∷ []) (text_over c ls ++ text_of c l) (orders_over ls) (started_of l.orders) (calls_over ls) old new

-- no turn is left, if they are told
abbrev pub NoneLeft : Option (List Turn) → Type 0
NoneLeft turns = MatchOption turns (Unit {0}) (λ left. left ≡ [])

-- the engine and its feed are as these turns leave them
pub record Stands {F : Type 0} (c : Course) (after : Changing F) (first : F) (done : List Turn) (ls : List TurnLog) (engine : EngineView) (now : F) : Type 0 where
  pub fresh : engine.spent ≡ false
  pub stage : stage_of engine.run (behind_over c done ls).stage.begun ≡ (behind_over c done ls).stage
  pub feed : now ≡ feed_after after first (behind_over c done ls).stage.begun

-- a turn was taken that is one of so many, after these, and the run is in it so
abbrev pub InTurn : ℕ → List Turn → (Turn → Type 0) → Type 0
InTurn limit done Is = (length done < limit) × ((t : Turn) × Is t)

-- the turn has a log, and the run is in it so
abbrev pub InLog : ℕ → Course → List Turn → List TurnLog → Turn → (TurnLog → Type 0) → Type 0
InLog callers c done ls t Is = (l : TurnLog) × IsNextLog callers c done ls t l × Is l

-- By the status, how far a run of at most so many turns is after these: after the last turn, with engine and feed so; before a turn
-- more than may be taken; in the lines of a turn; before the next turn is taken, or in the orders of a turn.
abbrev pub EndsBehind : Status → ℕ → Course → ℕ → (List Turn → List TurnLog → Type 0) → List Turn → List TurnLog → Outside → Outside → Type 0
EndsBehind status.Done callers c limit stands done ls old new = stands done ls × IsBetween c done ls old new × NoneLeft new.turns
EndsBehind status.TurnsSpent callers c limit stands done ls old new = (length done ≡ limit) × ((t : Turn) × IsBefore c done ls t old new)
EndsBehind status.WriteFault callers c limit stands done ls old new = InTurn limit done (λ t. InLog callers c done ls t (λ l. IsInLines c done ls t l old new))
EndsBehind status.WorldFault callers c limit stands done ls old new =
    IsBetween c done ls old new ⊎ InTurn limit done (λ t. InLog callers c done ls t (λ l. IsInOrders c done ls t l old new))
EndsBehind status.OutOfMemory callers c limit stands done ls old new =
    IsBetween c done ls old new
    ⊎ InTurn limit done (λ t. IsBefore c done ls t old new ⊎ InLog callers c done ls t (λ l. IsInLines c done ls t l old new ⊎ IsInOrders c done ls t l old new))
EndsBehind status.Diagnosed callers c limit stands done ls old new = ⊥
EndsBehind status.Usage callers c limit stands done ls old new = ⊥
EndsBehind status.ReadFault callers c limit stands done ls old new = ⊥
EndsBehind status.NotLegal callers c limit stands done ls old new = ⊥

-- a run of so many callers and of at most so many turns ended so
pub record Ends (s : Status) (callers : ℕ) (c : Course) (limit : ℕ) (stands : List Turn → List TurnLog → Type 0) (old new : Outside) : Type 0 where
  pub done : List Turn
  pub logs : List TurnLog
  pub few : length done ≤ limit
  pub are : AreLogsOf callers c done logs
  pub ends : EndsBehind s callers c limit stands done logs old new

-- the turns that came to a run: those that are told, and else some
abbrev pub TurnsCame : Option (List Turn) → List Turn → Type 0
TurnsCame told came = IfSome told (λ ts. came ≡ ts)

-- what was written, by the status, if this is the text of as many of the turns that came as may be taken: all of it, or after a fault a
-- prefix
abbrev pub WritesText : Status → ℕ → List Turn → List ℕ → Option (List ℕ) → Option (List ℕ) → Type 0
WritesText status.Done limit came text old new = (length came ≤ limit) × Adds text old new
WritesText status.TurnsSpent limit came text old new = (limit < length came) × Adds text old new
WritesText s limit came text old new = AddsPart text old new

-- Of one caller.

-- so, if that is its text
abbrev pub WritesOf : Status → Course → ℕ → List Turn → Option (List ℕ) → Option (List ℕ) → Type 0
WritesOf s c limit came old new = WritesText s limit came (text c (take limit came)) old new

-- so, and of their orders a prefix was started
pub record TellsOf (s : Status) (c : Course) (limit : ℕ) (old new : Outside) : Type 0 where
  pub came : List Turn
  pub told : TurnsCame old.turns came
  pub written : WritesOf s c limit came old.written new.written
  pub started : AddsPart (orders c (take limit came)) old.started new.started

-- what is kept back when a run ends, by the status: nothing, unless the words or files were refused, the output could not be
-- written, or there was no memory
abbrev pub HandsOn : Status → ℕ → Type 0
HandsOn status.Done kept = kept ≡ 0
HandsOn status.Diagnosed kept = kept ≡ 0
HandsOn status.TurnsSpent kept = kept ≡ 0
HandsOn status.NotLegal kept = kept ≡ 0
HandsOn status.WorldFault kept = kept ≡ 0
HandsOn status.Usage kept = Unit {0}
HandsOn status.ReadFault kept = Unit {0}
HandsOn status.WriteFault kept = Unit {0}
HandsOn status.OutOfMemory kept = Unit {0}

-- with what a run ends
abbrev pub ended : Result Status Stop → Status
ended (Ok s) = s
ended (Err why) = status_of why
