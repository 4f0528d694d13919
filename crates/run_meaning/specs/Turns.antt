-- What a turn brings, what is ordered, and the entries that a run goes over.
use Rattle.std.specs.Prelude.{ℕ, zero, suc, Bool, true, false, List, [], ◌∷◌}
use Rattle.site_model.specs.declared.entry.Entry.{Entry}
use Rattle.site_model.specs.declared.event.Event.{Event}
use Rattle.site_model.specs.declared.event.Event.TheVariants as event

-- an event on a checkable
pub record Asked : Type 0 where
  pub checkable : ℕ
  pub event : Event

-- the entries of each checkable, by index
abbrev pub Histories : Type 0
Histories = List (List Entry)

-- one of many lists; the empty one if there is none
abbrev pub of_index : {A : Type 0} → ℕ → List (List A) → List A
of_index k [] = []
of_index zero (xs ∷ xss) = xs
of_index (suc k) (xs ∷ xss) = of_index k xss

-- so many indices from this one on
abbrev pub from_on : ℕ → ℕ → List ℕ
from_on k zero = []
from_on k (suc n) = k ∷ from_on (suc k) n

-- whether a command line may ask for an event: the clock's and an ordered check's are none that it can
abbrev pub is_command : Event → Bool
is_command event.Tick = false
is_command (event.Result status passive output perf) = passive
is_command e = true

-- a command line as it was read: an event on a checkable, or the name of what is wrong with it
pub data Line : Type 0 where
  asking : Asked → Line
  faulty : List ℕ → Line

-- a report as it was read: the order that it is of, and the status and the output with which its check ended
pub record Reported : Type 0 where
  pub order : ℕ
  pub status : ℕ
  pub output : List ℕ

-- what a turn brings, as it was read
pub record ReadTurn : Type 0 where
  pub moment : ℕ
  pub reports : List Reported
  pub lines : List Line

-- the words that run a check, or the name of the macro that is missing for them
pub data Command : Type 0 where
  words : List (List ℕ) → Command
  missing : List ℕ → Command

-- a check that is ordered
pub record Ordered : Type 0 where
  pub number : ℕ
  pub checkable : ℕ
  pub command : Command

-- an order that has no report yet
pub record Outstanding : Type 0 where
  pub order : ℕ
  pub checkable : ℕ

-- when a checkable is to be checked next, and whether whatever holds checks back
pub record Slot : Type 0 where
  pub next : ℕ
  pub forced : Bool

-- how many orders were given so far, which of them are outstanding, and the slot of each checkable
pub record Plans : Type 0 where
  pub given : ℕ
  pub outstanding : List Outstanding
  pub slots : List Slot

-- what a turn orders, and the slots after it
pub record Planned : Type 0 where
  pub orders : List Ordered
  pub slots : List Slot

-- what stood when a turn began: the entries before it, and its moment
pub record Begun : Type 0 where
  pub histories : Histories
  pub moment : ℕ

-- the lines that stand before a turn's own, by what stood when each turn began, this one last
abbrev pub Feed : Type 0
Feed = List Begun → List Line
