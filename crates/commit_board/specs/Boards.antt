-- What stands on a board, and the rule that it keeps.
use Rattle.std.specs.Prelude.{◌≡◌, ◌⊎◌, ℕ, ◌≤◌, ◌==◌, List, [], map, length, slice_get, slice_set, nat_lt, if◌then◌else◌, Bool, true, false, not, ◌&&◌, MatchBool, All, Option, Some, None, Vec, vec_capacity}
use Rattle.std.specs.List.{count_by}
use Rattle.std.specs.declared.alloc.Global.{Global}
use Rattle.commit_board.specs.declared.slot.Slot.{Slot}
use Rattle.commit_board.specs.declared.slot.Slot.TheVariants.{Open, Claimed, Answered}
use Rattle.commit_board.specs.declared.claim.Ticket.{Ticket}
use Rattle.commit_board.specs.declared.claim.Claim.{Claim}
use Rattle.commit_board.specs.declared.claim.Found.{Found}
use Rattle.commit_board.specs.declared.claim.Found.TheVariants.{Answer, Task}
use Rattle.commit_board.specs.Places.{times}

-- what clauses see of a board: the number of the wave, whether it is under way, and how each of its tasks stands
pub record Contents (T A : Type 0) : Type 0 where
  pub wave : ℕ
  pub is_running : Bool
  pub slots : List (Slot T A)

module _ {T A : Type 0} where
  -- ---- how tasks stand

  abbrev pub is_open : Slot T A → Bool
  is_open (Open t) = true
  is_open Claimed = false
  is_open (Answered a) = false

  abbrev pub has_answer : Slot T A → Bool
  has_answer (Open t) = false
  has_answer Claimed = false
  has_answer (Answered a) = true

  abbrev pub is_claimed_at : Option (Slot T A) → Bool
  is_claimed_at (Some (Open t)) = false
  is_claimed_at (Some Claimed) = true
  is_claimed_at (Some (Answered a)) = false
  is_claimed_at None = false

  -- none is open: a worker has it, or its answer is there
  abbrev pub AreTaken : List (Slot T A) → Type 0
  AreTaken slots = All (λ s. is_open s ≡ false) slots

  -- a task is open, or a worker has it
  abbrev pub IsLeft : List (Slot T A) → Type 0
  IsLeft slots = (k : ℕ) × (((t : T) × (slice_get slots k ≡ Some (Open t))) ⊎ (slice_get slots k ≡ Some Claimed))

  -- ---- the rule

  -- an open task is the one that the wave has there, and an answer is right for it
  abbrev pub Fits : (T → Type 0) → (A → Type 0) → Slot T A → Type 0
  Fits asks gives (Open t) = asks t
  Fits asks gives Claimed = Unit {0}
  Fits asks gives (Answered a) = gives a

  -- a wave that is under way has all of its tasks on the board, each at its place, and no other; without one there are none
  pub record Stands (size : ℕ → ℕ) (asks : ℕ → ℕ → T → Type 0) (gives : ℕ → ℕ → A → Type 0) (board : Contents T A) : Type 0 where
    pub whole : MatchBool board.is_running (length board.slots ≡ size board.wave) (board.slots ≡ [])
    pub each : (k : ℕ) (s : Slot T A) → slice_get board.slots k ≡ Some s → Fits (asks board.wave k) (gives board.wave k) s

  -- how many open tasks there are at a place
  abbrev pub opens : Option (Slot T A) → ℕ
  opens (Some (Open t)) = 1
  opens (Some Claimed) = 0
  opens (Some (Answered a)) = 0
  opens None = 0

  -- what a board keeps: the rule; the places of the open tasks, each once, with room for all; and how many tasks have no answer
  pub record Holds (size : ℕ → ℕ) (asks : ℕ → ℕ → T → Type 0) (gives : ℕ → ℕ → A → Type 0) (wave : ℕ) (is_running : Bool) (slots : List (Slot T A)) (free : Vec ℕ Global) (left : ℕ) : Type 0 where
    pub stands : Stands size asks gives (record { wave = wave; is_running = is_running; slots = slots })
    pub listed : (k : ℕ) → times k free.items ≡ opens (slice_get slots k)
    pub many : length free.items ≡ count_by is_open slots
    pub room : length slots ≤ vec_capacity free
    pub counted : left ≡ count_by (λ s. not (has_answer s)) slots

  -- ---- what calls do

  -- whether a wave may begin: none is under way, and none of this number or a later one was
  abbrev pub may_start : ℕ → Contents T A → Bool
  may_start wave board = not board.is_running && nat_lt board.wave wave

  abbrev pub started : ℕ → List T → Contents T A → Contents T A
  started wave tasks board = if may_start wave board then record { wave = wave; is_running = true; slots = map Open tasks } else board

  abbrev pub with_slot : ℕ → Slot T A → Contents T A → Contents T A
  with_slot place slot board = record { wave = board.wave; is_running = board.is_running; slots = slice_set board.slots place slot }

  -- the task was open at the ticket's place, and is claimed now
  pub record IsClaim {L : Type 0} (old : Contents T A) (claim : Claim T L) (new : Contents T A) : Type 0 where
    pub wave : claim.ticket.wave ≡ old.wave
    pub was : slice_get old.slots claim.ticket.place ≡ Some (Open claim.task)
    pub is : new ≡ with_slot claim.ticket.place Claimed old

  -- what is given back for a ticket: the task that it is for, or an answer that is right for it
  abbrev pub IsRight : {L : Type 0} → (ℕ → ℕ → T → Type 0) → (ℕ → ℕ → A → Type 0) → Ticket L → Found T A → Type 0
  IsRight asks gives ticket (Answer a) = gives ticket.wave ticket.place a
  IsRight asks gives ticket (Task t) = asks ticket.wave ticket.place t

  -- whether the task that a wave has at a place is claimed on this board
  abbrev pub is_claimed_of : ℕ → ℕ → Contents T A → Bool
  is_claimed_of wave place board = (wave == board.wave) && is_claimed_at (slice_get board.slots place)

  abbrev pub is_claimed : {L : Type 0} → Ticket L → Contents T A → Bool
  is_claimed ticket board = is_claimed_of ticket.wave ticket.place board

  abbrev pub slot_of : Found T A → Slot T A
  slot_of (Answer a) = Answered a
  slot_of (Task t) = Open t

  abbrev pub put_by : {L : Type 0} → Ticket L → Found T A → Contents T A → Contents T A
  put_by ticket found board =
      if is_claimed ticket board then with_slot ticket.place (slot_of found) board else board

  -- whether all answers of a wave are there
  abbrev pub is_answered : Contents T A → Bool
  is_answered board = board.is_running && (count_by (λ s. not (has_answer s)) board.slots == 0)

  -- the answers were taken
  abbrev pub closed : Contents T A → Contents T A
  closed board = record { wave = board.wave; is_running = false; slots = [] }

-- an answer for each place, right for what stands there
pub record AreAnswers {A : Type 0} (size : ℕ) (gives : ℕ → A → Type 0) (answers : List A) : Type 0 where
  pub whole : length answers ≡ size
  pub each : (k : ℕ) (a : A) → slice_get answers k ≡ Some a → gives k a
