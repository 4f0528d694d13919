-- The rule of the turn lock, and what each step tells.
--
-- Word 0 counts the tickets drawn, word 1 the tickets served, both modulo 2^64. Slot 0 holds the state with its history.
-- Who waits holds a ticket. Who has the turn holds the slot too, until it serves the next ticket.
use Rattle.std.specs.Prelude.{◌≡◌, ◌≢◌, ◌==◌, ℕ, zero, suc, ◌+◌, ◌%◌, ◌^◌, ◌<◌, ◌≤◌, List, [], ◌∷◌, ◌++◌, length, drop, true, false, cond, ltb, Option, Some, ◌⊎◌}
use mathlib.Core.Option.{some, none}
use mathlib.Core.Option as maybe
use lib.ListN.{get_elem?}
use Rattle.atomic_table.specs.Table.{State, Me, Step}
use Rattle.post_turn.specs.declared.body.Body.{Body}
use Rattle.post_turn.specs.declared.pass.Caller.{Caller}
use Rattle.post_turn.specs.declared.pass.View.{View}
use Rattle.post_turn.specs.History.{IsFront, entries_of, replay}

-- what a seat knows and holds
abbrev pub Mine : Type 0 → Type 0 → Type 0 → Type 0
Mine M S E = Me (Option (Body S E)) (View M S E)

module _ {M S E : Type 0} where
  -- Callers ----------------------------------------------------------------------------------------------------------

  abbrev pub caller : M → S → ℕ → List E → List E → Caller M S E
  caller m s k seen mine = record { machine = m; start = s; number = k; seen = seen; mine = mine }

  -- n callers from k on, who have seen nothing
  abbrev pub newcomers : M → S → ℕ → ℕ → List (Caller M S E)
  newcomers m s k zero = []
  newcomers m s k (suc n) = caller m s k [] [] ∷ newcomers m s (suc k) n

  -- the caller has seen this history, and what of it is new is its own
  abbrev pub grown : Caller M S E → List E → Caller M S E
  grown c history = caller c.machine c.start c.number history (c.mine ++ drop (length c.seen) history)

  -- the caller has seen this history
  abbrev pub shown : Caller M S E → List E → Caller M S E
  shown c history = caller c.machine c.start c.number history c.mine

  -- what the first has seen, and what of it is its own
  abbrev pub seen_in : List (Caller M S E) → List E
  seen_in [] = []
  seen_in (c ∷ cs) = c.seen

  abbrev pub mine_in : List (Caller M S E) → List E
  mine_in [] = []
  mine_in (c ∷ cs) = c.mine

  -- how many callers of these have the number k
  abbrev pub times : ℕ → List (Caller M S E) → ℕ
  times k [] = 0
  times k (c ∷ cs) = cond (c.number == k) 1 0 + times k cs

  -- P holds of each caller
  abbrev pub Each : (Caller M S E → Type 0) → List (Caller M S E) → Type 0
  Each P [] = Unit {0}
  Each P (c ∷ cs) = P c × Each P cs

  -- Views ------------------------------------------------------------------------------------------------------------

  abbrev pub resting : List (Caller M S E) → View M S E
  resting cs = record { waits = false; ticket = 0; turn = false; callers = cs }

  abbrev pub waiting : ℕ → Caller M S E → View M S E
  waiting n c = record { waits = true; ticket = n; turn = false; callers = c ∷ [] }

  abbrev pub serving : ℕ → Caller M S E → View M S E
  serving n c = record { waits = true; ticket = n; turn = true; callers = c ∷ [] }

  -- who may still deal the passes of all callers
  abbrev pub everyone : M → S → ℕ → View M S E
  everyone m s n = resting (newcomers m s 0 n)

  abbrev pub nobody : View M S E
  nobody = resting []

  abbrev pub first_caller : List (Caller M S E) → List (Caller M S E)
  first_caller [] = []
  first_caller (c ∷ cs) = c ∷ []

  abbrev pub other_callers : List (Caller M S E) → List (Caller M S E)
  other_callers [] = []
  other_callers (c ∷ cs) = cs

  -- a pass of its own for the first caller, and what is left
  abbrev pub first_of : View M S E → View M S E
  first_of v = resting (first_caller v.callers)

  abbrev pub rest_of : View M S E → View M S E
  rest_of v = resting (other_callers v.callers)

  -- one view for the callers of two
  abbrev pub gathered : View M S E → View M S E → View M S E
  gathered v w = resting (w.callers ++ v.callers)

  -- 1 for who waits or has the turn
  abbrev pub ticketed : View M S E → ℕ
  ticketed v = cond v.waits 1 0

  abbrev pub total : (View M S E → ℕ) → List (View M S E) → ℕ
  total f [] = 0
  total f (v ∷ vs) = f v + total f vs

  -- The rule ---------------------------------------------------------------------------------------------------------

  -- each seat of the queue holds the ticket of its place, and no other seat holds one; only the first has the turn
  pub record IsQueue (served : ℕ) (queue : List ℕ) (views : List (View M S E)) : Type 0 where
    pub each : (i seat : ℕ) → get_elem? queue i ≡ some seat → (v : View M S E) × (get_elem? views seat ≡ some v) × (v.waits ≡ true) × (v.ticket ≡ (served + i) % 2 ^ 64)
    pub all : (seat : ℕ) (v : View M S E) → get_elem? views seat ≡ some v → v.waits ≡ true → (i : ℕ) × (get_elem? queue i ≡ some seat)
    pub once : (i j seat : ℕ) → get_elem? queue i ≡ some seat → get_elem? queue j ≡ some seat → i ≡ j
    pub turn : (seat : ℕ) (v : View M S E) → get_elem? views seat ≡ some v → v.turn ≡ true → (v.waits ≡ true) × (get_elem? queue 0 ≡ some seat)
    pub counted : total ticketed views ≡ length queue

  module _ (fit : M → S → Type 0) (after : M → S → E → S) (caller_of : E → ℕ) (machine : M) (start : S) (callers : ℕ) where
    -- the state is that of the history, and fit
    pub record IsBody (all : List E) (b : Body S E) : Type 0 where
      pub history : b.history.items ≡ all
      pub state : b.state ≡ replay (after machine) start all
      pub is_fit : fit machine b.state

    -- the caller has seen a beginning of the history, and its own are the entries of its number
    pub record Knows (all : List E) (c : Caller M S E) : Type 0 where
      pub of_machine : c.machine ≡ machine
      pub of_start : c.start ≡ start
      pub seen : IsFront c.seen all
      pub mine : entries_of caller_of c.number all ≡ c.mine
      -- what is its own was seen
      pub own : entries_of caller_of c.number c.seen ≡ c.mine

    -- the slot is at home with the history
    abbrev pub AtHome : List (maybe.Option (Option (Body S E))) → List E → List (View M S E) → Type 0
    AtHome homes history views = (b : Body S E) × (homes ≡ some (Some b) ∷ []) × IsBody history b × ((seat : ℕ) (v : View M S E) → get_elem? views seat ≡ some v → v.turn ≡ false)

    -- the slot is out with who has the turn, and has seen all
    abbrev pub IsOut : List (maybe.Option (Option (Body S E))) → List E → List (View M S E) → Type 0
    IsOut homes history views = (homes ≡ none ∷ []) × (seat : ℕ) × (n : ℕ) × (c : Caller M S E) × (get_elem? views seat ≡ some (serving n c)) × (c.seen ≡ history)

    pub record Kept (s : State (Option (Body S E)) (View M S E)) : Type 0 where
      pub queue : List ℕ
      pub history : List E
      pub drawn : ℕ
      pub served : ℕ
      pub words : s.words ≡ drawn ∷ served ∷ []
      pub small : served < 2 ^ 64
      pub ahead : drawn ≡ (served + length queue) % 2 ^ 64
      pub queued : IsQueue served queue s.views
      pub placed : AtHome s.homes history s.views ⊎ IsOut s.homes history s.views
      -- the numbers below that of the callers stand in one view each, and no others
      pub few : callers < 2 ^ 32
      pub numbers : (k : ℕ) → total (λ v. times k v.callers) s.views ≡ cond (ltb k callers) 1 0
      pub whole : total (λ v. length v.callers) s.views ≡ callers
      pub busy : (seat : ℕ) (v : View M S E) → get_elem? s.views seat ≡ some v → ticketed v ≤ length v.callers
      pub known : (seat : ℕ) (v : View M S E) → get_elem? s.views seat ≡ some v → Each (Knows history) v.callers
      -- every entry is of one of them
      pub own : (k : ℕ) → callers ≤ k → entries_of caller_of k history ≡ []

  -- What the steps tell ----------------------------------------------------------------------------------------------

  -- a ticket was drawn
  abbrev pub drawn : Step (Option (Body S E)) → Mine M S E → ℕ → Mine M S E → Type 0
  drawn p v n w = (c : Caller M S E) → v ≡ (resting (c ∷ []), []) → w ≡ (waiting n c, [])

  -- the seat took the slot, with the history, its state, and what of the history is the caller's own
  pub record Took (fit : M → S → Type 0) (after : M → S → E → S) (caller_of : E → ℕ) (n : ℕ) (c : Caller M S E) (w : Mine M S E) : Type 0 where
    pub body : Body S E
    pub longer : IsFront c.seen body.history.items
    pub state : body.state ≡ replay (after c.machine) c.start body.history.items
    pub is_fit : fit c.machine body.state
    pub own : entries_of caller_of c.number body.history.items ≡ c.mine
    pub view : w ≡ (serving n (shown c body.history.items), (0, Some body) ∷ [])

  -- where the word is the ticket, the seat took the slot
  abbrev pub awaited : (M → S → Type 0) → (M → S → E → S) → (E → ℕ) → Step (Option (Body S E)) → Mine M S E → ℕ → Mine M S E → Type 0
  awaited fit after caller_of p v n w = (t : ℕ) (c : Caller M S E) → v ≡ (waiting t c, []) → ((n ≡ t) × Took fit after caller_of t c w) ⊎ ((n ≢ t) × (w ≡ v))

  -- the slot was given back, and all that it has was seen
  abbrev pub served : Step (Option (Body S E)) → Mine M S E → ℕ → Mine M S E → Type 0
  served p v n w = (t : ℕ) (c : Caller M S E) (b : Body S E) → v ≡ (serving t c, (0, Some b) ∷ []) → w ≡ (resting (grown c b.history.items ∷ []), [])
