-- Rounds and runs in which one event is taken after the other: functions of what there was and what a turn brings.
use Rattle.std.specs.Prelude.{◌≡◌, ◌<◌, ◌+◌, ℕ, zero, suc, List, [], ◌∷◌, ◌++◌, length, slice_get, filter, map, max, nat_eq, Option, Some, None, ⊤}
use Rattle.site_model.specs.PlainSite.{PlainCheck, PlainSite}
use Rattle.site_model.specs.declared.entry.Entry.{Entry}
use Rattle.site_model.specs.declared.event.Event.{Event}
use Rattle.site_model.specs.declared.sight.Sight.{Sight}
use Rattle.run_meaning.specs.Turns.{Asked, Histories, ReadTurn}
use Rattle.run_meaning.specs.Acts.{Rules, entry_of}
use Rattle.run_meaning.specs.Rounds.{behind, all_seen}
use Rattle.run_meaning.specs.Dealing.{line_events, taken_reports, ticks}
use Rattle.run_meaning.specs.Runs.{Basis, TurnLog, Stage, no_entries, lines_of, reports_of, refusals_of, planned_of, stage_after}

-- an event on a checkable, and the caller that takes it
pub record Move : Type 0 where
  pub caller : ℕ
  pub asked : Asked

-- the events of one caller, in order
abbrev pub moves_of : ℕ → List Asked → List Move
moves_of k events = map (λ a. record { caller = k; asked = a }) events

-- caller after caller, from this one on
abbrev pub one_by_one : ℕ → List (List Asked) → List Move
one_by_one k [] = []
one_by_one k (events ∷ more) = moves_of k events ++ one_by_one (suc k) more

-- what one caller takes of these moves
abbrev pub taken_by : ℕ → List Move → List Asked
taken_by k moves = map (λ m. m.asked) (filter (λ m. nat_eq m.caller k) moves)

-- all that stands of each checkable on which this one depends
abbrev pub sights_now : Rules → ℕ → (ℕ → List Entry) → List Sight
sights_now r c entries = map (λ p. record { checkable = p; count = length (entries p) }) (r.ancestors c)

-- the entry that an event makes where all that stands is seen
abbrev pub next_entry : Rules → ℕ → (ℕ → List Entry) → ℕ → ℕ → PlainCheck → Event → Entry
next_entry r moment now k c check e =
    let sights = sights_now r c now in
    entry_of r c check (now c) (all_seen r.site now sights) (record { caller = k; moment = moment; event = e; sights = sights })

-- with one entry more of the checkable of this index
abbrev pub with_entry : ℕ → Entry → Histories → Histories
with_entry k e [] = []
with_entry zero e (es ∷ ess) = (es ++ e ∷ []) ∷ ess
with_entry (suc k) e (es ∷ ess) = es ∷ with_entry k e ess

-- what one move adds to a round
abbrev pub adding : Rules → ℕ → Histories → Histories → Move → Option PlainCheck → Histories
adding r moment before round m None = round
adding r moment before round m (Some check) =
    with_entry m.asked.checkable (next_entry r moment (behind before round) m.caller m.asked.checkable check m.asked.event) round

abbrev pub round_from : Rules → ℕ → Histories → List Move → Histories → Histories
round_from r moment before [] round = round
round_from r moment before (m ∷ moves) round =
    round_from r moment before moves (adding r moment before round m (slice_get r.site.checkables m.asked.checkable))

-- the round that moves make, one after the other
abbrev pub round_of : Rules → ℕ → Histories → List Move → Histories
round_of r moment before moves = round_from r moment before moves (no_entries r.site)

-- the round of one caller
abbrev pub alone : Rules → ℕ → Histories → List Asked → Histories
alone r moment before events = round_of r moment before (moves_of 0 events)

-- what the one caller takes of a turn: lines, reports, ticks
abbrev pub all_events : Basis → Stage → ReadTurn → ℕ → List Asked
all_events b st t moment =
    line_events (lines_of b st t moment) ++ (map (λ x. x.asked) (taken_reports st.plans.outstanding (reports_of st t)) ++ ticks b.rules.site st.histories moment)

-- the log of one turn
abbrev pub turn_alone : Basis → Stage → ReadTurn → TurnLog
turn_alone b st t =
    let moment = max st.moment t.moment in
    let round = alone b.rules moment st.histories (all_events b st t moment) in
    record {
      number = st.turns + 1;
      moment = moment;
      refusals = refusals_of b st t moment;
      round = round;
      orders = (planned_of b st moment round).orders;
    }

-- the logs of a whole run
abbrev pub run_alone : Basis → Stage → List ReadTurn → List TurnLog
run_alone b st [] = []
run_alone b st (t ∷ ts) = let l = turn_alone b st t in l ∷ run_alone b (stage_after b st t l) ts

-- every event is on a checkable of the site
abbrev pub AreOnSite : PlainSite → List Asked → Type 0
AreOnSite s events = (i : ℕ) (a : Asked) → slice_get events i ≡ Some a → a.checkable < length s.checkables

abbrev pub AreMovesOnSite : PlainSite → List Move → Type 0
AreMovesOnSite s moves = (i : ℕ) (m : Move) → slice_get moves i ≡ Some m → m.asked.checkable < length s.checkables

-- all that the one caller takes in these turns is on checkables of the site
abbrev pub IsOnSite : Basis → Stage → List ReadTurn → Type 0
IsOnSite b st [] = ⊤
IsOnSite b st (t ∷ ts) =
    let l = turn_alone b st t in
    AreOnSite b.rules.site (all_events b st t l.moment) × IsOnSite b (stage_after b st t l) ts
