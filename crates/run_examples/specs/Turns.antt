-- Turns on a host, index 0, and a service of it, index 1.
use Rattle.std.specs.Prelude.{ℕ, suc, zero, ◌+◌, ◌*◌, ◌==◌, true, List, [], ◌∷◌, map, if◌then◌else◌}
use Rattle.site_model.specs.declared.event.Event.{Event}
use Rattle.site_model.specs.declared.event.Event.TheVariants as event
use Rattle.run_meaning.specs.Turns.{Line, ReadTurn, Reported, asking}

-- a line on a checkable
abbrev pub on : ℕ → Event → Line
on k e = asking (record { checkable = k; event = e })

abbrev pub turn : ℕ → List Line → ReadTurn
turn moment lines = record { moment = moment; reports = []; lines = lines }

abbrev pub empty : ℕ → ReadTurn
empty moment = turn moment []

-- with these events on the service
abbrev pub with_events : ℕ → List Event → ReadTurn
with_events moment es = turn moment (map (on 1) es)

abbrev pub with_event : ℕ → Event → ReadTurn
with_event moment e = with_events moment (e ∷ [])

abbrev pub of_status : ℕ → Event
of_status status = event.Result status true [] []

-- a passive result of the service
abbrev pub passive : ℕ → ℕ → ReadTurn
passive moment status = with_event moment (of_status status)

-- a passive result of the host
abbrev pub of_host : ℕ → ℕ → ReadTurn
of_host moment status = turn moment (on 0 (of_status status) ∷ [])

-- the results 2, 0, 2, 0, 2, 0, 2, 0 and then 0, from this number on
abbrev pub swing : ℕ → ℕ
swing n = if n == 1 then 2 else if n == 3 then 2 else if n == 5 then 2 else if n == 7 then 2 else 0

-- so many of them, at every tenth second
abbrev pub swings : ℕ → ℕ → List ReadTurn
swings zero number = []
swings (suc n) number = passive (10 * number) (swing number) ∷ swings n (number + 1)

-- a report of an order
abbrev pub ended : ℕ → ℕ → Reported
ended order status = record { order = order; status = status; output = [] }

-- with these reports alone
abbrev pub with_reports : ℕ → List Reported → ReadTurn
with_reports moment rs = record { moment = moment; reports = rs; lines = [] }

abbrev pub report : ℕ → ℕ → ReadTurn
report moment order = with_reports moment (ended order 0 ∷ [])
