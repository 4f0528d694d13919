-- The two orders in which a host's event and its service's may be taken.
use Rattle.std.specs.Prelude.{[], ◌∷◌}
use Rattle.run_meaning.specs.Turns.{Histories}
use Rattle.run_meaning.specs.Alone.{Move, round_of}
use Rattle.run_meaning.specs.TwoCallers.{down, nothing, rules}

abbrev pub on_host : Move
on_host = record { caller = 0; asked = record { checkable = 0; event = down } }

abbrev pub on_service : Move
on_service = record { caller = 1; asked = record { checkable = 1; event = down } }

abbrev pub host_first : Histories
host_first = round_of rules 10 nothing (on_host ∷ on_service ∷ [])

abbrev pub service_first : Histories
service_first = round_of rules 10 nothing (on_service ∷ on_host ∷ [])
