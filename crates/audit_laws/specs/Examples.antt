-- A small site: the host `h` with the service `s`, which takes no passive results, checked by a command without words; what stands
-- before one of its turns; and a run over one turn.
use Rattle.std.specs.Prelude.{true, false, List, [], ◌∷◌, codes, map, Option, Some, None}
use Rattle.site_base.specs.Data.{null}
use Rattle.site_edge.specs.declared.turn.Turn.{Turn}
use Rattle.site_model.specs.PlainSite.{PlainCheck, PlainSite, plain_check, plain_site}
use Rattle.site_model.specs.declared.event.Event.TheVariants as event
use Rattle.event_text.specs.Lines.{Answer, told, faulty}
use Rattle.event_text.specs.declared.line_fault.LineFault.TheVariants as fault
use Rattle.run_meaning.specs.Alone.{run_alone}
use Rattle.run_meaning.specs.Runs.{TurnLog, no_entries, start}
use Rattle.run_meaning.specs.Turns.{Outstanding}
use Rattle.run_text.specs.TurnReading.{turn_read}
use Rattle.turn_engine.specs.Stages.{basis_of_site}
use Rattle.audit_laws.specs.Types.{Open}

abbrev pub host : PlainCheck
host = plain_check (codes "h") None

abbrev pub service : PlainCheck
service = record (plain_check (codes "h!s") (Some 0)) { passive = false }

abbrev pub small_site : PlainSite
small_site = record (plain_site (host ∷ service ∷ []) (codes "h" ∷ codes "h!s" ∷ [])) { commands = record { name = codes "c"; tree = null } ∷ [] }

-- the order 7 of the service is outstanding
abbrev pub one_order : List Outstanding
one_order = record { order = 7; checkable = 1 } ∷ []

abbrev pub one_open : List (Option Open)
one_open = None ∷ Some (record { number = 7; missing = false }) ∷ []

-- a line switches the host's checks on, and another has no bracket
abbrev pub two_lines : List Answer
two_lines = told 0 (event.Checks true) ∷ faulty fault.NoBracket ∷ []

-- a turn that brings nothing; at its moment both are due
abbrev pub one_turn : List Turn
one_turn = record { moment = 10; reports = []; lines = [] } ∷ []

abbrev pub one_log : List TurnLog
one_log = run_alone (basis_of_site small_site None) (start small_site (no_entries small_site)) (map (turn_read small_site) one_turn)
