-- How the turns of a script or of the world are read.
use Rattle.std.specs.Prelude.{ℕ, List, [], map}
use Rattle.site_edge.specs.declared.report.Report.{Report}
use Rattle.site_edge.specs.declared.turn.Turn.{Turn}
use Rattle.site_model.specs.PlainSite.{PlainSite}
use Rattle.event_text.specs.Faults.{fault_name}
use Rattle.event_text.specs.Lines.{Answer, told, faulty}
use Rattle.event_text.specs.Reading.{line_read}
use Rattle.run_meaning.specs.Turns as turns
use Rattle.run_meaning.specs.Turns.{Feed, Line, Reported, ReadTurn}

-- an event, or the name of a fault
abbrev pub as_line : Answer → Line
as_line (told k e) = turns.asking (record { checkable = k; event = e })
as_line (faulty f) = turns.faulty (fault_name f)

abbrev pub lines_read : PlainSite → List (List ℕ) → List Line
lines_read s lines = map (λ line. as_line (line_read s line)) lines

abbrev pub report_read : Report → Reported
report_read r = record { order = r.order; status = r.status; output = r.output }

abbrev pub turn_read : PlainSite → Turn → ReadTurn
turn_read s t = record { moment = t.moment; reports = map report_read t.reports; lines = lines_read s t.lines }

-- no lines stand before those of any turn
abbrev pub nothing_fed : Feed
nothing_fed begun = []
