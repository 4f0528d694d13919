-- How faults of command lines are named.
use Rattle.std.specs.Prelude.{ℕ, List, codes}
use Rattle.event_text.specs.declared.line_fault.LineFault.{LineFault}
use Rattle.event_text.specs.declared.line_fault.LineFault.TheVariants as fault

abbrev pub fault_name : LineFault → List ℕ
fault_name fault.NotText = codes "NotText"
fault_name fault.NoBracket = codes "NoBracket"
fault_name fault.BadMoment = codes "BadMoment"
fault_name fault.UnknownCommand = codes "UnknownCommand"
fault_name fault.FieldCount = codes "FieldCount"
fault_name fault.UnknownCheckable = codes "UnknownCheckable"
fault_name fault.BadNumber = codes "BadNumber"
fault_name fault.BadSpan = codes "BadSpan"
fault_name fault.PassiveOff = codes "PassiveOff"
