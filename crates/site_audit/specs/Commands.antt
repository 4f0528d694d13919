-- The command lines that a log tells.
use Rattle.std.specs.Prelude.{ℕ, ◌&&◌, not, Bool, true, false, List, [], ◌∷◌, ◌++◌, codes, Option, Some, None, if◌then◌else◌}
use Rattle.std.specs.Fmt.{decimal}
use Rattle.site_model.specs.PlainSite.{PlainCheck, PlainSite}
use Rattle.site_model.specs.declared.event.Event.{Event}
use Rattle.site_model.specs.declared.event.Event.TheVariants as event
use Rattle.event_text.specs.Commands.{command_name}
use Rattle.event_text.specs.Cuts.{Cut, cut, uncut, cut_at}
use Rattle.event_text.specs.Fields.{semicolon}
use Rattle.event_text.specs.declared.command.Command.{Command}
use Rattle.event_text.specs.declared.command.Command.TheVariants as command
use Rattle.event_text.specs.declared.line_fault.LineFault.{LineFault}
use Rattle.event_text.specs.declared.line_fault.LineFault.TheVariants as fault

-- what stands between the names of a host and of its service
abbrev pub mark : List ℕ
mark = 33 ∷ []

abbrev pub is_cut : Cut → Bool
is_cut uncut = false
is_cut (cut front behind) = true

-- a line can name what has no semicolon in its name
abbrev pub can_be_named : List ℕ → Bool
can_be_named name = not (is_cut (cut_at semicolon name))

-- a host is named by its name, and a service by that of its host and its own one
abbrev pub names_with : List ℕ → Cut → List ℕ
names_with name uncut = name
names_with name (cut host own) = host ++ 59 ∷ own

abbrev pub names_text : List ℕ → List ℕ
names_text name = names_with name (cut_at mark name)

abbrev pub is_service : List ℕ → Bool
is_service name = is_cut (cut_at mark name)

-- the command that asks for an event of a host, or else of a service
abbrev pub command_for : Event → Bool → Option Command
command_for (event.Result status true output perf) false = Some command.HostResult
command_for (event.Result status true output perf) true = Some command.ServiceResult
command_for (event.Result status false output perf) service = None
command_for event.Tick service = None
command_for (event.Check moment false) false = Some command.HostCheck
command_for (event.Check moment false) true = Some command.ServiceCheck
command_for (event.Check moment true) false = Some command.ForcedHostCheck
command_for (event.Check moment true) true = Some command.ForcedServiceCheck
command_for (event.Ack sticky notify) false = Some command.AcknowledgeHost
command_for (event.Ack sticky notify) true = Some command.AcknowledgeService
command_for event.Unack false = Some command.UnacknowledgeHost
command_for event.Unack true = Some command.UnacknowledgeService
command_for (event.Down start end fixed duration) false = Some command.HostDowntime
command_for (event.Down start end fixed duration) true = Some command.ServiceDowntime
command_for (event.Undown number) false = Some command.EndHostDowntime
command_for (event.Undown number) true = Some command.EndServiceDowntime
command_for (event.Checks true) false = Some command.HostChecksOn
command_for (event.Checks true) true = Some command.ServiceChecksOn
command_for (event.Checks false) false = Some command.HostChecksOff
command_for (event.Checks false) true = Some command.ServiceChecksOff
command_for (event.Notes true) false = Some command.HostNotesOn
command_for (event.Notes true) true = Some command.ServiceNotesOn
command_for (event.Notes false) false = Some command.HostNotesOff
command_for (event.Notes false) true = Some command.ServiceNotesOff

-- the output of a check that told these texts
abbrev pub output_text : List ℕ → List ℕ → List ℕ
output_text output [] = output
output_text output (b ∷ bs) = output ++ 124 ∷ b ∷ bs

-- what follows the names, with empty authors and comments
abbrev pub fields_text : Event → List ℕ
fields_text (event.Result status passive output perf) = 59 ∷ (decimal status ++ 59 ∷ output_text output perf)
fields_text event.Tick = []
fields_text (event.Check moment forced) = 59 ∷ decimal moment
fields_text (event.Ack sticky notify) = (if sticky then codes ";2" else codes ";1") ++ ((if notify then codes ";1" else codes ";0") ++ codes ";0;;")
fields_text event.Unack = []
fields_text (event.Down start end fixed duration) =
    59 ∷ (decimal start ++ 59 ∷ (decimal end ++ ((if fixed then codes ";1;0;" else codes ";0;0;") ++ (decimal duration ++ codes ";;"))))
fields_text (event.Undown number) = 59 ∷ decimal number
fields_text (event.Checks on) = []
fields_text (event.Notes on) = []

-- the line that asks for an event of a checkable of this name
abbrev pub line_with : Option Command → List ℕ → Event → Option (List ℕ)
line_with None name e = None
line_with (Some c) name e = Some (codes "[0] " ++ (command_name c ++ 59 ∷ (names_text name ++ fields_text e)))

abbrev pub line_for : List ℕ → Event → Option (List ℕ)
line_for name e = if can_be_named name then line_with (command_for e (is_service name)) name e else None

-- Lines that are refused.

-- the name of the first of these that passes a test
abbrev pub first_named : (PlainCheck → Bool) → List PlainCheck → Option (List ℕ)
first_named test [] = None
first_named test (c ∷ cs) = if test c then Some c.name else first_named test cs

abbrev pub is_host_to_name : PlainCheck → Bool
is_host_to_name c = can_be_named c.name && not (is_service c.name)

abbrev pub is_closed_to_name : PlainCheck → Bool
is_closed_to_name c = can_be_named c.name && not c.passive

-- the first host that a line can name, and the first checkable that takes no passive results and that one can name
abbrev pub host_to_name : List PlainCheck → Option (List ℕ)
host_to_name cs = first_named is_host_to_name cs

abbrev pub closed_to_name : List PlainCheck → Option (List ℕ)
closed_to_name cs = first_named is_closed_to_name cs

abbrev pub with_host : List ℕ → List ℕ → Option (List ℕ) → Option (List ℕ)
with_host front back None = None
with_host front back (Some host) = Some (front ++ (host ++ back))

abbrev pub closed_line : Option (List ℕ) → Option (List ℕ)
closed_line None = None
closed_line (Some name) = line_for name (event.Result 0 true [] [])

-- a line that is refused so, if this host and this checkable are those
abbrev pub refused_with : Option (List ℕ) → Option (List ℕ) → LineFault → Option (List ℕ)
refused_with host closed fault.NotText = Some (255 ∷ [])
refused_with host closed fault.NoBracket = Some []
refused_with host closed fault.BadMoment = Some (codes "[x] ")
refused_with host closed fault.UnknownCommand = Some (codes "[0] X")
refused_with host closed fault.FieldCount = Some (codes "[0] ENABLE_HOST_CHECK")
refused_with host closed fault.UnknownCheckable = Some (codes "[0] ENABLE_HOST_CHECK;")
refused_with host closed fault.BadNumber = with_host (codes "[0] SCHEDULE_HOST_CHECK;") (codes ";x") host
refused_with host closed fault.BadSpan = with_host (codes "[0] SCHEDULE_HOST_DOWNTIME;") (codes ";1;1;1;0;0;;") host
refused_with host closed fault.PassiveOff = closed_line closed

abbrev pub refused_text : PlainSite → LineFault → Option (List ℕ)
refused_text s f = refused_with (host_to_name s.checkables) (closed_to_name s.checkables) f
