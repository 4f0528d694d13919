-- How commands are named.
use Rattle.std.specs.Prelude.{ℕ, List, [], ◌∷◌, codes, Option, Some, None, Bool, true, false, if◌then◌else◌}
use Rattle.std.specs.Str.{bytes_eq}
use Rattle.event_text.specs.declared.command.Command.{Command}
use Rattle.event_text.specs.declared.command.Command.TheVariants as command

abbrev pub command_name : Command → List ℕ
command_name command.HostResult = codes "PROCESS_HOST_CHECK_RESULT"
command_name command.ServiceResult = codes "PROCESS_SERVICE_CHECK_RESULT"
command_name command.HostCheck = codes "SCHEDULE_HOST_CHECK"
command_name command.ForcedHostCheck = codes "SCHEDULE_FORCED_HOST_CHECK"
command_name command.ServiceCheck = codes "SCHEDULE_SVC_CHECK"
command_name command.ForcedServiceCheck = codes "SCHEDULE_FORCED_SVC_CHECK"
command_name command.AcknowledgeHost = codes "ACKNOWLEDGE_HOST_PROBLEM"
command_name command.AcknowledgeService = codes "ACKNOWLEDGE_SVC_PROBLEM"
command_name command.UnacknowledgeHost = codes "REMOVE_HOST_ACKNOWLEDGEMENT"
command_name command.UnacknowledgeService = codes "REMOVE_SVC_ACKNOWLEDGEMENT"
command_name command.HostDowntime = codes "SCHEDULE_HOST_DOWNTIME"
command_name command.ServiceDowntime = codes "SCHEDULE_SVC_DOWNTIME"
command_name command.EndHostDowntime = codes "DEL_HOST_DOWNTIME"
command_name command.EndServiceDowntime = codes "DEL_SVC_DOWNTIME"
command_name command.HostChecksOn = codes "ENABLE_HOST_CHECK"
command_name command.HostChecksOff = codes "DISABLE_HOST_CHECK"
command_name command.HostNotesOn = codes "ENABLE_HOST_NOTIFICATIONS"
command_name command.HostNotesOff = codes "DISABLE_HOST_NOTIFICATIONS"
command_name command.ServiceChecksOn = codes "ENABLE_SVC_CHECK"
command_name command.ServiceChecksOff = codes "DISABLE_SVC_CHECK"
command_name command.ServiceNotesOn = codes "ENABLE_SVC_NOTIFICATIONS"
command_name command.ServiceNotesOff = codes "DISABLE_SVC_NOTIFICATIONS"

-- all of them
abbrev pub all_commands : List Command
all_commands =
    command.HostResult ∷ command.ServiceResult ∷ command.HostCheck ∷ command.ForcedHostCheck ∷ command.ServiceCheck ∷ command.ForcedServiceCheck ∷ command.AcknowledgeHost ∷ command.AcknowledgeService ∷ command.UnacknowledgeHost ∷ command.UnacknowledgeService ∷ command.HostDowntime ∷ command.ServiceDowntime ∷ command.EndHostDowntime ∷ command.EndServiceDowntime ∷ command.HostChecksOn ∷ command.HostChecksOff ∷ command.HostNotesOn ∷ command.HostNotesOff ∷ command.ServiceChecksOn ∷ command.ServiceChecksOff ∷ command.ServiceNotesOn ∷ command.ServiceNotesOff ∷ []

-- the first command of these that has this name
abbrev pub command_among : List Command → List ℕ → Option Command
command_among [] name = None
command_among (c ∷ cs) name = if bytes_eq name (command_name c) then Some c else command_among cs name

-- the command of this name
unfoldable pub command_named : List ℕ → Option Command
command_named name = command_among all_commands name
