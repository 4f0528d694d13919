-- What commands ask for, and which fields they have.
use Rattle.std.specs.Prelude.{ℕ, ◌+◌, ◌==◌, ◌&&◌, ◌||◌, nat_lt, Bool, true, false, List, [], ◌∷◌, length, slice_index, Option, Some, None, if◌then◌else◌}
use Rattle.plugin_line.specs.Output.{plugin_result}
use Rattle.site_model.specs.PlainSite.{PlainCheck}
use Rattle.site_model.specs.declared.event.Event.{Event}
use Rattle.site_model.specs.declared.event.Event.TheVariants as event
use Rattle.event_text.specs.Checkables.{takes_passive}
use Rattle.event_text.specs.Numbers.{host_status}
use Rattle.event_text.specs.declared.command.Command.{Command}
use Rattle.event_text.specs.declared.command.Command.TheVariants as command
use Rattle.event_text.specs.declared.kind.Kind.{Kind}
use Rattle.event_text.specs.declared.kind.Kind.TheVariants as kind
use Rattle.event_text.specs.declared.limit.Limit.{Limit}

abbrev pub kind_of : Command → Kind
kind_of command.HostResult = kind.HostResult
kind_of command.ServiceResult = kind.ServiceResult
kind_of command.HostCheck = kind.Check false
kind_of command.ForcedHostCheck = kind.Check true
kind_of command.ServiceCheck = kind.Check false
kind_of command.ForcedServiceCheck = kind.Check true
kind_of command.AcknowledgeHost = kind.Acknowledge
kind_of command.AcknowledgeService = kind.Acknowledge
kind_of command.UnacknowledgeHost = kind.Unacknowledge
kind_of command.UnacknowledgeService = kind.Unacknowledge
kind_of command.HostDowntime = kind.Downtime
kind_of command.ServiceDowntime = kind.Downtime
kind_of command.EndHostDowntime = kind.EndDowntime
kind_of command.EndServiceDowntime = kind.EndDowntime
kind_of command.HostChecksOn = kind.Checks true
kind_of command.HostChecksOff = kind.Checks false
kind_of command.HostNotesOn = kind.Notes true
kind_of command.HostNotesOff = kind.Notes false
kind_of command.ServiceChecksOn = kind.Checks true
kind_of command.ServiceChecksOff = kind.Checks false
kind_of command.ServiceNotesOn = kind.Notes true
kind_of command.ServiceNotesOff = kind.Notes false

-- whether it names a service of the host
abbrev pub names_service : Command → Bool
names_service command.HostResult = false
names_service command.ServiceResult = true
names_service command.HostCheck = false
names_service command.ForcedHostCheck = false
names_service command.ServiceCheck = true
names_service command.ForcedServiceCheck = true
names_service command.AcknowledgeHost = false
names_service command.AcknowledgeService = true
names_service command.UnacknowledgeHost = false
names_service command.UnacknowledgeService = true
names_service command.HostDowntime = false
names_service command.ServiceDowntime = true
names_service command.EndHostDowntime = false
names_service command.EndServiceDowntime = true
names_service command.HostChecksOn = false
names_service command.HostChecksOff = false
names_service command.HostNotesOn = false
names_service command.HostNotesOff = false
names_service command.ServiceChecksOn = true
names_service command.ServiceChecksOff = true
names_service command.ServiceNotesOn = true
names_service command.ServiceNotesOff = true

-- a status, a moment, 0 to 2, 0 or 1, 0 alone, a duration, and any number
abbrev pub status : Limit
status = record { digits = 19; most = 255 }

abbrev pub moment : Limit
moment = record { digits = 11; most = 99999999999 }

abbrev pub three : Limit
three = record { digits = 19; most = 2 }

abbrev pub switch : Limit
switch = record { digits = 19; most = 1 }

abbrev pub nothing : Limit
nothing = record { digits = 19; most = 0 }

abbrev pub duration : Limit
duration = record { digits = 19; most = 99999999999 }

abbrev pub any_number : Limit
any_number = record { digits = 19; most = 9999999999999999999 }

-- the numbers that follow the names
abbrev pub limits_of : Kind → List Limit
limits_of kind.HostResult = status ∷ []
limits_of kind.ServiceResult = status ∷ []
limits_of (kind.Check forced) = moment ∷ []
limits_of kind.Acknowledge = three ∷ switch ∷ switch ∷ []
limits_of kind.Unacknowledge = []
limits_of kind.Downtime = moment ∷ moment ∷ switch ∷ nothing ∷ duration ∷ []
limits_of kind.EndDowntime = any_number ∷ []
limits_of (kind.Checks on) = []
limits_of (kind.Notes on) = []

-- how many texts follow them: an output, or an author and a comment
abbrev pub texts_of : Kind → ℕ
texts_of kind.HostResult = 1
texts_of kind.ServiceResult = 1
texts_of (kind.Check forced) = 0
texts_of kind.Acknowledge = 2
texts_of kind.Unacknowledge = 0
texts_of kind.Downtime = 2
texts_of kind.EndDowntime = 0
texts_of (kind.Checks on) = 0
texts_of (kind.Notes on) = 0

-- host and maybe service
abbrev pub names_of : Command → ℕ
names_of c = if names_service c then 2 else 1

abbrev pub count_of : Command → ℕ
count_of c = names_of c + length (limits_of (kind_of c)) + texts_of (kind_of c)

-- a text that is the last field takes the rest of the line
abbrev pub ends_in_text : Command → Bool
ends_in_text c = nat_lt 0 (texts_of (kind_of c))

-- the event that a command asks for with these numbers; of the texts only the output of a result counts, which is the last field
abbrev pub passive_event : ℕ → List ℕ → Event
passive_event status output = let told = plugin_result output status in event.Result told.status true told.output told.perf

abbrev pub is_one : ℕ → Bool
is_one n = n == 1

abbrev pub event_of : Kind → List ℕ → List ℕ → Event
event_of kind.HostResult ns last = passive_event (host_status (slice_index ns 0)) last
event_of kind.ServiceResult ns last = passive_event (slice_index ns 0) last
event_of (kind.Check forced) ns last = event.Check (slice_index ns 0) forced
event_of kind.Acknowledge ns last = event.Ack (slice_index ns 0 == 2) (is_one (slice_index ns 1))
event_of kind.Unacknowledge ns last = event.Unack
event_of kind.Downtime ns last =
    event.Down (slice_index ns 0) (slice_index ns 1) (is_one (slice_index ns 2)) (if is_one (slice_index ns 2) then 0 else slice_index ns 4)
event_of kind.EndDowntime ns last = event.Undown (slice_index ns 0)
event_of (kind.Checks on) ns last = event.Checks on
event_of (kind.Notes on) ns last = event.Notes on

-- a downtime starts before its end, and a flexible one has a duration
abbrev pub has_span : Kind → List ℕ → Bool
has_span kind.HostResult ns = true
has_span kind.ServiceResult ns = true
has_span (kind.Check forced) ns = true
has_span kind.Acknowledge ns = true
has_span kind.Unacknowledge ns = true
has_span kind.Downtime ns = nat_lt (slice_index ns 0) (slice_index ns 1) && (is_one (slice_index ns 2) || nat_lt 0 (slice_index ns 4))
has_span kind.EndDowntime ns = true
has_span (kind.Checks on) ns = true
has_span (kind.Notes on) ns = true

-- a result is taken by a checkable that takes passive ones; everything else by each
abbrev pub is_open_to : Kind → Option PlainCheck → Bool
is_open_to kind.HostResult check = takes_passive check
is_open_to kind.ServiceResult check = takes_passive check
is_open_to (kind.Check forced) check = true
is_open_to kind.Acknowledge check = true
is_open_to kind.Unacknowledge check = true
is_open_to kind.Downtime check = true
is_open_to kind.EndDowntime check = true
is_open_to (kind.Checks on) check = true
is_open_to (kind.Notes on) check = true
