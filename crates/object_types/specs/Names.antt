-- How types of objects and their attributes are named, and the waves in which types are evaluated.
use Rattle.std.specs.Prelude.{ℕ, List, [], ◌∷◌, codes, Bool, true, false, Option, Some, None, if◌then◌else◌}
use Rattle.std.specs.Str.{bytes_eq}
use Rattle.object_types.specs.declared.attribute.Attribute.{Attribute}
use Rattle.object_types.specs.declared.attribute.Attribute.TheVariants as attribute
use Rattle.object_types.specs.declared.object_type.ObjectType.{ObjectType}
use Rattle.object_types.specs.declared.object_type.ObjectType.TheVariants as object

abbrev pub type_name : ObjectType → List ℕ
type_name object.Host = codes "Host"
type_name object.Service = codes "Service"
type_name object.HostGroup = codes "HostGroup"
type_name object.ServiceGroup = codes "ServiceGroup"
type_name object.UserGroup = codes "UserGroup"
type_name object.CheckCommand = codes "CheckCommand"
type_name object.NotificationCommand = codes "NotificationCommand"
type_name object.EventCommand = codes "EventCommand"
type_name object.User = codes "User"
type_name object.Notification = codes "Notification"
type_name object.Dependency = codes "Dependency"
type_name object.ScheduledDowntime = codes "ScheduledDowntime"
type_name object.TimePeriod = codes "TimePeriod"
type_name object.Endpoint = codes "Endpoint"
type_name object.Zone = codes "Zone"
type_name object.CheckerComponent = codes "CheckerComponent"
type_name object.NotificationComponent = codes "NotificationComponent"
type_name object.FileLogger = codes "FileLogger"
type_name object.SyslogLogger = codes "SyslogLogger"
type_name object.ApiListener = codes "ApiListener"
type_name object.ApiUser = codes "ApiUser"
type_name object.IcingaApplication = codes "IcingaApplication"

-- all of them
abbrev pub all_types : List ObjectType
all_types =
    object.Host ∷ object.Service ∷ object.HostGroup ∷ object.ServiceGroup ∷ object.UserGroup ∷ object.CheckCommand ∷ object.NotificationCommand ∷ object.EventCommand ∷ object.User ∷ object.Notification ∷ object.Dependency ∷ object.ScheduledDowntime ∷ object.TimePeriod ∷ object.Endpoint ∷ object.Zone ∷ object.CheckerComponent ∷ object.NotificationComponent ∷ object.FileLogger ∷ object.SyslogLogger ∷ object.ApiListener ∷ object.ApiUser ∷ object.IcingaApplication ∷ []

-- the first type of these that has this name
abbrev pub type_among : List ObjectType → List ℕ → Option ObjectType
type_among [] name = None
type_among (t ∷ ts) name = if bytes_eq name (type_name t) then Some t else type_among ts name

-- the type of this name
unfoldable pub type_named : List ℕ → Option ObjectType
type_named name = type_among all_types name

-- types that the program knows by name alone: their objects may set any attribute
abbrev pub is_inert : ObjectType → Bool
is_inert object.Host = false
is_inert object.Service = false
is_inert object.HostGroup = false
is_inert object.ServiceGroup = false
is_inert object.UserGroup = false
is_inert object.CheckCommand = false
is_inert object.NotificationCommand = false
is_inert object.EventCommand = false
is_inert object.User = false
is_inert object.Notification = false
is_inert object.Dependency = false
is_inert object.ScheduledDowntime = false
is_inert object.TimePeriod = false
is_inert object.Endpoint = true
is_inert object.Zone = true
is_inert object.CheckerComponent = true
is_inert object.NotificationComponent = true
is_inert object.FileLogger = true
is_inert object.SyslogLogger = true
is_inert object.ApiListener = true
is_inert object.ApiUser = true
is_inert object.IcingaApplication = true

-- the wave in which objects of a type are evaluated: over the objects of the waves before it
abbrev pub wave_of : ObjectType → ℕ
wave_of object.Host = 4
wave_of object.Service = 5
wave_of object.HostGroup = 3
wave_of object.ServiceGroup = 3
wave_of object.UserGroup = 2
wave_of object.CheckCommand = 1
wave_of object.NotificationCommand = 1
wave_of object.EventCommand = 1
wave_of object.User = 2
wave_of object.Notification = 6
wave_of object.Dependency = 6
wave_of object.ScheduledDowntime = 6
wave_of object.TimePeriod = 1
wave_of object.Endpoint = 1
wave_of object.Zone = 1
wave_of object.CheckerComponent = 1
wave_of object.NotificationComponent = 1
wave_of object.FileLogger = 1
wave_of object.SyslogLogger = 1
wave_of object.ApiListener = 1
wave_of object.ApiUser = 1
wave_of object.IcingaApplication = 1

abbrev pub attribute_name : Attribute → List ℕ
attribute_name attribute.ActionUrl = codes "action_url"
attribute_name attribute.Address = codes "address"
attribute_name attribute.Address6 = codes "address6"
attribute_name attribute.Arguments = codes "arguments"
attribute_name attribute.Author = codes "author"
attribute_name attribute.CheckCommand = codes "check_command"
attribute_name attribute.CheckInterval = codes "check_interval"
attribute_name attribute.CheckPeriod = codes "check_period"
attribute_name attribute.CheckTimeout = codes "check_timeout"
attribute_name attribute.ChildHostName = codes "child_host_name"
attribute_name attribute.ChildOptions = codes "child_options"
attribute_name attribute.ChildServiceName = codes "child_service_name"
attribute_name attribute.Command = codes "command"
attribute_name attribute.CommandEndpoint = codes "command_endpoint"
attribute_name attribute.Comment = codes "comment"
attribute_name attribute.DisableChecks = codes "disable_checks"
attribute_name attribute.DisableNotifications = codes "disable_notifications"
attribute_name attribute.DisplayName = codes "display_name"
attribute_name attribute.Duration = codes "duration"
attribute_name attribute.Email = codes "email"
attribute_name attribute.EnableActiveChecks = codes "enable_active_checks"
attribute_name attribute.EnableEventHandler = codes "enable_event_handler"
attribute_name attribute.EnableFlapping = codes "enable_flapping"
attribute_name attribute.EnableNotifications = codes "enable_notifications"
attribute_name attribute.EnablePassiveChecks = codes "enable_passive_checks"
attribute_name attribute.EnablePerfdata = codes "enable_perfdata"
attribute_name attribute.Env = codes "env"
attribute_name attribute.EventCommand = codes "event_command"
attribute_name attribute.Excludes = codes "excludes"
attribute_name attribute.Fixed = codes "fixed"
attribute_name attribute.FlappingThresholdHigh = codes "flapping_threshold_high"
attribute_name attribute.FlappingThresholdLow = codes "flapping_threshold_low"
attribute_name attribute.Groups = codes "groups"
attribute_name attribute.HostName = codes "host_name"
attribute_name attribute.IconImage = codes "icon_image"
attribute_name attribute.IconImageAlt = codes "icon_image_alt"
attribute_name attribute.IgnoreSoftStates = codes "ignore_soft_states"
attribute_name attribute.Includes = codes "includes"
attribute_name attribute.Interval = codes "interval"
attribute_name attribute.MaxCheckAttempts = codes "max_check_attempts"
attribute_name attribute.Name = codes "name"
attribute_name attribute.Notes = codes "notes"
attribute_name attribute.NotesUrl = codes "notes_url"
attribute_name attribute.Pager = codes "pager"
attribute_name attribute.ParentHostName = codes "parent_host_name"
attribute_name attribute.ParentServiceName = codes "parent_service_name"
attribute_name attribute.Period = codes "period"
attribute_name attribute.PreferIncludes = codes "prefer_includes"
attribute_name attribute.Ranges = codes "ranges"
attribute_name attribute.RedundancyGroup = codes "redundancy_group"
attribute_name attribute.RetryInterval = codes "retry_interval"
attribute_name attribute.ServiceName = codes "service_name"
attribute_name attribute.States = codes "states"
attribute_name attribute.Timeout = codes "timeout"
attribute_name attribute.Times = codes "times"
attribute_name attribute.Types = codes "types"
attribute_name attribute.UserGroups = codes "user_groups"
attribute_name attribute.Users = codes "users"
attribute_name attribute.Vars = codes "vars"
attribute_name attribute.Volatile = codes "volatile"
attribute_name attribute.Zone = codes "zone"
