-- The schema: the attributes of each type, what their values are, and what holds where they aren't set.
use Rattle.std.specs.Prelude.{ℕ, List, [], ◌∷◌, true, false, Option, Some, None, if◌then◌else◌}
use Rattle.std.specs.Str.{bytes_eq}
use Rattle.object_types.specs.declared.attribute.Attribute.{Attribute}
use Rattle.object_types.specs.declared.attribute.Attribute.TheVariants as attribute
use Rattle.object_types.specs.declared.object_type.ObjectType.{ObjectType}
use Rattle.object_types.specs.declared.object_type.ObjectType.TheVariants as object
use Rattle.object_types.specs.declared.value_kind.SchemaRow.{SchemaRow}
use Rattle.object_types.specs.declared.value_kind.Unset.{Unset}
use Rattle.object_types.specs.declared.value_kind.Unset.TheVariants as unset
use Rattle.object_types.specs.declared.value_kind.ValueKind.{ValueKind}
use Rattle.object_types.specs.declared.value_kind.ValueKind.TheVariants as kind
use Rattle.object_types.specs.Names.{attribute_name}

abbrev pub row : Attribute → ValueKind → Unset → SchemaRow
row a k u = record { attribute = a; kind = k; unset = u }

-- what every object may have
abbrev pub common_schema : List SchemaRow
common_schema =
    row attribute.Name kind.Text unset.Nothing
    ∷ row attribute.Zone kind.Text unset.Nothing
    ∷ row attribute.Vars kind.Dict unset.Nothing
    ∷ []

-- what hosts and services have, with the type of their groups
abbrev pub checkable_schema : ObjectType → List SchemaRow
checkable_schema groups =
    row attribute.CheckCommand (kind.Name object.CheckCommand) unset.Missing
    ∷ row attribute.DisplayName kind.Text unset.Nothing
    ∷ row attribute.Groups (kind.Names groups) unset.Nothing
    ∷ row attribute.MaxCheckAttempts kind.Count (unset.Number 3)
    ∷ row attribute.CheckInterval kind.PositiveSeconds (unset.Number 300)
    ∷ row attribute.RetryInterval kind.PositiveSeconds (unset.Number 60)
    ∷ row attribute.CheckTimeout kind.Seconds unset.Nothing
    ∷ row attribute.CheckPeriod (kind.Name object.TimePeriod) unset.Nothing
    ∷ row attribute.EnableActiveChecks kind.Bool (unset.Bool true)
    ∷ row attribute.EnablePassiveChecks kind.Bool (unset.Bool true)
    ∷ row attribute.EnableNotifications kind.Bool (unset.Bool true)
    ∷ row attribute.EnableEventHandler kind.Bool unset.Nothing
    ∷ row attribute.EnableFlapping kind.Bool (unset.Bool false)
    ∷ row attribute.EnablePerfdata kind.Bool unset.Nothing
    ∷ row attribute.EventCommand (kind.Name object.EventCommand) unset.Nothing
    ∷ row attribute.FlappingThresholdLow kind.Seconds (unset.Number 25)
    ∷ row attribute.FlappingThresholdHigh kind.Seconds (unset.Number 30)
    ∷ row attribute.Volatile kind.Bool (unset.Bool false)
    ∷ row attribute.CommandEndpoint kind.Text unset.Nothing
    ∷ row attribute.Notes kind.Text unset.Nothing
    ∷ row attribute.NotesUrl kind.Text unset.Nothing
    ∷ row attribute.ActionUrl kind.Text unset.Nothing
    ∷ row attribute.IconImage kind.Text unset.Nothing
    ∷ row attribute.IconImageAlt kind.Text unset.Nothing
    ∷ []

abbrev pub host_schema : List SchemaRow
host_schema =
    row attribute.Address kind.Text unset.Nothing
    ∷ row attribute.Address6 kind.Text unset.Nothing
    ∷ checkable_schema object.HostGroup

abbrev pub service_schema : List SchemaRow
service_schema =
    row attribute.HostName (kind.Name object.Host) unset.Missing
    ∷ checkable_schema object.ServiceGroup

-- what groups have, with the type of the groups that they are in
abbrev pub group_schema : ObjectType → List SchemaRow
group_schema groups =
    row attribute.DisplayName kind.Text unset.Nothing
    ∷ row attribute.Groups (kind.Names groups) unset.Nothing
    ∷ []

-- what the three types of commands have
abbrev pub command_schema : List SchemaRow
command_schema =
    row attribute.Command kind.Command unset.Missing
    ∷ row attribute.Arguments kind.Dict unset.Nothing
    ∷ row attribute.Env kind.Dict unset.Nothing
    ∷ row attribute.Timeout kind.Seconds unset.Nothing
    ∷ []

abbrev pub user_schema : List SchemaRow
user_schema =
    row attribute.DisplayName kind.Text unset.Nothing
    ∷ row attribute.Email kind.Text unset.Nothing
    ∷ row attribute.Pager kind.Text unset.Nothing
    ∷ row attribute.Groups (kind.Names object.UserGroup) unset.Nothing
    ∷ row attribute.EnableNotifications kind.Bool (unset.Bool true)
    ∷ row attribute.Period (kind.Name object.TimePeriod) unset.Nothing
    ∷ row attribute.Types kind.NoteKinds unset.Nothing
    ∷ row attribute.States kind.States unset.Nothing
    ∷ []

abbrev pub notification_schema : List SchemaRow
notification_schema =
    row attribute.HostName (kind.Name object.Host) unset.Missing
    ∷ row attribute.Command (kind.Name object.NotificationCommand) unset.Missing
    ∷ row attribute.ServiceName (kind.Service attribute.HostName) unset.Nothing
    ∷ row attribute.Users (kind.Names object.User) unset.Nothing
    ∷ row attribute.UserGroups (kind.Names object.UserGroup) unset.Nothing
    ∷ row attribute.Interval kind.Seconds (unset.Number 1800)
    ∷ row attribute.Period (kind.Name object.TimePeriod) unset.Nothing
    ∷ row attribute.Times kind.Times unset.Nothing
    ∷ row attribute.Types kind.NoteKinds unset.Nothing
    ∷ row attribute.States kind.States unset.Nothing
    ∷ []

abbrev pub dependency_schema : List SchemaRow
dependency_schema =
    row attribute.ChildHostName (kind.Name object.Host) unset.Missing
    ∷ row attribute.ParentHostName (kind.Name object.Host) unset.Missing
    ∷ row attribute.ChildServiceName (kind.Service attribute.ChildHostName) unset.Nothing
    ∷ row attribute.ParentServiceName (kind.Service attribute.ParentHostName) unset.Nothing
    ∷ row attribute.RedundancyGroup kind.Text unset.Nothing
    ∷ row attribute.DisableChecks kind.Bool (unset.Bool false)
    ∷ row attribute.DisableNotifications kind.Bool (unset.Bool true)
    ∷ row attribute.IgnoreSoftStates kind.Bool (unset.Bool true)
    ∷ row attribute.Period (kind.Name object.TimePeriod) unset.Nothing
    ∷ row attribute.States kind.States unset.GoodStates
    ∷ []

abbrev pub scheduled_downtime_schema : List SchemaRow
scheduled_downtime_schema =
    row attribute.HostName (kind.Name object.Host) unset.Missing
    ∷ row attribute.Author kind.Text unset.Missing
    ∷ row attribute.Comment kind.Text unset.Missing
    ∷ row attribute.Ranges kind.Ranges unset.Missing
    ∷ row attribute.ServiceName (kind.Service attribute.HostName) unset.Nothing
    ∷ row attribute.Fixed kind.Bool unset.Nothing
    ∷ row attribute.Duration kind.Seconds unset.Nothing
    ∷ row attribute.ChildOptions kind.Text unset.Nothing
    ∷ []

abbrev pub time_period_schema : List SchemaRow
time_period_schema =
    row attribute.DisplayName kind.Text unset.Nothing
    ∷ row attribute.Ranges kind.Ranges unset.Nothing
    ∷ row attribute.Includes (kind.Names object.TimePeriod) unset.Nothing
    ∷ row attribute.Excludes (kind.Names object.TimePeriod) unset.Nothing
    ∷ row attribute.PreferIncludes kind.Bool (unset.Bool true)
    ∷ []

-- what a type has beside that, in the order in which missing attributes are told
abbrev pub schema_of : ObjectType → List SchemaRow
schema_of object.Host = host_schema
schema_of object.Service = service_schema
schema_of object.HostGroup = group_schema object.HostGroup
schema_of object.ServiceGroup = group_schema object.ServiceGroup
schema_of object.UserGroup = group_schema object.UserGroup
schema_of object.CheckCommand = command_schema
schema_of object.NotificationCommand = command_schema
schema_of object.EventCommand = command_schema
schema_of object.User = user_schema
schema_of object.Notification = notification_schema
schema_of object.Dependency = dependency_schema
schema_of object.ScheduledDowntime = scheduled_downtime_schema
schema_of object.TimePeriod = time_period_schema
schema_of _ = []

-- the row of an attribute by its name, if one of these rows is its
abbrev pub row_among : List SchemaRow → List ℕ → Option SchemaRow
row_among [] name = None
row_among (r ∷ rs) name = if bytes_eq name (attribute_name r.attribute) then Some r else row_among rs name

-- the row if there is one, and else another
abbrev pub row_or : Option SchemaRow → Option SchemaRow → Option SchemaRow
row_or (Some r) other = Some r
row_or None other = other

-- what the schema says of an attribute of a type; nothing of one that the type doesn't have
unfoldable pub row_named : ObjectType → List ℕ → Option SchemaRow
row_named t name = row_or (row_among (schema_of t) name) (row_among common_schema name)
