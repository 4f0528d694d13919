-- Notifications.
use Rattle.std.specs.Prelude.{ℕ, List, Option, codes, map}
use Rattle.std.specs.List.{flat_map}
use Rattle.std.specs.Option.{option_map, option_to_list}
use Rattle.site_model.specs.PlainSite.{PlainObject}
use Rattle.site_model.specs.declared.notify_spec.NotifySpec.{NotifySpec}
use Rattle.object_types.specs.declared.attribute.Attribute.TheVariants as attribute
use Rattle.object_types.specs.declared.object_type.ObjectType.TheVariants as object
use Rattle.object_values.specs.Filters.{kinds_at, states_at}
use Rattle.object_values.specs.Values.{limit_at, seconds_at}
use Rattle.object_lists.specs.Listed.{listed, listed_names, place_at}
use Rattle.object_lists.specs.Receivers.{receivers}
use Rattle.object_lists.specs.Users.{memberships}
use Rattle.typed_site.specs.Checks.{check_name, checkables}
use Rattle.typed_site.specs.Depends.{target_at}

-- a notification of this checkable to these users, where the periods have these names
abbrev pub notify_made : List (List ℕ) → PlainObject → List ℕ → ℕ → NotifySpec
notify_made periods o told checkable = record {
  name = o.name;
  checkable = checkable;
  users = told;
  interval = seconds_at object.Notification attribute.Interval o.tree;
  begin = limit_at object.Notification attribute.Times (codes "begin") o.tree;
  end = limit_at object.Notification attribute.Times (codes "end") o.tree;
  kinds = kinds_at object.Notification attribute.Types o.tree;
  states = states_at object.Notification attribute.States o.tree;
  period = place_at periods object.Notification attribute.Period o.tree;
}

-- a notification, where its checkable is among those of these names
abbrev pub notify_of : List (List ℕ) → List (List ℕ) → List (List ℕ) → List (List ℕ × ℕ) → PlainObject → Option NotifySpec
notify_of periods names users ms o =
    option_map (notify_made periods o (receivers users ms o.tree)) (target_at names object.Notification attribute.HostName attribute.ServiceName o.tree)

abbrev pub notify_name : NotifySpec → List ℕ
notify_name n = n.name

-- the notifications of a site
unfoldable pub notifies : List PlainObject → List NotifySpec
notifies os =
    flat_map (λ o. option_to_list (notify_of (listed_names object.TimePeriod os) (map check_name (checkables os)) (listed_names object.User os) (memberships os) o))
    (listed object.Notification os)
