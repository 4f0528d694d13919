-- Check commands, and the hosts and services that are checked by them.
use Rattle.std.specs.Prelude.{ℕ, List, ◌++◌, Option, Some, None, map, ◌==◌, if◌then◌else◌}
use Rattle.std.specs.List.{flat_map, list_any}
use Rattle.std.specs.Option.{option_map, option_to_list}
use Rattle.std.specs.Str.{bytes_eq}
use Rattle.site_model.specs.PlainSite.{PlainCheck, PlainCommand, PlainObject}
use Rattle.object_types.specs.declared.attribute.Attribute.TheVariants as attribute
use Rattle.object_types.specs.declared.object_type.ObjectType.{ObjectType}
use Rattle.object_types.specs.declared.object_type.ObjectType.TheVariants as object
use Rattle.object_values.specs.Values.{count_at, flag_at, seconds_at, thousandths_at}
use Rattle.object_lists.specs.Listed.{both, listed, listed_names, place_at}

abbrev pub command_of : PlainObject → PlainCommand
command_of o = record { name = o.name; tree = o.tree }

-- the check commands of a site
unfoldable pub commands : List PlainObject → List PlainCommand
commands os = map command_of (listed object.CheckCommand os)

-- a problem needs one attempt at least to be HARD
abbrev pub one_at_least : ℕ → ℕ
one_at_least n = if n == 0 then 1 else n

-- How an object of a type is checked that has this host and this command, where the periods have these names.
abbrev pub check_made : List (List ℕ) → ObjectType → PlainObject → Option ℕ → ℕ → PlainCheck
check_made periods t o host command = record {
  name = o.name;
  host = host;
  command = command;
  max = one_at_least (count_at t attribute.MaxCheckAttempts o.tree);
  check_secs = seconds_at t attribute.CheckInterval o.tree;
  retry_secs = seconds_at t attribute.RetryInterval o.tree;
  period = place_at periods t attribute.CheckPeriod o.tree;
  active = flag_at t attribute.EnableActiveChecks o.tree;
  passive = flag_at t attribute.EnablePassiveChecks o.tree;
  notify = flag_at t attribute.EnableNotifications o.tree;
  volatile = flag_at t attribute.Volatile o.tree;
  flapping = flag_at t attribute.EnableFlapping o.tree;
  low = thousandths_at t attribute.FlappingThresholdLow o.tree;
  high = thousandths_at t attribute.FlappingThresholdHigh o.tree;
  tree = o.tree;
}

-- a host, where its command is there
abbrev pub host_check : List (List ℕ) → List (List ℕ) → PlainObject → Option PlainCheck
host_check commands periods o = option_map (check_made periods object.Host o None) (place_at commands object.Host attribute.CheckCommand o.tree)

abbrev pub service_made : List (List ℕ) → PlainObject → ℕ → ℕ → PlainCheck
service_made periods o host command = check_made periods object.Service o (Some host) command

-- a service, where its host and its command are there; none is named as a host is
abbrev pub service_check : List (List ℕ) → List (List ℕ) → List (List ℕ) → PlainObject → Option PlainCheck
service_check commands periods hosts o =
    if list_any (bytes_eq o.name) hosts then None else
    both (service_made periods o) (place_at hosts object.Service attribute.HostName o.tree) (place_at commands object.Service attribute.CheckCommand o.tree)

abbrev pub check_name : PlainCheck → List ℕ
check_name c = c.name

-- the hosts of a site
unfoldable pub hosts : List PlainObject → List PlainCheck
hosts os =
    flat_map (λ o. option_to_list (host_check (listed_names object.CheckCommand os) (listed_names object.TimePeriod os) o)) (listed object.Host os)

-- its services
unfoldable pub services : List PlainObject → List PlainCheck
services os =
    flat_map (λ o. option_to_list (service_check (listed_names object.CheckCommand os) (listed_names object.TimePeriod os) (map check_name (hosts os)) o))
    (listed object.Service os)

-- the hosts and then the services
unfoldable pub checkables : List PlainObject → List PlainCheck
checkables os = hosts os ++ services os
