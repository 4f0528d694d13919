-- Dependencies, and how an object names a checkable.
use Rattle.std.specs.Prelude.{ℕ, List, ◌∷◌, ◌++◌, Option, Some, None, is_some, map}
use Rattle.std.specs.List.{flat_map}
use Rattle.std.specs.Option.{option_and_then, option_map, option_to_list}
use Rattle.site_base.specs.Data.{Data}
use Rattle.site_model.specs.Names.{place_of}
use Rattle.site_model.specs.PlainSite.{PlainObject}
use Rattle.site_model.specs.declared.depend_spec.DependSpec.{DependSpec}
use Rattle.object_types.specs.declared.attribute.Attribute.{Attribute}
use Rattle.object_types.specs.declared.attribute.Attribute.TheVariants as attribute
use Rattle.object_types.specs.declared.object_type.ObjectType.{ObjectType}
use Rattle.object_types.specs.declared.object_type.ObjectType.TheVariants as object
use Rattle.object_values.specs.Filters.{states_through}
use Rattle.object_values.specs.Values.{flag_at, text_at}
use Rattle.object_lists.specs.Listed.{both, listed, listed_names, place_at}
use Rattle.typed_site.specs.Checks.{check_name, checkables}

-- the full name of a host, or of a service of it
abbrev pub full_name : List ℕ → Option (List ℕ) → List ℕ
full_name host None = host
full_name host (Some service) = host ++ 33 ∷ service

-- the place among these names of the checkable that an object of a type names in two attributes: a host, or with the second a service of it
abbrev pub target_at : List (List ℕ) → ObjectType → Attribute → Attribute → Data → Option ℕ
target_at names t host service d = option_and_then (λ h. place_of (full_name h (text_at t service d)) names) (text_at t host d)

-- a dependency of this child on this parent, where the periods have these names
abbrev pub depend_made : List (List ℕ) → PlainObject → ℕ → ℕ → DependSpec
depend_made periods o child parent = record {
  name = o.name;
  child = child;
  parent = parent;
  group = text_at object.Dependency attribute.RedundancyGroup o.tree;
  checks = flag_at object.Dependency attribute.DisableChecks o.tree;
  notes = flag_at object.Dependency attribute.DisableNotifications o.tree;
  ignore_soft = flag_at object.Dependency attribute.IgnoreSoftStates o.tree;
  states = states_through object.Dependency attribute.States (is_some (text_at object.Dependency attribute.ParentServiceName o.tree)) o.tree;
  period = place_at periods object.Dependency attribute.Period o.tree;
}

-- a dependency, where its child and its parent are among the checkables of these names
abbrev pub depend_of : List (List ℕ) → List (List ℕ) → PlainObject → Option DependSpec
depend_of periods names o =
    both (depend_made periods o) (target_at names object.Dependency attribute.ChildHostName attribute.ChildServiceName o.tree)
    (target_at names object.Dependency attribute.ParentHostName attribute.ParentServiceName o.tree)

abbrev pub depend_name : DependSpec → List ℕ
depend_name d = d.name

-- the dependencies of a site
unfoldable pub depends : List PlainObject → List DependSpec
depends os = flat_map (λ o. option_to_list (depend_of (listed_names object.TimePeriod os) (map check_name (checkables os)) o)) (listed object.Dependency os)
