-- Users, and the members of user groups.
use Rattle.std.specs.Prelude.{ℕ, suc, List, [], ◌∷◌, ◌++◌, map}
use Rattle.std.specs.List.{filter}
use Rattle.std.specs.Str.{bytes_eq}
use Rattle.site_model.specs.PlainSite.{PlainObject}
use Rattle.site_model.specs.declared.user_spec.UserSpec.{UserSpec}
use Rattle.object_types.specs.declared.attribute.Attribute.TheVariants as attribute
use Rattle.object_types.specs.declared.object_type.ObjectType.TheVariants as object
use Rattle.object_values.specs.Filters.{kinds_at, states_at}
use Rattle.object_values.specs.Values.{flag_at, names_at}
use Rattle.object_lists.specs.Listed.{listed, listed_names, place_at}

-- a user, where the periods have these names
abbrev pub user_of : List (List ℕ) → PlainObject → UserSpec
user_of periods o = record {
  name = o.name;
  enabled = flag_at object.User attribute.EnableNotifications o.tree;
  period = place_at periods object.User attribute.Period o.tree;
  kinds = kinds_at object.User attribute.Types o.tree;
  states = states_at object.User attribute.States o.tree;
}

abbrev pub user_name : UserSpec → List ℕ
user_name u = u.name

-- the users of a site
unfoldable pub users : List PlainObject → List UserSpec
users os = map (user_of (listed_names object.TimePeriod os)) (listed object.User os)

-- the user of this place is in groups of these names
abbrev pub in_groups : ℕ → List (List ℕ) → List (List ℕ × ℕ)
in_groups k groups = map (λ group. (group, k)) groups

-- the groups in which each of these users is, by the group's name and the user's place, which is this one for the first
abbrev pub memberships_from : ℕ → List PlainObject → List (List ℕ × ℕ)
memberships_from k [] = []
memberships_from k (o ∷ os) = in_groups k (names_at object.User attribute.Groups o.tree) ++ memberships_from (suc k) os

-- of all users of a site
unfoldable pub memberships : List PlainObject → List (List ℕ × ℕ)
memberships os = memberships_from 0 (listed object.User os)

-- the users in a group, in committed order
abbrev pub members : List (List ℕ × ℕ) → List ℕ → List ℕ
members ms group = map (λ (m : List ℕ × ℕ). m.1) (filter (λ (m : List ℕ × ℕ). bytes_eq group m.0) ms)
