-- Whom a notification tells.
use Rattle.std.specs.Prelude.{ℕ, List, [], ◌∷◌, ◌++◌, nat_eq, if◌then◌else◌}
use Rattle.std.specs.List.{flat_map, list_any}
use Rattle.std.specs.Option.{option_to_list}
use Rattle.site_base.specs.Data.{Data}
use Rattle.site_model.specs.Names.{place_of}
use Rattle.object_types.specs.declared.attribute.Attribute.TheVariants as attribute
use Rattle.object_types.specs.declared.object_type.ObjectType.TheVariants as object
use Rattle.object_values.specs.Values.{names_at}
use Rattle.object_lists.specs.Users.{members}

-- numbers, and then each of some more that isn't there yet
abbrev pub with_new : List ℕ → List ℕ → List ℕ
with_new ks [] = ks
with_new ks (n ∷ ns) = with_new (if list_any (nat_eq n) ks then ks else ks ++ n ∷ []) ns

-- the user of a name, if there is one
abbrev pub user_named : List (List ℕ) → List ℕ → List ℕ
user_named users name = option_to_list (place_of name users)

-- the users of these names
abbrev pub users_named : List (List ℕ) → List (List ℕ) → List ℕ
users_named users named = flat_map (user_named users) named

-- the members of groups, group after group
abbrev pub members_named : List (List ℕ × ℕ) → List (List ℕ) → List ℕ
members_named ms groups = flat_map (members ms) groups

-- whom a notification tells: the users that it names and then the members of the groups that it names, each once
abbrev pub receivers : List (List ℕ) → List (List ℕ × ℕ) → Data → List ℕ
receivers users ms d =
    with_new [] (users_named users (names_at object.Notification attribute.Users d) ++ members_named ms (names_at object.Notification attribute.UserGroups d))
