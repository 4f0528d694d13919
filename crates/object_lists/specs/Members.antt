-- How the code keeps the members of user groups: the groups' names, and the members of each by its place.
use Rattle.std.specs.Prelude.{◌≡◌, ℕ, List, [], Option, Some, None, length, slice_get}
use Rattle.std.specs.Option.{option_and_then}
use Rattle.site_model.specs.Names.{place_of}
use Rattle.object_lists.specs.Users.{members}
use Rattle.object_lists.specs.declared.members.Members.{Members}

abbrev pub list_or_none : Option (List ℕ) → List ℕ
list_or_none None = []
list_or_none (Some ks) = ks

abbrev pub list_at : List (List ℕ) → ℕ → List ℕ
list_at lists k = list_or_none (slice_get lists k)

-- the list under a name
abbrev pub list_under : List (List ℕ) → List (List ℕ) → List ℕ → List ℕ
list_under names lists group = list_or_none (option_and_then (slice_get lists) (place_of group names))

-- the lists are those of the members that these memberships make
pub record AreMembers (ms : List (List ℕ × ℕ)) (kept : Members) : Type 0 where
  pub level : length kept.lists.items ≡ length kept.names
  pub lists : (group : List ℕ) → list_under kept.names kept.lists.items group ≡ members ms group
