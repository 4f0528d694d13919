-- Groups by the type of their members.
use Rattle.std.specs.Prelude.{◌≡◌, ℕ, List, [], ◌∷◌, map, Option, Some}
use Rattle.std.specs.Borrow.{Bor}
use Rattle.site_model.specs.PlainSite.{PlainObject}
use Rattle.object_types.specs.Names.{type_named}
use Rattle.object_types.specs.declared.object_type.ObjectType.{ObjectType}
use Rattle.object_types.specs.declared.object_type.ObjectType.TheVariants as object
use Rattle.dsl_value.specs.Contents.{Contents}
use Rattle.eval_meaning.specs.Registered.{PlainItem}
use Rattle.eval_meaning.specs.Views.{View}
use Rattle.eval_work.specs.declared.item.Item.{Item}
use Rattle.commit_meaning.specs.Answers.{Answer, diags_in}
use Rattle.commit_meaning.specs.Groups.{group_members, grown}
use Rattle.commit_meaning.specs.Waves.{groups_of, group_type}
use Rattle.group_rules.specs.Lawful.{GroupsNamed}
use Rattle.group_rules.specs.Plain.{plain_group}
use Rattle.wave_objects.specs.declared.joining.GroupLists.{GroupLists}

-- lists of these groups
pub record AreLists (gs : List PlainItem) (l : GroupLists) : Type 0 where
  pub hosts : map plain_group l.of_hosts.items ≡ groups_of (Some object.HostGroup) gs
  pub services : map plain_group l.of_services.items ≡ groups_of (Some object.ServiceGroup) gs
  pub users : map plain_group l.of_users.items ≡ groups_of (Some object.UserGroup) gs
  pub none : l.none.items ≡ []

-- what each group captured names cells and functions of a store
pub record ListsNamed (c : Contents) (l : GroupLists) : Type 0 where
  pub hosts : GroupsNamed c l.of_hosts.items
  pub services : GroupsNamed c l.of_services.items
  pub users : GroupsNamed c l.of_users.items
  pub none : GroupsNamed c l.none.items

-- the groups that objects of a type may be in
abbrev pub list_for : GroupLists → Option ObjectType → List (Bor Item)
list_for l (Some object.Host) = l.of_hosts.items
list_for l (Some object.Service) = l.of_services.items
list_for l (Some object.User) = l.of_users.items
list_for l o = l.none.items

-- the groups of its type, of these, that take an object
abbrev pub members_at : View → List PlainItem → PlainObject → Answer (List (List ℕ))
members_at view gs o = group_members view (groups_of (group_type (type_named o.kind)) gs) o

-- the same by lists
abbrev pub members_in : View → GroupLists → PlainObject → Answer (List (List ℕ))
members_in view l o = group_members view (map plain_group (list_for l (type_named o.kind))) o

-- an answer by which an object becomes what it does by the lists, with the same faults
pub record IsMemberAnswer (view : View) (l : GroupLists) (o : PlainObject) (a : Answer (List (List ℕ))) : Type 0 where
  pub object : grown o a ≡ grown o (members_in view l o)
  pub faults : diags_in a ≡ diags_in (members_in view l o)

-- objects, each in the groups of its answer
abbrev pub grown_by : List (Answer (List (List ℕ))) → List PlainObject → List PlainObject
grown_by [] os = []
grown_by (a ∷ answers) [] = []
grown_by (a ∷ answers) (o ∷ os) = grown o a ∷ grown_by answers os
