-- Waves: what is made over the objects of earlier waves.
use Rattle.std.specs.Prelude.{ℕ, zero, suc, ◌==◌, List, [], ◌∷◌, ◌++◌, map, slice_get, Bool, true, false, ◌&&◌, Option, Some, None}
use Rattle.std.specs.List.{filter, flat_map}
use Rattle.std.specs.Str.{bytes_eq}
use Rattle.site_base.specs.declared.diag.Diag.{Diag}
use Rattle.site_base.specs.declared.diag_kind.DiagKind.TheVariants.{ItemLimit}
use Rattle.site_base.specs.declared.item_no.ItemNo.{ItemNo}
use Rattle.site_model.specs.PlainSite.{PlainObject}
use Rattle.object_types.specs.Names.{type_named, type_name, wave_of}
use Rattle.object_types.specs.declared.object_type.ObjectType.{ObjectType}
use Rattle.object_types.specs.declared.object_type.ObjectType.TheVariants as object
use Rattle.eval_meaning.specs.Registered.{PlainItem, PlainRule}
use Rattle.eval_meaning.specs.Views.{View}
use Rattle.eval_meaning.specs.Load.{Loaded}
use Rattle.commit_meaning.specs.Answers.{Answer, is_made, made_in, all_made, diags_in, diag}
use Rattle.commit_meaning.specs.Items.{item_answer}
use Rattle.commit_meaning.specs.Rules.{instances}
use Rattle.commit_meaning.specs.Groups.{group_members, grown}
use Rattle.commit_meaning.specs.Worlds.{World, empty_world, world_view, targets}
use Rattle.commit_meaning.specs.Orders.{by_number}

-- ---- the items of a wave

-- the wave in which a type's objects are made, from 1; 0 of what isn't a type
abbrev pub wave_by : Option ObjectType → ℕ
wave_by (Some t) = wave_of t
wave_by None = 0

abbrev pub wave_of_kind : List ℕ → ℕ
wave_of_kind kind = wave_by (type_named kind)

abbrev pub is_in_wave : ℕ → List ℕ → Bool
is_in_wave w kind = wave_of_kind kind == w

abbrev pub view_before : Loaded → World → View
view_before load before = world_view load before.objects

-- what one rule comes to at each of its targets
abbrev pub rule_answers : Loaded → World → PlainRule → List (Answer (List PlainItem))
rule_answers load before r = map (instances (view_before load before) r) (targets r.target before.objects)

abbrev pub wave_answers : Loaded → World → ℕ → List (Answer (List PlainItem))
wave_answers load before w = flat_map (rule_answers load before) (filter (λ r. is_in_wave w r.kind) load.rules)

abbrev pub item_number : PlainItem → ItemNo
item_number i = i.number

-- the items that the load registered, and those that the rules make of what stands there
unfoldable pub wave_items : Loaded → World → ℕ → List PlainItem
wave_items load before w = by_number item_number (filter (λ i. is_in_wave w i.kind) load.items ++ flat_map all_made (wave_answers load before w))

-- ---- their objects

abbrev pub wave_objects : Loaded → World → ℕ → List PlainObject
wave_objects load before w = flat_map (λ i. made_in (item_answer (view_before load before) i)) (wave_items load before w)

-- the type of the groups that an object of a type is in
abbrev pub group_type : Option ObjectType → Option ObjectType
group_type (Some object.Host) = Some object.HostGroup
group_type (Some object.Service) = Some object.ServiceGroup
group_type (Some object.User) = Some object.UserGroup
group_type o = None

abbrev pub is_group : Option ObjectType → Bool
is_group (Some object.HostGroup) = true
is_group (Some object.ServiceGroup) = true
is_group (Some object.UserGroup) = true
is_group o = false

-- the items of which groups were made, those of earlier waves first
abbrev pub group_made : View → PlainItem → Bool
group_made view i = is_group (type_named i.kind) && is_made (item_answer view i)

abbrev pub wave_groups : Loaded → World → ℕ → List PlainItem
wave_groups load before w = before.groups ++ filter (group_made (view_before load before)) (wave_items load before w)

-- ---- their groups

abbrev pub groups_of : Option ObjectType → List PlainItem → List PlainItem
groups_of (Some t) gs = filter (λ g. bytes_eq g.kind (type_name t)) gs
groups_of None gs = []

-- the groups of its type that take an object, over what stands before its wave
abbrev pub member_answer : Loaded → World → ℕ → PlainObject → Answer (List (List ℕ))
member_answer load before w o = group_members (view_before load before) (groups_of (group_type (type_named o.kind)) (wave_groups load before w)) o

abbrev pub wave_grown : Loaded → World → ℕ → List PlainObject
wave_grown load before w = map (λ o. grown o (member_answer load before w o)) (wave_objects load before w)

-- what stands after a wave, also where something is wrong in it
unfoldable pub wave_world : Loaded → World → ℕ → World
wave_world load before w = record { objects = before.objects ++ wave_grown load before w; groups = wave_groups load before w }

-- ---- what is wrong

abbrev pub wave_faults : Loaded → World → ℕ → List Diag
wave_faults load before w =
    flat_map diags_in (wave_answers load before w)
    ++ (flat_map (λ i. diags_in (item_answer (view_before load before) i)) (wave_items load before w)
    ++ flat_map (λ o. diags_in (member_answer load before w o)) (wave_objects load before w))

abbrev pub diag_number : Diag → ItemNo
diag_number d = d.number

-- a wave has so many items at most
abbrev pub most_items : ℕ
most_items = 1000000

-- the first item that is one too many is told, and nothing else then
abbrev pub limited : Option PlainItem → List Diag → List Diag
limited (Some i) ds = diag i.number i.place ItemLimit [] ∷ []
limited None ds = ds

unfoldable pub wave_diags : Loaded → World → ℕ → List Diag
wave_diags load before w = limited (slice_get (wave_items load before w) most_items) (by_number diag_number (wave_faults load before w))

-- ---- wave after wave

-- what stands after so many waves
abbrev pub world_after : Loaded → ℕ → World
world_after load zero = empty_world
world_after load (suc w) = wave_world load (world_after load w) (suc w)

-- what is wrong in a wave, of which there is none before the first
abbrev pub diags_of : Loaded → ℕ → List Diag
diags_of load zero = []
diags_of load (suc w) = wave_diags load (world_after load w) (suc w)
