-- Worlds: what stands before a wave.
use Rattle.std.specs.Prelude.{ℕ, List, [], ◌∷◌, map, codes, Option, Some, None, if◌then◌else◌}
use Rattle.std.specs.List.{filter, flat_map}
use Rattle.std.specs.Str.{bytes_eq}
use Rattle.site_model.specs.PlainSite.{PlainObject}
use Rattle.object_types.specs.Names.{all_types, type_name}
use Rattle.object_types.specs.declared.attribute.Attribute.TheVariants as attribute
use Rattle.eval_meaning.specs.Registered.{PlainItem}
use Rattle.eval_meaning.specs.Views.{View, Shown, is_object}
use Rattle.eval_meaning.specs.Views as read
use Rattle.eval_meaning.specs.Load.{Loaded}
use Rattle.eval_meaning.specs.declared.read.Read.{Read}
use Rattle.commit_meaning.specs.Names.{Target, host, service, text_of}

-- the objects in committed order, which is by wave and then by number, and the items of which the groups among them were made
pub record World : Type 0 where
  pub objects : List PlainObject
  pub groups : List PlainItem

abbrev pub empty_world : World
empty_world = record { objects = []; groups = [] }

abbrev pub shown_as : PlainObject → Shown
shown_as o = record { kind = o.kind; name = o.name; tree = o.tree }

-- A world is seen as the view that shows all its objects, so that each type's list is whole.
abbrev pub world_view : Loaded → List PlainObject → View
world_view load os = record {
  store = load.store;
  templates = load.templates;
  rules = load.rules;
  objects = map shown_as os;
  absent = [];
  whole = map type_name all_types;
  files = [];
}

-- ---- the targets of rules

-- the first object of a type and a full name
abbrev pub first_object : Read → List PlainObject → Option PlainObject
first_object r [] = None
first_object r (o ∷ os) = if is_object r (shown_as o) then Some o else first_object r os

abbrev pub with_host : PlainObject → Option PlainObject → List Target
with_host s (Some h) = service h s ∷ []
with_host s None = []

-- a service is a target where its host is there
abbrev pub service_targets : List PlainObject → PlainObject → List Target
service_targets os s = with_host s (first_object (read.host (text_of s.tree attribute.HostName)) os)

abbrev pub of_kind : List ℕ → List PlainObject → List PlainObject
of_kind kind os = filter (λ o. bytes_eq o.kind kind) os

-- the targets of a type, in committed order
abbrev pub targets : List ℕ → List PlainObject → List Target
targets kind os = if bytes_eq kind (codes "Service") then flat_map (service_targets os) (of_kind kind os) else map host (of_kind kind os)
