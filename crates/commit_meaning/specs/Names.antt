-- Names of objects, and the attributes that hold them from the start.
use Rattle.std.specs.Prelude.{ℕ, ◌==◌, List, [], ◌∷◌, ◌++◌, length, map, codes, Option, Some, None, if◌then◌else◌}
use Rattle.site_base.specs.Data as tree
use Rattle.site_base.specs.Data.{Data}
use Rattle.site_base.specs.declared.item_no.ItemNo.{ItemNo}
use Rattle.site_base.specs.declared.target_no.TargetNo.{TargetNo}
use Rattle.site_model.specs.PlainSite.{PlainObject}
use Rattle.object_types.specs.Names.{attribute_name}
use Rattle.object_types.specs.declared.attribute.Attribute.{Attribute}
use Rattle.object_types.specs.declared.attribute.Attribute.TheVariants as attribute
use Rattle.object_types.specs.declared.object_type.ObjectType.{ObjectType}
use Rattle.object_types.specs.declared.object_type.ObjectType.TheVariants as object
use Rattle.conf_check.specs.References.{text_under}
use Rattle.eval_meaning.specs.Views.{bang}
use Rattle.commit_meaning.specs.Starts.{Trees}

-- ---- full names

-- the attributes of an object that name its host and its service
abbrev pub owners : ObjectType → List Attribute
owners object.Service = attribute.HostName ∷ []
owners object.Notification = attribute.HostName ∷ attribute.ServiceName ∷ []
owners object.ScheduledDowntime = attribute.HostName ∷ attribute.ServiceName ∷ []
owners object.Dependency = attribute.ChildHostName ∷ attribute.ChildServiceName ∷ []
owners t = []

-- the string of an attribute; empty if it isn't set
abbrev pub text_of : Data → Attribute → List ℕ
text_of (tree.dict ps) a = text_under (attribute_name a) ps
text_of d a = []

-- names and another one behind them, joined by `!`; an empty one is left out
abbrev pub joined : List (List ℕ) → List ℕ → List ℕ
joined [] n = n
joined (o ∷ os) n = if length o == 0 then joined os n else o ++ bang ∷ joined os n

abbrev pub full_name_by : Option ObjectType → List ℕ → Data → List ℕ
full_name_by (Some t) n d = joined (map (text_of d) (owners t)) n
full_name_by None n d = n

-- what is behind the last `!`, where so much was passed since the last one
abbrev pub behind_last : List ℕ → List ℕ → List ℕ
behind_last passed [] = passed
behind_last passed (b ∷ bs) = if b == bang then behind_last [] bs else behind_last (passed ++ b ∷ []) bs

-- the name in an object's statement: no such name holds a `!`, so it is what follows the last one of its full name
abbrev pub own_name : PlainObject → List ℕ
own_name o = behind_last [] o.name

-- ---- targets of rules

-- what a rule is applied to: a host, or a service, with its host before it
pub data Target : Type 0 where
  host : PlainObject → Target
  service : PlainObject → PlainObject → Target

abbrev pub target_number : Target → ItemNo
target_number (host h) = h.number
target_number (service h s) = s.number

-- A target's own number, as an instance's number has it. Hosts have no targets, so one field is left out of it.
abbrev pub target_no : ItemNo → TargetNo
target_no n = record { item = n.item; host = n.target.item; key = n.key }

-- what stands for a target in expressions
abbrev pub target_names : Target → Trees
target_names (host h) = (codes "host", h.tree) ∷ []
target_names (service h s) = (codes "host", h.tree) ∷ (codes "service", s.tree) ∷ []

-- ---- presets

abbrev pub preset : Attribute → List ℕ → List ℕ × Data
preset a n = (attribute_name a, tree.string n)

-- The attributes in which an instance has the names of its target before its body is run. A dependency of a service has the service's host
-- as its parent.
abbrev pub host_presets : Option ObjectType → List ℕ → Trees
host_presets (Some object.Dependency) h = preset attribute.ChildHostName h ∷ []
host_presets o h = preset attribute.HostName h ∷ []

abbrev pub service_presets : Option ObjectType → List ℕ → List ℕ → Trees
service_presets (Some object.Dependency) h s = preset attribute.ChildHostName h ∷ preset attribute.ChildServiceName s ∷ preset attribute.ParentHostName h ∷ []
service_presets o h s = preset attribute.HostName h ∷ preset attribute.ServiceName s ∷ []

abbrev pub target_presets : Option ObjectType → Target → Trees
target_presets o (host h) = host_presets o (own_name h)
target_presets o (service h s) = service_presets o (own_name h) (own_name s)
