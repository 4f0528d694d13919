-- Which names in objects are no object's.
use Rattle.std.specs.Prelude.{ℕ, ◌==◌, Bool, List, [], ◌∷◌, ◌++◌, Option, Some, None, length, if◌then◌else◌}
use Rattle.std.specs.Str.{bytes_eq}
use Rattle.site_base.specs.Data.{Data, null, boolean, number, string, list, dict, Items, no_items, item, Pairs, no_pairs, pair}
use Rattle.site_base.specs.Quoted.{quoted}
use Rattle.site_base.specs.declared.diag.Diag.{Diag}
use Rattle.site_base.specs.declared.diag_kind.DiagKind.TheVariants as diag
use Rattle.site_model.specs.PlainSite.{PlainObject}
use Rattle.object_types.specs.Names.{attribute_name, type_named}
use Rattle.object_types.specs.Schema.{row_named}
use Rattle.object_types.specs.declared.object_type.ObjectType.{ObjectType}
use Rattle.object_types.specs.declared.object_type.ObjectType.TheVariants as object
use Rattle.object_types.specs.declared.value_kind.SchemaRow.{SchemaRow}
use Rattle.object_types.specs.declared.value_kind.ValueKind.{ValueKind}
use Rattle.object_types.specs.declared.value_kind.ValueKind.TheVariants as kind
use Rattle.conf_check.specs.declared.names.Item.{Item}
use Rattle.conf_check.specs.Keys.{has_object}

-- Below, `has t name` is whether there is an object of a type under a full name.

-- a fault of an item: its attribute names an object that isn't there
abbrev pub fault : Item → List ℕ → List ℕ → Diag
fault at attribute name =
    record { number = at.number; place = at.place; kind = diag.NoReference; text = attribute ++ 32 ∷ quoted name }

abbrev pub name_faults : (ObjectType → List ℕ → Bool) → Item → List ℕ → ObjectType → List ℕ → List Diag
name_faults has at attribute t name = if has t name then [] else fault at attribute name ∷ []

-- of one name; the empty string names nothing
abbrev pub one_faults : (ObjectType → List ℕ → Bool) → Item → List ℕ → ObjectType → Data → List Diag
one_faults has at attribute t (string name) = if length name == 0 then [] else name_faults has at attribute t name
one_faults has at attribute t null = []
one_faults has at attribute t (boolean b) = []
one_faults has at attribute t (number n) = []
one_faults has at attribute t (list items) = []
one_faults has at attribute t (dict pairs) = []

-- of an element of an array, where the empty string is a name
abbrev pub element_faults : (ObjectType → List ℕ → Bool) → Item → List ℕ → ObjectType → Data → List Diag
element_faults has at attribute t (string name) = name_faults has at attribute t name
element_faults has at attribute t null = []
element_faults has at attribute t (boolean b) = []
element_faults has at attribute t (number n) = []
element_faults has at attribute t (list items) = []
element_faults has at attribute t (dict pairs) = []

-- of each element
abbrev pub items_faults : (ObjectType → List ℕ → Bool) → Item → List ℕ → ObjectType → Items → List Diag
items_faults has at attribute t no_items = []
items_faults has at attribute t (item d ds) = element_faults has at attribute t d ++ items_faults has at attribute t ds

abbrev pub list_faults : (ObjectType → List ℕ → Bool) → Item → List ℕ → ObjectType → Data → List Diag
list_faults has at attribute t (list items) = items_faults has at attribute t items
list_faults has at attribute t null = []
list_faults has at attribute t (boolean b) = []
list_faults has at attribute t (number n) = []
list_faults has at attribute t (string text) = []
list_faults has at attribute t (dict pairs) = []

-- of a service of this host, by its full name
abbrev pub service_faults : (ObjectType → List ℕ → Bool) → Item → List ℕ → List ℕ → Data → List Diag
service_faults has at attribute host (string name) =
    if length name == 0 then [] else name_faults has at attribute object.Service (host ++ 33 ∷ name)
service_faults has at attribute host null = []
service_faults has at attribute host (boolean b) = []
service_faults has at attribute host (number n) = []
service_faults has at attribute host (list items) = []
service_faults has at attribute host (dict pairs) = []

abbrev pub text_of : Data → List ℕ
text_of (string text) = text
text_of null = []
text_of (boolean b) = []
text_of (number n) = []
text_of (list items) = []
text_of (dict pairs) = []

-- the string under a key; empty if there is none
abbrev pub text_under : List ℕ → Pairs → List ℕ
text_under key no_pairs = []
text_under key (pair k d more) = if bytes_eq k key then text_of d else text_under key more

-- of a value of a kind, in an object with these attributes
abbrev pub value_faults : (ObjectType → List ℕ → Bool) → Item → List ℕ → Pairs → ValueKind → Data → List Diag
value_faults has at attribute all (kind.Name t) value = one_faults has at attribute t value
value_faults has at attribute all (kind.Names t) value = list_faults has at attribute t value
value_faults has at attribute all (kind.Service host) value = service_faults has at attribute (text_under (attribute_name host) all) value
value_faults has at attribute all _ value = []

-- of an attribute of which the schema says this
abbrev pub attribute_faults : (ObjectType → List ℕ → Bool) → Item → List ℕ → Pairs → Option SchemaRow → Data → List Diag
attribute_faults has at attribute all None value = []
attribute_faults has at attribute all (Some row) value = value_faults has at attribute all row.kind value

-- of each attribute of an object of a type, in its order
abbrev pub pairs_faults : (ObjectType → List ℕ → Bool) → Item → ObjectType → Pairs → Pairs → List Diag
pairs_faults has at t all no_pairs = []
pairs_faults has at t all (pair attribute value more) =
    attribute_faults has at attribute all (row_named t attribute) value ++ pairs_faults has at t all more

abbrev pub tree_faults : (ObjectType → List ℕ → Bool) → Item → Option ObjectType → Data → List Diag
tree_faults has at (Some t) (dict pairs) = pairs_faults has at t pairs pairs
tree_faults has at t tree = []

abbrev pub item_of : PlainObject → Item
item_of o = record { number = o.number; place = o.place }

-- of each object
abbrev pub objects_faults : (ObjectType → List ℕ → Bool) → List PlainObject → List Diag
objects_faults has [] = []
objects_faults has (o ∷ os) = tree_faults has (item_of o) (type_named o.kind) o.tree ++ objects_faults has os

-- of each of these objects among them
abbrev pub reference_faults : List PlainObject → List Diag
reference_faults os = objects_faults (has_object os) os
