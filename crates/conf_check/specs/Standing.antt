-- What it means that nothing is told: no two objects of a type have one full name, and each name in an object is one of an
-- object.
use Rattle.std.specs.Prelude.{◌≡◌, ◌≢◌, ℕ, List, [], ◌∷◌, ◌++◌, Bool, true, Some, All}
use Rattle.site_base.specs.Data.{Data, null, boolean, number, string, list, dict, Items, no_items, item, Pairs}
use Rattle.site_model.specs.PlainSite.{PlainObject}
use Rattle.site_model.specs.Sound.{AreDistinct}
use Rattle.time_range.specs.Ranges.{Has}
use Rattle.object_types.specs.Names.{attribute_name, type_named}
use Rattle.object_types.specs.Schema.{row_named}
use Rattle.object_types.specs.declared.object_type.ObjectType.{ObjectType}
use Rattle.object_types.specs.declared.object_type.ObjectType.TheVariants as object
use Rattle.object_types.specs.declared.value_kind.SchemaRow.{SchemaRow}
use Rattle.object_types.specs.declared.value_kind.ValueKind.{ValueKind}
use Rattle.object_types.specs.declared.value_kind.ValueKind.TheVariants as kind
use Rattle.conf_check.specs.Duplicates.{duplicate_faults}
use Rattle.conf_check.specs.Keys.{has_object, names_of}
use Rattle.conf_check.specs.References.{text_under, reference_faults}

-- where no duplicate is told, the full names of each type differ
abbrev pub AreApart : Type 0
AreApart = (files : List (List ℕ)) (os : List PlainObject) → duplicate_faults files os ≡ [] → (t : ObjectType) → AreDistinct (names_of t os)

-- the strings of an array are each the name of an object of a type
abbrev pub NameAll : (ObjectType → List ℕ → Bool) → ObjectType → Items → Type 0
NameAll has t no_items = Unit {0}
NameAll has t (item (string name) ds) = (has t name ≡ true) × NameAll has t ds
NameAll has t (item null ds) = NameAll has t ds
NameAll has t (item (boolean b) ds) = NameAll has t ds
NameAll has t (item (number n) ds) = NameAll has t ds
NameAll has t (item (list items) ds) = NameAll has t ds
NameAll has t (item (dict pairs) ds) = NameAll has t ds

-- what a value of a kind names is there, in an object with these attributes; an empty string names nothing
abbrev pub Stands : (ObjectType → List ℕ → Bool) → Pairs → ValueKind → Data → Type 0
Stands has all (kind.Name t) (string name) = name ≢ [] → has t name ≡ true
Stands has all (kind.Names t) (list items) = NameAll has t items
Stands has all (kind.Service host) (string name) = name ≢ [] → has object.Service (text_under (attribute_name host) all ++ 33 ∷ name) ≡ true
Stands has all k value = Unit {0}

-- what an object names is there
abbrev pub NamesAreThere : (ObjectType → List ℕ → Bool) → PlainObject → Type 0
NamesAreThere has o =
    (t : ObjectType) (pairs : Pairs) → type_named o.kind ≡ Some t → o.tree ≡ dict pairs
    → (name : List ℕ) (value : Data) (row : SchemaRow) → Has pairs name value → row_named t name ≡ Some row → Stands has pairs row.kind value

-- where no missing name is told, what each object names is there
abbrev pub AllStand : Type 0
AllStand = (os : List PlainObject) → reference_faults os ≡ [] → All (NamesAreThere (has_object os)) os
