-- What an object sets under an attribute, and what holds where it doesn't.
use Rattle.std.specs.Prelude.{ℕ, List, Option, Some, None, if◌then◌else◌}
use Rattle.std.specs.Borrow.{Bor}
use Rattle.std.specs.Str.{bytes_eq}
use Rattle.site_base.specs.Data.{Data, null, boolean, number, string, list, dict, Pairs, no_pairs, pair}
use Rattle.site_base.specs.View.{view}
use Rattle.site_base.specs.declared.tree.Tree.{Tree}
use Rattle.object_types.specs.Names.{attribute_name}
use Rattle.object_types.specs.Schema.{row_named}
use Rattle.object_types.specs.Values.{is_unset}
use Rattle.object_types.specs.declared.attribute.Attribute.{Attribute}
use Rattle.object_types.specs.declared.object_type.ObjectType.{ObjectType}
use Rattle.object_types.specs.declared.value_kind.SchemaRow.{SchemaRow}
use Rattle.object_types.specs.declared.value_kind.Unset.{Unset}
use Rattle.object_types.specs.declared.value_kind.Unset.TheVariants as unset
use Rattle.object_types.specs.declared.value_kind.ValueKind.{ValueKind}

-- the value under a key; of equal keys the first counts
abbrev pub value_under : List ℕ → Pairs → Option Data
value_under key no_pairs = None
value_under key (pair k d more) = if bytes_eq k key then Some d else value_under key more

-- a value, unless it counts as not set
abbrev pub if_set : ValueKind → Option Data → Option Data
if_set k None = None
if_set k (Some d) = if is_unset k d then None else Some d

-- what pairs set under an attribute of which the schema says this
abbrev pub set_among : Option SchemaRow → List ℕ → Pairs → Option Data
set_among None name pairs = None
set_among (Some row) name pairs = if_set row.kind (value_under name pairs)

-- what an object of a type sets under an attribute
unfoldable pub set_value : ObjectType → Attribute → Data → Option Data
set_value t a null = None
set_value t a (boolean b) = None
set_value t a (number n) = None
set_value t a (string text) = None
set_value t a (list items) = None
set_value t a (dict pairs) = set_among (row_named t (attribute_name a)) (attribute_name a) pairs

abbrev pub unset_in : Option SchemaRow → Unset
unset_in None = unset.Nothing
unset_in (Some row) = row.unset

-- what holds where an object of a type doesn't set an attribute
unfoldable pub unset_of : ObjectType → Attribute → Unset
unset_of t a = unset_in (row_named t (attribute_name a))

-- the plain value of what is lent
abbrev pub value_view : Option (Bor Tree) → Option Data
value_view None = None
value_view (Some t) = Some (view t.now)
