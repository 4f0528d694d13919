-- What is wrong with an object's attributes.
use Rattle.std.specs.Prelude.{ℕ, ◌&&◌, not, Bool, true, false, List, [], ◌∷◌, ◌++◌, Option, Some, None, Result, Ok, Err, if◌then◌else◌}
use Rattle.std.specs.Str.{bytes_eq}
use Rattle.site_base.specs.Data.{Data, null, boolean, number, string, list, dict, Pairs, no_pairs, pair}
use Rattle.site_base.specs.Quoted.{quoted}
use Rattle.site_base.specs.declared.day_span.DaySpan.{DaySpan}
use Rattle.site_base.specs.declared.diag.Diag.{Diag}
use Rattle.site_base.specs.declared.diag_kind.DiagKind.{DiagKind}
use Rattle.site_base.specs.declared.diag_kind.DiagKind.TheVariants as diag
use Rattle.time_range.specs.Ranges.{ranges_in}
use Rattle.object_types.specs.declared.checking.Item.{Item}
use Rattle.object_types.specs.declared.object_type.ObjectType.{ObjectType}
use Rattle.object_types.specs.declared.value_kind.SchemaRow.{SchemaRow}
use Rattle.object_types.specs.declared.value_kind.Unset.{Unset}
use Rattle.object_types.specs.declared.value_kind.Unset.TheVariants as unset
use Rattle.object_types.specs.declared.value_kind.ValueKind.{ValueKind}
use Rattle.object_types.specs.declared.value_kind.ValueKind.TheVariants as kind
use Rattle.object_types.specs.Names.{attribute_name, type_named, is_inert}
use Rattle.object_types.specs.Schema.{schema_of, row_named}
use Rattle.object_types.specs.Values.{fits, is_unset}

-- a fault of an item, with the attribute or key that it is about
abbrev pub fault : Item → DiagKind → List ℕ → Diag
fault at kind name = record { number = at.number; place = at.place; kind = kind; text = quoted name }

-- of ranges: the first key that is bad
abbrev pub range_faults : Item → Result (List DaySpan) (List ℕ) → List Diag
range_faults at (Ok spans) = []
range_faults at (Err key) = fault at diag.BadRange key ∷ []

-- inside a value that is of its kind: only ranges can still be bad
abbrev pub inner_faults : Item → ValueKind → Data → List Diag
inner_faults at kind.Ranges value = range_faults at (ranges_in value)
inner_faults at _ value = []

-- of an attribute that is set
abbrev pub kind_faults : Item → List ℕ → ValueKind → Data → List Diag
kind_faults at name k value = if fits k value then inner_faults at k value else fault at diag.AttrType name ∷ []

-- of an attribute that the type doesn't have: null is as good as none
abbrev pub unknown_faults : Item → List ℕ → Data → List Diag
unknown_faults at name null = []
unknown_faults at name (boolean b) = fault at diag.UnknownAttr name ∷ []
unknown_faults at name (number n) = fault at diag.UnknownAttr name ∷ []
unknown_faults at name (string text) = fault at diag.UnknownAttr name ∷ []
unknown_faults at name (list items) = fault at diag.UnknownAttr name ∷ []
unknown_faults at name (dict pairs) = fault at diag.UnknownAttr name ∷ []

-- of one attribute and its value, with what the schema says of it
abbrev pub pair_faults : Item → List ℕ → Option SchemaRow → Data → List Diag
pair_faults at name None value = unknown_faults at name value
pair_faults at name (Some row) value = if is_unset row.kind value then [] else kind_faults at name row.kind value

-- of each attribute that stands in an object, in its order
abbrev pub set_faults : Item → ObjectType → Pairs → List Diag
set_faults at t no_pairs = []
set_faults at t (pair name value more) = pair_faults at name (row_named t name) value ++ set_faults at t more

-- whether an object sets the attribute of a row: to a value that doesn't count as not set
abbrev pub sets : SchemaRow → Pairs → Bool
sets row no_pairs = false
sets row (pair name value more) =
    if bytes_eq name (attribute_name row.attribute) then not (is_unset row.kind value) else sets row more

-- whether it has to be set
abbrev pub is_required : Unset → Bool
is_required unset.Missing = true
is_required unset.Nothing = false
is_required (unset.Bool b) = false
is_required (unset.Number n) = false
is_required unset.GoodStates = false

-- of each attribute that has to be set and isn't, in the order of the rows
abbrev pub missing_faults : Item → List SchemaRow → Pairs → List Diag
missing_faults at [] pairs = []
missing_faults at (row ∷ rows) pairs =
    (if is_required row.unset && not (sets row pairs) then fault at diag.MissingAttr (attribute_name row.attribute) ∷ [] else [])
    ++ missing_faults at rows pairs

-- of an object of a type: first of what it sets, then of what it doesn't
abbrev pub faults_of : Item → ObjectType → Pairs → List Diag
faults_of at t pairs = if is_inert t then [] else set_faults at t pairs ++ missing_faults at (schema_of t) pairs

-- of a tree, as an object of the type of this name
abbrev pub object_faults : Item → Option ObjectType → Data → List Diag
object_faults at (Some t) (dict pairs) = faults_of at t pairs
object_faults at t tree = []
