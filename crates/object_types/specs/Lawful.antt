-- Lawful objects, in words that speak of no fault.
use Rattle.std.specs.Prelude.{◌≡◌, ℕ, ◌⊎◌, false, true, List, [], Option, Some, None}
use Rattle.std.specs.List.{AllByRecursion}
use Rattle.site_base.specs.Data.{Data, null, Pairs}
use Rattle.site_base.specs.declared.day_span.DaySpan.{DaySpan}
use Rattle.time_range.specs.Ranges.{Has, Holds}
use Rattle.object_types.specs.declared.checking.Item.{Item}
use Rattle.object_types.specs.declared.object_type.ObjectType.{ObjectType}
use Rattle.object_types.specs.declared.value_kind.SchemaRow.{SchemaRow}
use Rattle.object_types.specs.declared.value_kind.Unset.TheVariants.{Missing}
use Rattle.object_types.specs.declared.value_kind.ValueKind.{ValueKind}
use Rattle.object_types.specs.declared.value_kind.ValueKind.TheVariants as kind
use Rattle.object_types.specs.Checks.{sets, faults_of}
use Rattle.object_types.specs.Names.{is_inert}
use Rattle.object_types.specs.Schema.{schema_of, row_named}
use Rattle.object_types.specs.Values.{fits, is_unset}

-- a value is of a kind; time ranges are so where each of their keys has spans
abbrev pub IsOf : ValueKind → Data → Type 0
IsOf kind.Ranges value = (fits kind.Ranges value ≡ true) × ((spans : List DaySpan) × Holds value spans)
IsOf k value = fits k value ≡ true

-- What may stand under an attribute: null if the type doesn't have it, and else a value of its kind or one that counts
-- as not set.
abbrev pub IsGood : Option SchemaRow → Data → Type 0
IsGood None value = value ≡ null
IsGood (Some row) value = (is_unset row.kind value ≡ true) ⊎ IsOf row.kind value

-- An object of a type: each attribute that stands there is good, and each that the type needs is set.
pub record IsLawful (t : ObjectType) (pairs : Pairs) : Type 0 where
  pub good : (name : List ℕ) (value : Data) → Has pairs name value → IsGood (row_named t name) value
  pub whole : AllByRecursion (λ row. row.unset ≡ Missing → sets row pairs ≡ true) (schema_of t)

-- an object has no fault if it is lawful
abbrev pub HaveNone : Type 0
HaveNone = (at : Item) (t : ObjectType) (pairs : Pairs) → IsLawful t pairs → faults_of at t pairs ≡ []

-- and, where its type isn't inert, only then
abbrev pub AreLawful : Type 0
AreLawful = (at : Item) (t : ObjectType) (pairs : Pairs) → is_inert t ≡ false → faults_of at t pairs ≡ [] → IsLawful t pairs
