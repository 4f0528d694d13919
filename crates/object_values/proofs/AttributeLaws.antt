-- What is set under an attribute, by the value that stands there.
use Rattle.std.proofs.Common.{◌≡◌, ℕ, List, Option, Some, None, refl, sym, ap}
use Rattle.std.specs.Option.{option_and_then}
use Rattle.site_base.specs.Data.{Data, Pairs}
use Rattle.object_types.specs.declared.value_kind.SchemaRow.{SchemaRow}
use Rattle.object_values.specs.Attributes.{value_under, if_set, set_among}

-- if there is a value, the schema decides
pub set_if_there : (row : Option SchemaRow) (name : List ℕ) (ps : Pairs) (d : Data) → value_under name ps ≡ Some d → option_and_then (λ r. if_set r.kind (Some d)) row ≡ set_among row name ps
set_if_there None name ps d e = refl
set_if_there (Some row) name ps d e = ap (if_set row.kind) (sym e)

-- if there is none, nothing is set
pub set_if_absent : (row : Option SchemaRow) (name : List ℕ) (ps : Pairs) → value_under name ps ≡ None → None ≡ set_among row name ps
set_if_absent None name ps e = refl
set_if_absent (Some row) name ps e = ap (if_set row.kind) (sym e)
