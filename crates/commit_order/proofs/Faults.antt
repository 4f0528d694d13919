-- What is wrong with an object's attributes is told under the item's number, and else doesn't depend on it.
use Rattle.std.proofs.Common.{◌≡◌, ℕ, List, [], ◌∷◌, ◌++◌, map, not, Bool, true, false, cond, Option, Some, None, Result, Ok, Err, refl, sym, ap, ◌∙◌}
use Rattle.std.specs.Prelude.{◌&&◌}
use Rattle.std.proofs.lemmas.List.{map-append}
use Rattle.site_base.specs.Data.{Data, null, boolean, number, string, list, dict, Pairs, no_pairs, pair}
use Rattle.site_base.specs.declared.day_span.DaySpan.{DaySpan}
use Rattle.site_base.specs.declared.diag.Diag.{Diag}
use Rattle.site_base.specs.declared.diag_kind.DiagKind.TheVariants as diag
use Rattle.site_base.specs.declared.place.Place.{Place}
use Rattle.time_range.specs.Ranges.{ranges_in}
use Rattle.site_base.specs.declared.item_no.ItemNo.{ItemNo}
use Rattle.object_types.specs.declared.object_type.ObjectType.{ObjectType}
use Rattle.object_types.specs.declared.value_kind.SchemaRow.{SchemaRow}
use Rattle.object_types.specs.declared.value_kind.ValueKind.{ValueKind}
use Rattle.object_types.specs.declared.value_kind.ValueKind.TheVariants as kind
use Rattle.object_types.specs.Names.{attribute_name, is_inert}
use Rattle.object_types.specs.Schema.{schema_of, row_named}
use Rattle.object_types.specs.Values.{fits, is_unset}
use Rattle.object_types.specs.Checks.{fault, range_faults, inner_faults, kind_faults, unknown_faults, pair_faults, set_faults, sets, is_required, missing_faults, faults_of, object_faults}
use Rattle.commit_order.specs.Unordered.{unordered_number, unordered_diag}

module _ (k : ItemNo) (l : Place) where
  abbrev unordered : List Diag → List Diag
  unordered ds = map unordered_diag ds

  choice : (b : Bool) (x y z w : List Diag) → x ≡ unordered z → y ≡ unordered w → cond b x y ≡ unordered (cond b z w)
  choice true x y z w h e = h
  choice false x y z w h e = e

  joined : (x y z w : List Diag) → x ≡ unordered z → y ≡ unordered w → x ++ y ≡ unordered (z ++ w)
  joined x y z w h e = ap (λ a. a ++ y) h ∙ ap (λ b. unordered z ++ b) e ∙ sym (map-append unordered_diag z w)

  ranges : (r : Result (List DaySpan) (List ℕ)) → range_faults (record { number = unordered_number k; place = l }) r ≡ unordered (range_faults (record { number = k; place = l }) r)
  ranges (Ok spans) = refl
  ranges (Err key) = refl

  inner : (v : ValueKind) (d : Data) → inner_faults (record { number = unordered_number k; place = l }) v d ≡ unordered (inner_faults (record { number = k; place = l }) v d)
  inner kind.Ranges d = ranges (ranges_in d)
  inner _ d = refl

  kinds : (n : List ℕ) (v : ValueKind) (d : Data) → kind_faults (record { number = unordered_number k; place = l }) n v d ≡ unordered (kind_faults (record { number = k; place = l }) n v d)
  kinds n v d = choice (fits v d) (inner_faults (record { number = unordered_number k; place = l }) v d) (fault (record { number = unordered_number k; place = l }) diag.AttrType n ∷ []) (inner_faults (record { number = k; place = l }) v d) (fault (record { number = k; place = l }) diag.AttrType n ∷ []) (inner v d) refl

  unknowns : (n : List ℕ) (d : Data) → unknown_faults (record { number = unordered_number k; place = l }) n d ≡ unordered (unknown_faults (record { number = k; place = l }) n d)
  unknowns n null = refl
  unknowns n (boolean b) = refl
  unknowns n (number i) = refl
  unknowns n (string text) = refl
  unknowns n (list items) = refl
  unknowns n (dict pairs) = refl

  pairs : (n : List ℕ) (o : Option SchemaRow) (d : Data) → pair_faults (record { number = unordered_number k; place = l }) n o d ≡ unordered (pair_faults (record { number = k; place = l }) n o d)
  pairs n None d = unknowns n d
  pairs n (Some row) d = choice (is_unset row.kind d) [] (kind_faults (record { number = unordered_number k; place = l }) n row.kind d) [] (kind_faults (record { number = k; place = l }) n row.kind d) refl (kinds n row.kind d)

  set_ones : (t : ObjectType) (ps : Pairs) → set_faults (record { number = unordered_number k; place = l }) t ps ≡ unordered (set_faults (record { number = k; place = l }) t ps)
  set_ones t no_pairs = refl
  set_ones t (pair n d more) = joined (pair_faults (record { number = unordered_number k; place = l }) n (row_named t n) d) (set_faults (record { number = unordered_number k; place = l }) t more) (pair_faults (record { number = k; place = l }) n (row_named t n) d) (set_faults (record { number = k; place = l }) t more) (pairs n (row_named t n) d) (set_ones t more)

  missing_ones : (rows : List SchemaRow) (ps : Pairs) → missing_faults (record { number = unordered_number k; place = l }) rows ps ≡ unordered (missing_faults (record { number = k; place = l }) rows ps)
  missing_ones [] ps = refl
  missing_ones (row ∷ rows) ps =
      let wanted : Bool = is_required row.unset && not (sets row ps) in
      let name : List ℕ = attribute_name row.attribute in
      joined (cond wanted (fault (record { number = unordered_number k; place = l }) diag.MissingAttr name ∷ []) []) (missing_faults (record { number = unordered_number k; place = l }) rows ps) (cond wanted (fault (record { number = k; place = l }) diag.MissingAttr name ∷ []) []) (missing_faults (record { number = k; place = l }) rows ps)
      (choice wanted (fault (record { number = unordered_number k; place = l }) diag.MissingAttr name ∷ []) [] (fault (record { number = k; place = l }) diag.MissingAttr name ∷ []) [] refl refl) (missing_ones rows ps)

  all_faults : (t : ObjectType) (ps : Pairs) → faults_of (record { number = unordered_number k; place = l }) t ps ≡ unordered (faults_of (record { number = k; place = l }) t ps)
  all_faults t ps =
      choice (is_inert t) [] (set_faults (record { number = unordered_number k; place = l }) t ps ++ missing_faults (record { number = unordered_number k; place = l }) (schema_of t) ps) [] (set_faults (record { number = k; place = l }) t ps ++ missing_faults (record { number = k; place = l }) (schema_of t) ps) refl
      (joined (set_faults (record { number = unordered_number k; place = l }) t ps) (missing_faults (record { number = unordered_number k; place = l }) (schema_of t) ps) (set_faults (record { number = k; place = l }) t ps) (missing_faults (record { number = k; place = l }) (schema_of t) ps) (set_ones t ps) (missing_ones (schema_of t) ps))

  pub faults_unordered : (t : Option ObjectType) (d : Data) → object_faults (record { number = unordered_number k; place = l }) t d ≡ unordered (object_faults (record { number = k; place = l }) t d)
  faults_unordered (Some t) (dict ps) = all_faults t ps
  faults_unordered t d = refl
