-- Lawful objects have no faults, and those without faults are lawful.
use Rattle.std.proofs.Common.{◌≡◌, ℕ, ◌⊎◌, inl, inr, ◌&&◌, not, Bool, true, false, cond, List, [], ◌∷◌, ◌++◌, Option, Some, None, Result, Ok, Err, refl, sym, ap, subst, ◌∙◌}
use Rattle.std.specs.List.{AllByRecursion}
use Rattle.site_base.specs.Data.{Data, null, boolean, number, string, list, dict, Pairs, no_pairs, pair}
use Rattle.site_base.specs.declared.day_span.DaySpan.{DaySpan}
use Rattle.site_base.specs.declared.diag.Diag.{Diag}
use Rattle.time_range.specs.Ranges.{Has, Holds, ranges_in, ranges_of}
use Rattle.time_range.proofs.RangeLemmas.{ranges_found, ranges_again}
use Rattle.site_base.specs.declared.diag_kind.DiagKind.TheVariants as diag
use Rattle.object_types.specs.declared.checking.Item.{Item}
use Rattle.object_types.specs.declared.object_type.ObjectType.{ObjectType}
use Rattle.object_types.specs.declared.value_kind.SchemaRow.{SchemaRow}
use Rattle.object_types.specs.declared.value_kind.Unset.{Unset}
use Rattle.object_types.specs.declared.value_kind.Unset.TheVariants as unset
use Rattle.object_types.specs.declared.value_kind.ValueKind.{ValueKind}
use Rattle.object_types.specs.declared.value_kind.ValueKind.TheVariants as kind
use Rattle.object_types.specs.Checks.{fault, sets, is_required, range_faults, inner_faults, kind_faults, unknown_faults, pair_faults, set_faults, missing_faults, faults_of}
use Rattle.object_types.specs.Lawful.{IsOf, IsGood, IsLawful, HaveNone, AreLawful}
use Rattle.object_types.specs.Names.{attribute_name, is_inert}
use Rattle.object_types.specs.Schema.{schema_of, row_named}
use Rattle.object_types.specs.Values.{fits, is_unset}

front_none : {A : Type 0} (xs ys : List A) → xs ++ ys ≡ [] → xs ≡ []
front_none [] ys e = refl
front_none (x ∷ xs) ys e = absurd (cc)

rest_none : {A : Type 0} (xs ys : List A) → xs ++ ys ≡ [] → ys ≡ []
rest_none [] ys e = e
rest_none (x ∷ xs) ys e = absurd (cc)

both_none : {A : Type 0} (xs ys : List A) → xs ≡ [] → ys ≡ [] → xs ++ ys ≡ []
both_none xs ys a b = ap (λ zs. zs ++ ys) a ∙ b

-- Values.

of_fits : (k : ValueKind) (value : Data) → IsOf k value → fits k value ≡ true
of_fits kind.Ranges value is = is.0
of_fits k value is = is

ranges_none : (at : Item) (value : Data) → IsOf kind.Ranges value → range_faults at (ranges_in value) ≡ []
ranges_none at null is = let no : false ≡ true = is.0 in absurd (cc)
ranges_none at (boolean b) is = let no : false ≡ true = is.0 in absurd (cc)
ranges_none at (number n) is = let no : false ≡ true = is.0 in absurd (cc)
ranges_none at (string text) is = let no : false ≡ true = is.0 in absurd (cc)
ranges_none at (list items) is = let no : false ≡ true = is.0 in absurd (cc)
ranges_none at (dict pairs) is = ap (range_faults at) (ranges_again pairs is.1.0 is.1.1)

inner_none : (at : Item) (k : ValueKind) (value : Data) → IsOf k value → inner_faults at k value ≡ []
inner_none at kind.Ranges value is = ranges_none at value is
inner_none at k value is = refl

kind_none : (at : Item) (name : List ℕ) (k : ValueKind) (value : Data) → IsOf k value → kind_faults at name k value ≡ []
kind_none at name k value is =
    ap (λ b. cond b (inner_faults at k value) (fault at diag.AttrType name ∷ [])) (of_fits k value is) ∙ inner_none at k value is

read_found : (at : Item) (pairs : Pairs) (read : Result (List DaySpan) (List ℕ)) → ranges_of pairs ≡ read → range_faults at read ≡ [] → (spans : List DaySpan) × Holds (dict pairs) spans
read_found at pairs (Ok spans) is e = (spans, ranges_found pairs spans is)
read_found at pairs (Err key) is e = absurd (cc)

ranges_of_kind : (at : Item) (value : Data) → fits kind.Ranges value ≡ true → range_faults at (ranges_in value) ≡ [] → IsOf kind.Ranges value
ranges_of_kind at null fit e = let no : false ≡ true = fit in absurd (cc)
ranges_of_kind at (boolean b) fit e = let no : false ≡ true = fit in absurd (cc)
ranges_of_kind at (number n) fit e = let no : false ≡ true = fit in absurd (cc)
ranges_of_kind at (string text) fit e = let no : false ≡ true = fit in absurd (cc)
ranges_of_kind at (list items) fit e = let no : false ≡ true = fit in absurd (cc)
ranges_of_kind at (dict pairs) fit e = (fit, read_found at pairs (ranges_of pairs) refl e)

of_kind : (at : Item) (k : ValueKind) (value : Data) → fits k value ≡ true → inner_faults at k value ≡ [] → IsOf k value
of_kind at kind.Ranges value fit e = ranges_of_kind at value fit e
of_kind at k value fit e = fit

chosen : (b : Bool) (faults : List Diag) (other : Diag) → cond b faults (other ∷ []) ≡ [] → (b ≡ true) × (faults ≡ [])
chosen true faults other e = (refl, e)
chosen false faults other e = absurd (cc)

kind_only : (at : Item) (name : List ℕ) (k : ValueKind) (value : Data) → kind_faults at name k value ≡ [] → IsOf k value
kind_only at name k value e =
    let both = chosen (fits k value) (inner_faults at k value) (fault at diag.AttrType name) e in of_kind at k value both.0 both.1

-- Attributes.

unknown_only : (at : Item) (name : List ℕ) (value : Data) → unknown_faults at name value ≡ [] → value ≡ null
unknown_only at name null e = refl
unknown_only at name (boolean b) e = absurd (cc)
unknown_only at name (number n) e = absurd (cc)
unknown_only at name (string text) e = absurd (cc)
unknown_only at name (list items) e = absurd (cc)
unknown_only at name (dict pairs) e = absurd (cc)

good_none : (at : Item) (name : List ℕ) (row : Option SchemaRow) (value : Data) → IsGood row value → pair_faults at name row value ≡ []
good_none at name None value is = ap (unknown_faults at name) is
good_none at name (Some row) value (inl is) = ap (λ b. cond b [] (kind_faults at name row.kind value)) is
good_none at name (Some row) value (inr is) = by (is_unset row.kind value)
  where
    by : (b : Bool) → cond b [] (kind_faults at name row.kind value) ≡ []
    by true = refl
    by false = kind_none at name row.kind value is

row_only : (at : Item) (name : List ℕ) (row : SchemaRow) (value : Data) (b : Bool) → is_unset row.kind value ≡ b → cond b [] (kind_faults at name row.kind value) ≡ [] → IsGood (Some row) value
row_only at name row value true is e = inl is
row_only at name row value false is e = inr (kind_only at name row.kind value e)

good_only : (at : Item) (name : List ℕ) (row : Option SchemaRow) (value : Data) → pair_faults at name row value ≡ [] → IsGood row value
good_only at name None value e = unknown_only at name value e
good_only at name (Some row) value e = row_only at name row value (is_unset row.kind value) refl e

set_none : (at : Item) (t : ObjectType) (pairs : Pairs) → ((name : List ℕ) (value : Data) → Has pairs name value → IsGood (row_named t name) value) → set_faults at t pairs ≡ []
set_none at t no_pairs good = refl
set_none at t (pair name value more) good =
    both_none _ _ (good_none at name (row_named t name) value (good name value (inl (refl, refl)))) (set_none at t more (λ n v has. good n v (inr has)))

set_only : (at : Item) (t : ObjectType) (pairs : Pairs) → set_faults at t pairs ≡ [] → (name : List ℕ) (value : Data) → Has pairs name value → IsGood (row_named t name) value
set_only at t no_pairs e name value has = absurd has
set_only at t (pair n v more) e name value (inl has) =
    subst (λ n. IsGood (row_named t n) value) has.0 (subst (λ d. IsGood (row_named t n) d) has.1 (good_only at n (row_named t n) v (front_none _ _ e)))
set_only at t (pair n v more) e name value (inr has) = set_only at t more (rest_none _ _ e) name value has

-- What is missing.

need_none : (u : Unset) (b : Bool) (other : Diag) → (u ≡ unset.Missing → b ≡ true) → cond (is_required u && not b) (other ∷ []) [] ≡ []
need_none unset.Missing true other needed = refl
need_none unset.Missing false other needed = let no : false ≡ true = needed refl in absurd (cc)
need_none unset.Nothing b other needed = refl
need_none (unset.Bool v) b other needed = refl
need_none (unset.Number n) b other needed = refl
need_none unset.GoodStates b other needed = refl

need_only : (u : Unset) (b : Bool) (other : Diag) → cond (is_required u && not b) (other ∷ []) [] ≡ [] → u ≡ unset.Missing → b ≡ true
need_only unset.Missing true other e is = refl
need_only unset.Missing false other e is = absurd (cc)
need_only unset.Nothing b other e is = absurd (cc)
need_only (unset.Bool v) b other e is = absurd (cc)
need_only (unset.Number n) b other e is = absurd (cc)
need_only unset.GoodStates b other e is = absurd (cc)

missing_none : (at : Item) (rows : List SchemaRow) (pairs : Pairs) → AllByRecursion (λ row. row.unset ≡ unset.Missing → sets row pairs ≡ true) rows → missing_faults at rows pairs ≡ []
missing_none at [] pairs whole = refl
missing_none at (row ∷ rows) pairs whole =
    both_none _ _ (need_none row.unset (sets row pairs) (fault at diag.MissingAttr (attribute_name row.attribute)) whole.0) (missing_none at rows pairs whole.1)

missing_only : (at : Item) (rows : List SchemaRow) (pairs : Pairs) → missing_faults at rows pairs ≡ [] → AllByRecursion (λ row. row.unset ≡ unset.Missing → sets row pairs ≡ true) rows
missing_only at [] pairs e = tt
missing_only at (row ∷ rows) pairs e =
    (need_only row.unset (sets row pairs) (fault at diag.MissingAttr (attribute_name row.attribute)) (front_none _ _ e), missing_only at rows pairs (rest_none _ _ e))

-- Objects.

pub lawful_none : HaveNone
lawful_none at t pairs is = by (is_inert t)
  where
    by : (b : Bool) → cond b [] (set_faults at t pairs ++ missing_faults at (schema_of t) pairs) ≡ []
    by true = refl
    by false = both_none _ _ (set_none at t pairs is.good) (missing_none at (schema_of t) pairs is.whole)

pub lawful_only : AreLawful
lawful_only at t pairs checked e =
    let told : set_faults at t pairs ++ missing_faults at (schema_of t) pairs ≡ [] =
    sym (ap (λ b. cond b [] (set_faults at t pairs ++ missing_faults at (schema_of t) pairs)) checked) ∙ e in
    record { good = set_only at t pairs (front_none _ _ told); whole = missing_only at (schema_of t) pairs (rest_none _ _ told) }
