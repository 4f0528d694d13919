-- What is made of an item doesn't depend on its number.
use Rattle.std.proofs.Common.{◌≡◌, List, [], ◌∷◌, ◌++◌, not, Bool, true, false, cond, Option, Some, None, Result, Ok, Err, refl, sym, ap, ◌∙◌}
use Rattle.std.specs.Prelude.{◌&&◌, ℕ}
use Rattle.site_base.specs.Data.{Data, null, boolean, number, string, list, dict, Pairs, no_pairs, pair}
use Rattle.site_base.specs.declared.day_span.DaySpan.{DaySpan}
use Rattle.site_base.specs.declared.diag.Diag.{Diag}
use Rattle.site_base.specs.declared.diag_kind.DiagKind.TheVariants as diag
use Rattle.site_base.specs.declared.item_no.ItemNo.{ItemNo}
use Rattle.site_base.specs.declared.place.Place.{Place}
use Rattle.site_model.specs.PlainSite.{PlainObject}
use Rattle.time_range.specs.Ranges.{ranges_in}
use Rattle.object_types.specs.declared.object_type.ObjectType.{ObjectType}
use Rattle.object_types.specs.declared.value_kind.SchemaRow.{SchemaRow}
use Rattle.object_types.specs.declared.value_kind.ValueKind.{ValueKind}
use Rattle.object_types.specs.declared.value_kind.ValueKind.TheVariants as kind
use Rattle.object_types.specs.Names.{attribute_name, is_inert, type_named}
use Rattle.object_types.specs.Schema.{schema_of, row_named}
use Rattle.object_types.specs.Values.{fits, is_unset}
use Rattle.object_types.specs.Checks.{fault, range_faults, inner_faults, kind_faults, unknown_faults, pair_faults, set_faults, sets, is_required, missing_faults, faults_of, object_faults}
use Rattle.eval_meaning.specs.Registered.{PlainItem}
use Rattle.eval_meaning.specs.States.{Outcome, gives, faults, blocked}
use Rattle.eval_meaning.specs.Views.{View}
use Rattle.commit_meaning.specs.Answers as answer
use Rattle.commit_meaning.specs.Answers.{Answer, answered}
use Rattle.commit_meaning.specs.Items.{checked, checked_by, item_answer, item_run, object_of}

-- ---- faults of attributes

module _ (k m : ItemNo) (l : Place) where
  choice : (b : Bool) (x y z w : List Diag) → (x ≡ [] → z ≡ []) → (y ≡ [] → w ≡ []) → cond b x y ≡ [] → cond b z w ≡ []
  choice true x y z w h g e = h e
  choice false x y z w h g e = g e

  joined : (x y z w : List Diag) → (x ≡ [] → z ≡ []) → (y ≡ [] → w ≡ []) → x ++ y ≡ [] → z ++ w ≡ []
  joined [] y z w h g e = ap (λ a. a ++ w) (h refl) ∙ g e
  joined (d ∷ x) y z w h g e = absurd cc

  ranges : (r : Result (List DaySpan) (List ℕ)) → range_faults (record { number = k; place = l }) r ≡ [] → range_faults (record { number = m; place = l }) r ≡ []
  ranges (Ok spans) e = refl
  ranges (Err key) e = absurd cc

  inner : (v : ValueKind) (d : Data) → inner_faults (record { number = k; place = l }) v d ≡ [] → inner_faults (record { number = m; place = l }) v d ≡ []
  inner kind.Ranges d e = ranges (ranges_in d) e
  inner _ d e = refl

  one : (d e : Diag) → d ∷ [] ≡ [] → e ∷ [] ≡ []
  one d e h = absurd cc

  kinds : (n : List ℕ) (v : ValueKind) (d : Data) → kind_faults (record { number = k; place = l }) n v d ≡ [] → kind_faults (record { number = m; place = l }) n v d ≡ []
  kinds n v d = choice (fits v d) (inner_faults (record { number = k; place = l }) v d) (fault (record { number = k; place = l }) diag.AttrType n ∷ []) (inner_faults (record { number = m; place = l }) v d) (fault (record { number = m; place = l }) diag.AttrType n ∷ []) (inner v d) (one (fault (record { number = k; place = l }) diag.AttrType n) (fault (record { number = m; place = l }) diag.AttrType n))

  unknowns : (n : List ℕ) (d : Data) → unknown_faults (record { number = k; place = l }) n d ≡ [] → unknown_faults (record { number = m; place = l }) n d ≡ []
  unknowns n null e = refl
  unknowns n (boolean b) e = absurd cc
  unknowns n (number i) e = absurd cc
  unknowns n (string text) e = absurd cc
  unknowns n (list items) e = absurd cc
  unknowns n (dict pairs) e = absurd cc

  pairs : (n : List ℕ) (o : Option SchemaRow) (d : Data) → pair_faults (record { number = k; place = l }) n o d ≡ [] → pair_faults (record { number = m; place = l }) n o d ≡ []
  pairs n None d = unknowns n d
  pairs n (Some row) d = choice (is_unset row.kind d) [] (kind_faults (record { number = k; place = l }) n row.kind d) [] (kind_faults (record { number = m; place = l }) n row.kind d) (λ e. e) (kinds n row.kind d)

  set_ones : (t : ObjectType) (ps : Pairs) → set_faults (record { number = k; place = l }) t ps ≡ [] → set_faults (record { number = m; place = l }) t ps ≡ []
  set_ones t no_pairs e = refl
  set_ones t (pair n d more) e = joined (pair_faults (record { number = k; place = l }) n (row_named t n) d) (set_faults (record { number = k; place = l }) t more) (pair_faults (record { number = m; place = l }) n (row_named t n) d) (set_faults (record { number = m; place = l }) t more) (pairs n (row_named t n) d) (set_ones t more) e

  missing_ones : (rows : List SchemaRow) (ps : Pairs) → missing_faults (record { number = k; place = l }) rows ps ≡ [] → missing_faults (record { number = m; place = l }) rows ps ≡ []
  missing_ones [] ps e = refl
  missing_ones (row ∷ rows) ps e =
      let wanted : Bool = is_required row.unset && not (sets row ps) in
      let name : List ℕ = attribute_name row.attribute in
      joined (cond wanted (fault (record { number = k; place = l }) diag.MissingAttr name ∷ []) []) (missing_faults (record { number = k; place = l }) rows ps) (cond wanted (fault (record { number = m; place = l }) diag.MissingAttr name ∷ []) []) (missing_faults (record { number = m; place = l }) rows ps)
      (choice wanted (fault (record { number = k; place = l }) diag.MissingAttr name ∷ []) [] (fault (record { number = m; place = l }) diag.MissingAttr name ∷ []) [] (one (fault (record { number = k; place = l }) diag.MissingAttr name) (fault (record { number = m; place = l }) diag.MissingAttr name)) (λ e. e)) (missing_ones rows ps) e

  all_faults : (t : ObjectType) (ps : Pairs) → faults_of (record { number = k; place = l }) t ps ≡ [] → faults_of (record { number = m; place = l }) t ps ≡ []
  all_faults t ps =
      choice (is_inert t) [] (set_faults (record { number = k; place = l }) t ps ++ missing_faults (record { number = k; place = l }) (schema_of t) ps) [] (set_faults (record { number = m; place = l }) t ps ++ missing_faults (record { number = m; place = l }) (schema_of t) ps) (λ e. e)
      (joined (set_faults (record { number = k; place = l }) t ps) (missing_faults (record { number = k; place = l }) (schema_of t) ps) (set_faults (record { number = m; place = l }) t ps) (missing_faults (record { number = m; place = l }) (schema_of t) ps) (set_ones t ps) (missing_ones (schema_of t) ps))

  -- attributes that are right for one item are so for another of its type
  pub right_elsewhere : (t : Option ObjectType) (d : Data) → object_faults (record { number = k; place = l }) t d ≡ [] → object_faults (record { number = m; place = l }) t d ≡ []
  right_elsewhere (Some t) (dict ps) e = all_faults t ps e
  right_elsewhere t d e = refl

-- ---- items

abbrev pub numbered : ItemNo → PlainItem → PlainItem
numbered n i = record i { number = n }

abbrev pub object_numbered : ItemNo → PlainObject → PlainObject
object_numbered n o = record o { number = n }

runs_alike : (view : View) (n : ItemNo) (i : PlainItem) → item_run view (numbered n i) ≡ item_run view i
unfolding item_run
runs_alike view n i = refl

module _ (n : ItemNo) (i : PlainItem) where
  by_list : (o : PlainObject) (d : Data) (fs : List Diag) → object_faults (record { number = i.number; place = i.place }) (type_named i.kind) d ≡ fs → checked_by i d fs ≡ answer.made o
      → checked_by (numbered n i) d (object_faults (record { number = n; place = i.place }) (type_named i.kind) d) ≡ answer.made (object_numbered n o)
  by_list o d [] e h =
      let right : object_faults (record { number = n; place = i.place }) (type_named i.kind) d ≡ [] = right_elsewhere i.number n i.place (type_named i.kind) d e in
      let one : object_of i d ≡ o = cc in
      ap (checked_by (numbered n i) d) right ∙ ap (λ x. answer.made (object_numbered n x)) one
  by_list o d (f ∷ fs) e h = absurd cc

  by_run : (o : PlainObject) (x : Outcome Data) → checked i (answered i.number x) ≡ answer.made o → checked (numbered n i) (answered n x) ≡ answer.made (object_numbered n o)
  by_run o (gives d s) h = by_list o d (object_faults (record { number = i.number; place = i.place }) (type_named i.kind) d) refl h
  by_run o (faults l k t rs) h = absurd cc
  by_run o (blocked r rs) h = absurd cc

  -- the object is the same under any number
  pub made_numbered : (view : View) (o : PlainObject) → item_answer view i ≡ answer.made o → item_answer view (numbered n i) ≡ answer.made (object_numbered n o)
  unfolding item_answer
  made_numbered view o h = ap (λ x. checked (numbered n i) (answered n x)) (runs_alike view n i) ∙ by_run o (item_run view i) h

-- ---- where an object stands

standing_by : (i : PlainItem) (o : PlainObject) (d : Data) (fs : List Diag) → checked_by i d fs ≡ answer.made o → (o.place ≡ i.place) × (o.number ≡ i.number)
standing_by i o d [] h = let one : object_of i d ≡ o = cc in (sym (ap (λ (x : PlainObject). x.place) one), sym (ap (λ (x : PlainObject). x.number) one))
standing_by i o d (f ∷ fs) h = absurd cc

standing_of : (i : PlainItem) (o : PlainObject) (a : Answer Data) → checked i a ≡ answer.made o → (o.place ≡ i.place) × (o.number ≡ i.number)
standing_of i o (answer.made d) h = standing_by i o d (object_faults (record { number = i.number; place = i.place }) (type_named i.kind) d) h
standing_of i o (answer.diagnosed ds) h = absurd cc
standing_of i o (answer.blocked r) h = absurd cc

pub made_at : (view : View) (i : PlainItem) (o : PlainObject) → item_answer view i ≡ answer.made o → (o.place ≡ i.place) × (o.number ≡ i.number)
unfolding item_answer
made_at view i o h = standing_of i o (answered i.number (item_run view i)) h

-- ---- what is told isn't empty

abbrev pub Speaks : {A : Type 0} → Answer A → Type 0
Speaks (answer.made a) = Unit {0}
Speaks (answer.diagnosed []) = ⊥
Speaks (answer.diagnosed (d ∷ ds)) = Unit {0}
Speaks (answer.blocked r) = Unit {0}

pub answered_speaks : {A : Type 0} (n : ItemNo) (x : Outcome A) → Speaks (answered n x)
answered_speaks n (gives a s) = tt
answered_speaks n (faults l k t rs) = tt
answered_speaks n (blocked r rs) = tt

checked_speaks_by : (i : PlainItem) (d : Data) (fs : List Diag) → Speaks (checked_by i d fs)
checked_speaks_by i d [] = tt
checked_speaks_by i d (f ∷ fs) = tt

checked_speaks : (i : PlainItem) (a : Answer Data) → Speaks a → Speaks (checked i a)
checked_speaks i (answer.made d) h = checked_speaks_by i d (object_faults (record { number = i.number; place = i.place }) (type_named i.kind) d)
checked_speaks i (answer.diagnosed []) h = elim h [ ]
checked_speaks i (answer.diagnosed (d ∷ ds)) h = tt
checked_speaks i (answer.blocked r) h = tt

pub item_speaks : (view : View) (i : PlainItem) → Speaks (item_answer view i)
unfolding item_answer
item_speaks view i = checked_speaks i (answered i.number (item_run view i)) (answered_speaks i.number (item_run view i))
