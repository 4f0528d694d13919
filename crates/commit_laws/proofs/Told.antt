-- What is wrong with a task is told under its number.
use Rattle.std.proofs.Common.{◌≡◌, ◌≢◌, List, [], ◌∷◌, ◌++◌, not, Bool, true, false, cond, Option, Some, None, Result, Ok, Err, refl}
use Rattle.std.specs.Prelude.{◌&&◌, ℕ}
use Rattle.std.specs.List.{AllByRecursion}
use Rattle.site_base.specs.Data.{Data, null, boolean, number, string, list, dict, Pairs, no_pairs, pair}
use Rattle.site_base.specs.declared.day_span.DaySpan.{DaySpan}
use Rattle.site_base.specs.declared.diag.Diag.{Diag}
use Rattle.site_base.specs.declared.diag_kind.DiagKind.TheVariants.{AttrType, MissingAttr}
use Rattle.site_base.specs.declared.item_no.ItemNo.{ItemNo}
use Rattle.site_base.specs.declared.place.Place.{Place}
use Rattle.site_model.specs.PlainSite.{PlainObject}
use Rattle.time_range.specs.Ranges.{ranges_in}
use Rattle.object_types.specs.declared.object_type.ObjectType.{ObjectType}
use Rattle.object_types.specs.declared.value_kind.SchemaRow.{SchemaRow}
use Rattle.object_types.specs.declared.value_kind.ValueKind.{ValueKind}
use Rattle.object_types.specs.declared.value_kind.ValueKind.TheVariants as kind
use Rattle.object_types.specs.Names.{attribute_name, is_inert, type_named}
use Rattle.object_types.specs.Schema.{schema_of, row_named}
use Rattle.object_types.specs.Values.{fits, is_unset}
use Rattle.object_types.specs.Checks.{fault, range_faults, inner_faults, kind_faults, unknown_faults, pair_faults, set_faults, sets, is_required, missing_faults, faults_of, object_faults}
use Rattle.eval_meaning.specs.Follows.{IsOpen}
use Rattle.eval_meaning.specs.Registered.{PlainItem, PlainRule}
use Rattle.eval_meaning.specs.States.{State, Outcome, gives, faults, blocked, ◌>>=◌, rule}
use Rattle.eval_meaning.specs.Views.{View, IsWorld}
use Rattle.commit_meaning.specs.Answers as answer
use Rattle.commit_meaning.specs.Answers.{Answer, answered, diag}
use Rattle.commit_meaning.specs.Conditions.{Verdict, is_taken}
use Rattle.commit_meaning.specs.Groups.{Taken, none_taken, taken_by, group_run, caught, groups_run, groups_by, member_names, member_run, unless_diags, settled, group_members}
use Rattle.commit_meaning.specs.Items.{checked, checked_by, item_answer, item_run}
use Rattle.commit_meaning.specs.Names.{Target}
use Rattle.commit_meaning.specs.Rules.{instances, pair_number, rule_run}
use Rattle.commit_meaning.specs.Starts.{Trees, fresh}
use Rattle.commit_meaning.proofs.ItemTypes.{Gives}
use Rattle.commit_meaning.proofs.Lists.{all_append}
use Rattle.commit_laws.specs.Accounts.{IsAnswerOf, AnswersAll}
use Rattle.commit_laws.proofs.Open.{item_open, rule_open, member_open}

-- ---- faults of attributes

module _ (m : ItemNo) (l : Place) where
  abbrev IsOwn : Diag → Type 0
  IsOwn d = d.number ≡ m

  abbrev AreOwn : List Diag → Type 0
  AreOwn ds = AllByRecursion IsOwn ds

  choice : (b : Bool) (x y : List Diag) → AreOwn x → AreOwn y → AreOwn (cond b x y)
  choice true x y h k = h
  choice false x y h k = k

  ranges : (r : Result (List DaySpan) (List ℕ)) → AreOwn (range_faults (record { number = m; place = l }) r)
  ranges (Ok spans) = tt
  ranges (Err key) = (refl, tt)

  inner : (v : ValueKind) (d : Data) → AreOwn (inner_faults (record { number = m; place = l }) v d)
  inner kind.Ranges d = ranges (ranges_in d)
  inner _ d = tt

  kinds : (n : List ℕ) (v : ValueKind) (d : Data) → AreOwn (kind_faults (record { number = m; place = l }) n v d)
  kinds n v d = choice (fits v d) (inner_faults (record { number = m; place = l }) v d) (fault (record { number = m; place = l }) AttrType n ∷ []) (inner v d) (refl, tt)

  unknowns : (n : List ℕ) (d : Data) → AreOwn (unknown_faults (record { number = m; place = l }) n d)
  unknowns n null = tt
  unknowns n (boolean b) = (refl, tt)
  unknowns n (number i) = (refl, tt)
  unknowns n (string text) = (refl, tt)
  unknowns n (list items) = (refl, tt)
  unknowns n (dict pairs) = (refl, tt)

  pairs : (n : List ℕ) (o : Option SchemaRow) (d : Data) → AreOwn (pair_faults (record { number = m; place = l }) n o d)
  pairs n None d = unknowns n d
  pairs n (Some row) d = choice (is_unset row.kind d) [] (kind_faults (record { number = m; place = l }) n row.kind d) tt (kinds n row.kind d)

  set_ones : (t : ObjectType) (ps : Pairs) → AreOwn (set_faults (record { number = m; place = l }) t ps)
  set_ones t no_pairs = tt
  set_ones t (pair n d more) = all_append IsOwn (pair_faults (record { number = m; place = l }) n (row_named t n) d) (set_faults (record { number = m; place = l }) t more) (pairs n (row_named t n) d) (set_ones t more)

  missing_ones : (rows : List SchemaRow) (ps : Pairs) → AreOwn (missing_faults (record { number = m; place = l }) rows ps)
  missing_ones [] ps = tt
  missing_ones (row ∷ rows) ps =
      let wanted : Bool = is_required row.unset && not (sets row ps) in
      let own : List Diag = fault (record { number = m; place = l }) MissingAttr (attribute_name row.attribute) ∷ [] in
      all_append IsOwn (cond wanted own []) (missing_faults (record { number = m; place = l }) rows ps) (choice wanted own [] (refl, tt) tt) (missing_ones rows ps)

  of_type : (t : ObjectType) (ps : Pairs) → AreOwn (faults_of (record { number = m; place = l }) t ps)
  of_type t ps =
      choice (is_inert t) [] (set_faults (record { number = m; place = l }) t ps ++ missing_faults (record { number = m; place = l }) (schema_of t) ps) tt
      (all_append IsOwn (set_faults (record { number = m; place = l }) t ps) (missing_faults (record { number = m; place = l }) (schema_of t) ps) (set_ones t ps) (missing_ones (schema_of t) ps))

  pub own_faults : (t : Option ObjectType) (d : Data) → AreOwn (object_faults (record { number = m; place = l }) t d)
  own_faults (Some t) (dict ps) = of_type t ps
  own_faults t d = tt

-- ---- answers

some_told : (d : Diag) (ds : List Diag) → (d ∷ ds) ≢ []
some_told d ds h = absurd cc

answered_as : {A : Type 0} (n : ItemNo) (x : Outcome A) → IsOpen x → IsAnswerOf n (answered n x)
answered_as n (gives a s) h = tt
answered_as n (faults l k t rs) h = (some_told _ [], (refl, tt))
answered_as n (blocked r rs) h = absurd h

-- ---- items

checked_list : (i : PlainItem) (d : Data) (fs : List Diag) → AllByRecursion (λ f. f.number ≡ i.number) fs → IsAnswerOf i.number (checked_by i d fs)
checked_list i d [] h = tt
checked_list i d (f ∷ fs) h = (some_told f fs, h)

checked_as : (i : PlainItem) (a : Answer Data) → IsAnswerOf i.number a → IsAnswerOf i.number (checked i a)
checked_as i (answer.made d) h = checked_list i d (object_faults (record { number = i.number; place = i.place }) (type_named i.kind) d) (own_faults i.number i.place (type_named i.kind) d)
checked_as i (answer.diagnosed ds) h = h
checked_as i (answer.blocked r) h = absurd h

item_answered : (view : View) → IsWorld view → (i : PlainItem) → IsAnswerOf i.number (item_answer view i)
unfolding item_answer
item_answered view whole i = checked_as i (answered i.number (item_run view i)) (answered_as i.number (item_run view i) (item_open view whole i))

-- ---- rules

rule_answered : (view : View) → IsWorld view → (r : PlainRule) (t : Target) → IsAnswerOf (pair_number r t) (instances view r t)
unfolding instances
rule_answered view whole r t = answered_as (pair_number r t) (rule_run view r t) (rule_open view whole r t)

-- ---- groups

pub gives_bind : {A B : Type 0} (P : A → Type 0) (Q : B → Type 0) (x : Outcome A) (f : A → State → Outcome B) → Gives P x → ((a : A) (s : State) → P a → Gives Q (f a s)) → Gives Q (x >>= f)
gives_bind P Q (gives a s) f h k = k a s h
gives_bind P Q (faults l j t rs) f h k = tt
gives_bind P Q (blocked r rs) f h k = tt

pub any_bind : {A B : Type 0} (Q : B → Type 0) (x : Outcome A) (f : A → State → Outcome B) → ((a : A) (s : State) → Gives Q (f a s)) → Gives Q (x >>= f)
any_bind Q (gives a s) f k = k a s
any_bind Q (faults l j t rs) f k = tt
any_bind Q (blocked r rs) f k = tt

-- what is wrong with the groups for an object is told under its number
abbrev IsTold : ItemNo → Taken → Type 0
IsTold n t = AllByRecursion (λ d. d.number ≡ n) t.diags

module _ (view : View) (n : ItemNo) where
  taken_right : (name : List ℕ) (v : Verdict) (t : Taken) → IsTold n t → IsTold n (taken_by name v t)
  taken_right name v t h = by (is_taken v)
    where
      by : (b : Bool) → IsTold n (cond b (record t { names = t.names ++ name ∷ [] }) t)
      by true = h
      by false = h

  caught_right : (g : PlainItem) (t : Taken) (x : Outcome Verdict) → IsTold n t → Gives (IsTold n) (caught view n g t x)
  caught_right g t (gives v s) h = taken_right g.name v t h
  caught_right g t (faults l k x rs) h = all_append (λ d. d.number ≡ n) t.diags (diag n l k x ∷ []) h (refl, tt)
  caught_right g t (blocked r rs) h = tt

  groups_right : (names : Trees) (gs : List PlainItem) (t : Taken) (s : State) → IsTold n t → Gives (IsTold n) (groups_run view n names gs t s)
  groups_right names [] t s h = h
  groups_right names (g ∷ gs) t s h =
      gives_bind (IsTold n) (IsTold n) (caught view n g t (group_run view names g s)) (λ t1 s1. groups_run view n names gs t1 s1) (caught_right g t (group_run view names g s) h) (λ t1 s1 k. groups_right names gs t1 s1 k)

  by_right : (gs : List PlainItem) (o : Option Trees) (s : State) → Gives (IsTold n) (groups_by view n gs o s)
  by_right gs (Some names) s = groups_right names gs none_taken s tt
  by_right gs None s = tt

  settled_list : (t : Taken) (ds : List Diag) → AllByRecursion (λ d. d.number ≡ n) ds → IsAnswerOf n (unless_diags t ds)
  settled_list t [] h = tt
  settled_list t (d ∷ ds) h = (some_told d ds, h)

  settled_as : (x : Outcome Taken) → IsOpen x → Gives (IsTold n) x → IsAnswerOf n (settled (answered n x))
  settled_as (gives t s) h k = settled_list t t.diags k
  settled_as (faults l k x rs) h g = (some_told _ [], (refl, tt))
  settled_as (blocked r rs) h k = absurd h

member_right : (view : View) (gs : List PlainItem) (o : PlainObject) → Gives (IsTold o.number) (member_run view gs o)
unfolding member_run
member_right view gs o = any_bind (IsTold o.number) (member_names view (type_named o.kind) o.tree (fresh view.store rule [])) _ (λ names s. by_right view o.number gs names s)

member_answered : (view : View) → IsWorld view → (gs : List PlainItem) (o : PlainObject) → IsAnswerOf o.number (group_members view gs o)
unfolding group_members
member_answered view whole gs o = settled_as view o.number (member_run view gs o) (member_open view whole gs o) (member_right view gs o)

pub answers_all : (view : View) → IsWorld view → AnswersAll view
answers_all view whole = record { items = item_answered view whole; rules = rule_answered view whole; members = member_answered view whole }
