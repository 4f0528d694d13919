-- Objects that stand have no faults.
use Rattle.std.proofs.Common.{◌≡◌, ◌≢◌, ℕ, ◌&&◌, ◌==◌, Bool, true, false, cond, List, [], ◌∷◌, ◌++◌, length, map, All, Option, Some, None, refl, ap, ap₂, subst, ◌∙◌, inl, inr, rules}
use Rattle.std.specs.List.{AllByRecursion}
use Rattle.std.specs.Str.{bytes_eq}
use Rattle.std.proofs.lemmas.List.Elements.{recursion_from_All}
use Rattle.std.proofs.lemmas.Slice.Eq.{bytes_eq-Decides}
use Rattle.site_base.specs.Data.{Data, null, boolean, number, string, list, dict, Items, no_items, item, Pairs, no_pairs, pair}
use Rattle.site_base.specs.declared.diag.Diag.{Diag}
use Rattle.site_base.specs.declared.item_no.ItemNo.{ItemNo}
use Rattle.site_base.specs.declared.place.Place.{Place}
use Rattle.site_model.specs.PlainSite.{PlainObject}
use Rattle.site_model.specs.Sound.{AreDistinct}
use Rattle.time_range.specs.Ranges.{Has}
use Rattle.object_types.specs.Names.{attribute_name, type_name, type_named}
use Rattle.object_types.specs.Schema.{row_named}
use Rattle.object_types.specs.declared.object_type.ObjectType.{ObjectType}
use Rattle.object_types.specs.declared.object_type.ObjectType.TheVariants as object
use Rattle.object_types.specs.declared.value_kind.SchemaRow.{SchemaRow}
use Rattle.object_types.specs.declared.value_kind.ValueKind.{ValueKind}
use Rattle.object_types.specs.declared.value_kind.ValueKind.TheVariants as kind
use Rattle.object_types.proofs.TypeLaws.{type_sound}
use Rattle.conf_check.specs.Duplicates.{duplicate_faults, faults_at, first_place, later_faults, own_faults}
use Rattle.conf_check.specs.Keys.{has_object, is_object, is_of, name_of, names_of, of_type}
use Rattle.conf_check.specs.References.{attribute_faults, fault, items_faults, name_faults, objects_faults, pairs_faults, reference_faults, text_under, tree_faults, value_faults}
use Rattle.conf_check.specs.Standing.{NameAll, NamesAreThere, Stands}
use Rattle.conf_check.proofs.FirstLaws.{first_more, or_else}
use Rattle.commit_meaning.proofs.Lists.{AllLater, all_both, all_imp, all_of_each}
use Rattle.commit_laws.proofs.Apart.{later_from_pairs}

-- ---- full names that differ

-- no object has one of these names
abbrev AreFree : List PlainObject → ObjectType → List (List ℕ) → Type 0
AreFree before t ns = AllByRecursion (λ n. first_place before t n ≡ None) ns

abbrev Differ : List ℕ → List ℕ → Type 0
Differ n m = n ≢ m

unequal : (n m : List ℕ) → n ≢ m → bytes_eq n m ≡ false
unequal n m h = by (bytes_eq n m) refl
  where
    by : (b : Bool) → bytes_eq n m ≡ b → b ≡ false
    by true e = absurd (h ((bytes_eq-Decides n m).0 e))
    by false e = refl

-- an object more doesn't take a name that is free, unless the name is its own
still_free : (before : List PlainObject) (o : PlainObject) (t : ObjectType) (n : List ℕ) → first_place before t n ≡ None → is_object t n o ≡ false → first_place (before ++ o ∷ []) t n ≡ None
still_free before o t n free other = first_more t n o before ∙ ap₂ (λ p b. or_else p (cond b (Some o.place) None)) free other

later_free : (before : List PlainObject) (o : PlainObject) (os : List PlainObject) (t : ObjectType) (b : Bool) → is_of t o ≡ b
    → AreFree before t (map name_of (cond b (o ∷ of_type t os) (of_type t os))) → AllLater Differ (map name_of (cond b (o ∷ of_type t os) (of_type t os))) → AreFree (before ++ o ∷ []) t (names_of t os)
later_free before o os t true is free apart =
    all_both (λ n. first_place before t n ≡ None) (Differ o.name) (λ n. first_place (before ++ o ∷ []) t n ≡ None) (λ n f d. still_free before o t n f (ap₂ (λ a b. a && b) is (unequal o.name n d))) (names_of t os) free.1 apart.0
later_free before o os t false is free apart =
    all_imp (λ n. first_place before t n ≡ None) (λ n. first_place (before ++ o ∷ []) t n ≡ None) (λ n f. still_free before o t n f (ap (λ a. a && bytes_eq o.name n) is)) (names_of t os) free

later_apart : (o : PlainObject) (os : List PlainObject) (t : ObjectType) (b : Bool) → AllLater Differ (map name_of (cond b (o ∷ of_type t os) (of_type t os))) → AllLater Differ (names_of t os)
later_apart o os t true apart = apart.1
later_apart o os t false apart = apart

own_free : (files : List (List ℕ)) (before : List PlainObject) (o : PlainObject) (os : List PlainObject) → ((t : ObjectType) → AreFree before t (names_of t (o ∷ os))) → (k : Option ObjectType) → type_named o.kind ≡ k → own_faults (first_place before) files o k ≡ []
own_free files before o os free None e = refl
own_free files before o os free (Some t) e =
    let is : is_of t o ≡ true = (bytes_eq-Decides o.kind (type_name t)).1 (type_sound o.kind t e) in
    ap (faults_at files o) (subst (λ b. AreFree before t (map name_of (cond b (o ∷ of_type t os) (of_type t os)))) is (free t)).0

none_told : (files : List (List ℕ)) (before os : List PlainObject) → ((t : ObjectType) → AreFree before t (names_of t os)) → ((t : ObjectType) → AllLater Differ (names_of t os)) → later_faults files before os ≡ []
none_told files before [] free apart = refl
none_told files before (o ∷ os) free apart =
    ap₂ (λ x y. x ++ y) (own_free files before o os free (type_named o.kind) refl)
    (none_told files (before ++ o ∷ []) os (λ t. later_free before o os t (is_of t o) refl (free t) (apart t)) (λ t. later_apart o os t (is_of t o) (apart t)))

pub no_duplicates : (files : List (List ℕ)) (os : List PlainObject) → ((t : ObjectType) → AreDistinct (names_of t os)) → duplicate_faults files os ≡ []
no_duplicates files os apart =
    none_told files [] os (λ t. all_of_each (λ n. first_place [] t n ≡ None) (λ n. refl) (names_of t os)) (λ t. later_from_pairs Differ (names_of t os) (apart t))

-- ---- names that are there

module _ (has : ObjectType → List ℕ → Bool) (m : ItemNo) (l : Place) where
  name_none : (attribute : List ℕ) (t : ObjectType) (name : List ℕ) → has t name ≡ true → name_faults has (record { number = m; place = l }) attribute t name ≡ []
  name_none attribute t name there = ap (λ b. cond b [] (fault (record { number = m; place = l }) attribute name ∷ [])) there

  unless_empty : (faults : List Diag) (name : List ℕ) → (name ≢ [] → faults ≡ []) → cond (length name == 0) [] faults ≡ []
  unless_empty faults [] h = refl
  unless_empty faults (x ∷ xs) h =
      let more : (length (x ∷ xs) == 0) ≡ false = search rules in
      ap (λ c. cond c [] faults) more ∙ h (λ e. absurd (cc))

  items_none : (attribute : List ℕ) (t : ObjectType) (items : Items) → NameAll has t items → items_faults has (record { number = m; place = l }) attribute t items ≡ []
  items_none attribute t no_items h = refl
  items_none attribute t (item (string name) ds) h = ap₂ (λ x y. x ++ y) (name_none attribute t name h.0) (items_none attribute t ds h.1)
  items_none attribute t (item null ds) h = items_none attribute t ds h
  items_none attribute t (item (boolean b) ds) h = items_none attribute t ds h
  items_none attribute t (item (number n) ds) h = items_none attribute t ds h
  items_none attribute t (item (list items) ds) h = items_none attribute t ds h
  items_none attribute t (item (dict pairs) ds) h = items_none attribute t ds h

  name_value : (attribute : List ℕ) (all : Pairs) (t : ObjectType) (value : Data) → Stands has all (kind.Name t) value → value_faults has (record { number = m; place = l }) attribute all (kind.Name t) value ≡ []
  name_value attribute all t (string name) h = unless_empty (name_faults has (record { number = m; place = l }) attribute t name) name (λ some. name_none attribute t name (h some))
  name_value attribute all t null h = refl
  name_value attribute all t (boolean b) h = refl
  name_value attribute all t (number n) h = refl
  name_value attribute all t (list items) h = refl
  name_value attribute all t (dict pairs) h = refl

  names_value : (attribute : List ℕ) (all : Pairs) (t : ObjectType) (value : Data) → Stands has all (kind.Names t) value → value_faults has (record { number = m; place = l }) attribute all (kind.Names t) value ≡ []
  names_value attribute all t (list items) h = items_none attribute t items h
  names_value attribute all t null h = refl
  names_value attribute all t (boolean b) h = refl
  names_value attribute all t (number n) h = refl
  names_value attribute all t (string text) h = refl
  names_value attribute all t (dict pairs) h = refl

  value_none : (attribute : List ℕ) (all : Pairs) (k : ValueKind) (value : Data) → Stands has all k value → value_faults has (record { number = m; place = l }) attribute all k value ≡ []
  value_none attribute all (kind.Name t) value h = name_value attribute all t value h
  value_none attribute all (kind.Names t) value h = names_value attribute all t value h
  value_none attribute all (kind.Service host) (string name) h =
      let full = text_under (attribute_name host) all ++ 33 ∷ name in
      unless_empty (name_faults has (record { number = m; place = l }) attribute object.Service full) name (λ some. name_none attribute object.Service full (h some))
  value_none attribute all (kind.Service host) null h = refl
  value_none attribute all (kind.Service host) (boolean b) h = refl
  value_none attribute all (kind.Service host) (number n) h = refl
  value_none attribute all (kind.Service host) (list items) h = refl
  value_none attribute all (kind.Service host) (dict pairs) h = refl
  value_none attribute all k value h = refl

  attribute_none : (attribute : List ℕ) (all : Pairs) (o : Option SchemaRow) (value : Data) → ((row : SchemaRow) → o ≡ Some row → Stands has all row.kind value) → attribute_faults has (record { number = m; place = l }) attribute all o value ≡ []
  attribute_none attribute all None value h = refl
  attribute_none attribute all (Some row) value h = value_none attribute all row.kind value (h row refl)

  pairs_none : (t : ObjectType) (all pairs : Pairs) → ((name : List ℕ) (value : Data) (row : SchemaRow) → Has pairs name value → row_named t name ≡ Some row → Stands has all row.kind value) → pairs_faults has (record { number = m; place = l }) t all pairs ≡ []
  pairs_none t all no_pairs h = refl
  pairs_none t all (pair n v more) h =
      ap₂ (λ x y. x ++ y) (attribute_none n all (row_named t n) v (λ row e. h n v row (inl (refl, refl)) e)) (pairs_none t all more (λ name value row there e. h name value row (inr there) e))

  tree_none : (o : Option ObjectType) (d : Data) → ((t : ObjectType) (pairs : Pairs) → o ≡ Some t → d ≡ dict pairs → (name : List ℕ) (value : Data) (row : SchemaRow) → Has pairs name value → row_named t name ≡ Some row → Stands has pairs row.kind value) → tree_faults has (record { number = m; place = l }) o d ≡ []
  tree_none (Some t) (dict pairs) h = pairs_none t pairs pairs (h t pairs refl refl)
  tree_none (Some t) null h = refl
  tree_none (Some t) (boolean b) h = refl
  tree_none (Some t) (number n) h = refl
  tree_none (Some t) (string text) h = refl
  tree_none (Some t) (list items) h = refl
  tree_none None d h = refl

objects_none : (has : ObjectType → List ℕ → Bool) (os : List PlainObject) → AllByRecursion (NamesAreThere has) os → objects_faults has os ≡ []
objects_none has [] h = refl
objects_none has (o ∷ os) h = ap₂ (λ x y. x ++ y) (tree_none has o.number o.place (type_named o.kind) o.tree h.0) (objects_none has os h.1)

pub no_missing : (os : List PlainObject) → All (NamesAreThere (has_object os)) os → reference_faults os ≡ []
no_missing os h = objects_none (has_object os) os (recursion_from_All (NamesAreThere (has_object os)) os h)
