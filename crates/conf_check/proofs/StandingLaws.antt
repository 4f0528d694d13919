-- Objects of which nothing is told.
use Rattle.std.proofs.Common.{◌≡◌, ◌≢◌, ℕ, ◌&&◌, ◌==◌, Bool, true, false, cond, List, [], ◌∷◌, ◌++◌, length, map, All, AllPairs, Option, Some, None, is_some, refl, sym, ap, ap₂, subst, ◌∙◌, arith, inl, inr, rules}
use Rattle.std.proofs.lemmas.List.Elements.{All-nil, All-cons}
use Rattle.std.proofs.lemmas.List.Kept.{AllPairs-cons}
use Rattle.std.proofs.lemmas.Slice.Eq.{bytes_eq-Decides}
use Rattle.site_base.specs.Data.{Data, null, boolean, number, string, list, dict, Items, no_items, item, Pairs, no_pairs, pair}
use Rattle.site_base.specs.declared.diag.Diag.{Diag}
use Rattle.site_base.specs.declared.place.Place.{Place}
use Rattle.site_model.specs.PlainSite.{PlainObject}
use Rattle.time_range.specs.Ranges.{Has}
use Rattle.object_types.specs.Names.{attribute_name, type_name, type_named}
use Rattle.object_types.specs.Schema.{row_named}
use Rattle.object_types.specs.declared.object_type.ObjectType.{ObjectType}
use Rattle.object_types.specs.declared.object_type.ObjectType.TheVariants as object
use Rattle.object_types.specs.declared.value_kind.SchemaRow.{SchemaRow}
use Rattle.object_types.specs.declared.value_kind.ValueKind.{ValueKind}
use Rattle.object_types.specs.declared.value_kind.ValueKind.TheVariants as kind
use Rattle.object_types.proofs.TypeLaws.{type_again}
use Rattle.conf_check.specs.declared.names.Item.{Item}
use Rattle.conf_check.specs.Duplicates.{first_place, faults_at, own_faults, later_faults}
use Rattle.conf_check.specs.Keys.{is_object, has_object, is_of, of_type, name_of, names_of}
use Rattle.conf_check.specs.References.{fault, name_faults, items_faults, text_under, value_faults, attribute_faults, pairs_faults, tree_faults, item_of, objects_faults}
use Rattle.conf_check.specs.Standing.{AreApart, NameAll, Stands, NamesAreThere, AllStand}
use Rattle.conf_check.proofs.FirstLaws.{first_more, or_else}

front_none : {A : Type 0} (xs ys : List A) → xs ++ ys ≡ [] → xs ≡ []
front_none [] ys e = refl
front_none (x ∷ xs) ys e = absurd (cc)

rest_none : {A : Type 0} (xs ys : List A) → xs ++ ys ≡ [] → ys ≡ []
rest_none [] ys e = e
rest_none (x ∷ xs) ys e = absurd (cc)

-- Names of one type.

-- a type and a name are taken by one of these objects
abbrev IsTaken : List PlainObject → ObjectType → List ℕ → Type 0
IsTaken os t name = is_some (first_place os t name) ≡ true

still_taken : (t : ObjectType) (name : List ℕ) (o : PlainObject) (os : List PlainObject) → IsTaken os t name → IsTaken (os ++ o ∷ []) t name
still_taken t name o os taken = ap is_some (first_more t name o os) ∙ by (first_place os t name) taken
  where
    by : (p : Option Place) → is_some p ≡ true → is_some (or_else p (cond (is_object t name o) (Some o.place) None)) ≡ true
    by (Some p) h = refl
    by None h = absurd (cc)

now_taken : (t : ObjectType) (o : PlainObject) (os : List PlainObject) → is_of t o ≡ true → IsTaken (os ++ o ∷ []) t o.name
now_taken t o os is =
    ap is_some (first_more t o.name o os)
    ∙ ap (λ b. is_some (or_else (first_place os t o.name) (cond b (Some o.place) None))) (ap₂ (λ a b. a && b) is ((bytes_eq-Decides o.name o.name).1 refl))
    ∙ by (first_place os t o.name)
  where
    by : (p : Option Place) → is_some (or_else p (Some o.place)) ≡ true
    by (Some p) = refl
    by None = refl

-- an object of a type of which nothing is told has a name that is free
is_free : (files : List (List ℕ)) (before : List PlainObject) (t : ObjectType) (o : PlainObject) → is_of t o ≡ true → own_faults (first_place before) files o (type_named o.kind) ≡ [] → is_some (first_place before t o.name) ≡ false
is_free files before t o is none =
    let of : type_named o.kind ≡ Some t = type_again o.kind t (sym ((bytes_eq-Decides o.kind (type_name t)).0 is)) in
    by (first_place before t o.name) (sym (ap (own_faults (first_place before) files o) of) ∙ none)
  where
    by : (p : Option Place) → faults_at files o p ≡ [] → is_some p ≡ false
    by None e = refl
    by (Some p) e = absurd (cc)

others_differ : (files : List (List ℕ)) (t : ObjectType) (name : List ℕ) (before os : List PlainObject) → later_faults files before os ≡ [] → IsTaken before t name → All (λ m. name ≢ m) (names_of t os)
others_differ files t name before [] none taken = All-nil (λ m. name ≢ m)
others_differ files t name before (o ∷ os) none taken = by (λ rest still. others_differ files t name (before ++ o ∷ []) os rest still) (is_of t o) refl
  where
    own : own_faults (first_place before) files o (type_named o.kind) ≡ []
    own = front_none (own_faults (first_place before) files o (type_named o.kind)) (later_faults files (before ++ o ∷ []) os) none

    rest : later_faults files (before ++ o ∷ []) os ≡ []
    rest = rest_none (own_faults (first_place before) files o (type_named o.kind)) (later_faults files (before ++ o ∷ []) os) none

    clash : is_of t o ≡ true → name ≡ o.name → ⊥
    clash is same =
        let free = is_free files before t o is own in
        let both : true ≡ false = sym taken ∙ ap (λ m. is_some (first_place before t m)) same ∙ free in
        cc

    by : (later_faults files (before ++ o ∷ []) os ≡ [] → IsTaken (before ++ o ∷ []) t name → All (λ m. name ≢ m) (names_of t os))
        → (b : Bool) → is_of t o ≡ b → All (λ m. name ≢ m) (map name_of (cond b (o ∷ of_type t os) (of_type t os)))
    by others true is = All-cons (λ m. name ≢ m) o.name (names_of t os) (clash is) (others rest (still_taken t name o before taken))
    by others false is = others rest (still_taken t name o before taken)

all_differ : (files : List (List ℕ)) (t : ObjectType) (before os : List PlainObject) → later_faults files before os ≡ [] → AllPairs (λ x y. x ≢ y) (names_of t os)
all_differ files t before [] none = λ i j d low inside. absurd (omega arith)
all_differ files t before (o ∷ os) none = by (λ rest. all_differ files t (before ++ o ∷ []) os rest) (is_of t o) refl
  where
    rest : later_faults files (before ++ o ∷ []) os ≡ []
    rest = rest_none (own_faults (first_place before) files o (type_named o.kind)) (later_faults files (before ++ o ∷ []) os) none

    by : (later_faults files (before ++ o ∷ []) os ≡ [] → AllPairs (λ x y. x ≢ y) (names_of t os))
        → (b : Bool) → is_of t o ≡ b → AllPairs (λ x y. x ≢ y) (map name_of (cond b (o ∷ of_type t os) (of_type t os)))
    by others true is = AllPairs-cons (λ x y. x ≢ y) o.name (names_of t os) (others_differ files t o.name (before ++ o ∷ []) os rest (now_taken t o before is)) (others rest)
    by others false is = others rest

pub are_apart : AreApart
are_apart files os none t = all_differ files t [] os none

-- Names that are there.

name_there : (has : ObjectType → List ℕ → Bool) (at : Item) (attribute : List ℕ) (t : ObjectType) (name : List ℕ) → name_faults has at attribute t name ≡ [] → has t name ≡ true
name_there has at attribute t name none = by (has t name) none
  where
    by : (b : Bool) → cond b [] (fault at attribute name ∷ []) ≡ [] → b ≡ true
    by true e = refl
    by false e = absurd (cc)

unless_empty : (faults : List Diag) (name : List ℕ) (b : Bool) → (faults ≡ [] → b ≡ true) → cond (length name == 0) [] faults ≡ [] → name ≢ [] → b ≡ true
unless_empty faults [] b there none some = absurd (some refl)
unless_empty faults (x ∷ xs) b there none some =
    let more : (length (x ∷ xs) == 0) ≡ false = search rules in
    there (sym (ap (λ c. cond c [] faults) more) ∙ none)

items_there : (has : ObjectType → List ℕ → Bool) (at : Item) (attribute : List ℕ) (t : ObjectType) (items : Items) → items_faults has at attribute t items ≡ [] → NameAll has t items
items_there has at attribute t no_items none = tt
items_there has at attribute t (item (string name) ds) none =
    (name_there has at attribute t name (front_none (name_faults has at attribute t name) (items_faults has at attribute t ds) none), items_there has at attribute t ds (rest_none (name_faults has at attribute t name) (items_faults has at attribute t ds) none))
items_there has at attribute t (item null ds) none = items_there has at attribute t ds none
items_there has at attribute t (item (boolean b) ds) none = items_there has at attribute t ds none
items_there has at attribute t (item (number n) ds) none = items_there has at attribute t ds none
items_there has at attribute t (item (list items) ds) none = items_there has at attribute t ds none
items_there has at attribute t (item (dict pairs) ds) none = items_there has at attribute t ds none

value_there : (has : ObjectType → List ℕ → Bool) (at : Item) (attribute : List ℕ) (all : Pairs) (k : ValueKind) (value : Data) → value_faults has at attribute all k value ≡ [] → Stands has all k value
value_there has at attribute all (kind.Name t) (string name) none = unless_empty (name_faults has at attribute t name) name (has t name) (name_there has at attribute t name) none
value_there has at attribute all (kind.Names t) (list items) none = items_there has at attribute t items none
value_there has at attribute all (kind.Service host) (string name) none =
    let full = text_under (attribute_name host) all ++ 33 ∷ name in
    unless_empty (name_faults has at attribute object.Service full) name (has object.Service full) (name_there has at attribute object.Service full) none
value_there has at attribute all k value none = tt

pair_there : (has : ObjectType → List ℕ → Bool) (at : Item) (t : ObjectType) (all pairs : Pairs) → pairs_faults has at t all pairs ≡ []
    → (name : List ℕ) (value : Data) (row : SchemaRow) → Has pairs name value → row_named t name ≡ Some row → Stands has all row.kind value
pair_there has at t all no_pairs none name value row there of = absurd there
pair_there has at t all (pair n v more) none name value row (inl is) of =
    let own : attribute_faults has at n all (row_named t n) v ≡ [] = front_none (attribute_faults has at n all (row_named t n) v) (pairs_faults has at t all more) none in
    let of_n : row_named t n ≡ Some row = ap (row_named t) is.0 ∙ of in
    let faults : value_faults has at n all row.kind v ≡ [] = sym (ap (λ r. attribute_faults has at n all r v) of_n) ∙ own in
    subst (Stands has all row.kind) is.1 (value_there has at n all row.kind v faults)
pair_there has at t all (pair n v more) none name value row (inr there) of =
    pair_there has at t all more (rest_none (attribute_faults has at n all (row_named t n) v) (pairs_faults has at t all more) none) name value row there of

object_there : (has : ObjectType → List ℕ → Bool) (o : PlainObject) → tree_faults has (item_of o) (type_named o.kind) o.tree ≡ [] → NamesAreThere has o
object_there has o none t pairs of is =
    let faults : pairs_faults has (item_of o) t pairs pairs ≡ [] = sym (ap₂ (tree_faults has (item_of o)) of is) ∙ none in
    pair_there has (item_of o) t pairs pairs faults

objects_there : (has : ObjectType → List ℕ → Bool) (os : List PlainObject) → objects_faults has os ≡ [] → All (NamesAreThere has) os
objects_there has [] none = All-nil (NamesAreThere has)
objects_there has (o ∷ os) none =
    All-cons (NamesAreThere has) o os (object_there has o (front_none (tree_faults has (item_of o) (type_named o.kind) o.tree) (objects_faults has os) none))
    (objects_there has os (rest_none (tree_faults has (item_of o) (type_named o.kind) o.tree) (objects_faults has os) none))

pub all_stand : AllStand
all_stand os none = objects_there (has_object os) os none
