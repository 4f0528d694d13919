-- The first object of each type and full name, by keys.
use Rattle.std.proofs.Common.{◌≡◌, ℕ, suc, ◌+◌, ◌<◌, ◌&&◌, ◌||◌, not, Bool, true, false, cond, List, [], ◌∷◌, ◌++◌, length, get_or, take, drop, map, nat_lt, slice_get, All, IfSome, Option, Some, None, refl, sym, ap, ap₂, subst, ◌∙◌, arith, append_assoc}
use Rattle.std.specs.List.{list_any, position_or_len}
use Rattle.std.specs.Option.{option_and_then, option_map}
use Rattle.std.specs.Str.{bytes_eq}
use Rattle.std.proofs.lemmas.Bool.Decides.{nat_tests}
use Rattle.std.proofs.lemmas.List.{take_more, drop_more, map-append, length-append}
use Rattle.std.proofs.lemmas.List.Elements.{All-push}
use Rattle.std.proofs.lemmas.Option.{same_Some, slice_get-get_or, slice_get_within}
use Rattle.std.proofs.lemmas.Slice.Eq.{bytes_eq-Decides}
use Rattle.site_base.specs.declared.diag.Diag.{Diag}
use Rattle.site_base.specs.declared.place.Place.{Place}
use Rattle.site_model.specs.Names.{place_of, with_name}
use Rattle.site_model.specs.PlainSite.{PlainObject, object_view}
use Rattle.site_model.specs.declared.object.Object.{Object}
use Rattle.object_types.specs.Names.{type_name, type_named}
use Rattle.object_types.specs.declared.object_type.ObjectType.{ObjectType}
use Rattle.object_types.proofs.TypeLaws.{type_sound}
use Rattle.conf_check.specs.Duplicates.{first_object, first_place, first_under, faults_at, place_under, with_place, with_first, own_faults, later_faults, duplicate_faults}
use Rattle.conf_check.specs.Keys.{is_object, key_of, keys_from, with_key}
use Rattle.conf_check.proofs.KeyLaws.{key_same, other_type}
use Rattle.conf_check.proofs.PlaceLaws.{place_new}

abbrev pub or_else : {A : Type 0} → Option A → Option A → Option A
or_else (Some x) y = Some x
or_else None y = y

or_none : {A : Type 0} (x : Option A) → or_else x None ≡ x
or_none None = refl
or_none (Some x) = refl

-- Places under keys.

at_next : {A : Type 0} (q : A) (places : List A) (n : ℕ) → slice_get (q ∷ places) (1 + n) ≡ slice_get places n
at_next q places n = let e : 1 + n ≡ suc n = omega arith in rw e refl

next_found : {A : Type 0} (q : A) (places : List A) (n : ℕ) (b : Bool)
    → option_and_then (slice_get (q ∷ places)) (cond b (Some (1 + n)) None) ≡ option_and_then (slice_get places) (cond b (Some n) None)
next_found q places n true = at_next q places n
next_found q places n false = refl

under_first : (k x : List ℕ) (keys : List (List ℕ)) (q : Place) (places : List Place)
    → place_under (x ∷ keys) (q ∷ places) k ≡ cond (bytes_eq k x) (Some q) (place_under keys places k)
under_first k x keys q places = by (bytes_eq k x)
  where
    by : (b : Bool) → option_and_then (slice_get (q ∷ places)) (cond (nat_lt (cond (not b) (1 + position_or_len (bytes_eq k) keys) 0) (length (x ∷ keys))) (Some (cond (not b) (1 + position_or_len (bytes_eq k) keys) 0)) None)
        ≡ cond b (Some q) (place_under keys places k)
    by true =
        let inside : nat_lt 0 (length (x ∷ keys)) ≡ true = grind (arith, nat_tests) in
        ap (λ b. option_and_then (slice_get (q ∷ places)) (cond b (Some 0) None)) inside
    by false =
        let n = position_or_len (bytes_eq k) keys in
        let inside : nat_lt (1 + n) (length (x ∷ keys)) ≡ nat_lt n (length keys) = grind (arith, nat_tests) in
        ap (λ b. option_and_then (slice_get (q ∷ places)) (cond b (Some (1 + n)) None)) inside ∙ next_found q places n (nat_lt n (length keys))

under_last : (k n : List ℕ) (p : Place) (keys : List (List ℕ)) (places : List Place) → length places ≡ length keys
    → place_under (keys ++ n ∷ []) (places ++ p ∷ []) k ≡ or_else (place_under keys places k) (cond (bytes_eq k n) (Some p) None)
under_last k n p [] [] e = under_first k n [] p []
under_last k n p [] (q ∷ places) e = absurd (cc)
under_last k n p (x ∷ keys) [] e = absurd (cc)
under_last k n p (x ∷ keys) (q ∷ places) e =
    under_first k x (keys ++ n ∷ []) q (places ++ p ∷ [])
    ∙ ap (cond (bytes_eq k x) (Some q)) (under_last k n p keys places (omega arith))
    ∙ by (bytes_eq k x)
    ∙ ap (λ o. or_else o (cond (bytes_eq k n) (Some p) None)) (sym (under_first k x keys q places))
  where
    by : (b : Bool) → cond b (Some q) (or_else (place_under keys places k) (cond (bytes_eq k n) (Some p) None)) ≡ or_else (cond b (Some q) (place_under keys places k)) (cond (bytes_eq k n) (Some p) None)
    by true = refl
    by false = refl

-- a key that is there has a place
under_held : (k : List ℕ) (y : Option Place) (keys : List (List ℕ)) (places : List Place) → length places ≡ length keys → list_any (bytes_eq k) keys ≡ true
    → or_else (place_under keys places k) y ≡ place_under keys places k
under_held k y [] places e there = absurd (cc)
under_held k y (x ∷ keys) [] e there = absurd (cc)
under_held k y (x ∷ keys) (q ∷ places) e there =
    ap (λ o. or_else o y) (under_first k x keys q places) ∙ by (under_held k y keys places (omega arith)) (bytes_eq k x) there ∙ sym (under_first k x keys q places)
  where
    by : (list_any (bytes_eq k) keys ≡ true → or_else (place_under keys places k) y ≡ place_under keys places k)
        → (b : Bool) → (b || list_any (bytes_eq k) keys) ≡ true → or_else (cond b (Some q) (place_under keys places k)) y ≡ cond b (Some q) (place_under keys places k)
    by rest true h = refl
    by rest false h = rest h

under_more : (k n : List ℕ) (p : Place) (keys : List (List ℕ)) (places : List Place) → length places ≡ length keys
    → place_under (with_name n keys) (with_place keys places n p) k ≡ or_else (place_under keys places k) (cond (bytes_eq k n) (Some p) None)
under_more k n p keys places e = by (list_any (bytes_eq n) keys) refl
  where
    same : (b : Bool) → bytes_eq k n ≡ b → list_any (bytes_eq n) keys ≡ true → place_under keys places k ≡ or_else (place_under keys places k) (cond b (Some p) None)
    same true is there = sym (under_held k (Some p) keys places e (ap (λ m. list_any (bytes_eq m) keys) ((bytes_eq-Decides k n).0 is) ∙ there))
    same false is there = sym (or_none (place_under keys places k))

    by : (b : Bool) → list_any (bytes_eq n) keys ≡ b
        → place_under (cond b keys (keys ++ n ∷ [])) (cond b places (places ++ p ∷ [])) k ≡ or_else (place_under keys places k) (cond (bytes_eq k n) (Some p) None)
    by true there = same (bytes_eq k n) refl there
    by false there = under_last k n p keys places e

level_more : (n : List ℕ) (p : Place) (keys : List (List ℕ)) (places : List Place) → length places ≡ length keys → length (with_place keys places n p) ≡ length (with_name n keys)
level_more n p keys places e = by (list_any (bytes_eq n) keys)
  where
    by : (b : Bool) → length (cond b places (places ++ p ∷ [])) ≡ length (cond b keys (keys ++ n ∷ []))
    by true = e
    by false = omega (arith, length-append places (p ∷ []), length-append keys (n ∷ []), e)

-- First objects.

pub first_more : (t : ObjectType) (name : List ℕ) (o : PlainObject) (os : List PlainObject) → first_place (os ++ o ∷ []) t name ≡ or_else (first_place os t name) (cond (is_object t name o) (Some o.place) None)
first_more t name o [] = by (is_object t name o)
  where
    by : (b : Bool) → option_map (λ (x : PlainObject). x.place) (cond b (Some o) None) ≡ cond b (Some o.place) None
    by true = refl
    by false = refl
first_more t name o (x ∷ os) = by (is_object t name x) (first_more t name o os)
  where
    by : (b : Bool) → first_place (os ++ o ∷ []) t name ≡ or_else (first_place os t name) (cond (is_object t name o) (Some o.place) None)
        → option_map (λ (x : PlainObject). x.place) (cond b (Some x) (first_object t name (os ++ o ∷ []))) ≡ or_else (option_map (λ (x : PlainObject). x.place) (cond b (Some x) (first_object t name os))) (cond (is_object t name o) (Some o.place) None)
    by true e = refl
    by false e = e

-- these are the keys of objects, each with the place of the first
pub record AreFirsts (before : List PlainObject) (keys : List (List ℕ)) (places : List Place) : Type 0 where
  pub level : length places ≡ length keys
  pub first : (t : ObjectType) (name : List ℕ) → place_under keys places (key_of t name) ≡ first_place before t name

pub firsts_kept : (before : List PlainObject) (keys : List (List ℕ)) (places : List Place) (o : PlainObject) → type_named o.kind ≡ None → AreFirsts before keys places → AreFirsts (before ++ o ∷ []) keys places
firsts_kept before keys places o none so_far = record {
  level = so_far.level;
  first = λ t name.
      so_far.first t name
      ∙ sym (or_none (first_place before t name))
      ∙ ap (λ b. or_else (first_place before t name) (cond (b && bytes_eq o.name name) (Some o.place) None)) (sym (other_type t o.kind (bytes_eq o.kind (type_name t)) none refl))
      ∙ sym (first_more t name o before);
}

pub firsts_grown : (before : List PlainObject) (keys : List (List ℕ)) (places : List Place) (o : PlainObject) (u : ObjectType) → type_named o.kind ≡ Some u → AreFirsts before keys places
    → AreFirsts (before ++ o ∷ []) (with_name (key_of u o.name) keys) (with_place keys places (key_of u o.name) o.place)
firsts_grown before keys places o u some so_far = record {
  level = level_more (key_of u o.name) o.place keys places so_far.level;
  first = λ t name.
      under_more (key_of t name) (key_of u o.name) o.place keys places so_far.level
      ∙ ap (λ x. or_else x (cond (bytes_eq (key_of t name) (key_of u o.name)) (Some o.place) None)) (so_far.first t name)
      ∙ ap (λ b. or_else (first_place before t name) (cond b (Some o.place) None)) (key_same t u name o.name)
      ∙ ap (λ kind. or_else (first_place before t name) (cond (bytes_eq kind (type_name t) && bytes_eq o.name name) (Some o.place) None)) (sym (type_sound o.kind u some))
      ∙ sym (first_more t name o before);
}

firsts_next : (before : List PlainObject) (keys : List (List ℕ)) (places : List Place) (o : PlainObject) (kind : Option ObjectType) → type_named o.kind ≡ kind → AreFirsts before keys places
    → AreFirsts (before ++ o ∷ []) (with_key kind o.name keys) (with_first keys places kind o.name o.place)
firsts_next before keys places o None is so_far = firsts_kept before keys places o is so_far
firsts_next before keys places o (Some u) is so_far = firsts_grown before keys places o u is so_far

inside_next : (P : Place → Type 0) (keys : List (List ℕ)) (places : List Place) (kind : Option ObjectType) (name : List ℕ) (p : Place) → P p → All P places → All P (with_first keys places kind name p)
inside_next P keys places None name p here all = all
inside_next P keys places (Some t) name p here all = by (list_any (bytes_eq (key_of t name)) keys)
  where
    by : (b : Bool) → All P (cond b places (places ++ p ∷ []))
    by true = all
    by false = All-push P places p all here

own_same : (files : List (List ℕ)) (before : List PlainObject) (keys : List (List ℕ)) (places : List Place) (o : PlainObject) (kind : Option ObjectType) → AreFirsts before keys places
    → own_faults (first_under keys places) files o kind ≡ own_faults (first_place before) files o kind
own_same files before keys places o None so_far = refl
own_same files before keys places o (Some t) so_far = ap (faults_at files o) (so_far.first t o.name)

-- the place of a first object is one of the places
pub under_inside : (P : Place → Type 0) (keys : List (List ℕ)) (places : List Place) (k : List ℕ) → All P places → IfSome (place_under keys places k) P
under_inside P keys places k all = by (place_of k keys)
  where
    at : (p : Option Place) (i : ℕ) → slice_get places i ≡ p → IfSome p P
    at None i e = tt
    at (Some p) i e =
        let inside : i < length places = slice_get_within places i p e in
        let same : Some (get_or places i p) ≡ Some p = sym (slice_get-get_or places i p inside) ∙ e in
        subst P (same_Some (get_or places i p) p same) (all i p inside)

    by : (place : Option ℕ) → IfSome (option_and_then (slice_get places) place) P
    by None = tt
    by (Some i) = at (slice_get places i) i refl

-- A key that is added.

-- a place below the number of places is that of a key that was there
key_kept : (keys more : List (List ℕ)) (places : List Place) (key : List ℕ) (at : ℕ) → length places ≡ length keys → more ≡ with_name key keys → place_of key more ≡ Some at → at < length places
    → (list_any (bytes_eq key) keys ≡ true) × (place_of key keys ≡ Some at)
key_kept keys more places key at level grown there low = by (list_any (bytes_eq key) keys) refl
  where
    by : (b : Bool) → list_any (bytes_eq key) keys ≡ b → (b ≡ true) × (place_of key keys ≡ Some at)
    by true is = (refl, sym (ap (place_of key) (grown ∙ ap (λ b. cond b keys (keys ++ key ∷ [])) is)) ∙ there)
    by false is =
        let last = place_new key keys at is (sym (ap (place_of key) (grown ∙ ap (λ b. cond b keys (keys ++ key ∷ [])) is)) ∙ there) in
        absurd (omega arith)

pub first_told : (keys more : List (List ℕ)) (places : List Place) (key : List ℕ) (at : ℕ) (p : Place) → length places ≡ length keys → more ≡ with_name key keys → place_of key more ≡ Some at → at < length places
    → p ≡ get_or places at p → Some p ≡ place_under keys places key
first_told keys more places key at p level grown there low is =
    let kept = key_kept keys more places key at level grown there low in
    ap Some is ∙ sym (slice_get-get_or places at p low) ∙ sym (ap (option_and_then (slice_get places)) kept.1)

pub first_stays : (keys more : List (List ℕ)) (places : List Place) (key : List ℕ) (at : ℕ) (p : Place) → length places ≡ length keys → more ≡ with_name key keys → place_of key more ≡ Some at → at < length places
    → places ≡ with_place keys places key p
first_stays keys more places key at p level grown there low =
    let kept = key_kept keys more places key at level grown there low in
    sym (ap (λ b. cond b places (places ++ p ∷ [])) kept.0)

-- What is told so far, with what is told of the rest, is all.
pub record IsSoFar (files : List (List ℕ)) (before rest all : List PlainObject) (faults : List Diag) (keys : List (List ℕ)) (places : List Place) : Type 0 where
  pub told : faults ++ later_faults files before rest ≡ duplicate_faults files all
  pub firsts : AreFirsts before keys places
  pub inside : All (λ (p : Place). p.file < length files) places
  pub known : keys_from keys rest ≡ keys_from [] all

next_so_far : (files : List (List ℕ)) (objects : List Object) (i : ℕ) (o : Object) (faults told : List Diag) (keys more : List (List ℕ)) (places grown : List Place) → i < length objects → o ≡ get_or objects i o
    → o.place.file < length files → told ≡ faults ++ own_faults (first_under keys places) files (object_view o) (type_named o.kind) → more ≡ with_key (type_named o.kind) o.name keys → grown ≡ with_first keys places (type_named o.kind) o.name o.place
    → IsSoFar files (map object_view (take i objects)) (map object_view (drop i objects)) (map object_view objects) faults keys places
    → IsSoFar files (map object_view (take (i + 1) objects)) (map object_view (drop (i + 1) objects)) (map object_view objects) told more grown
next_so_far files objects i o faults told keys more places grown inside is here says names stands so_far =
    let before = map object_view (take i objects) in
    let rest = map object_view (drop (i + 1) objects) in
    let longer : map object_view (take (i + 1) objects) ≡ before ++ object_view o ∷ [] =
    ap (map object_view) (take_more objects i o inside ∙ ap (λ p. take i objects ++ p ∷ []) (sym is)) ∙ map-append object_view (take i objects) (o ∷ []) in
    let next : map object_view (drop i objects) ≡ object_view o ∷ rest = ap (map object_view) (drop_more objects i o inside ∙ ap (λ p. p ∷ drop (i + 1) objects) (sym is)) in
    record {
      told =
          ap₂ (λ fs os. fs ++ later_faults files os rest) (says ∙ ap (λ fs. faults ++ fs) (own_same files before keys places (object_view o) (type_named o.kind) so_far.firsts)) longer
          ∙ append_assoc faults (own_faults (first_place before) files (object_view o) (type_named o.kind)) (later_faults files (before ++ object_view o ∷ []) rest)
          ∙ sym (ap (λ os. faults ++ later_faults files before os) next)
          ∙ so_far.told;
      firsts =
          subst (λ os. AreFirsts os more grown) (sym longer)
          (subst (λ ks. AreFirsts (before ++ object_view o ∷ []) ks grown) (sym names)
          (subst (λ ps. AreFirsts (before ++ object_view o ∷ []) (with_key (type_named o.kind) o.name keys) ps) (sym stands)
          (firsts_next before keys places (object_view o) (type_named o.kind) refl so_far.firsts)));
      inside = subst (All (λ (p : Place). p.file < length files)) (sym stands) (inside_next (λ (p : Place). p.file < length files) keys places (type_named o.kind) o.name o.place here so_far.inside);
      known = ap (λ ks. keys_from ks rest) names ∙ sym (ap (keys_from keys) next) ∙ so_far.known;
    }

-- the same of an object whose type is known
pub one_more : (files : List (List ℕ)) (objects : List Object) (i : ℕ) (o : Object) (kind : Option ObjectType) (faults told : List Diag) (keys more : List (List ℕ)) (places grown : List Place) → i < length objects → o ≡ get_or objects i o
    → kind ≡ type_named o.kind → All (λ (p : Object). p.place.file < length files) objects
    → told ≡ faults ++ own_faults (first_under keys places) files (object_view o) kind → more ≡ with_key kind o.name keys → grown ≡ with_first keys places kind o.name o.place
    → IsSoFar files (map object_view (take i objects)) (map object_view (drop i objects)) (map object_view objects) faults keys places
    → IsSoFar files (map object_view (take (i + 1) objects)) (map object_view (drop (i + 1) objects)) (map object_view objects) told more grown
one_more files objects i o kind faults told keys more places grown inside is of here says names stands so_far =
    next_so_far files objects i o faults told keys more places grown inside is (subst (λ (p : Object). p.place.file < length files) (sym is) (here i o inside))
    (says ∙ ap (λ k. faults ++ own_faults (first_under keys places) files (object_view o) k) of) (names ∙ ap (λ k. with_key k o.name keys) of) (stands ∙ ap (λ k. with_first keys places k o.name o.place) of) so_far
