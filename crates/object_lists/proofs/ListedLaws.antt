-- The objects of a type, gathered one by one.
use Rattle.std.proofs.Common.{◌≡◌, ℕ, ◌+◌, ◌<◌, ◌≤◌, Bool, true, false, cond, List, [], ◌∷◌, ◌++◌, length, map, drop, get_or, Option, Some, None, is_some, refl, sym, ap, ◌∙◌, append_assoc, append-nil, arith, length-append}
use Rattle.std.specs.List.{list_any}
use Rattle.std.specs.Str.{bytes_eq}
use Rattle.std.proofs.lemmas.List.{length-map, map-append}
use Rattle.site_model.specs.Names.{place_of}
use Rattle.site_model.specs.PlainSite.{PlainObject, object_view}
use Rattle.site_model.specs.declared.object.Object.{Object}
use Rattle.object_types.specs.declared.object_type.ObjectType.{ObjectType}
use Rattle.conf_check.specs.Keys.{is_of, name_of, of_type}
use Rattle.conf_check.proofs.KeyLaws.{is_found}
use Rattle.object_lists.specs.Listed.{added_by, firsts_behind, listed, names_with}
use Rattle.object_lists.proofs.Steps.{next}

kept : (names : List (List ℕ)) (o : PlainObject) (os : List PlainObject) (b : Bool)
    → cond b (firsts_behind names os) (o ∷ firsts_behind (names ++ o.name ∷ []) os) ≡ cond b [] (o ∷ []) ++ firsts_behind (cond b names (names ++ o.name ∷ [])) os
kept names o os true = refl
kept names o os false = refl

first_step : (t : ObjectType) (names : List (List ℕ)) (o : PlainObject) (os : List PlainObject) → firsts_behind names (of_type t (o ∷ os)) ≡ added_by t names o ++ firsts_behind (names_with t names o) (of_type t os)
first_step t names o os = by (is_of t o)
  where
    by : (b : Bool) → firsts_behind names (cond b (o ∷ of_type t os) (of_type t os))
        ≡ cond b (cond (list_any (bytes_eq o.name) names) [] (o ∷ [])) [] ++ firsts_behind (cond b (cond (list_any (bytes_eq o.name) names) names (names ++ o.name ∷ [])) names) (of_type t os)
    by true = kept names o (of_type t os) (list_any (bytes_eq o.name) names)
    by false = refl

names_grow : (t : ObjectType) (o : PlainObject) (os : List PlainObject) → names_with t (map name_of os) o ≡ map name_of (os ++ added_by t (map name_of os) o)
names_grow t o os = by (is_of t o) (list_any (bytes_eq o.name) (map name_of os))
  where
    same : map name_of os ≡ map name_of (os ++ [])
    same = sym (ap (map name_of) (append-nil os))

    by : (b c : Bool) → cond b (cond c (map name_of os) (map name_of os ++ o.name ∷ [])) (map name_of os) ≡ map name_of (os ++ cond b (cond c [] (o ∷ [])) [])
    by true true = same
    by true false = sym (map-append name_of os (o ∷ []))
    by false c = same

-- ---- their number

pub firsts_short : (taken : List (List ℕ)) (os : List PlainObject) → length (firsts_behind taken os) ≤ length os
firsts_short taken [] = omega arith
firsts_short taken (o ∷ os) = by (firsts_short taken os) (firsts_short (taken ++ o.name ∷ []) os) (list_any (bytes_eq o.name) taken)
  where
    by : length (firsts_behind taken os) ≤ length os → length (firsts_behind (taken ++ o.name ∷ []) os) ≤ length os → (b : Bool)
        → length (cond b (firsts_behind taken os) (o ∷ firsts_behind (taken ++ o.name ∷ []) os)) ≤ length (o ∷ os)
    by same more true = omega arith
    by same more false = omega arith

pub listed_short : (t : ObjectType) (os : List PlainObject) → length (listed t os) ≤ length (of_type t os)
unfolding listed
listed_short t os = firsts_short [] (of_type t os)

pub type_short : (t : ObjectType) (os : List PlainObject) → length (of_type t os) ≤ length os
type_short t [] = omega arith
type_short t (o ∷ os) = by (type_short t os) (is_of t o)
  where
    by : length (of_type t os) ≤ length os → (b : Bool) → length (cond b (o ∷ of_type t os) (of_type t os)) ≤ length (o ∷ os)
    by rest true = omega arith
    by rest false = omega arith

pub listed_few : (t : ObjectType) (os : List PlainObject) → length (listed t os) ≤ length os
listed_few t os = let first = listed_short t os in let second = type_short t os in omega (arith, first, second)

-- ---- one after another

-- these are the objects of a type so far, and with those of the rest they are all
pub record IsListed (t : ObjectType) (names : List (List ℕ)) (found rest all : List PlainObject) : Type 0 where
  pub whole : found ++ firsts_behind names (of_type t rest) ≡ all
  pub named : names ≡ map name_of found

pub one_more : (t : ObjectType) (objects : List Object) (i : ℕ) (o : Object) (names more : List (List ℕ)) (was now all : List PlainObject) → i < length objects → o ≡ get_or objects i o
    → more ≡ names_with t names (object_view o) → now ≡ was ++ added_by t names (object_view o)
    → IsListed t names was (map object_view (drop i objects)) all → IsListed t more now (map object_view (drop (i + 1) objects)) all
one_more t objects i o names more was now all inside same grows grown so_far =
    let rest = map object_view (drop (i + 1) objects) in
    record {
      whole =
          ap (λ os. os ++ firsts_behind more (of_type t rest)) grown
          ∙ ap (λ ns. (was ++ added_by t names (object_view o)) ++ firsts_behind ns (of_type t rest)) grows
          ∙ append_assoc was (added_by t names (object_view o)) (firsts_behind (names_with t names (object_view o)) (of_type t rest))
          ∙ sym (ap (λ os. was ++ os) (ap (λ os. firsts_behind names (of_type t (map object_view os))) (next objects i o inside same) ∙ first_step t names (object_view o) rest))
          ∙ so_far.whole;
      named =
          grows
          ∙ ap (λ ns. names_with t ns (object_view o)) so_far.named
          ∙ names_grow t (object_view o) was
          ∙ sym (ap (λ ns. map name_of (was ++ added_by t ns (object_view o))) so_far.named)
          ∙ sym (ap (map name_of) grown);
    }

-- names of those so far are no more than all objects
pub names_few : (t : ObjectType) (objects : List Object) (names : List (List ℕ)) (found rest : List PlainObject) → IsListed t names found rest (firsts_behind [] (of_type t (map object_view objects)))
    → length names ≤ length objects
names_few t objects names found rest so_far =
    let os = map object_view objects in
    let named : length names ≡ length (map name_of found) = ap length so_far.named in
    let whole : length (found ++ firsts_behind names (of_type t rest)) ≡ length (firsts_behind [] (of_type t os)) = ap length so_far.whole in
    let split : length (found ++ firsts_behind names (of_type t rest)) ≡ length found + length (firsts_behind names (of_type t rest)) = length-append found (firsts_behind names (of_type t rest)) in
    let first = firsts_short [] (of_type t os) in
    let second = type_short t os in
    omega (arith, named, whole, split, first, second, length-map found name_of, length-map objects object_view)

-- a name that has a place is taken, and one without is new
pub is_taken : (n : List ℕ) (names : List (List ℕ)) (found : Option ℕ) (b c : Bool) → found ≡ place_of n names → b ≡ is_some found → b ≡ c → list_any (bytes_eq n) names ≡ c
is_taken n names found b c e is h = sym (is_found n names) ∙ sym (ap is_some e) ∙ sym is ∙ h

pub is_new : (n : List ℕ) (names : List (List ℕ)) → place_of n names ≡ None → list_any (bytes_eq n) names ≡ false
is_new n names e = sym (is_found n names) ∙ ap is_some e
