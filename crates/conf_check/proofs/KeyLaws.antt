-- The keys of objects are those of which there is one.
use Rattle.std.proofs.Common.{◌≡◌, ℕ, ◌&&◌, ◌||◌, ◌==◌, not, Bool, true, false, cond, List, [], ◌∷◌, ◌++◌, Option, Some, None, is_some, map, refl, sym, ap, ap₂, subst, ◌∙◌, arith}
use Rattle.std.specs.List.{list_any, list_all}
use Rattle.std.specs.Str.{bytes_eq}
use Rattle.std.proofs.lemmas.Grind.{common_steps}
use Rattle.std.proofs.lemmas.List.Folds.{list_any-append}
use Rattle.std.proofs.lemmas.Slice.Eq.{bytes_eq-Decides}
use Rattle.site_model.specs.Names.{place_of, with_name}
use Rattle.site_model.specs.PlainSite.{PlainObject}
use Rattle.object_types.specs.Names.{type_name, type_named}
use Rattle.object_types.specs.declared.object_type.ObjectType.{ObjectType}
use Rattle.object_types.specs.declared.object_type.ObjectType.TheVariants as object
use Rattle.object_types.proofs.TypeLaws.{type_sound, type_found}
use Rattle.conf_check.specs.Keys.{is_object, has_object, key_of, in_keys, with_key, keys_from}

-- tests that say the same are one
same_tests : (a b : Bool) → (a ≡ true → b ≡ true) → (b ≡ true → a ≡ true) → a ≡ b
same_tests true b there back = sym (there refl)
same_tests false true there back = back refl
same_tests false false there back = refl

pub both_true : (a b : Bool) → (a && b) ≡ true → (a ≡ true) × (b ≡ true)
both_true true true e = (refl, refl)
both_true true false e = absurd (cc)
both_true false b e = absurd (cc)

-- A key is taken apart at its first `!`.

abbrev is_plain : ℕ → Bool
is_plain b = not (b == 33)

bang_first : (y : ℕ) (ys a b : List ℕ) → (is_plain y && list_all is_plain ys) ≡ true → 33 ∷ a ≡ y ∷ (ys ++ 33 ∷ b) → ⊥
bang_first y ys a b plain e = let same : y ≡ 33 = cc in let no : false ≡ true = subst (λ n. (is_plain n && list_all is_plain ys) ≡ true) same plain in cc

split : (xs ys a b : List ℕ) → list_all is_plain xs ≡ true → list_all is_plain ys ≡ true → xs ++ 33 ∷ a ≡ ys ++ 33 ∷ b → (xs ≡ ys) × (a ≡ b)
split [] [] a b left right e = (refl, cc)
split [] (y ∷ ys) a b left right e = absurd (bang_first y ys a b right e)
split (x ∷ xs) [] a b left right e = absurd (bang_first x xs b a left (sym e))
split (x ∷ xs) (y ∷ ys) a b left right e =
    let rest : xs ++ 33 ∷ a ≡ ys ++ 33 ∷ b = cc in
    let more = split xs ys a b (both_true (is_plain x) (list_all is_plain xs) left).1 (both_true (is_plain y) (list_all is_plain ys) right).1 rest in
    let first : x ≡ y = cc in
    (ap₂ (λ n ns. n ∷ ns) first more.0, more.1)

plain_name : (t : ObjectType) → list_all is_plain (type_name t) ≡ true
plain_name object.Host = refl
plain_name object.Service = refl
plain_name object.HostGroup = refl
plain_name object.ServiceGroup = refl
plain_name object.UserGroup = refl
plain_name object.CheckCommand = refl
plain_name object.NotificationCommand = refl
plain_name object.EventCommand = refl
plain_name object.User = refl
plain_name object.Notification = refl
plain_name object.Dependency = refl
plain_name object.ScheduledDowntime = refl
plain_name object.TimePeriod = refl
plain_name object.Endpoint = refl
plain_name object.Zone = refl
plain_name object.CheckerComponent = refl
plain_name object.NotificationComponent = refl
plain_name object.FileLogger = refl
plain_name object.SyslogLogger = refl
plain_name object.ApiListener = refl
plain_name object.ApiUser = refl
plain_name object.IcingaApplication = refl

-- two keys are one exactly where their types and names are
pub key_same : (t u : ObjectType) (name other : List ℕ) → bytes_eq (key_of t name) (key_of u other) ≡ (bytes_eq (type_name u) (type_name t) && bytes_eq other name)
key_same t u name other = same_tests (bytes_eq (key_of t name) (key_of u other)) (bytes_eq (type_name u) (type_name t) && bytes_eq other name) there back
  where
    there : bytes_eq (key_of t name) (key_of u other) ≡ true → (bytes_eq (type_name u) (type_name t) && bytes_eq other name) ≡ true
    there e =
        let parts = split (type_name t) (type_name u) name other (plain_name t) (plain_name u) ((bytes_eq-Decides (key_of t name) (key_of u other)).0 e) in
        ap₂ (λ a b. a && b) ((bytes_eq-Decides (type_name u) (type_name t)).1 (sym parts.0)) ((bytes_eq-Decides other name).1 (sym parts.1))

    back : (bytes_eq (type_name u) (type_name t) && bytes_eq other name) ≡ true → bytes_eq (key_of t name) (key_of u other) ≡ true
    back e =
        let parts = both_true (bytes_eq (type_name u) (type_name t)) (bytes_eq other name) e in
        let types : type_name u ≡ type_name t = (bytes_eq-Decides (type_name u) (type_name t)).0 parts.0 in
        let names : other ≡ name = (bytes_eq-Decides other name).0 parts.1 in
        (bytes_eq-Decides (key_of t name) (key_of u other)).1 (sym (ap₂ (λ xs ys. xs ++ 33 ∷ ys) types names))

-- Keys that are collected.

or_false : (a : Bool) → (a || false) ≡ a
or_false true = refl
or_false false = refl

or_swap : (a b : Bool) → (a || b) ≡ (b || a)
or_swap true true = refl
or_swap true false = refl
or_swap false true = refl
or_swap false false = refl

or_three : (a b c : Bool) → (a || b || c) ≡ (b || (a || c))
or_three true true c = refl
or_three true false c = refl
or_three false true c = refl
or_three false false c = refl

-- one more key, which is added where it isn't there
with_any : (k n : List ℕ) (ns : List (List ℕ)) → list_any (bytes_eq k) (with_name n ns) ≡ (bytes_eq k n || list_any (bytes_eq k) ns)
with_any k n ns = by (list_any (bytes_eq n) ns) refl
  where
    held : list_any (bytes_eq n) ns ≡ true → bytes_eq k n ≡ true → list_any (bytes_eq k) ns ≡ true
    held there e = ap (λ m. list_any (bytes_eq m) ns) ((bytes_eq-Decides k n).0 e) ∙ there

    kept : (b : Bool) → (b ≡ true → list_any (bytes_eq k) ns ≡ true) → list_any (bytes_eq k) ns ≡ (b || list_any (bytes_eq k) ns)
    kept true there = there refl
    kept false there = refl

    by : (b : Bool) → list_any (bytes_eq n) ns ≡ b → list_any (bytes_eq k) (cond b ns (ns ++ n ∷ [])) ≡ (bytes_eq k n || list_any (bytes_eq k) ns)
    by true there = kept (bytes_eq k n) (held there)
    by false there =
        list_any-append (bytes_eq k) ns (n ∷ []) ∙ ap (λ b. list_any (bytes_eq k) ns || b) (or_false (bytes_eq k n)) ∙ or_swap (list_any (bytes_eq k) ns) (bytes_eq k n)

-- the key of an object of an unknown type is none
pub other_type : (t : ObjectType) (kind : List ℕ) (b : Bool) → type_named kind ≡ None → bytes_eq kind (type_name t) ≡ b → b ≡ false
other_type t kind true none e = let found : type_named kind ≡ Some t = ap type_named ((bytes_eq-Decides kind (type_name t)).0 e) ∙ type_found t in absurd (cc)
other_type t kind false none e = refl

one_more : (t : ObjectType) (name : List ℕ) (o : PlainObject) (keys : List (List ℕ)) (found : Option ObjectType) → type_named o.kind ≡ found
    → list_any (bytes_eq (key_of t name)) (with_key found o.name keys) ≡ (is_object t name o || list_any (bytes_eq (key_of t name)) keys)
one_more t name o keys None e =
    sym (ap (λ b. (b && bytes_eq o.name name) || list_any (bytes_eq (key_of t name)) keys) (other_type t o.kind (bytes_eq o.kind (type_name t)) e refl))
one_more t name o keys (Some u) e =
    with_any (key_of t name) (key_of u o.name) keys
    ∙ ap (λ b. b || list_any (bytes_eq (key_of t name)) keys) (key_same t u name o.name)
    ∙ ap (λ kind. (bytes_eq kind (type_name t) && bytes_eq o.name name) || list_any (bytes_eq (key_of t name)) keys) (sym (type_sound o.kind u e))

keys_any : (t : ObjectType) (name : List ℕ) (keys : List (List ℕ)) (os : List PlainObject)
    → list_any (bytes_eq (key_of t name)) (keys_from keys os) ≡ (list_any (bytes_eq (key_of t name)) keys || has_object os t name)
keys_any t name keys [] = sym (or_false (list_any (bytes_eq (key_of t name)) keys))
keys_any t name keys (o ∷ os) =
    keys_any t name (with_key (type_named o.kind) o.name keys) os
    ∙ ap (λ b. b || has_object os t name) (one_more t name o keys (type_named o.kind) refl)
    ∙ or_three (is_object t name o) (list_any (bytes_eq (key_of t name)) keys) (has_object os t name)

-- a name has a place exactly where it is among the names
pub is_found : (k : List ℕ) (ns : List (List ℕ)) → is_some (place_of k ns) ≡ list_any (bytes_eq k) ns
is_found k [] = refl
is_found k (n ∷ ns) = grind (arith, common_steps, is_found k ns)

-- looking a name up by its key is asking whether there is such an object
pub keys_are : (os : List PlainObject) → in_keys (keys_from [] os) ≡ has_object os
keys_are os = λ i t name. keys_any t name [] os i

-- a test of what is made of each element
pub list_any-map : {X Y : Type 0} (f : X → Y) (p : Y → Bool) (xs : List X) → list_any p (map f xs) ≡ list_any (λ x. p (f x)) xs
list_any-map f p [] = refl
list_any-map f p (x ∷ xs) = rw (list_any-map f p xs)
