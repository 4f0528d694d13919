-- Which objects there are, by type and full name.
use Rattle.std.specs.Prelude.{ℕ, ◌&&◌, Bool, List, [], ◌∷◌, ◌++◌, Option, Some, None, map}
use Rattle.std.specs.List.{list_any, filter}
use Rattle.std.specs.Str.{bytes_eq}
use Rattle.object_types.specs.declared.object_type.ObjectType.{ObjectType}
use Rattle.object_types.specs.Names.{type_name, type_named}
use Rattle.site_model.specs.Names.{with_name}
use Rattle.site_model.specs.PlainSite.{PlainObject}

-- an object is of a type and has a full name
abbrev pub is_object : ObjectType → List ℕ → PlainObject → Bool
is_object t name o = bytes_eq o.kind (type_name t) && bytes_eq o.name name

-- one of these objects is and has
abbrev pub has_object : List PlainObject → ObjectType → List ℕ → Bool
has_object os t name = list_any (is_object t name) os

-- an object is of a type
abbrev pub is_of : ObjectType → PlainObject → Bool
is_of t o = bytes_eq o.kind (type_name t)

-- the objects of a type, in their order
abbrev pub of_type : ObjectType → List PlainObject → List PlainObject
of_type t os = filter (is_of t) os

abbrev pub name_of : PlainObject → List ℕ
name_of o = o.name

-- their full names
abbrev pub names_of : ObjectType → List PlainObject → List (List ℕ)
names_of t os = map name_of (of_type t os)

-- The same, by keys: the type's name and the full name with `!` between.

abbrev pub key_of : ObjectType → List ℕ → List ℕ
key_of t name = type_name t ++ 33 ∷ name

-- one of these keys is that of a type and a name
abbrev pub in_keys : List (List ℕ) → ObjectType → List ℕ → Bool
in_keys keys t name = list_any (bytes_eq (key_of t name)) keys

-- keys with that of an object, if its type is one of the schema
abbrev pub with_key : Option ObjectType → List ℕ → List (List ℕ) → List (List ℕ)
with_key None name keys = keys
with_key (Some t) name keys = with_name (key_of t name) keys

abbrev pub keys_from : List (List ℕ) → List PlainObject → List (List ℕ)
keys_from keys [] = keys
keys_from keys (o ∷ os) = keys_from (with_key (type_named o.kind) o.name keys) os
