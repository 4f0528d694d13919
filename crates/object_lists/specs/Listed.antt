-- The objects of each type, and how an attribute names one of them: by its place among those of its type.
use Rattle.std.specs.Prelude.{ℕ, List, [], ◌∷◌, ◌++◌, Option, Some, None, map, if◌then◌else◌}
use Rattle.std.specs.Borrow.{Bor}
use Rattle.std.specs.List.{list_any}
use Rattle.std.specs.Option.{option_and_then, option_map}
use Rattle.std.specs.Str.{bytes_eq}
use Rattle.site_base.specs.Data.{Data}
use Rattle.site_model.specs.Names.{place_of, with_name}
use Rattle.site_model.specs.PlainSite.{PlainObject, object_view}
use Rattle.site_model.specs.declared.object.Object.{Object}
use Rattle.object_types.specs.declared.attribute.Attribute.{Attribute}
use Rattle.object_types.specs.declared.object_type.ObjectType.{ObjectType}
use Rattle.object_values.specs.Values.{text_at}
use Rattle.conf_check.specs.Keys.{is_of, name_of, of_type}

-- of several objects those whose name is none of these and none of an object before them
abbrev pub firsts_behind : List (List ℕ) → List PlainObject → List PlainObject
firsts_behind taken [] = []
firsts_behind taken (o ∷ os) = if list_any (bytes_eq o.name) taken then firsts_behind taken os else o ∷ firsts_behind (taken ++ o.name ∷ []) os

-- the objects of a type in committed order; of those that have one name, the first
unfoldable pub listed : ObjectType → List PlainObject → List PlainObject
listed t os = firsts_behind [] (of_type t os)

-- their names
abbrev pub listed_names : ObjectType → List PlainObject → List (List ℕ)
listed_names t os = map name_of (listed t os)

-- the plain values of objects that are lent
abbrev pub lent_view : List (Bor Object) → List PlainObject
lent_view os = map (λ o. object_view o.now) os

-- an object, unless one of these names is its own
abbrev pub unless_taken : List (List ℕ) → PlainObject → List PlainObject
unless_taken taken o = if list_any (bytes_eq o.name) taken then [] else o ∷ []

-- what an object adds to the objects of a type, of which these are the names
abbrev pub added_by : ObjectType → List (List ℕ) → PlainObject → List PlainObject
added_by t taken o = if is_of t o then unless_taken taken o else []

-- and to the names
abbrev pub names_with : ObjectType → List (List ℕ) → PlainObject → List (List ℕ)
names_with t taken o = if is_of t o then with_name o.name taken else taken

-- what a name gives, if there is one
abbrev pub at_some : {A : Type 0} → (List ℕ → List A) → Option (List ℕ) → List A
at_some f None = []
at_some f (Some name) = f name

-- the place among these names of the object that an object of a type names in an attribute
abbrev pub place_at : List (List ℕ) → ObjectType → Attribute → Data → Option ℕ
place_at names t a d = option_and_then (λ name. place_of name names) (text_at t a d)

-- what two values make, if both are there
abbrev pub both : {A B C : Type 0} → (A → B → C) → Option A → Option B → Option C
both make None b = None
both make (Some a) b = option_map (make a) b
