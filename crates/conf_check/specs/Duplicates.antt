-- Objects that have the type and the full name of an earlier one.
use Rattle.std.specs.Prelude.{ℕ, List, [], ◌∷◌, ◌++◌, Option, Some, None, get_or, slice_get, option_map, option_and_then, if◌then◌else◌}
use Rattle.std.specs.Fmt.{decimal}
use Rattle.std.specs.List.{list_any}
use Rattle.std.specs.Str.{bytes_eq}
use Rattle.site_base.specs.Quoted.{quoted}
use Rattle.site_base.specs.declared.diag.Diag.{Diag}
use Rattle.site_base.specs.declared.diag_kind.DiagKind.TheVariants as diag
use Rattle.site_base.specs.declared.place.Place.{Place}
use Rattle.site_model.specs.Names.{place_of}
use Rattle.site_model.specs.PlainSite.{PlainObject}
use Rattle.object_types.specs.Names.{type_named}
use Rattle.object_types.specs.declared.object_type.ObjectType.{ObjectType}
use Rattle.conf_check.specs.Keys.{is_object, key_of}

-- the first of these objects that is of a type and has a full name
abbrev pub first_object : ObjectType → List ℕ → List PlainObject → Option PlainObject
first_object t name [] = None
first_object t name (o ∷ os) = if is_object t name o then Some o else first_object t name os

-- FILE:LINE:COL
abbrev pub place_text : List (List ℕ) → Place → List ℕ
place_text files p = get_or files p.file [] ++ 58 ∷ (decimal p.line ++ 58 ∷ decimal p.col)

-- the fault of an object: an earlier one, which stands here, has its type and its full name
abbrev pub duplicate_fault : List (List ℕ) → PlainObject → Place → Diag
duplicate_fault files o first =
    record { number = o.number; place = o.place; kind = diag.Duplicate; text = o.kind ++ 32 ∷ (quoted o.name ++ 32 ∷ place_text files first) }

abbrev pub faults_at : List (List ℕ) → PlainObject → Option Place → List Diag
faults_at files o None = []
faults_at files o (Some first) = duplicate_fault files o first ∷ []

-- where the first of these objects stands that is of a type and has a full name
abbrev pub first_place : List PlainObject → ObjectType → List ℕ → Option Place
first_place os t name = option_map (λ o. o.place) (first_object t name os)

-- the faults of an object, where the first of each type and name stands here; only types of the schema have objects
abbrev pub own_faults : (ObjectType → List ℕ → Option Place) → List (List ℕ) → PlainObject → Option ObjectType → List Diag
own_faults first files o None = []
own_faults first files o (Some t) = faults_at files o (first t o.name)

-- of each of these objects, made after the ones before
abbrev pub later_faults : List (List ℕ) → List PlainObject → List PlainObject → List Diag
later_faults files before [] = []
later_faults files before (o ∷ os) = own_faults (first_place before) files o (type_named o.kind) ++ later_faults files (before ++ o ∷ []) os

-- of each of these objects, in the order in which they were made
abbrev pub duplicate_faults : List (List ℕ) → List PlainObject → List Diag
duplicate_faults files os = later_faults files [] os

-- The same, by keys, each of which has the place of the first object under it.

abbrev pub place_under : List (List ℕ) → List Place → List ℕ → Option Place
place_under keys places key = option_and_then (slice_get places) (place_of key keys)

-- the places, with that of an object under a key
abbrev pub with_place : List (List ℕ) → List Place → List ℕ → Place → List Place
with_place keys places key p = if list_any (bytes_eq key) keys then places else places ++ p ∷ []

-- that of an object of a type and a full name
abbrev pub first_under : List (List ℕ) → List Place → ObjectType → List ℕ → Option Place
first_under keys places t name = place_under keys places (key_of t name)

-- with that of an object, if its type is one of the schema
abbrev pub with_first : List (List ℕ) → List Place → Option ObjectType → List ℕ → Place → List Place
with_first keys places None name p = places
with_first keys places (Some t) name p = with_place keys places (key_of t name) p
