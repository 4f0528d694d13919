-- Where the first thing of a type and a full name stands.
use Rattle.std.specs.Prelude.{◌≡◌, ℕ, suc, List, [], ◌∷◌, ◌&&◌, Option, Some, None, Vec, option_map, if◌then◌else◌}
use Rattle.std.specs.Str.{bytes_eq}
use Rattle.std.specs.declared.alloc.Global.{Global}
use Rattle.indexmap.specs.IndexMap.{get_by_text}
use Rattle.eval_meaning.specs.declared.read.Read.{Read}
use Rattle.eval_work.specs.declared.places.Places.{Places}

-- the place of a type in the list of a name
abbrev pub place_in : List ℕ → List (List ℕ × ℕ) → Option ℕ
place_in kind [] = None
place_in kind (e ∷ es) = if bytes_eq kind e.0 then Some e.1 else place_in kind es

abbrev pub place_listed : List ℕ → Option (Vec (List ℕ × ℕ) Global) → Option ℕ
place_listed kind None = None
place_listed kind (Some v) = place_in kind v.items

-- the place of a type and a full name
abbrev pub place_at : Places → List ℕ → List ℕ → Option ℕ
place_at p kind name = place_listed kind (get_by_text p.lists name)

-- a place that is given if there is none
abbrev pub first_of : Option ℕ → ℕ → Option ℕ
first_of None place = Some place
first_of (Some old) place = Some old

abbrev pub placed_in : List ℕ → List ℕ → ℕ → Option ℕ → Option ℕ
placed_in k kind place old = if bytes_eq k kind then first_of old place else old

-- the place of one type and name, after another (or the same) was given a place
abbrev pub placed : List ℕ → List ℕ → List ℕ → List ℕ → ℕ → Option ℕ → Option ℕ
placed k n kind name place old = if bytes_eq k kind && bytes_eq n name then first_of old place else old

-- the place of the first of several keys that is this one
abbrev pub first_place : List ℕ → List ℕ → List Read → Option ℕ
first_place kind name [] = None
first_place kind name (k ∷ ks) = if bytes_eq kind k.kind && bytes_eq name k.name then Some 0 else option_map suc (first_place kind name ks)

-- each place is that of the first key of its type and name
abbrev pub AreFirst : Places → List Read → Type 0
AreFirst p keys = (kind name : List ℕ) → place_at p kind name ≡ first_place kind name keys
