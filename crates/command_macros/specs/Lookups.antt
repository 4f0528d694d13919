-- Where the value of a macro is found.
use Rattle.std.specs.Prelude.{ℕ, List, [], ◌∷◌, ◌++◌, ◌==◌, Option, Some, None, codes, if◌then◌else◌}
use Rattle.std.specs.Str.{bytes_eq}
use Rattle.site_base.specs.Data.{Data, null, boolean, number, string, list, dict, Pairs, no_pairs, pair}

-- the pairs of a dictionary; of anything else none
abbrev pub pairs_in : Data → Pairs
pairs_in null = no_pairs
pairs_in (boolean b) = no_pairs
pairs_in (number n) = no_pairs
pairs_in (string t) = no_pairs
pairs_in (list ds) = no_pairs
pairs_in (dict ps) = ps

abbrev pub pairs_of : Option Data → Pairs
pairs_of None = no_pairs
pairs_of (Some d) = pairs_in d

-- the value of a key
abbrev pub value_at : List ℕ → Pairs → Option Data
value_at key no_pairs = None
value_at key (pair other d ps) = if bytes_eq key other then Some d else value_at key ps

-- an object: its attributes, and the custom variables among them
pub record Source : Type 0 where
  pub vars : Pairs
  pub attributes : Pairs

-- what a macro of a check is looked up in; the service of a host's check has nothing in it
pub record Scope : Type 0 where
  pub service : Source
  pub host : Source
  pub command : Source
  pub globals : Pairs

-- the first that is there
abbrev pub or_else : Option Data → Option Data → Option Data
or_else (Some d) other = Some d
or_else None other = other

-- of an object, first among its `vars` and then among its attributes
abbrev pub value_of_object : Source → List ℕ → Option Data
value_of_object o name = or_else (value_at name o.vars) (value_at name o.attributes)

-- of the service, then the host, then the command, and last of the global `Vars`
abbrev pub value_of_name : Scope → List ℕ → Option Data
value_of_name s name =
    or_else (value_of_object s.service name)
    (or_else (value_of_object s.host name) (or_else (value_of_object s.command name) (value_at name s.globals)))

-- a text split at its dots, with what stands since the last one
abbrev pub parts_from : List ℕ → List ℕ → List (List ℕ)
parts_from [] part = part ∷ []
parts_from (b ∷ bs) part = if b == 46 then part ∷ parts_from bs [] else parts_from bs (part ++ b ∷ [])

abbrev pub parts : List ℕ → List (List ℕ)
parts text = parts_from text []

-- along a path from an object's attributes on, through dictionaries alone
abbrev pub value_along : List (List ℕ) → Pairs → Option Data
value_along [] ps = None
value_along (key ∷ []) ps = value_at key ps
value_along (key ∷ next ∷ keys) ps = value_along (next ∷ keys) (pairs_of (value_at key ps))

-- of a path behind `service`, `host` or `command`; every other name is one name, with its dots
abbrev pub value_of_path : Scope → List ℕ → List ℕ → List (List ℕ) → Option Data
value_of_path s name first path =
    if bytes_eq first (codes "service") then value_along path s.service.attributes
    else if bytes_eq first (codes "host") then value_along path s.host.attributes
    else if bytes_eq first (codes "command") then value_along path s.command.attributes
    else value_of_name s name

abbrev pub value_of_parts : Scope → List ℕ → List (List ℕ) → Option Data
value_of_parts s name [] = value_of_name s name
value_of_parts s name (first ∷ []) = value_of_name s name
value_of_parts s name (first ∷ key ∷ path) = value_of_path s name first (key ∷ path)

-- of a macro
unfoldable pub value_of : Scope → List ℕ → Option Data
value_of s name = value_of_parts s name (parts name)
