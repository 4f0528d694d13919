-- The shape of a state file as a JSON value.
use Rattle.std.specs.Prelude.{ℕ, ◌&&◌, List, [], ◌∷◌, codes, Option, Some, None, if◌then◌else◌}
use Rattle.std.specs.Str.{bytes_eq, is_utf8}
use Rattle.serde_json.specs.Data.{Data, null, boolean, number, string, array, object, unsigned, Items, no_items, item, Members, no_members, member}
use Rattle.serde_json.specs.Read.{read}

-- the JSON value of some bytes, which have to be UTF-8
unfoldable pub value_of : List ℕ → Option Data
value_of bytes = if is_utf8 bytes then read bytes else None

-- what a state file has of a checkable: its full name, and the lines of its entries, each without its newline
pub record Saved : Type 0 where
  pub name : List ℕ
  pub lines : List (List ℕ)

abbrev pub line_items : List (List ℕ) → Items
line_items [] = no_items
line_items (line ∷ lines) = item (string line) (line_items lines)

-- {"entries":[..],"name":NAME}
abbrev pub saved_data : Saved → Data
saved_data x = object (member (codes "entries") (array (line_items x.lines)) (member (codes "name") (string x.name) no_members))

abbrev pub saved_items : List Saved → Items
saved_items [] = no_items
saved_items (x ∷ xs) = item (saved_data x) (saved_items xs)

-- {"checkables":[..],"version":1}
abbrev pub state_data : List Saved → Data
state_data xs = object (member (codes "checkables") (array (saved_items xs)) (member (codes "version") (number (unsigned 1)) no_members))

-- the values of two members with these names, if there are no others
abbrev pub two_among : List ℕ → List ℕ → Members → Option (Data × Data)
two_among first second no_members = None
two_among first second (member k a no_members) = None
two_among first second (member k a (member l b no_members)) = if bytes_eq k first && bytes_eq l second then Some (a, b) else None
two_among first second (member k a (member l b (member m c more))) = None

unfoldable pub two_members : List ℕ → List ℕ → Data → Option (Data × Data)
two_members first second null = None
two_members first second (boolean b) = None
two_members first second (number n) = None
two_members first second (string s) = None
two_members first second (array ds) = None
two_members first second (object ms) = two_among first second ms
