-- Where a walk stands: the arrays and dictionaries that it is inside of.
use Rattle.std.specs.Prelude.{◌≡◌, ℕ, ◌+◌, ◌-◌, ◌*◌, ◌<◌, ◌≤◌, List, [], ◌∷◌, ◌++◌, map, length, drop, slice_get, Option, Some, None, Result, Ok, Err, false}
use Rattle.std.specs.List.{AllByRecursion}
use Rattle.site_base.specs.Data.{Data}
use Rattle.site_base.specs.Data as tree
use Rattle.site_base.specs.View.{view, items_of, pairs_of}
use Rattle.dsl_value.specs.Contents.{PlainCell, array, dict, cell_at, values_of, pairs_of as content}
use Rattle.dsl_value.specs.Walks.{most, Walk, walked, ◌>>=◌, Walker, values_walked, pairs_walked, walk, outcome, Stops, is_open}
use Rattle.dsl_value.specs.declared.value.Value.{Value}
use Rattle.dsl_value.specs.declared.value.Value.TheVariants as value
use Rattle.dsl_value.specs.Entering.{Entered, in_array, in_dict, frame, cell_of}
use Rattle.dsl_value.specs.declared.path.Path.{Path}
use Rattle.dsl_value.specs.declared.turn.Turn.{Turn}
use Rattle.dsl_value.specs.declared.turn.Turn.TheVariants as turns
use Rattle.dsl_value.specs.declared.tree_fault.TreeFault.{TreeFault}

-- nothing of the cell is passed yet
abbrev pub entered : ℕ → PlainCell → Entered
entered k (array vs) = in_array k []
entered k (dict ps) = in_dict k []

abbrev pub value_of_pair : Option (List ℕ × Value) → Option Value
value_of_pair None = None
value_of_pair (Some p) = Some p.1

-- the value that comes next
abbrev pub next_value : PlainCell → Entered → Option Value
next_value c (in_array k made) = slice_get (values_of c) (length made)
next_value c (in_dict k made) = value_of_pair (slice_get (content c) (length made))

abbrev pub bytes_of_pair : Option (List ℕ × Value) → ℕ
bytes_of_pair None = 0
bytes_of_pair (Some p) = length p.0

-- the bytes of the key that comes next
abbrev pub key_bytes : PlainCell → Entered → ℕ
key_bytes c (in_array k made) = 0
key_bytes c (in_dict k made) = bytes_of_pair (slice_get (content c) (length made))

abbrev pub keyed : Option (List ℕ × Value) → List (List ℕ × Data) → Data → List (List ℕ × Data)
keyed None made d = made
keyed (Some p) made d = made ++ (p.0, d) ∷ []

-- one more element or pair is passed
abbrev pub with_child : PlainCell → Entered → Data → Entered
with_child c (in_array k made) d = in_array k (made ++ d ∷ [])
with_child c (in_dict k made) d = in_dict k (keyed (slice_get (content c) (length made)) made d)

-- all of it is passed
abbrev pub tree_made : Entered → Data
tree_made (in_array k made) = tree.list (items_of made)
tree_made (in_dict k made) = tree.dict (pairs_of made)

-- the walk over what isn't passed yet
abbrev pub rest_walked : Walker → PlainCell → Entered → ℕ → Walk Data
rest_walked inside cell (in_array k made) c = values_walked inside (drop (length made) (values_of cell)) c >>= λ ds c1. walked (tree.list (items_of (made ++ ds))) c1
rest_walked inside cell (in_dict k made) c = pairs_walked inside (drop (length made) (content cell)) c >>= λ ds c1. walked (tree.dict (pairs_of (made ++ ds))) c1

-- how an element of the last of these cells is walked
abbrev pub inside_walk : List PlainCell → List Entered → Entered → Walker
inside_walk cells below f = walk (most - length below) cells (cell_of f ∷ map cell_of below)

abbrev pub from_here : List PlainCell → List Entered → Entered → ℕ → Walk Data
from_here cells below f c = rest_walked (inside_walk cells below f) (cell_at cells (cell_of f)) f c

-- the walk over all that isn't passed yet, once the element that it is at has given what it gives
abbrev pub going_with : List PlainCell → List Entered → Walk Data → Walk Data
going_with cells [] w = w
going_with cells (f ∷ below) w = going_with cells below (w >>= λ d c. from_here cells below (with_child (cell_at cells (cell_of f)) f d) c)

-- the cells around the last one, the nearest first
abbrev pub below_of : Path → List Entered
below_of p = map frame p.below

-- the walk that is left at a path
abbrev pub going : List PlainCell → Path → Walk Data
going cells p = going_with cells (below_of p) (from_here cells (below_of p) (frame p.top) p.cost)

-- the same at an element of the last cell, which is counted already
abbrev pub going_at : List PlainCell → Path → Value → Walk Data
going_at cells p v = going_with cells (frame p.top ∷ below_of p) (inside_walk cells (below_of p) (frame p.top) v p.cost)

-- the cells are there, each once, and each cost a unit
pub record IsPath (count : ℕ) (p : Path) : Type 0 where
  pub top : cell_of (frame p.top) < count
  pub below : AllByRecursion (λ f. cell_of f < count) (below_of p)
  pub within : p.cost ≤ most
  pub levels : length (below_of p) < p.cost
  pub apart : is_open (cell_of (frame p.top)) (map cell_of (below_of p)) ≡ false

-- falls with each turn
abbrev pub left_of : Path → ℕ
left_of p = 2 * (most - p.cost) + length (below_of p)

-- what comes next is passed, up to a cell that is looked at then, or to the end of the last cell
abbrev pub Passed : List PlainCell → Path → Result (Option ℕ) TreeFault → Walk Data → Type 0
Passed cells p (Ok (Some k)) w = (k < length cells) × (going_at cells p (value.Ref k) ≡ w)
Passed cells p (Ok None) w = going_with cells (below_of p) (walked (tree_made (frame p.top)) p.cost) ≡ w
Passed cells p (Err e) w = Stops e (outcome w)

-- a turn goes on where the walk goes on, or ends as the walk does
abbrev pub Turned : List PlainCell → Result Turn TreeFault → Walk Data → Type 0
Turned cells (Ok (turns.On p)) w = going cells p ≡ w
Turned cells (Ok (turns.Done t)) w = outcome w ≡ Ok (view t)
Turned cells (Err e) w = Stops e (outcome w)

-- less is left after a turn
abbrev pub Falls : ℕ → ℕ → Result Turn TreeFault → Type 0
Falls count left (Ok (turns.On p)) = IsPath count p × (left_of p < left)
Falls count left (Ok (turns.Done t)) = Unit {0}
Falls count left (Err e) = Unit {0}
