-- The tree that a value stands for, by a walk that goes depth first, in element order.
use Rattle.std.specs.Prelude.{◌≡◌, ℕ, zero, suc, ◌+◌, ◌^◌, ◌==◌, Bool, nat_lt, if◌then◌else◌, List, [], ◌∷◌, length, Result, Ok, Err}
use Rattle.std.specs.List.{list_any}
use Rattle.site_base.specs.Data.{Data}
use Rattle.site_base.specs.Data as tree
use Rattle.site_base.specs.View.{items_of, pairs_of}
use Rattle.dsl_value.specs.Pairs.{Pairs}
use Rattle.dsl_value.specs.Contents.{PlainCell, array, dict, cell_at}
use Rattle.dsl_value.specs.declared.value.Value.{Value}
use Rattle.dsl_value.specs.declared.value.Value.TheVariants as value
use Rattle.dsl_value.specs.declared.tree_fault.TreeFault.{TreeFault}
use Rattle.dsl_value.specs.declared.tree_fault.TreeFault.TheVariants.{Cyclic, HasFunction, TooLarge, OutOfMemory}

-- what a tree may cost: a unit for each byte of its strings, keys included, for each array and
-- dictionary, and for each element and pair
abbrev pub most : ℕ
most = 2 ^ 24

-- what a walk gives, with the cost so far, or the first fault that it meets
pub data Walk (A : Type 0) : Type 0 where
  walked : A → ℕ → Walk A
  stopped : TreeFault → Walk A

infixl 10 ◌>>=◌
abbrev pub ◌>>=◌ : {A B : Type 0} → Walk A → (A → ℕ → Walk B) → Walk B
walked a c >>= f = f a c
stopped e >>= f = stopped e

-- goes on at a cost that is within what a tree may cost
abbrev pub charged : {A : Type 0} → ℕ → (ℕ → Walk A) → Walk A
charged c next = if nat_lt most c then stopped TooLarge else next c

-- how a value is walked, from the cost so far
abbrev pub Walker : Type 0
Walker = Value → ℕ → Walk Data

-- an element's unit is counted before its value is looked at
abbrev pub values_walked : Walker → List Value → ℕ → Walk (List Data)
values_walked inside [] c = walked [] c
values_walked inside (v ∷ vs) c = charged (c + 1) (λ c1. inside v c1) >>= λ d c2. (values_walked inside vs c2 >>= λ ds c3. walked (d ∷ ds) c3)

-- and so is a pair's, with the bytes of its key
abbrev pub pairs_walked : Walker → Pairs → ℕ → Walk (List (List ℕ × Data))
pairs_walked inside [] c = walked [] c
pairs_walked inside (p ∷ ps) c = charged (c + (1 + length p.0)) (λ c1. inside p.1 c1) >>= λ d c2. (pairs_walked inside ps c2 >>= λ ds c3. walked ((p.0, d) ∷ ds) c3)

abbrev pub cell_walked : Walker → PlainCell → ℕ → Walk Data
cell_walked inside (array vs) c = values_walked inside vs c >>= λ ds c1. walked (tree.list (items_of ds)) c1
cell_walked inside (dict ps) c = pairs_walked inside ps c >>= λ ds c1. walked (tree.dict (pairs_of ds)) c1

-- whether a cell is one of those that the walk is inside of
abbrev pub is_open : ℕ → List ℕ → Bool
is_open k open_cells = list_any (λ o. o == k) open_cells

-- a cell inside itself is found before its own unit is counted
abbrev pub value_walked : (List ℕ → Walker) → List PlainCell → List ℕ → Walker
value_walked inside cells open_cells value.Null c = walked tree.null c
value_walked inside cells open_cells (value.Bool b) c = walked (tree.boolean b) c
value_walked inside cells open_cells (value.Number n) c = walked (tree.number n) c
value_walked inside cells open_cells (value.Str t) c = charged (c + length t) (λ c1. walked (tree.string t) c1)
value_walked inside cells open_cells (value.Ref k) c = if is_open k open_cells then stopped (Cyclic k) else charged (c + 1) (λ c1. cell_walked (inside (k ∷ open_cells)) (cell_at cells k) c1)
value_walked inside cells open_cells (value.Func k) c = stopped HasFunction

-- a walk through so many levels of nesting. Each level costs a unit, so that no tree within the cost has
-- more levels than units
unfoldable pub walk : ℕ → List PlainCell → List ℕ → Walker
walk zero cells open_cells = λ v c. stopped TooLarge
walk (suc levels) cells open_cells = value_walked (walk levels cells) cells open_cells

abbrev pub outcome : {A : Type 0} → Walk A → Result A TreeFault
outcome (walked a c) = Ok a
outcome (stopped e) = Err e

-- the tree of a value of a store, or the first fault that the walk meets
abbrev pub tree_walked : List PlainCell → Value → Result Data TreeFault
tree_walked cells v = outcome (walk (most + 1) cells [] v 0)

-- a fault that was returned is the one that the definition gives, unless memory ran out
abbrev pub Stops : {Y : Type 0} → TreeFault → Result Y TreeFault → Type 0
Stops (Cyclic k) r = r ≡ Err (Cyclic k)
Stops HasFunction r = r ≡ Err HasFunction
Stops TooLarge r = r ≡ Err TooLarge
Stops OutOfMemory r = Unit {0}

-- what a function returned is what the definition gives, unless memory ran out
abbrev pub Gives : {X Y : Type 0} → (X → Y) → Result X TreeFault → Result Y TreeFault → Type 0
Gives view (Ok x) r = r ≡ Ok (view x)
Gives view (Err e) r = Stops e r
