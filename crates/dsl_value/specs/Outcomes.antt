-- What operators and calls of the library come to, what that does to a store, and what it costs.
use Rattle.std.specs.Prelude.{◌≡◌, ℕ, ◌+◌, ◌<◌, ◌≤◌, nat_lt, List, [], ◌∷◌, ◌++◌, length, T, Result, Ok, Err, if◌then◌else◌}
use Rattle.std.specs.List.{AllByRecursion}
use Rattle.dsl_value.specs.Pairs.{is_sorted}
use Rattle.dsl_value.specs.Contents.{PlainCell, array, dict, Contents, cell_at, with_cells, with_cell}
use Rattle.dsl_value.specs.Changes.{changed, FitsCell, NamesIn, change_units}
use Rattle.dsl_value.specs.Whole.{Names, NamesAll}
use Rattle.dsl_value.specs.declared.acting.Act.{Act}
use Rattle.dsl_value.specs.declared.acting.Act.TheVariants as act
use Rattle.dsl_value.specs.declared.value.Value.{Value}
use Rattle.dsl_value.specs.declared.value.Value.TheVariants as value
use Rattle.dsl_value.specs.declared.making.Made.{Made}
use Rattle.dsl_value.specs.declared.making.Made.TheVariants as made
use Rattle.dsl_value.specs.declared.priced.Priced.{Priced}
use Rattle.dsl_value.specs.declared.refusal.Refusal.{Refusal}
use Rattle.dsl_value.specs.declared.refusal.Refusal.TheVariants.{Fault, SpaceLimit}

-- a value, and the store stays as it was; a new cell, and the value that names it; another content of a cell, and
-- null; or a refusal
pub data Outcome (F : Type 0) : Type 0 where
  gives : Value → Outcome F
  makes : PlainCell → Outcome F
  writes : ℕ → PlainCell → Outcome F
  refuses : F → Outcome F

-- a cell below the base is frozen
abbrev pub written : {F : Type 0} → F → Contents → ℕ → PlainCell → Outcome F
written frozen s k c = if nat_lt k s.base then refuses frozen else writes k c

-- a new cell goes after the others, a cell that is written has its new content, and nothing else changes
abbrev pub after : {F : Type 0} → Contents → Outcome F → Contents
after s (gives v) = s
after s (makes c) = with_cells s (s.cells ++ c ∷ [])
after s (writes k c) = with_cells s (with_cell s.cells k c)
after s (refuses e) = s

-- the value or the refusal; a new cell comes after so many others
abbrev pub answer : {F : Type 0} → ℕ → Outcome F → Result Value F
answer count (gives v) = Ok v
answer count (makes c) = Ok (value.Ref count)
answer count (writes k c) = Ok value.Null
answer count (refuses e) = Err e

-- elements or pairs
abbrev pub size_of : PlainCell → ℕ
size_of (array vs) = length vs
size_of (dict ps) = length ps

-- what is made costs a unit for each byte of a text, one for a cell and for each element or pair in it, and one for
-- what is put into a cell
abbrev pub made_units : {F : Type 0} → Outcome F → ℕ
made_units (gives (value.Str t)) = length t
made_units (gives v) = 0
made_units (makes c) = 1 + size_of c
made_units (writes k c) = 1
made_units (refuses e) = 0

-- the bytes of the texts among some values
abbrev pub text_bytes : Value → ℕ
text_bytes (value.Str t) = length t
text_bytes v = 0

abbrev pub bytes_of : List Value → ℕ
bytes_of [] = 0
bytes_of (v ∷ vs) = text_bytes v + bytes_of vs

abbrev pub content_bytes : PlainCell → ℕ
content_bytes (array vs) = bytes_of vs
content_bytes (dict ps) = 0

-- the same where the texts in a new array are made with it
abbrev pub texts_units : {F : Type 0} → Outcome F → ℕ
texts_units (makes c) = (1 + size_of c) + content_bytes c
texts_units o = made_units o

-- what was made comes to this
abbrev pub outcome_of : {F : Type 0} → Made → Outcome F
outcome_of (made.Value v) = gives v
outcome_of (made.Text t) = gives (value.Str t)
outcome_of (made.Array vs) = makes (array vs)
outcome_of (made.Texts vs) = makes (array vs)
outcome_of (made.Dict ps) = makes (dict ps)

-- the value, where a new cell comes after so many others
abbrev pub value_of : ℕ → Made → Value
value_of count (made.Value v) = v
value_of count (made.Text t) = value.Str t
value_of count (made.Array vs) = value.Ref count
value_of count (made.Texts vs) = value.Ref count
value_of count (made.Dict ps) = value.Ref count

-- the store behind it
abbrev pub store_of : Contents → Made → Contents
store_of s (made.Value v) = s
store_of s (made.Text t) = s
store_of s (made.Array vs) = with_cells s (s.cells ++ array vs ∷ [])
store_of s (made.Texts vs) = with_cells s (s.cells ++ array vs ∷ [])
store_of s (made.Dict ps) = with_cells s (s.cells ++ dict ps ∷ [])

-- what it costs: nothing if a value was there before
abbrev pub units_of : Made → ℕ
units_of (made.Value v) = 0
units_of (made.Text t) = length t
units_of (made.Array vs) = 1 + length vs
units_of (made.Texts vs) = (1 + length vs) + bytes_of vs
units_of (made.Dict ps) = 1 + length ps

-- what was made names cells and functions of a store with so many
abbrev pub StandsMade : ℕ → ℕ → Made → Type 0
StandsMade cells functions (made.Value v) = Names cells functions v
StandsMade cells functions (made.Text t) = Unit {0}
StandsMade cells functions (made.Array vs) = AllByRecursion (Names cells functions) vs
StandsMade cells functions (made.Texts vs) = AllByRecursion (Names cells functions) vs
StandsMade cells functions (made.Dict ps) = NamesAll cells functions ps × T (is_sorted ps)

-- the same of what is made or written
abbrev pub act_outcome : {F : Type 0} → Contents → Act → Outcome F
act_outcome s (act.Make m) = outcome_of m
act_outcome s (act.Write k x) = writes k (changed x (cell_at s.cells k))

abbrev pub act_value : ℕ → Act → Value
act_value count (act.Make m) = value_of count m
act_value count (act.Write k x) = value.Null

abbrev pub act_store : Contents → Act → Contents
act_store s (act.Make m) = store_of s m
act_store s (act.Write k x) = with_cells s (with_cell s.cells k (changed x (cell_at s.cells k)))

abbrev pub act_units : Act → ℕ
act_units (act.Make m) = units_of m
act_units (act.Write k x) = change_units x

-- a cell that is written is there and isn't frozen, and the change is for it
abbrev pub StandsAct : Contents → Act → Type 0
StandsAct s (act.Make m) = StandsMade (length s.cells) (length s.functions) m
StandsAct s (act.Write k x) = (s.base ≤ k) × (k < length s.cells) × FitsCell x (cell_at s.cells k) × NamesIn (length s.cells) (length s.functions) x

-- a call with so many units left gave the value with what it cost, or refused: for its own reason, or since it
-- costs more than is left
abbrev pub Answered : {F : Type 0} → (Outcome F → F → Type 0) → ℕ → ℕ → Outcome F → ℕ → Result Priced (Refusal F) → Type 0
Answered refused left count o units (Ok p) = (answer count o ≡ Ok p.value) × (p.units ≡ units) × (units ≤ left)
Answered refused left count o units (Err (Fault e)) = refused o e
Answered refused left count o units (Err SpaceLimit) = left < units
