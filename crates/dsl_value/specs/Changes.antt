-- What a change makes of a cell.
use Rattle.std.specs.Prelude.{ℕ, ◌<◌, IsTrue, length}
use Rattle.dsl_value.specs.Contents.{PlainCell, is_array, is_dict, values_of, with_value, pushed, with_pair, without_pair}
use Rattle.dsl_value.specs.Whole.{Names}
use Rattle.dsl_value.specs.declared.change.Change.{Change}
use Rattle.dsl_value.specs.declared.change.Change.TheVariants as change

abbrev pub changed : Change → PlainCell → PlainCell
changed (change.Put i v) c = with_value c i v
changed (change.Push v) c = pushed c v
changed (change.Set key v) c = with_pair c key v
changed (change.Remove key) c = without_pair c key.now

-- a cell that the change is for: an array or a dictionary, and with such a place
abbrev pub FitsCell : Change → PlainCell → Type 0
FitsCell (change.Put i v) c = IsTrue (is_array c) × (i < length (values_of c))
FitsCell (change.Push v) c = IsTrue (is_array c)
FitsCell (change.Set key v) c = IsTrue (is_dict c)
FitsCell (change.Remove key) c = IsTrue (is_dict c)

-- what is put in names one of the first so many cells or functions
abbrev pub NamesIn : ℕ → ℕ → Change → Type 0
NamesIn cells functions (change.Put i v) = Names cells functions v
NamesIn cells functions (change.Push v) = Names cells functions v
NamesIn cells functions (change.Set key v) = Names cells functions v
NamesIn cells functions (change.Remove key) = Unit {0}

-- a value that is put in costs a unit, and taking one out nothing
abbrev pub change_units : Change → ℕ
change_units (change.Put i v) = 1
change_units (change.Push v) = 1
change_units (change.Set key v) = 1
change_units (change.Remove key) = 0
