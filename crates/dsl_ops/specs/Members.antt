-- Members and indexes: what a value has at a key, and what is written there.
use Rattle.std.specs.Prelude.{◌≡◌, ℕ, ℤ, pos, negsuc, nat_lt, List, length, slice_get, Option, Some, None, option_map, if◌then◌else◌, Result, Ok, Err}
use Rattle.dsl_value.specs.Pairs.{find}
use Rattle.dsl_value.specs.Contents.{PlainCell, array, dict, Contents, cell_at, with_value, with_pair}
use Rattle.dsl_value.specs.Outcomes.{Outcome, gives, makes, writes, refuses, written}
use Rattle.dsl_value.specs.declared.value.Value.{Value}
use Rattle.dsl_value.specs.declared.value.Value.TheVariants as value
use Rattle.dsl_ops.specs.Table.{whole_part}
use Rattle.dsl_ops.specs.declared.member_fault.MemberFault.{MemberFault}
use Rattle.dsl_ops.specs.declared.member_fault.MemberFault.TheVariants.{WrongType, Frozen, OutOfMemory}

abbrev pub or_null : Option Value → Value
or_null None = value.Null
or_null (Some v) = v

-- the element of an index, or null out of range
abbrev pub element : List Value → ℤ → Value
element vs (pos n) = or_null (slice_get vs n)
element vs (negsuc n) = value.Null

-- what a cell has at a key, if it takes keys of this type: a dictionary takes strings, an array whole numbers
abbrev pub member_in : PlainCell → Value → Option Value
member_in (dict ps) (value.Str n) = Some (or_null (find n ps))
member_in (array vs) (value.Number n) = option_map (element vs) (whole_part n)
member_in c k = None

-- null has null at each key
abbrev pub member_of : List PlainCell → Value → Value → Option Value
member_of cells value.Null key = Some value.Null
member_of cells (value.Ref k) key = member_in (cell_at cells k) key
member_of cells v key = None

abbrev pub or_wrong : Option Value → Outcome MemberFault
or_wrong (Some v) = gives v
or_wrong None = refuses WrongType

abbrev pub member_outcome : List PlainCell → Value → Value → Outcome MemberFault
member_outcome cells v key = or_wrong (member_of cells v key)

-- the place of an element, if there are so many
abbrev pub place_in : ℕ → Option ℤ → Option ℕ
place_in count (Some (pos i)) = if nat_lt i count then Some i else None
place_in count o = None

-- what a cell becomes with a value at a key: a dictionary takes strings, an array indexes below its length
abbrev pub with_member : PlainCell → Value → Value → Option PlainCell
with_member (dict ps) (value.Str n) v = Some (with_pair (dict ps) n v)
with_member (array vs) (value.Number n) v = option_map (λ i. with_value (array vs) i v) (place_in (length vs) (whole_part n))
with_member c key v = None

-- a key of the wrong type is found before a frozen cell
abbrev pub written_or_wrong : Contents → ℕ → Option PlainCell → Outcome MemberFault
written_or_wrong s k (Some c) = written Frozen s k c
written_or_wrong s k None = refuses WrongType

abbrev pub set_outcome : Contents → Value → Value → Value → Outcome MemberFault
set_outcome s (value.Ref k) key v = written_or_wrong s k (with_member (cell_at s.cells k) key v)
set_outcome s c key v = refuses WrongType

-- a fault that was answered is the one that the definition gives, unless memory ran out
abbrev pub MemberRefused : Outcome MemberFault → MemberFault → Type 0
MemberRefused o WrongType = o ≡ refuses WrongType
MemberRefused o Frozen = o ≡ refuses Frozen
MemberRefused o OutOfMemory = Unit {0}

-- what a member is
abbrev pub Returns : Result Value MemberFault → Outcome MemberFault → Type 0
Returns (Ok v) o = o ≡ gives v
Returns (Err e) o = MemberRefused o e

-- there is nothing of the wanted type, unless memory ran out
abbrev pub IsWrong : {A : Type 0} → Option A → MemberFault → Type 0
IsWrong o WrongType = o ≡ None
IsWrong o Frozen = ⊥
IsWrong o OutOfMemory = Unit {0}
