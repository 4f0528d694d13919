-- The values of attributes, as a site has them. Each is that of a lawful object; where an object isn't lawful it is
-- whatever is simplest.
use Rattle.std.specs.Prelude.{ℕ, ℤ, pos, negsuc, ◌*◌, ◌/◌, nat_le, Bool, false, List, [], Option, Some, None, Result, Ok, Err, unwrap_or, option_and_then, if◌then◌else◌}
use Rattle.std.specs.List.{cons_option}
use Rattle.std.specs.Borrow.{Bor}
use Rattle.site_base.specs.Data.{Data, null, boolean, number, string, list, dict, Items, no_items, item}
use Rattle.site_base.specs.Numbers.{seconds_of}
use Rattle.site_base.specs.View.{items_view}
use Rattle.site_base.specs.declared.day_span.DaySpan.{DaySpan}
use Rattle.site_base.specs.declared.tree.Tree.{Tree}
use Rattle.time_range.specs.Ranges.{ranges_in}
use Rattle.object_types.specs.declared.attribute.Attribute.{Attribute}
use Rattle.object_types.specs.declared.object_type.ObjectType.{ObjectType}
use Rattle.object_types.specs.declared.value_kind.Unset.{Unset}
use Rattle.object_types.specs.declared.value_kind.Unset.TheVariants as unset
use Rattle.object_values.specs.Attributes.{set_value, unset_of, value_under}

-- Booleans.

abbrev pub is_true : Data → Bool
is_true (boolean b) = b
is_true null = false
is_true (number n) = false
is_true (string text) = false
is_true (list items) = false
is_true (dict pairs) = false

abbrev pub unset_flag : Unset → Bool
unset_flag (unset.Bool b) = b
unset_flag unset.Missing = false
unset_flag unset.Nothing = false
unset_flag (unset.Number n) = false
unset_flag unset.GoodStates = false

abbrev pub flag_in : Option Data → Unset → Bool
flag_in None u = unset_flag u
flag_in (Some d) u = is_true d

-- the boolean that holds for an object of a type
abbrev pub flag_at : ObjectType → Attribute → Data → Bool
flag_at t a d = flag_in (set_value t a d) (unset_of t a)

-- Numbers.

-- a number by what its thousandths say; 0 for what is none
abbrev pub number_by : (ℤ → ℕ) → Data → ℕ
number_by count (number n) = count n
number_by count null = 0
number_by count (boolean b) = 0
number_by count (string text) = 0
number_by count (list items) = 0
number_by count (dict pairs) = 0

abbrev pub unset_number : Unset → ℕ
unset_number (unset.Number n) = n
unset_number unset.Missing = 0
unset_number unset.Nothing = 0
unset_number (unset.Bool b) = 0
unset_number unset.GoodStates = 0

-- the thousandths
abbrev pub thousandths_of : ℤ → ℕ
thousandths_of (pos n) = n
thousandths_of (negsuc n) = 0

-- the whole part, up to the greatest number of 32 bits
abbrev pub whole_of : ℤ → ℕ
whole_of n = let whole = thousandths_of n / 1000 in if nat_le whole 4294967295 then whole else 4294967295

-- whole seconds, rounded up
abbrev pub whole_seconds : ℤ → ℕ
whole_seconds n = unwrap_or (seconds_of n) 0

abbrev pub count_in : Option Data → Unset → ℕ
count_in None u = unset_number u
count_in (Some d) u = number_by whole_of d

-- the whole number that holds for an object of a type
abbrev pub count_at : ObjectType → Attribute → Data → ℕ
count_at t a d = count_in (set_value t a d) (unset_of t a)

abbrev pub seconds_in : Option Data → Unset → ℕ
seconds_in None u = unset_number u
seconds_in (Some d) u = number_by whole_seconds d

-- the seconds that hold for an object of a type, as whole ones, rounded up
abbrev pub seconds_at : ObjectType → Attribute → Data → ℕ
seconds_at t a d = seconds_in (set_value t a d) (unset_of t a)

abbrev pub thousandths_in : Option Data → Unset → ℕ
thousandths_in None u = unset_number u * 1000
thousandths_in (Some d) u = number_by thousandths_of d

-- the number that holds for an object of a type, in thousandths
abbrev pub thousandths_at : ObjectType → Attribute → Data → ℕ
thousandths_at t a d = thousandths_in (set_value t a d) (unset_of t a)

-- Strings.

-- the string that a value is, if it is one
abbrev pub string_of : Data → Option (List ℕ)
string_of (string text) = Some text
string_of null = None
string_of (boolean b) = None
string_of (number n) = None
string_of (list items) = None
string_of (dict pairs) = None

-- the string that an object of a type sets
abbrev pub text_at : ObjectType → Attribute → Data → Option (List ℕ)
text_at t a d = option_and_then string_of (set_value t a d)

-- Arrays.

abbrev pub items_in : Option Data → Option Items
items_in (Some (list items)) = Some items
items_in (Some null) = None
items_in (Some (boolean b)) = None
items_in (Some (number n)) = None
items_in (Some (string text)) = None
items_in (Some (dict pairs)) = None
items_in None = None

-- the plain value of what is lent
abbrev pub slice_view : Option (Bor (List Tree)) → Option Items
slice_view None = None
slice_view (Some ts) = Some (items_view ts.now)

-- the array that an object of a type sets
abbrev pub items_at : ObjectType → Attribute → Data → Option Items
items_at t a d = items_in (set_value t a d)

-- the strings of an array
abbrev pub texts_of : Items → List (List ℕ)
texts_of no_items = []
texts_of (item d ds) = cons_option (string_of d) (texts_of ds)

abbrev pub texts_in : Option Items → List (List ℕ)
texts_in None = []
texts_in (Some items) = texts_of items

-- the names that an object of a type sets, in their order
abbrev pub names_at : ObjectType → Attribute → Data → List (List ℕ)
names_at t a d = texts_in (items_at t a d)

-- Limits in time.

abbrev pub limit_of : Option Data → Option ℕ
limit_of (Some (number n)) = seconds_of n
limit_of (Some null) = None
limit_of (Some (boolean b)) = None
limit_of (Some (string text)) = None
limit_of (Some (list items)) = None
limit_of (Some (dict pairs)) = None
limit_of None = None

abbrev pub limit_under : List ℕ → Data → Option ℕ
limit_under key (dict pairs) = limit_of (value_under key pairs)
limit_under key null = None
limit_under key (boolean b) = None
limit_under key (number n) = None
limit_under key (string text) = None
limit_under key (list items) = None

abbrev pub limit_in : List ℕ → Option Data → Option ℕ
limit_in key None = None
limit_in key (Some d) = limit_under key d

-- the limit that an object of a type sets under a key, in whole seconds, rounded up
abbrev pub limit_at : ObjectType → Attribute → List ℕ → Data → Option ℕ
limit_at t a key d = limit_in key (set_value t a d)

-- Time ranges.

abbrev pub spans_or_none : Result (List DaySpan) (List ℕ) → List DaySpan
spans_or_none (Ok spans) = spans
spans_or_none (Err key) = []

abbrev pub spans_in : Option Data → List DaySpan
spans_in None = []
spans_in (Some d) = spans_or_none (ranges_in d)

-- the spans that an object of a type sets
abbrev pub spans_at : ObjectType → Attribute → Data → List DaySpan
spans_at t a d = spans_in (set_value t a d)
