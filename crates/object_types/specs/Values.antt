-- Which values are of a kind, and which count as not set.
use Rattle.std.specs.Prelude.{ℕ, ℤ, pos, negsuc, ◌*◌, ◌%◌, ◌==◌, ◌&&◌, ◌||◌, nat_le, Bool, true, false, List, length, codes, if◌then◌else◌}
use Rattle.std.specs.Str.{bytes_eq}
use Rattle.site_base.specs.Data.{Data, null, boolean, number, string, list, dict, Items, no_items, item, Pairs, no_pairs, pair}
use Rattle.object_types.specs.declared.value_kind.ValueKind.{ValueKind}
use Rattle.object_types.specs.declared.value_kind.ValueKind.TheVariants as kind
use Rattle.object_types.specs.declared.values.Element.{Element}
use Rattle.object_types.specs.declared.values.Element.TheVariants as element

-- Numbers, as whole numbers of thousandths.

-- a whole number from 1 to 1,000,000
abbrev pub is_count : ℤ → Bool
is_count (pos n) = nat_le 1_000 n && nat_le n (1_000_000 * 1_000) && n % 1_000 == 0
is_count (negsuc n) = false

-- above 0
abbrev pub is_positive : ℤ → Bool
is_positive (pos n) = nat_le 1 n
is_positive (negsuc n) = false

-- from 0
abbrev pub is_from_zero : ℤ → Bool
is_from_zero (pos n) = true
is_from_zero (negsuc n) = false

-- Names.

abbrev pub is_state_name : List ℕ → Bool
is_state_name name =
    bytes_eq name (codes "OK") || bytes_eq name (codes "Warning") || bytes_eq name (codes "Critical")
    || bytes_eq name (codes "Unknown") || bytes_eq name (codes "Up") || bytes_eq name (codes "Down")

-- the name of a kind of notifications
abbrev pub is_note_kind_name : List ℕ → Bool
is_note_kind_name name =
    bytes_eq name (codes "Problem") || bytes_eq name (codes "Recovery") || bytes_eq name (codes "Acknowledgement")
    || bytes_eq name (codes "Custom") || bytes_eq name (codes "DowntimeStart") || bytes_eq name (codes "DowntimeEnd")
    || bytes_eq name (codes "DowntimeRemoved") || bytes_eq name (codes "FlappingStart") || bytes_eq name (codes "FlappingEnd")

-- Values.

abbrev pub is_string : Data → Bool
is_string (string text) = true
is_string null = false
is_string (boolean b) = false
is_string (number n) = false
is_string (list items) = false
is_string (dict pairs) = false

abbrev pub is_boolean : Data → Bool
is_boolean (boolean b) = true
is_boolean null = false
is_boolean (number n) = false
is_boolean (string text) = false
is_boolean (list items) = false
is_boolean (dict pairs) = false

abbrev pub is_dict : Data → Bool
is_dict (dict pairs) = true
is_dict null = false
is_dict (boolean b) = false
is_dict (number n) = false
is_dict (string text) = false
is_dict (list items) = false

-- a number of which this holds
abbrev pub is_number : (ℤ → Bool) → Data → Bool
is_number holds (number n) = holds n
is_number holds null = false
is_number holds (boolean b) = false
is_number holds (string text) = false
is_number holds (list items) = false
is_number holds (dict pairs) = false

-- a string of which this holds
abbrev pub is_text : (List ℕ → Bool) → Data → Bool
is_text holds (string text) = holds text
is_text holds null = false
is_text holds (boolean b) = false
is_text holds (number n) = false
is_text holds (list items) = false
is_text holds (dict pairs) = false

-- what an element of an array has to be
abbrev pub is_element : Element → List ℕ → Bool
is_element element.Text text = true
is_element element.State text = is_state_name text
is_element element.NoteKind text = is_note_kind_name text

abbrev pub are_elements : Element → Items → Bool
are_elements e no_items = true
are_elements e (item d ds) = is_text (is_element e) d && are_elements e ds

-- an array of such elements
abbrev pub is_list : Element → Data → Bool
is_list e (list items) = are_elements e items
is_list e null = false
is_list e (boolean b) = false
is_list e (number n) = false
is_list e (string text) = false
is_list e (dict pairs) = false

-- a string or an array of strings
abbrev pub is_command : Data → Bool
is_command d = is_string d || is_list element.Text d

-- seconds from 0; null is none
abbrev pub is_limit : Data → Bool
is_limit null = true
is_limit (number n) = is_from_zero n
is_limit (boolean b) = false
is_limit (string text) = false
is_limit (list items) = false
is_limit (dict pairs) = false

-- the keys under which they stand
abbrev pub names_limit : List ℕ → Bool
names_limit key = bytes_eq key (codes "begin") || bytes_eq key (codes "end")

-- under other keys anything may stand
abbrev pub are_limits : Pairs → Bool
are_limits no_pairs = true
are_limits (pair key d more) = (if names_limit key then is_limit d else true) && are_limits more

abbrev pub is_times : Data → Bool
is_times (dict pairs) = are_limits pairs
is_times null = false
is_times (boolean b) = false
is_times (number n) = false
is_times (string text) = false
is_times (list items) = false

-- a value is of a kind. Of ranges this is only said of their being a dictionary.
abbrev pub fits : ValueKind → Data → Bool
fits kind.Text d = is_string d
fits kind.Bool d = is_boolean d
fits kind.Count d = is_number is_count d
fits kind.PositiveSeconds d = is_number is_positive d
fits kind.Seconds d = is_number is_from_zero d
fits kind.Dict d = is_dict d
fits kind.Command d = is_command d
fits kind.Times d = is_times d
fits kind.States d = is_list element.State d
fits kind.NoteKinds d = is_list element.NoteKind d
fits kind.Ranges d = is_dict d
fits (kind.Name type) d = is_string d
fits (kind.Service host) d = is_string d
fits (kind.Names type) d = is_list element.Text d

-- whether values of a kind name other objects
abbrev pub refers : ValueKind → Bool
refers (kind.Name type) = true
refers (kind.Service host) = true
refers (kind.Names type) = true
refers _ = false

-- a value counts as not set: null, and the empty string where values name other objects
abbrev pub is_unset : ValueKind → Data → Bool
is_unset k null = true
is_unset k (string text) = refers k && length text == 0
is_unset k (boolean b) = false
is_unset k (number n) = false
is_unset k (list items) = false
is_unset k (dict pairs) = false
