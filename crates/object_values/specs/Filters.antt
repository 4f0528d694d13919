-- Filters of states and of kinds of notifications: the sets that arrays of names stand for.
use Rattle.std.specs.Prelude.{ℕ, ◌||◌, Bool, true, false, List, Option, Some, None, option_map, codes}
use Rattle.std.specs.Str.{bytes_eq}
use Rattle.site_base.specs.Data.{Data, null, boolean, number, string, list, dict, Items, no_items, item}
use Rattle.site_model.specs.declared.kind_set.KindSet.{KindSet}
use Rattle.site_model.specs.declared.note_kind.NoteKind.{NoteKind}
use Rattle.site_model.specs.declared.note_kind.NoteKind.TheVariants as kind
use Rattle.site_model.specs.declared.state.State.{State}
use Rattle.site_model.specs.declared.state.State.TheVariants as state
use Rattle.site_model.specs.declared.state_set.StateSet.{StateSet}
use Rattle.object_types.specs.declared.attribute.Attribute.{Attribute}
use Rattle.object_types.specs.declared.object_type.ObjectType.{ObjectType}
use Rattle.object_types.specs.declared.value_kind.Unset.{Unset}
use Rattle.object_types.specs.declared.value_kind.Unset.TheVariants as unset
use Rattle.object_values.specs.Attributes.{unset_of}
use Rattle.object_values.specs.Values.{items_at}

-- how a configuration names a state
abbrev pub state_name : State → List ℕ
state_name state.Okay = codes "OK"
state_name state.Warning = codes "Warning"
state_name state.Critical = codes "Critical"
state_name state.Unknown = codes "Unknown"
state_name state.Up = codes "Up"
state_name state.Down = codes "Down"

-- how it names a kind of notifications
abbrev pub kind_name : NoteKind → List ℕ
kind_name kind.Problem = codes "Problem"
kind_name kind.Recovery = codes "Recovery"
kind_name kind.Acknowledgement = codes "Acknowledgement"
kind_name kind.Custom = codes "Custom"
kind_name kind.DowntimeStart = codes "DowntimeStart"
kind_name kind.DowntimeEnd = codes "DowntimeEnd"
kind_name kind.DowntimeRemoved = codes "DowntimeRemoved"
kind_name kind.FlappingStart = codes "FlappingStart"
kind_name kind.FlappingEnd = codes "FlappingEnd"

-- the states of which something holds, as a set
abbrev pub set_of_states : (State → Bool) → StateSet
set_of_states holds = record {
  okay = holds state.Okay;
  warning = holds state.Warning;
  critical = holds state.Critical;
  unknown = holds state.Unknown;
  up = holds state.Up;
  down = holds state.Down;
}

-- the kinds of which something holds
abbrev pub set_of_kinds : (NoteKind → Bool) → KindSet
set_of_kinds holds = record {
  problem = holds kind.Problem;
  recovery = holds kind.Recovery;
  acknowledgement = holds kind.Acknowledgement;
  custom = holds kind.Custom;
  downtime_start = holds kind.DowntimeStart;
  downtime_end = holds kind.DowntimeEnd;
  downtime_removed = holds kind.DowntimeRemoved;
  flapping_start = holds kind.FlappingStart;
  flapping_end = holds kind.FlappingEnd;
}

abbrev pub is_text : List ℕ → Data → Bool
is_text name (string text) = bytes_eq text name
is_text name null = false
is_text name (boolean b) = false
is_text name (number n) = false
is_text name (list items) = false
is_text name (dict pairs) = false

-- a string is one of the elements of an array
abbrev pub has_text : List ℕ → Items → Bool
has_text name no_items = false
has_text name (item d ds) = is_text name d || has_text name ds

abbrev pub names_state : Items → State → Bool
names_state items s = has_text (state_name s) items

abbrev pub names_kind : Items → NoteKind → Bool
names_kind items k = has_text (kind_name k) items

-- the states that an object of a type names; none if it names none, which is all
abbrev pub states_at : ObjectType → Attribute → Data → Option StateSet
states_at t a d = option_map (λ items. set_of_states (names_state items)) (items_at t a d)

-- the kinds that it names
abbrev pub kinds_at : ObjectType → Attribute → Data → Option KindSet
kinds_at t a d = option_map (λ items. set_of_kinds (names_kind items)) (items_at t a d)

-- Where no states are named that let a child through.

-- the states in which a parent is well: a service that is OK or has a warning, a host that is up
abbrev pub is_good : Bool → State → Bool
is_good true state.Okay = true
is_good true state.Warning = true
is_good true state.Critical = false
is_good true state.Unknown = false
is_good true state.Up = false
is_good true state.Down = false
is_good false state.Okay = false
is_good false state.Warning = false
is_good false state.Critical = false
is_good false state.Unknown = false
is_good false state.Up = true
is_good false state.Down = false

abbrev pub unset_states : Bool → Unset → StateSet
unset_states of_service unset.GoodStates = set_of_states (is_good of_service)
unset_states of_service unset.Missing = set_of_states (λ s. false)
unset_states of_service unset.Nothing = set_of_states (λ s. false)
unset_states of_service (unset.Bool b) = set_of_states (λ s. false)
unset_states of_service (unset.Number n) = set_of_states (λ s. false)

abbrev pub states_or : Option StateSet → StateSet → StateSet
states_or None other = other
states_or (Some set) other = set

-- the states that an object of a type lets through, of a parent that is a service or a host
abbrev pub states_through : ObjectType → Attribute → Bool → Data → StateSet
states_through t a of_service d = states_or (states_at t a d) (unset_states of_service (unset_of t a))
