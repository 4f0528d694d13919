-- Which downtimes recur on a site.
use Rattle.std.specs.Prelude.{ℕ, min, Bool, true, false, not, ◌&&◌, ◌==◌, List, [], Option, Some, None, codes, unwrap_or, if◌then◌else◌}
use Rattle.std.specs.List.{flat_map, list_any}
use Rattle.std.specs.Option.{option_and_then, option_map, option_to_list}
use Rattle.std.specs.Str.{bytes_eq}
use Rattle.site_base.specs.Data.{Data, null, boolean, number, string, list, dict}
use Rattle.site_model.specs.Names.{place_of}
use Rattle.site_model.specs.PlainSite.{PlainObject, PlainSite}
use Rattle.object_types.specs.declared.attribute.Attribute.TheVariants as attribute
use Rattle.object_types.specs.declared.object_type.ObjectType.TheVariants as object
use Rattle.object_values.specs.Attributes.{value_under}
use Rattle.object_values.specs.Values.{seconds_at, spans_at, string_of, text_at}
use Rattle.down_recur.specs.declared.recurring.Recurring.{Recurring}

-- the value under a key, if there is a dictionary
abbrev pub value_in : List ℕ → Data → Option Data
value_in key null = None
value_in key (boolean b) = None
value_in key (number n) = None
value_in key (string text) = None
value_in key (list items) = None
value_in key (dict pairs) = value_under key pairs

-- the name of the checkable by whose downtimes an object's are triggered, which is the string `vars.triggered_by`
abbrev pub trigger_name : Data → Option (List ℕ)
trigger_name tree = option_and_then string_of (option_and_then (value_in (codes "triggered_by")) (value_in (codes "vars") tree))

abbrev pub is_false : Data → Bool
is_false (boolean b) = not b
is_false null = false
is_false (number n) = false
is_false (string text) = false
is_false (list items) = false
is_false (dict pairs) = false

abbrev pub is_some_false : Option Data → Bool
is_some_false None = false
is_some_false (Some d) = is_false d

-- its downtimes are flexible where `fixed` is false
abbrev pub is_flexible : Data → Bool
is_flexible tree = is_some_false (value_in (codes "fixed") tree)

-- a field of a command line ends at a semicolon, so one with a semicolon in it names nothing
abbrev pub has_semicolon : List ℕ → Bool
has_semicolon text = list_any (λ b. b == 59) text

abbrev pub is_nameable : Option (List ℕ) → Bool
is_nameable None = true
is_nameable (Some text) = not (has_semicolon text)

abbrev pub text_in : Option (List ℕ) → List ℕ
text_in text = unwrap_or text []

-- what recurs of an object with these attributes, triggered by the downtimes of the checkable of an index, or by none; nothing was given yet
abbrev pub made : Data → Option ℕ → Recurring
made tree trigger = record {
  host = text_in (text_at object.ScheduledDowntime attribute.HostName tree);
  service = text_at object.ScheduledDowntime attribute.ServiceName tree;
  author = text_in (text_at object.ScheduledDowntime attribute.Author tree);
  comment = text_in (text_at object.ScheduledDowntime attribute.Comment tree);
  spans = spans_at object.ScheduledDowntime attribute.Ranges tree;
  flexible = is_flexible tree;
  duration = min (seconds_at object.ScheduledDowntime attribute.Duration tree) 99_999_999_999;
  trigger = trigger;
  done = 0;
}

-- nothing if no checkable has the name of the trigger
abbrev pub made_by : List (List ℕ) → Data → Option (List ℕ) → Option Recurring
made_by names tree None = Some (made tree None)
made_by names tree (Some name) = option_map (λ k. made tree (Some k)) (place_of name names)

-- nothing if a line can't name its host or service
abbrev pub made_of : List (List ℕ) → Data → Option Recurring
made_of names tree =
    if is_nameable (text_at object.ScheduledDowntime attribute.HostName tree) && is_nameable (text_at object.ScheduledDowntime attribute.ServiceName tree)
    then made_by names tree (trigger_name tree)
    else None

-- of an object among checkables of these names: only of a ScheduledDowntime
abbrev pub recurring_of : List (List ℕ) → PlainObject → Option Recurring
recurring_of names o = if bytes_eq o.kind (codes "ScheduledDowntime") then made_of names o.tree else None

-- what recurs on a site, in committed order
unfoldable pub recurrings : PlainSite → List Recurring
recurrings s = flat_map (λ o. option_to_list (recurring_of s.names o)) s.objects
