-- The words of an argument.
use Rattle.std.specs.Prelude.{ℕ, List, [], ◌∷◌, ◌++◌, Bool, true, false, not, Option, Some, None, codes, if◌then◌else◌}
use Rattle.site_base.specs.Data.{Data, null, boolean, number, string, list, dict, Items, no_items, item, Pairs}
use Rattle.site_base.specs.Numbers.{number_text}
use Rattle.command_macros.specs.Lookups.{pairs_in, value_at}
use Rattle.command_macros.specs.Made.{Made, made, missing}
use Rattle.command_macros.specs.Truth.{is_kept}
use Rattle.command_macros.specs.Values.{value_made, boolean_text}
use Rattle.command_macros.specs.declared.values.Values.{Values}
use Rattle.command_macros.specs.declared.values.Values.TheVariants as values

-- words, or a macro that is missing
pub data Words : Type 0 where
  words : List (List ℕ) → Words
  lacks : List ℕ → Words

abbrev pub in_front : List (List ℕ) → Words → Words
in_front ws (words more) = words (ws ++ more)
in_front ws (lacks name) = lacks name

-- words and then others
abbrev pub joined : Words → Words → Words
joined (words ws) more = in_front ws more
joined (lacks name) more = lacks name

abbrev pub as_word : Made → Words
as_word (made text) = words (text ∷ [])
as_word (missing name) = lacks name

-- a word for each item of an array that the command sets
abbrev pub item_words : (List ℕ → Made) → Items → Words
item_words text no_items = words []
item_words text (item d ds) = joined (as_word (value_made text (made []) d)) (item_words text ds)

abbrev pub is_boolean : Bool → Bool → Bool
is_boolean true b = b
is_boolean false b = not b

-- what is set to exactly this
abbrev pub is_set_to : Bool → Option Data → Bool
is_set_to wanted None = false
is_set_to wanted (Some null) = false
is_set_to wanted (Some (boolean b)) = is_boolean wanted b
is_set_to wanted (Some (number n)) = false
is_set_to wanted (Some (string t)) = false
is_set_to wanted (Some (list ds)) = false
is_set_to wanted (Some (dict ps)) = false

-- the value of an argument: one that is no dictionary is its own
abbrev pub argument_value : Data → Option Data
argument_value null = Some null
argument_value (boolean b) = Some (boolean b)
argument_value (number n) = Some (number n)
argument_value (string t) = Some (string t)
argument_value (list ds) = Some (list ds)
argument_value (dict ps) = value_at (codes "value") ps

-- what a value comes to: none, one, one for each item of an array, or a macro that is missing
pub data Found : Type 0 where
  found : Values → Found
  lacking : List ℕ → Found

abbrev pub one_found : Made → Found
one_found (made text) = found (values.One text)
one_found (missing name) = lacking name

abbrev pub each_found : Words → Found
each_found (words ws) = found (values.Each ws)
each_found (lacks name) = lacking name

abbrev pub values_found : (List ℕ → Made) → Option Data → Found
values_found text None = found values.KeyAlone
values_found text (Some null) = found values.KeyAlone
values_found text (Some (boolean b)) = one_found (value_made text (made []) (boolean b))
values_found text (Some (number n)) = one_found (value_made text (made []) (number n))
values_found text (Some (string t)) = one_found (value_made text (made []) (string t))
values_found text (Some (list ds)) = each_found (item_words text ds)
values_found text (Some (dict ps)) = found values.KeyAlone

-- the key that is given: the argument's own, or what `key` sets as a text
abbrev pub key_given : List ℕ → Option Data → List ℕ
key_given own None = own
key_given own (Some null) = own
key_given own (Some (boolean b)) = boolean_text b
key_given own (Some (number n)) = number_text n
key_given own (Some (string t)) = t
key_given own (Some (list ds)) = own
key_given own (Some (dict ps)) = own

-- the key as a word, or none with `skip_key`
abbrev pub keys_of : List ℕ → Pairs → List (List ℕ)
keys_of own ps = if is_set_to true (value_at (codes "skip_key") ps) then [] else key_given own (value_at (codes "key") ps) ∷ []

-- the key before each value
abbrev pub repeated : List (List ℕ) → List (List ℕ) → List (List ℕ)
repeated keys [] = []
repeated keys (text ∷ ts) = keys ++ text ∷ repeated keys ts

-- the words of key and values, where the key is repeated before each of several, or given once
abbrev pub written : List (List ℕ) → Bool → Values → List (List ℕ)
written keys repeats values.KeyAlone = keys
written keys repeats (values.One text) = keys ++ text ∷ []
written keys true (values.Each ts) = repeated keys ts
written keys false (values.Each ts) = keys ++ ts

-- a macro that is missing drops the argument, unless it is required
abbrev pub found_words : List ℕ → Pairs → Found → Words
found_words own ps (found v) = words (written (keys_of own ps) (not (is_set_to false (value_at (codes "repeat_key") ps))) v)
found_words own ps (lacking name) = if is_set_to true (value_at (codes "required") ps) then lacks name else words []

-- the words of an argument with this key, which `set_if` may drop
abbrev pub argument_words : (List ℕ → Made) → List ℕ → Data → Words
argument_words text own d =
    if is_kept text (value_at (codes "set_if") (pairs_in d)) then found_words own (pairs_in d) (values_found text (argument_value d))
    else words []
