-- What is made of values.
use Rattle.std.specs.Prelude.{ℕ, List, [], Bool, true, false, Option, Some, None, codes}
use Rattle.site_base.specs.Data.{Data, null, boolean, number, string, list, dict, Items, no_items, item}
use Rattle.site_base.specs.Numbers.{number_text}
use Rattle.command_macros.specs.Made.{Made, made, missing, behind, followed}

abbrev pub boolean_text : Bool → List ℕ
boolean_text true = codes "true"
boolean_text false = codes "false"

-- null and dictionaries are missing in a macro's value, under the macro's name; in what the command itself sets they are empty
abbrev pub nothing_of : Option (List ℕ) → Made
nothing_of None = made []
nothing_of (Some name) = missing name

-- of a value, where `text` is what is made of texts and `nothing` of null and dictionaries; arrays are joined by `;`
abbrev mutual
  pub value_made : (List ℕ → Made) → Made → Data → Made
  value_made text nothing null = nothing
  value_made text nothing (boolean b) = made (boolean_text b)
  value_made text nothing (number n) = made (number_text n)
  value_made text nothing (string t) = text t
  value_made text nothing (list ds) = items_made text nothing ds
  value_made text nothing (dict ps) = nothing

  pub items_made : (List ℕ → Made) → Made → Items → Made
  items_made text nothing no_items = made []
  items_made text nothing (item d ds) = followed (value_made text nothing d) (more_made text nothing ds)

  -- each behind a semicolon
  pub more_made : (List ℕ → Made) → Made → Items → Made
  more_made text nothing no_items = made []
  more_made text nothing (item d ds) = followed (behind (codes ";") (value_made text nothing d)) (more_made text nothing ds)
