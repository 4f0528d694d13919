-- What is left of a value while its arrays are gone through.
use Rattle.std.specs.Prelude.{ℕ, suc, ◌+◌, ◌≡◌, List, [], ◌∷◌, Bool, true, false, codes, Result, Ok, Err}
use Rattle.site_base.specs.Data.{Data, null, boolean, number, string, list, dict, Items, no_items, item}
use Rattle.site_base.specs.View.{items_view}
use Rattle.command_macros.specs.Made.{Made, made, missing, behind, followed}
use Rattle.command_macros.specs.Values.{value_made, items_made, more_made}
use Rattle.command_macros.specs.declared.stop.Stop.{Stop}
use Rattle.command_macros.specs.declared.stop.Stop.TheVariants as stop
use Rattle.command_macros.specs.declared.texts.Open.{Open}

-- before each item but the first
abbrev pub semicolon_if : Bool → List ℕ
semicolon_if false = []
semicolon_if true = codes ";"

abbrev pub left_made : (List ℕ → Made) → Made → Bool → Items → Made
left_made text nothing false ds = items_made text nothing ds
left_made text nothing true ds = more_made text nothing ds

abbrev pub open_made : (List ℕ → Made) → Made → Open → Made
open_made text nothing o = left_made text nothing o.later (items_view o.items.now)

-- the innermost array stands last, and goes on first
abbrev pub opened_made : (List ℕ → Made) → Made → List Open → Made
opened_made text nothing [] = made []
opened_made text nothing (o ∷ os) = followed (opened_made text nothing os) (open_made text nothing o)

-- how many steps are left: one for each item, and one for the end of each array
abbrev mutual
  pub weight : Data → ℕ
  weight null = 0
  weight (boolean b) = 0
  weight (number n) = 0
  weight (string t) = 0
  weight (list ds) = items_weight ds
  weight (dict ps) = 0

  pub items_weight : Items → ℕ
  items_weight no_items = 1
  items_weight (item d ds) = suc (weight d + items_weight ds)

abbrev pub open_weight : Open → ℕ
open_weight o = items_weight (items_view o.items.now)

abbrev pub opened_weight : List Open → ℕ
opened_weight [] = 0
opened_weight (o ∷ os) = open_weight o + opened_weight os

-- what is left behind the text now is what was left behind the text before, unless a macro is missing or memory ran out
abbrev pub Continues : {A : Type 0} → List ℕ → Made → List ℕ → Made → Result A Stop → Type 0
Continues old all new left (Ok x) = behind new left ≡ behind old all
Continues old all new left (Err (stop.Missing name)) = all ≡ missing name.now
Continues old all new left (Err stop.Memory) = Unit {0}
