-- Command lines, in the format's own words.
use Rattle.std.specs.Prelude.{ℕ, ◌≡◌, ◌≢◌, ◌-◌, true, false, List, ◌∷◌, codes, length, drop, Option, Some, None}
use Rattle.std.specs.List.{slice_get}
use Rattle.std.specs.Str.{IsUtf8}
use Rattle.site_model.specs.PlainSite.{PlainSite}
use Rattle.site_model.specs.declared.event.Event.{Event}
use Rattle.event_text.specs.Checkables.{IsNamed}
use Rattle.event_text.specs.Commands.{command_name}
use Rattle.event_text.specs.Cuts.{IsCut, IsUncut}
use Rattle.event_text.specs.Fields.{semicolon, AreFields, field, service_in}
use Rattle.event_text.specs.Kinds.{kind_of, limits_of, names_of, count_of, ends_in_text, event_of, has_span, is_open_to}
use Rattle.event_text.specs.Numbers.{IsNumber, AreNumbers}
use Rattle.event_text.specs.declared.command.Command.{Command}
use Rattle.event_text.specs.declared.line_fault.LineFault.{LineFault}
use Rattle.event_text.specs.declared.line_fault.LineFault.TheVariants as fault

-- what a line tells: an event of the checkable at a place, or a fault
pub data Answer : Type 0 where
  told : ℕ → Event → Answer
  faulty : LineFault → Answer

-- what stands behind the moment
abbrev pub bracket : List ℕ
bracket = codes "] "

-- a bracket, a moment or whatever stands in its place, up to the first `] `, and a command
pub record IsHead (line moment command : List ℕ) : Type 0 where
  pub inner : List ℕ
  pub opened : line ≡ 91 ∷ inner
  pub closed : IsCut bracket inner moment command

-- the name of a command goes to the first semicolon, and fields follow it; or to the end, and there are none
abbrev pub HasName : List ℕ → List ℕ → Option (List ℕ) → Type 0
HasName command name None = (command ≡ name) × IsUncut semicolon command
HasName command name (Some fields) = IsCut semicolon command name fields

-- a text with a moment, and then a command of this name with these fields
pub record IsCommand (line name : List ℕ) (fields : Option (List ℕ)) : Type 0 where
  pub moment : List ℕ
  pub command : List ℕ
  pub text : IsUtf8 line
  pub head : IsHead line moment command
  pub in_time : IsNumber 11 moment
  pub has_name : HasName command name fields

-- as many fields as the command has
abbrev pub HasFields : Command → Option (List ℕ) → List (List ℕ) → Type 0
HasFields c None fs = ⊥
HasFields c (Some text) fs = AreFields (ends_in_text c) fs text × (length fs ≡ count_of c)

-- a command with as many fields as it has
pub record IsAsked (line : List ℕ) (c : Command) (fs : List (List ℕ)) : Type 0 where
  pub fields : Option (List ℕ)
  pub is : IsCommand line (command_name c) fields
  pub parts : HasFields c fields fs

-- which checkable it names
abbrev pub IsOf : PlainSite → Command → List (List ℕ) → ℕ → Type 0
IsOf s c fs k = IsNamed s (field fs 0) (service_in c fs) k

-- and with which numbers
abbrev pub HasNumbers : Command → List (List ℕ) → List ℕ → Type 0
HasNumbers c fs ns = AreNumbers (limits_of (kind_of c)) (drop (names_of c) fs) ns

-- a command that can be followed
pub record HasEvent (s : PlainSite) (line : List ℕ) (k : ℕ) (e : Event) : Type 0 where
  pub command : Command
  pub fields : List (List ℕ)
  pub numbers : List ℕ
  pub asked : IsAsked line command fields
  pub named : IsOf s command fields k
  pub values : HasNumbers command fields numbers
  pub span : has_span (kind_of command) numbers ≡ true
  pub taken : is_open_to (kind_of command) (slice_get s.checkables k) ≡ true
  pub event : e ≡ event_of (kind_of command) numbers (field fields (count_of command - 1))

-- each fault, where nothing that stands before it in this order is one
abbrev pub HasFault : PlainSite → List ℕ → LineFault → Type 0
HasFault s line fault.NotText = IsUtf8 line → ⊥
HasFault s line fault.NoBracket = IsUtf8 line × ((moment command : List ℕ) → IsHead line moment command → ⊥)
HasFault s line fault.BadMoment =
    IsUtf8 line × (moment command : List ℕ) × IsHead line moment command × (IsNumber 11 moment → ⊥)
HasFault s line fault.UnknownCommand =
    (name : List ℕ) × (fields : Option (List ℕ)) × IsCommand line name fields × ((c : Command) → name ≢ command_name c)
HasFault s line fault.FieldCount =
    (c : Command) × (fields : Option (List ℕ)) × IsCommand line (command_name c) fields × ((fs : List (List ℕ)) → HasFields c fields fs → ⊥)
HasFault s line fault.UnknownCheckable =
    (c : Command) × (fs : List (List ℕ)) × IsAsked line c fs × ((k : ℕ) → IsOf s c fs k → ⊥)
HasFault s line fault.BadNumber =
    (c : Command) × (fs : List (List ℕ)) × (k : ℕ) × IsAsked line c fs × IsOf s c fs k × ((ns : List ℕ) → HasNumbers c fs ns → ⊥)
HasFault s line fault.BadSpan =
    (c : Command) × (fs : List (List ℕ)) × (k : ℕ) × (ns : List ℕ) × IsAsked line c fs × IsOf s c fs k × HasNumbers c fs ns
    × (has_span (kind_of c) ns ≡ false)
HasFault s line fault.PassiveOff =
    (c : Command) × (fs : List (List ℕ)) × (k : ℕ) × (ns : List ℕ) × IsAsked line c fs × IsOf s c fs k × HasNumbers c fs ns
    × (has_span (kind_of c) ns ≡ true) × (is_open_to (kind_of c) (slice_get s.checkables k) ≡ false)

-- what a line tells over a site
abbrev pub Has : PlainSite → List ℕ → Answer → Type 0
Has s line (told k e) = HasEvent s line k e
Has s line (faulty f) = HasFault s line f
