-- The fields of a command.
use Rattle.std.specs.Prelude.{ℕ, zero, suc, ◌≡◌, Bool, true, false, List, [], ◌∷◌, codes, slice_index_or, Option, Some, None, if◌then◌else◌}
use Rattle.std.specs.Option.{option_map}
use Rattle.event_text.specs.Cuts.{Cut, cut, uncut, cut_at, IsCut, IsUncut}
use Rattle.event_text.specs.Kinds.{names_service}
use Rattle.event_text.specs.declared.command.Command.{Command}

-- what ends each field but the last
abbrev pub semicolon : List ℕ
semicolon = codes ";"

-- the last field has no semicolon in it, unless it is a text, which takes the rest
abbrev pub IsLast : Bool → List ℕ → List ℕ → Type 0
IsLast true f text = text ≡ f
IsLast false f text = (text ≡ f) × IsUncut semicolon text

-- each other field goes to the first semicolon
abbrev pub AreFields : Bool → List (List ℕ) → List ℕ → Type 0
AreFields ends_in_text [] text = ⊥
AreFields ends_in_text (f ∷ []) text = IsLast ends_in_text f text
AreFields ends_in_text (f ∷ g ∷ fs) text = (rest : List ℕ) × IsCut semicolon text f rest × AreFields ends_in_text (g ∷ fs) rest

abbrev pub field : List (List ℕ) → ℕ → List ℕ
field fs i = slice_index_or fs i []

-- the host stands first, and then the service if there is one
abbrev pub service_in : Command → List (List ℕ) → Option (List ℕ)
service_in c fs = if names_service c then Some (field fs 1) else None

-- The same, calculated.
abbrev pub only_field : List ℕ → Cut → Option (List (List ℕ))
only_field text uncut = Some (text ∷ [])
only_field text (cut front behind) = None

abbrev pub last_field : Bool → List ℕ → Option (List (List ℕ))
last_field true text = Some (text ∷ [])
last_field false text = only_field text (cut_at semicolon text)

abbrev pub first_field : (List ℕ → Option (List (List ℕ))) → Cut → Option (List (List ℕ))
first_field more uncut = None
first_field more (cut front behind) = option_map (λ fs. front ∷ fs) (more behind)

-- so many fields, where the text has no others
abbrev pub fields_in : Bool → ℕ → List ℕ → Option (List (List ℕ))
fields_in ends_in_text zero text = None
fields_in ends_in_text (suc zero) text = last_field ends_in_text text
fields_in ends_in_text (suc (suc n)) text = first_field (λ rest. fields_in ends_in_text (suc n) rest) (cut_at semicolon text)
