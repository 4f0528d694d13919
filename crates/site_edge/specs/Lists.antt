-- Lists that are told, or aren't, and what a call adds to them or takes off.
use Rattle.std.specs.Prelude.{◌≡◌, List, [], ◌∷◌, ◌++◌, Option, Some, None, MatchOption}

-- all of `more` was added at the end; what isn't told stays so
abbrev pub Adds : {A : Type 0} → List A → Option (List A) → Option (List A) → Type 0
Adds more old new = MatchOption old (new ≡ None) (λ all. new ≡ Some (all ++ more))

-- some prefix of `more` was added at the end
abbrev pub AddsPart : {A : Type 0} → List A → Option (List A) → Option (List A) → Type 0
AddsPart {A} more old new =
    MatchOption old (new ≡ None) (λ all. (part : List A) × (rest : List A) × (more ≡ part ++ rest) × (new ≡ Some (all ++ part)))

-- the first of a list and what is left of it, or that there is none
abbrev pub IsFirst : {A : Type 0} → List A → Option (List A) → Option A → Type 0
IsFirst [] new found = (found ≡ None) × (new ≡ Some [])
IsFirst (x ∷ xs) new found = (found ≡ Some x) × (new ≡ Some xs)

-- the first was taken off, or there was none; what isn't told stays so
abbrev pub TakesFirst : {A : Type 0} → Option (List A) → Option (List A) → Option A → Type 0
TakesFirst old new found = MatchOption old (new ≡ None) (λ all. IsFirst all new found)
