-- Wildcards: `*` is any number of characters, `?` is one, and everything else is itself.
use Rattle.std.specs.Prelude.{◌≡◌, ℕ, List, [], ◌∷◌, ◌++◌, ◌==◌, ◌||◌, length, Bool, true, false, if◌then◌else◌}
use Rattle.std.specs.Str.{chars}
use Rattle.std.specs.List.{AllByRecursion}
use Rattle.wildcards.specs.declared.matching.Walk.{Walk}
use Rattle.wildcards.specs.declared.matching.Walk.TheVariants as walk

-- `?` stands for every character, and another part for itself
abbrev pub stands_for : ℕ → ℕ → Bool
stands_for p c = (p == 63) || (p == c)

-- a character stands first that the part stands for, and what follows it passes
abbrev pub one_then : ℕ → (List ℕ → Bool) → List ℕ → Bool
one_then p more [] = false
one_then p more (c ∷ cs) = if stands_for p c then more cs else false

-- some rest passes, the whole and the empty one among them
abbrev pub any_then : (List ℕ → Bool) → List ℕ → Bool
any_then more [] = more []
any_then more (c ∷ cs) = if more (c ∷ cs) then true else any_then more cs

-- a part describes the front of some characters, and what follows passes
abbrev pub part_then : ℕ → (List ℕ → Bool) → List ℕ → Bool
part_then p more text = if p == 42 then any_then more text else one_then p more text

abbrev pub is_nothing : List ℕ → Bool
is_nothing [] = true
is_nothing (c ∷ cs) = false

-- the parts of a pattern describe these characters
abbrev pub describes : List ℕ → List ℕ → Bool
describes [] text = is_nothing text
describes (p ∷ ps) text = part_then p (describes ps) text

-- a text is one that the pattern describes
abbrev pub matches : List ℕ → List ℕ → Bool
matches pattern text = describes (chars pattern) (chars text)

-- as many characters are passed as parts, none of which is a `*`
pub record IsAlong (pattern text parts rest : List ℕ) : Type 0 where
  pub passed : List ℕ
  pub front : List ℕ
  pub parts_are : pattern ≡ passed ++ parts
  pub rest_is : text ≡ front ++ rest
  pub as_many : length passed ≡ length front
  pub single : AllByRecursion (λ p. (p == 42) ≡ false) passed
  pub same : describes pattern text ≡ describes parts rest

-- how far a pattern goes along a text before its first `*`
abbrev pub Walked : List ℕ → List ℕ → Walk → Type 0
Walked pattern text walk.Passed = describes pattern text ≡ true
Walked pattern text walk.Failed = describes pattern text ≡ false
Walked pattern text (walk.Star ps cs) = IsAlong pattern text (42 ∷ chars ps.now) (chars cs.now)
