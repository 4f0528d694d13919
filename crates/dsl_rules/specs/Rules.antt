-- What a rule derives: a relation of the tokens from its first one on, the value, and the tokens behind it.
use Rattle.std.specs.Prelude.{◌≡◌, ℕ, List, [], ◌∷◌, Bool, true, false, ◌⊎◌}
use Rattle.dsl_rules.specs.Alphabet.{Sort, Alphabet, at, over, and}

abbrev pub Rule : Type 0 → Type 0 → Type 1
Rule T A = List T → A → List T → Type 0

-- one token of one of these sorts
abbrev pub One : {T A : Type 0} → Alphabet T → List Sort → (T → A) → Rule T A
One al cs f [] a rest = ⊥
One al cs f (t ∷ ts) a rest = (at al cs (t ∷ ts) ≡ true) × (f t ≡ a) × (ts ≡ rest)

-- no token
abbrev pub Empty : {T A : Type 0} → A → Rule T A
Empty v ts a rest = (v ≡ a) × (ts ≡ rest)

-- one after the other, and what is made of their values
abbrev pub Both : {T A B C : Type 0} → (A → B → C) → Rule T A → Rule T B → Rule T C
Both {T} {A} {B} f R S ts c rest = (mid : List T) × (a : A) × (b : B) × R ts a mid × S mid b rest × (f a b ≡ c)

-- what is made of the value
abbrev pub Made : {T A B : Type 0} → (A → B) → Rule T A → Rule T B
Made {T} {A} f R ts b rest = (a : A) × R ts a rest × (f a ≡ b)

-- one or the other
abbrev pub Either : {T A : Type 0} → Rule T A → Rule T A → Rule T A
Either R S ts a rest = R ts a rest ⊎ S ts a rest

-- what is made of the value and the first token
abbrev pub Here : {T A B : Type 0} → (T → A → B) → Rule T A → Rule T B
Here f R [] b rest = ⊥
Here {T} {A} f R (t ∷ ts) b rest = (a : A) × R (t ∷ ts) a rest × (f t a ≡ b)

-- a turn may be taken here
abbrev pub may : {T : Type 0} → Alphabet T → List Sort → (Sort → Bool) → List T → Bool
may al cs more [] = false
may al cs more (t ∷ ts) = and (at al cs (t ∷ ts)) (more (al.sort_of t))

-- further turns, behind newlines if `look` is true, each begun by a token that `more` allows where c stands; c is what
-- the turns before have made
abbrev pub Turns : {T A C : Type 0} → Alphabet T → Bool → List Sort → (C → Sort → Bool) → (C → A → C) → Rule T A → List A → C → Rule T C
Turns al look cs more step R [] c ts d rest = (c ≡ d) × (ts ≡ rest)
Turns {T} al look cs more step R (x ∷ xs) c ts d rest =
    (mid : List T) × (may al cs (more c) (over al look ts) ≡ true) × R (over al look ts) x mid × Turns al look cs more step R xs (step c x) mid d rest

-- one thing, and then turns
abbrev pub Loop : {T A C : Type 0} → Alphabet T → Bool → List Sort → (C → Sort → Bool) → (C → A → C) → Rule T C → Rule T A → Rule T C
Loop {T} {A} {C} al look cs more step S R ts d rest =
    (mid : List T) × (c : C) × (xs : List A) × S ts c mid × Turns al look cs more step R xs c mid d rest

-- what doesn't begin with one of these
abbrev pub Not : {T A : Type 0} → Alphabet T → List Sort → Rule T A → Rule T A
Not al cs R ts a rest = (at al cs ts ≡ false) × R ts a rest
