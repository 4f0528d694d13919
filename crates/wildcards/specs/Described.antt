-- Which characters the parts of a pattern describe, by cutting them into a piece for each part.
use Rattle.std.specs.Prelude.{◌≡◌, ◌⊎◌, ℕ, List, [], ◌∷◌, ◌++◌, ◌==◌, true, false}
use Rattle.wildcards.specs.Wildcards.{stands_for}

-- any number of characters, and more behind them
pub record AnyFront (More : List ℕ → Type 0) (text : List ℕ) : Type 0 where
  pub front : List ℕ
  pub rest : List ℕ
  pub text_is : text ≡ front ++ rest
  pub more : More rest

-- one character for which the part stands, and more behind it
pub record OneFront (p : ℕ) (More : List ℕ → Type 0) (text : List ℕ) : Type 0 where
  pub character : ℕ
  pub rest : List ℕ
  pub text_is : text ≡ character ∷ rest
  pub stands : stands_for p character ≡ true
  pub more : More rest

-- `*` (byte 42) stands for any number of characters, each other part for one
abbrev pub PartThen : ℕ → (List ℕ → Type 0) → List ℕ → Type 0
PartThen p More text = (((p == 42) ≡ true) × AnyFront More text) ⊎ (((p == 42) ≡ false) × OneFront p More text)

abbrev pub Describes : List ℕ → List ℕ → Type 0
Describes [] text = text ≡ []
Describes (p ∷ ps) text = PartThen p (Describes ps) text
