-- A history: a list of entries, from the first on.
use Rattle.std.specs.Prelude.{◌≡◌, ◌≢◌, ◌==◌, ℕ, List, [], ◌∷◌, ◌++◌, filter}

module _ {E : Type 0} where
  -- a beginning of a history
  pub record IsFront (xs ys : List E) : Type 0 where
    pub rest : List E
    pub whole : ys ≡ xs ++ rest

  -- the entries of one caller, in order
  abbrev pub entries_of : (E → ℕ) → ℕ → List E → List E
  entries_of caller_of k es = filter (λ e. caller_of e == k) es

-- the state that these entries make of a state, one after another
abbrev pub replay : {S E : Type 0} → (S → E → S) → S → List E → S
replay after s [] = s
replay after s (e ∷ es) = replay after (after s e) es

-- the history xs, and behind it entries of the caller k alone
pub record Continues {E : Type 0} (caller_of : E → ℕ) (k : ℕ) (xs ys : List E) : Type 0 where
  pub rest : List E
  pub whole : ys ≡ xs ++ rest
  pub own : entries_of caller_of k rest ≡ rest
  pub others : (j : ℕ) → j ≢ k → entries_of caller_of j rest ≡ []
