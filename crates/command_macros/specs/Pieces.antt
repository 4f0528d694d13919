-- What a text is made of: texts that stand for themselves, and macros.
use Rattle.std.specs.Prelude.{ℕ, List, [], ◌∷◌, ◌++◌, ◌==◌, Option, Some, None, if◌then◌else◌}

pub data Piece : Type 0 where
  plain : List ℕ → Piece
  macro : List ℕ → Piece

-- what stands between two dollar signs is the name of a macro; two with nothing between them are a dollar sign
abbrev pub between : List ℕ → Piece
between [] = plain (36 ∷ [])
between (b ∷ bs) = macro (b ∷ bs)

-- the pieces from here on, and behind a first dollar sign what stands since then; one without a second stands for itself
abbrev pub pieces_from : List ℕ → Option (List ℕ) → List Piece
pieces_from [] None = []
pieces_from [] (Some name) = plain (36 ∷ name) ∷ []
pieces_from (b ∷ bs) None = if b == 36 then pieces_from bs (Some []) else plain (b ∷ []) ∷ pieces_from bs None
pieces_from (b ∷ bs) (Some name) = if b == 36 then between name ∷ pieces_from bs None else pieces_from bs (Some (name ++ b ∷ []))

abbrev pub pieces : List ℕ → List Piece
pieces text = pieces_from text None
