-- What is made of a text: a text without macros, or the first macro in it that is missing.
use Rattle.std.specs.Prelude.{ℕ, List, [], ◌∷◌, ◌++◌}
use Rattle.command_macros.specs.Pieces.{Piece, plain, macro}

pub data Made : Type 0 where
  made : List ℕ → Made
  missing : List ℕ → Made

-- with a text in front
abbrev pub behind : List ℕ → Made → Made
behind front (made text) = made (front ++ text)
behind front (missing name) = missing name

-- one and then another
abbrev pub followed : Made → Made → Made
followed (made text) next = behind text next
followed (missing name) next = missing name

-- a piece, if this is what is made of macros
abbrev pub piece_made : (List ℕ → Made) → Piece → Made
piece_made look (plain text) = made text
piece_made look (macro name) = look name

-- pieces one after another
abbrev pub filled : (List ℕ → Made) → List Piece → Made
filled look [] = made []
filled look (p ∷ ps) = followed (piece_made look p) (filled look ps)
