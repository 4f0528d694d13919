-- A text that is cut into pieces.
use Rattle.std.specs.Prelude.{ℕ, List, [], ◌∷◌, drop, take}

-- pieces of these lengths, one after the other
abbrev pub pieces : List ℕ → List ℕ → List (List ℕ)
pieces [] text = []
pieces (n ∷ ns) text = take n text ∷ pieces ns (drop n text)
