-- The lines of a log, and its blocks.
use Rattle.std.specs.Prelude.{ℕ, suc, ◌==◌, nat_eq, not, Bool, List, [], ◌∷◌, codes, if◌then◌else◌}
use Rattle.std.specs.List.{onto_first, starts_with}

-- bytes cut after each newline; what follows the last one is a line too
abbrev pub lines_of : List ℕ → List (List ℕ)
lines_of [] = []
lines_of (b ∷ bs) = if b == 10 then (b ∷ []) ∷ lines_of bs else onto_first b (lines_of bs)

-- how many bytes the first line has
abbrev pub line_len : List ℕ → ℕ
line_len [] = 0
line_len (b ∷ bs) = if b == 10 then 1 else suc (line_len bs)

abbrev pub begins_turn : List ℕ → Bool
begins_turn line = starts_with nat_eq line (codes "turn ")

-- a line after which its block goes on
abbrev pub goes_on : List ℕ → Bool
goes_on line = not (begins_turn line)

-- a line before blocks: it goes to the first one, unless that begins a turn
abbrev pub with_line : List ℕ → List (List (List ℕ)) → List (List (List ℕ))
with_line l [] = (l ∷ []) ∷ []
with_line l ([] ∷ bs) = (l ∷ []) ∷ bs
with_line l ((m ∷ ms) ∷ bs) = if begins_turn m then (l ∷ []) ∷ (m ∷ ms) ∷ bs else (l ∷ m ∷ ms) ∷ bs

-- lines cut before each one that begins a turn; what stands before the first of these is a block too
abbrev pub blocks_of : List (List ℕ) → List (List (List ℕ))
blocks_of [] = []
blocks_of (l ∷ ls) = with_line l (blocks_of ls)
