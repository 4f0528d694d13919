-- The cells of a row, one after another.
use Rattle.std.proofs.Common.{◌≡◌, ℕ, Bool, true, false, List, [], ◌∷◌, ◌++◌, map, refl, ap, append-nil, if◌then◌else◌}
use Rattle.std.specs.List.{join_with_byte}
use Rattle.site_query.specs.Answers.{cell_text}
use Rattle.site_query.specs.Shown.{PlainShown}
use Rattle.site_query.specs.declared.column.Column.{Column}

-- a semicolon before each but the first
abbrev pub cells_text : Bool → PlainShown → List Column → List ℕ
cells_text later s [] = []
cells_text later s (c ∷ cs) = (if later then 59 ∷ [] else []) ++ (cell_text s c ++ cells_text true s cs)

pub cells_joined : (s : PlainShown) (cs : List Column) → cells_text false s cs ≡ join_with_byte 59 (map (cell_text s) cs)
cells_joined s [] = refl
cells_joined s (c ∷ []) = append-nil (cell_text s c)
cells_joined s (c ∷ d ∷ ds) = ap (λ xs. cell_text s c ++ 59 ∷ xs) (cells_joined s (d ∷ ds))
