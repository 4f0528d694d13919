-- The lines that tell counts.
use Rattle.std.specs.Prelude.{ℕ, List, [], ◌∷◌, ◌++◌, codes}
use Rattle.std.specs.Fmt.{decimal}
use Rattle.site_gen.specs.declared.counts.Counts.{Counts}

abbrev pub count_line : List ℕ → ℕ → List ℕ
count_line what n = what ++ (decimal n ++ 10 ∷ [])

-- of so many objects, and of what is counted of a run
abbrev pub count_lines : ℕ → Counts → List (List ℕ)
count_lines objects c =
    count_line (codes "objects ") objects
    ∷ count_line (codes "entries ") c.entries
    ∷ count_line (codes "sent ") c.sent
    ∷ count_line (codes "suppressed ") c.suppressed
    ∷ count_line (codes "orders ") c.orders
    ∷ []
