-- Parts that are cut off, one after another.
use Rattle.std.proofs.Common.{◌≡◌, ◌<◌, ℕ, suc, List, [], ◌∷◌, ◌++◌, length, get_or, sym, ap, ◌∙◌, append_assoc, append-nil, arith, Result}
use Rattle.std.specs.Borrow.{Bor}
use Rattle.std.specs.List.{concat}
use Rattle.site_edge.specs.declared.turn.Turn.{Turn}
use Rattle.site_text.specs.Scripts.{Has}
use Rattle.site_text.specs.ScriptReading.{Tells}
use Rattle.site_text.specs.declared.script_error.ScriptError.{ScriptError}
use Rattle.script_parts.specs.Parts.{AreRead, texts_of}

-- one part more, and what is left
pub part_more : (parts : List (Bor (List ℕ))) (part : Bor (List ℕ)) (rest : List ℕ) → concat (texts_of (parts ++ part ∷ [])) ++ rest ≡ concat (texts_of parts) ++ (part.now ++ rest)
part_more [] part rest = ap (λ xs. xs ++ rest) (append-nil part.now)
part_more (p ∷ ps) part rest =
    append_assoc p.now (concat (texts_of (ps ++ part ∷ []))) rest
    ∙ ap (λ xs. p.now ++ xs) (part_more ps part rest)
    ∙ sym (append_assoc p.now (concat (texts_of ps)) (part.now ++ rest))

-- the last part
pub all_parts : (parts : List (Bor (List ℕ))) (rest : Bor (List ℕ)) → concat (texts_of (parts ++ rest ∷ [])) ≡ concat (texts_of parts) ++ rest.now
all_parts parts rest =
    sym (append-nil (concat (texts_of (parts ++ rest ∷ []))))
    ∙ part_more parts rest []
    ∙ ap (λ xs. concat (texts_of parts) ++ xs) (append-nil rest.now)

-- what was read of each part
pub each_read : (parts : List (Bor (List ℕ))) (read : List (Result (List Turn) ScriptError)) → length read ≡ length parts
    → ((i : ℕ) (p : Bor (List ℕ)) (d : Result (List Turn) ScriptError) → i < length parts → Tells (Has (get_or parts i p).now) (get_or read i d)) → AreRead (texts_of parts) read
each_read [] [] e h = tt
each_read [] (r ∷ read) e h = absurd (omega (arith, e))
each_read (p ∷ parts) [] e h = absurd (omega (arith, e))
each_read (p ∷ parts) (r ∷ read) e h = (h 0 p r (omega arith), each_read parts read (omega (arith, e)) (λ i q d l. h (suc i) q d (omega (arith, l))))
