-- One step of the loop over the lines of a query.
use Rattle.std.proofs.Common.{◌≡◌, ℕ, ◌<◌, List, [], ◌∷◌, length, refl, sym, ap, ◌∙◌, arith, Some, None}
use Rattle.site_text.specs.ScriptReading.{next}
use Rattle.site_query.specs.Lines.{Answer, told, bad_line}
use Rattle.site_query.specs.Reading.{lines_of, with_text, behind_line, last_read, lines_read}
use Rattle.site_query.specs.declared.query.Query.{Query}
use Rattle.site_query.proofs.PartLaws.{some_part}
use Rattle.site_query.proofs.QueryLaws.{more_read}

pub line_more : (p q : Query) (k n : ℕ) (rest line more : List ℕ) (whole : Answer) → lines_of rest ≡ line ∷ lines_of more → with_text p line ≡ Some q → n ≡ next k
    → lines_read p k (lines_of rest) ≡ whole → lines_read q n (lines_of more) ≡ whole
line_more p q k n rest line more whole parts added is e =
    ap (λ i. lines_read q i (lines_of more)) is
    ∙ (sym (ap (lines_read p k) parts ∙ more_read p q k line (lines_of more) (some_part 10 more) added) ∙ e)

pub line_bad : (p : Query) (k n : ℕ) (rest line more : List ℕ) (whole : Answer) → lines_of rest ≡ line ∷ lines_of more → with_text p line ≡ None → n ≡ next k
    → lines_read p k (lines_of rest) ≡ whole → whole ≡ bad_line n
line_bad p k n rest line more whole parts lacks is e =
    sym e
    ∙ (ap (lines_read p k) parts
    ∙ (ap (λ vs. lines_read p k (line ∷ vs)) (some_part 10 more).is
    ∙ (ap (behind_line (λ q. lines_read q (next k) ((some_part 10 more).first ∷ (some_part 10 more).more)) (next k)) lacks ∙ ap bad_line (sym is))))

open_line : (p : Query) (k : ℕ) (rest : List ℕ) → 0 < length rest → last_read p k rest ≡ bad_line (next k)
open_line p k [] some = absurd (omega arith)
open_line p k (b ∷ bs) some = refl

pub line_open : (p : Query) (k n : ℕ) (rest : List ℕ) (whole : Answer) → lines_of rest ≡ rest ∷ [] → 0 < length rest → n ≡ next k
    → lines_read p k (lines_of rest) ≡ whole → whole ≡ bad_line n
line_open p k n rest whole parts some is e =
    sym e ∙ (ap (lines_read p k) parts ∙ (open_line p k rest some ∙ ap bad_line (sym is)))

pub line_end : (p : Query) (k : ℕ) (rest : List ℕ) (whole : Answer) → rest ≡ [] → lines_read p k (lines_of rest) ≡ whole → whole ≡ told p
line_end p k rest whole is e = sym e ∙ ap (λ bs. lines_read p k (lines_of bs)) is
