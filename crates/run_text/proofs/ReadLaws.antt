-- Turns are read in one way by the relation of command lines.
use Rattle.std.proofs.Common.{◌≡◌, ℕ, List, [], ◌∷◌, map, refl, sym, ap, ◌∙◌}
use Rattle.site_edge.specs.declared.turn.Turn.{Turn}
use Rattle.site_model.specs.PlainSite.{PlainSite}
use Rattle.site_model.specs.Sound.{HasNames}
use Rattle.event_text.specs.Lines.{Answer, told, faulty, Has}
use Rattle.event_text.specs.Reading.{line_read}
use Rattle.event_text.proofs.LineLaws.{judged, has_read}
use Rattle.run_meaning.specs.Turns as turns
use Rattle.run_meaning.specs.Turns.{Line, ReadTurn}
use Rattle.run_text.specs.TurnReading.{as_line, lines_read, turn_read}
use Rattle.run_text.specs.ReadTurns.{IsLineRead, AreLinesRead, IsTurnRead, AreTurnsRead}

-- What is read is what the lines have.

is_read_as : (s : PlainSite) (line : List ℕ) (a : Answer) → Has s line a → IsLineRead s line (as_line a)
is_read_as s line (told k e) h = h
is_read_as s line (faulty f) h = (f, h, refl)

lines_are_read : (s : PlainSite) (lines : List (List ℕ)) → HasNames s → AreLinesRead s lines (lines_read s lines)
lines_are_read s [] names = tt
lines_are_read s (line ∷ lines) names = (is_read_as s line (line_read s line) (judged s line names), lines_are_read s lines names)

pub turns_are_read : (s : PlainSite) (ts : List Turn) → HasNames s → AreTurnsRead s ts (map (turn_read s) ts)
turns_are_read s [] names = tt
turns_are_read s (t ∷ ts) names = (record { moment = refl; reports = refl; lines = lines_are_read s t.lines names }, turns_are_read s ts names)

-- Nothing else is read.

line_is : (s : PlainSite) (line : List ℕ) (r : Line) → HasNames s → IsLineRead s line r → r ≡ as_line (line_read s line)
line_is s line (turns.asking a) names h = sym (ap as_line (has_read s line (told a.checkable a.event) names h))
line_is s line (turns.faulty name) names h = ap turns.faulty h.2 ∙ sym (ap as_line (has_read s line (faulty h.0) names h.1))

lines_are : (s : PlainSite) (lines : List (List ℕ)) (rs : List Line) → HasNames s → AreLinesRead s lines rs → rs ≡ lines_read s lines
lines_are s [] [] names h = refl
lines_are s [] (r ∷ rs) names h = absurd h
lines_are s (line ∷ lines) [] names h = absurd h
lines_are s (line ∷ lines) (r ∷ rs) names h =
    ap (λ x. x ∷ rs) (line_is s line r names h.0) ∙ ap (λ xs. as_line (line_read s line) ∷ xs) (lines_are s lines rs names h.1)

turn_is : (s : PlainSite) (t : Turn) (r : ReadTurn) → HasNames s → IsTurnRead s t r → r ≡ turn_read s t
turn_is s t r names h =
    let lines = lines_are s t.lines r.lines names h.lines in
    λ i. record { moment = h.moment i; reports = h.reports i; lines = lines i }

pub turns_are : (s : PlainSite) (ts : List Turn) (rs : List ReadTurn) → HasNames s → AreTurnsRead s ts rs → rs ≡ map (turn_read s) ts
turns_are s [] [] names h = refl
turns_are s [] (r ∷ rs) names h = absurd h
turns_are s (t ∷ ts) [] names h = absurd h
turns_are s (t ∷ ts) (r ∷ rs) names h = ap (λ x. x ∷ rs) (turn_is s t r names h.0) ∙ ap (λ xs. turn_read s t ∷ xs) (turns_are s ts rs names h.1)
