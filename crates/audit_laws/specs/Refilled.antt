-- The lines of a turn told again: a line for each event, in whatever order, and each refused line at its number.
use Rattle.std.specs.Prelude.{◌≡◌, ◌+◌, ℕ, List, [], ◌∷◌, map, Some}
use Rattle.site_model.specs.PlainSite.{PlainSite}
use Rattle.event_text.specs.Lines.{Answer, Has, told, faulty}
use Rattle.run_meaning.specs.Dealing.{line_events, line_refusals}
use Rattle.run_meaning.specs.Turns.{Asked}
use Rattle.run_text.specs.TurnReading.{as_line, lines_read}
use Rattle.site_audit.specs.Commands.{refused_text}
use Rattle.site_audit.specs.Filling.{filled}
use Rattle.audit_laws.specs.Types.{RefusedLine}

-- the refused ones among the lines that were read so, of which the first has this number
abbrev pub refused_from : ℕ → List Answer → List RefusedLine
refused_from n [] = []
refused_from n (told k e ∷ as') = refused_from (n + 1) as'
refused_from n (faulty f ∷ as') = record { number = n; fault = f } ∷ refused_from (n + 1) as'

-- how many of them ask for an event
abbrev pub asking_among : List Answer → ℕ
asking_among [] = 0
asking_among (told k e ∷ as') = 1 + asking_among as'
asking_among (faulty f ∷ as') = asking_among as'

-- each fault is that of some line
abbrev pub AreOfLines : PlainSite → List Answer → Type 0
AreOfLines s [] = Unit {0}
AreOfLines s (told k e ∷ as') = AreOfLines s as'
AreOfLines s (faulty f ∷ as') = ((line : List ℕ) × Has s line (faulty f)) × AreOfLines s as'

-- these lines ask for these events, each for one
abbrev pub AskFor : PlainSite → List (List ℕ) → List Asked → Type 0
AskFor s [] [] = Unit {0}
AskFor s [] (a ∷ as') = ⊥
AskFor s (l ∷ ls) [] = ⊥
AskFor s (l ∷ ls) (a ∷ as') = Has s l (told a.checkable a.event) × AskFor s ls as'

-- the lines that tell these events, and each refused line at its number, are read so: they ask for these events, and the same are refused
pub record AreRefilled (s : PlainSite) (answers : List Answer) (lines : List (List ℕ)) (asked : List Asked) : Type 0 where
  pub all : List (List ℕ)
  pub are : filled (refused_text s) (refused_from 1 answers) (record { lines = []; left = lines }) ≡ Some all
  pub events : line_events (lines_read s all) ≡ asked
  pub refusals : line_refusals 1 (lines_read s all) ≡ line_refusals 1 (map as_line answers)
