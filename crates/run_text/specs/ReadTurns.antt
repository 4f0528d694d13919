-- How turns are read, by the relation of command lines.
use Rattle.std.specs.Prelude.{ℕ, ◌≡◌, List, [], ◌∷◌, map}
use Rattle.site_edge.specs.declared.turn.Turn.{Turn}
use Rattle.site_model.specs.PlainSite.{PlainSite}
use Rattle.event_text.specs.Faults.{fault_name}
use Rattle.event_text.specs.Lines.{HasEvent, HasFault}
use Rattle.event_text.specs.declared.line_fault.LineFault.{LineFault}
use Rattle.run_meaning.specs.Turns.{Line, asking, faulty, ReadTurn}
use Rattle.run_text.specs.TurnReading.{report_read}

-- a line is read as the event that it has, or as the name of its fault
abbrev pub IsLineRead : PlainSite → List ℕ → Line → Type 0
IsLineRead s line (asking a) = HasEvent s line a.checkable a.event
IsLineRead s line (faulty name) = (f : LineFault) × HasFault s line f × (name ≡ fault_name f)

abbrev pub AreLinesRead : PlainSite → List (List ℕ) → List Line → Type 0
AreLinesRead s [] [] = Unit {0}
AreLinesRead s [] (r ∷ rs) = ⊥
AreLinesRead s (line ∷ lines) [] = ⊥
AreLinesRead s (line ∷ lines) (r ∷ rs) = IsLineRead s line r × AreLinesRead s lines rs

-- a turn is read so
pub record IsTurnRead (s : PlainSite) (t : Turn) (r : ReadTurn) : Type 0 where
  pub moment : r.moment ≡ t.moment
  pub reports : r.reports ≡ map report_read t.reports
  pub lines : AreLinesRead s t.lines r.lines

abbrev pub AreTurnsRead : PlainSite → List Turn → List ReadTurn → Type 0
AreTurnsRead s [] [] = Unit {0}
AreTurnsRead s [] (r ∷ rs) = ⊥
AreTurnsRead s (t ∷ ts) [] = ⊥
AreTurnsRead s (t ∷ ts) (r ∷ rs) = IsTurnRead s t r × AreTurnsRead s ts rs
