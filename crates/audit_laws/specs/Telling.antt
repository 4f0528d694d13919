-- The lines that a log tells, read again.
use Rattle.std.specs.Prelude.{◌≡◌, ℕ, List, [], get_or, Some}
use Rattle.site_model.specs.PlainSite.{PlainSite, full_names}
use Rattle.site_model.specs.declared.event.Event.{Event}
use Rattle.event_text.specs.Lines.{Has, told, faulty}
use Rattle.event_text.specs.declared.line_fault.LineFault.{LineFault}
use Rattle.site_audit.specs.Commands.{line_for, refused_text}

-- the line that a log tells of an event on the checkable at this place asks for this event on it
pub record IsToldAgain (s : PlainSite) (k : ℕ) (e : Event) : Type 0 where
  pub line : List ℕ
  pub is : line_for (get_or (full_names s) k []) e ≡ Some line
  pub tells : Has s line (told k e)

-- the line that a log tells of a refusal is refused so
pub record IsRefusedAgain (s : PlainSite) (f : LineFault) : Type 0 where
  pub line : List ℕ
  pub is : refused_text s f ≡ Some line
  pub tells : Has s line (faulty f)
