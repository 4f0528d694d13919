use Rattle.std.proofs.Common.{◌≡◌, ap, ◌∙◌, subst, Some}
use Rattle.log_text.proofs.EntryLaws.{entry_two_sound, entry_two_complete, found}
use Rattle.log_text.specs.EntryReading.{entry_two_read}
use Rattle.log_text.specs.EntryTwo.{IsLineTwoOf}
use Rattle.log_text.specs.Fronts.{Gives}
use Rattle.log_text.specs.SiteNames.{names_view, names_of}
use Rattle.log_text.proofs.entries.read_entry_two.Goals as goal

pub returns-clause-found : goal.returns-clause-found
returns-clause-found c = λ s is.
    found (IsLineTwoOf s c.args.line.now) c.read_line_two.result (entry_two_read (names_view c.args.names.now) c.args.line.now) c.read_line_two.ensures
    (λ y e. entry_two_sound s c.args.line.now y (subst (λ ns. entry_two_read ns c.args.line.now ≡ Some y) is e))

pub returns-clause-only : goal.returns-clause-only
returns-clause-only c = λ s k e is has texts h whole.
    subst (Gives (λ x. (x.0, x.1)) c.read_line_two.result) (ap (λ ns. entry_two_read ns c.args.line.now) is ∙ (ap (entry_two_read (names_of s)) whole ∙ entry_two_complete s k e has texts h)) c.read_line_two.ensures
