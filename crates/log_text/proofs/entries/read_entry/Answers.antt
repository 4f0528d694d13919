use Rattle.std.proofs.Common.{◌≡◌, ap, ◌∙◌, subst, Some}
use Rattle.log_text.proofs.EntryLaws.{entry_sound, entry_complete, found}
use Rattle.log_text.specs.EntryReading.{entry_read}
use Rattle.log_text.specs.EntryTwo.{IsLineOf}
use Rattle.log_text.specs.Fronts.{Gives}
use Rattle.log_text.specs.SiteNames.{names_view, names_of}
use Rattle.log_text.proofs.entries.read_entry.Goals as goal

pub returns-clause-found : goal.returns-clause-found
returns-clause-found c = λ s is.
    found (IsLineOf s c.args.line.now) c.read_line.result (entry_read (names_view c.args.names.now) c.args.line.now) c.read_line.ensures
    (λ y e. entry_sound s c.args.line.now y (subst (λ ns. entry_read ns c.args.line.now ≡ Some y) is e))

pub returns-clause-only : goal.returns-clause-only
returns-clause-only c = λ s k e is has texts h whole.
    subst (Gives (λ x. (x.0, x.1)) c.read_line.result) (ap (λ ns. entry_read ns c.args.line.now) is ∙ (ap (entry_read (names_of s)) whole ∙ entry_complete s k e has texts h)) c.read_line.ensures
