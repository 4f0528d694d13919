use Rattle.std.proofs.Common.{◌≡◌, ap, ◌∙◌, subst, Some}
use Rattle.log_text.specs.Fronts.{Gives}
use Rattle.log_text.specs.SiteNames.{names_view}
use Rattle.site_audit.specs.LineReading.{line_read}
use Rattle.site_audit.specs.LogLines.{IsLogLine}
use Rattle.site_audit.proofs.LineLaws.{found, line_sound, line_complete}
use Rattle.site_audit.proofs.lines.read_line.Goals as goal

pub returns-clause-found : goal.returns-clause-found
returns-clause-found c = λ s is.
    found (IsLogLine c.args.style s c.args.bytes.now) c.read_any.result (line_read c.args.style (names_view c.args.names.now) c.args.bytes.now) c.read_any.ensures
    (λ l e. line_sound c.args.style s c.args.bytes.now l (subst (λ ns. line_read c.args.style ns c.args.bytes.now ≡ Some l) is e))

pub returns-clause-only : goal.returns-clause-only
returns-clause-only c = λ s l is has texts h.
    subst (Gives (λ x. x) c.read_any.result) (ap (λ ns. line_read c.args.style ns c.args.bytes.now) is ∙ line_complete c.args.style s c.args.bytes.now l has texts h) c.read_any.ensures
