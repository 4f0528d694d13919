use Rattle.std.proofs.Common.{ap, sym, ◌∙◌}
use Rattle.log_text.specs.Fronts.{◌>>=◌}
use Rattle.log_text.specs.SiteNames.{names_view}
use Rattle.site_audit.specs.LineReading.{as_entry, styled_read}
use Rattle.site_audit.proofs.WordLoops.{entry_text, entry_no_text}
use Rattle.site_audit.proofs.lines.read_entry_line.Goals as goal

pub returns-in_default : goal.returns-in_default
returns-in_default c = entry_no_text c.args.style (names_view c.args.names.now) c.args.bytes.now c.in_default.ensures.cases.0

pub returns : goal.returns
returns c =
    let names = names_view c.args.names.now in
    entry_text c.args.style names c.args.bytes.now c.in-Ok.ensures.cases.1
    ∙ (ap (λ bs. styled_read c.args.style names bs >>= as_entry) (sym c.in-Ok.ensures.cases.0) ∙ ap (λ r. r >>= as_entry) c.in_ok-checkable.ensures)
