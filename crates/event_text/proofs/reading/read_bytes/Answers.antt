use Rattle.std.proofs.Common.{◌∙◌, ap, sym, subst}
use Rattle.site_model.specs.PlainSite.{site_view}
use Rattle.event_text.specs.Reading.{Gives, text_read}
use Rattle.event_text.proofs.HeadLaws.{text_line, other_line}
use Rattle.event_text.proofs.reading.read_bytes.Goals as goal

pub returns-in-Ok : goal.returns-in-Ok
returns-in-Ok c =
    let cases = c.in-Ok.ensures.cases in
    subst (Gives c.read_text.result) (ap (text_read (site_view c.args.site.now)) cases.0 ∙ sym (text_line (site_view c.args.site.now) c.args.bytes.now cases.1)) c.read_text.ensures

pub returns-in-Err : goal.returns-in-Err
returns-in-Err c = other_line (site_view c.args.site.now) c.args.bytes.now c.in-Err.ensures.cases.0
