use Rattle.std.proofs.Common.{◌∙◌, ap, sym, subst}
use Rattle.site_query.specs.Reading.{Gives, lines_of, text_read}
use Rattle.site_query.proofs.QueryLaws.{text_of_query, no_text}
use Rattle.site_query.proofs.reading.read_bytes.Goals as goal

pub returns-in-Ok : goal.returns-in-Ok
returns-in-Ok c =
    let cases = c.in-Ok.ensures.cases in
    subst (Gives c.read_text.result) (ap (λ bs. text_read (lines_of bs)) cases.0 ∙ sym (text_of_query c.args.bytes.now cases.1)) c.read_text.ensures

pub returns-in-Err : goal.returns-in-Err
returns-in-Err c = no_text c.args.bytes.now c.in-Err.ensures.cases.0
