use Rattle.std.proofs.Common.{◌∙◌}
use Rattle.log_text.proofs.FieldLaws.{text_found, no_text}
use Rattle.site_audit.proofs.fields.read_text.Goals as goal

pub returns-in-Ok : goal.returns-in-Ok
returns-in-Ok c =
    let text = c.in_ok-copy_of-in-Ok.ensures ∙ (c.in-Ok.ensures.cases.0 ∙ c.as_slice.ensures) in
    text_found c.args.bytes.now c.in-Some.spelled c.in-Some.rest.now c.in_ok-copy_of-in-Ok.field-0 (rw c.in-Some.is at c.in_ok-spelled.ensures.value) c.as_slice.ensures c.in-Ok.ensures.cases.1 text

pub returns : goal.returns
returns c = no_text c.args.bytes.now c.in-Some.spelled c.in-Some.rest.now (rw c.in-Some.is at c.in_ok-spelled.ensures.value) c.as_slice.ensures c.in-Err.ensures.cases.0
