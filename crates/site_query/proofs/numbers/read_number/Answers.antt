use Rattle.std.proofs.Common.{◌<◌, ◌^◌, sym, ◌∙◌, arith}
use Rattle.event_text.proofs.StatusLaws.{number_parsed, number_unparsed, no_digits}
use Rattle.event_text.specs.Kinds.{any_number}
use Rattle.site_query.proofs.numbers.read_number.Goals as goal

pub returns-then-not-is_number : goal.returns-then-not-is_number
returns-then-not-is_number c = no_digits (record any_number { most = c.args.most }) c.args.text.now (sym c.is_number.ensures ∙ c.if-not-is_number.true)

pub returns-in-Ok : goal.returns-in-Ok
returns-in-Ok c =
    c.at_most.ensures ∙ number_parsed (record any_number { most = c.args.most }) c.args.text.now c.parse.result (sym c.is_number.ensures ∙ c.if-not-is_number.false) c.parse.ensures.value.0 c.in-Ok.number c.in-Ok.is

pub returns-in-Err : goal.returns-in-Err
returns-in-Err c =
    let small : c.args.most < 2 ^ 64 = omega arith in
    number_unparsed (record any_number { most = c.args.most }) c.args.text.now c.parse.result small (sym c.is_number.ensures ∙ c.if-not-is_number.false) c.parse.ensures.value.0 c.in-Err.field-0 c.in-Err.is
