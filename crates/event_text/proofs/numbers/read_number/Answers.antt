use Rattle.std.proofs.Common.{◌<◌, ◌^◌, sym, ◌∙◌, arith}
use Rattle.event_text.specs.declared.limit.Limit.{Limit}
use Rattle.event_text.proofs.StatusLaws.{number_parsed, number_unparsed, no_digits}
use Rattle.event_text.proofs.numbers.read_number.Goals as goal

pub returns-then-not-is_number : goal.returns-then-not-is_number
returns-then-not-is_number c =
    let l : Limit = record { digits = c.args.digits; most = c.args.most } in
    no_digits l c.args.text.now (sym c.is_number.ensures ∙ c.if-not-is_number.true)

pub returns-in-Ok : goal.returns-in-Ok
returns-in-Ok c =
    let l : Limit = record { digits = c.args.digits; most = c.args.most } in
    c.at_most.ensures ∙ number_parsed l c.args.text.now c.parse.result (sym c.is_number.ensures ∙ c.if-not-is_number.false) c.parse.ensures.value.0 c.in-Ok.number c.in-Ok.is

pub returns-in-Err : goal.returns-in-Err
returns-in-Err c =
    let l : Limit = record { digits = c.args.digits; most = c.args.most } in
    let small : c.args.most < 2 ^ 64 = omega arith in
    number_unparsed l c.args.text.now c.parse.result small (sym c.is_number.ensures ∙ c.if-not-is_number.false) c.parse.ensures.value.0 c.in-Err.field-0 c.in-Err.is
