use Rattle.std.proofs.Common.{◌≤◌, ◌+◌, ◌*◌, ◌^◌, arith, ◌∙◌, sym, ap, pos}
use Rattle.std.proofs.Math.Nat.{mul-le-mul_left}
use Rattle.std.specs.Str.Parse.{digits_value}
use Rattle.site_base.specs.Numbers.{ranged}
use Rattle.site_base.proofs.Scaled.{scaled_is, scaled_none, scaled_high}
use Rattle.site_base.proofs.reading.scaled_digits.Goals as goal

pub returns-in_err-part : goal.returns-in_err-part
returns-in_err-part c = c.from_residual.ensures ∙ sym (scaled_none c.args.whole.now c.args.behind.now c.args.size (c.in_err-part.ensures {u = tt}).value)

pub returns-in_err-units : goal.returns-in_err-units
returns-in_err-units c =
    let high : 2 ^ 64 ≤ digits_value 10 c.args.whole.now = omega (arith, c.in_err-units.ensures {u = tt}) in
    let more = mul-le-mul_left (digits_value 10 c.args.whole.now) c.requires.least in
    c.from_residual-in_err-units.ensures
    ∙ sym (scaled_high c.args.whole.now c.args.behind.now c.args.size c.in_ok-part.part (c.in_ok-part.ensures {u = tt}).value (omega (arith, high, more)))

pub returns : goal.returns
returns c =
    c.total.ensures
    ∙ ap (λ units. ranged (pos (units * c.args.size + c.in_ok-part.part))) (c.in_ok-units.ensures {u = tt}).1
    ∙ sym (scaled_is c.args.whole.now c.args.behind.now c.args.size c.in_ok-part.part (c.in_ok-part.ensures {u = tt}).value)
