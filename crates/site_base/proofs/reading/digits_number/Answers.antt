use Rattle.std.proofs.Common.{◌≡◌, ◌+◌, ◌∙◌, ap, take_all, arith}
use Rattle.std.specs.Str.Parse.{digits_value}
use Rattle.site_base.proofs.Digits.{digit_in_range, value_more, value_most}
use Rattle.site_base.proofs.reading.digits_number.Goals as goal

pub returns-in_err-checked_mul : goal.returns-in_err-checked_mul
returns-in_err-checked_mul c =
    let more = value_more c.args.digits.now c.loop-digit.digit-index c.requires c.loop-digit-test.true in
    let most = value_most c.args.digits.now (c.loop-digit.digit-index + 1) in
    rw c.from_residual.ensures (λ fits. c.in_err-checked_mul.ensures {u = tt} (omega (arith, c.loop-digit.invariant.value)))

pub overflow_sub-digit : goal.overflow_sub-digit
overflow_sub-digit c = (digit_in_range c.args.digits.now c.loop-digit.digit-index c.requires c.loop-digit-test.true).0

pub returns-in_err-number : goal.returns-in_err-number
returns-in_err-number c =
    let more = value_more c.args.digits.now c.loop-digit.digit-index c.requires c.loop-digit-test.true in
    let most = value_most c.args.digits.now (c.loop-digit.digit-index + 1) in
    rw c.from_residual-in_err-number.ensures (λ fits. c.in_err-number.ensures {u = tt} (omega (arith, c.loop-digit.invariant.value, c.in_ok-checked_mul.ensures {u = tt}, c.from.ensures)))

pub loop-digit-preserved : goal.loop-digit-preserved
loop-digit-preserved c =
    let more = value_more c.args.digits.now c.loop-digit.digit-index c.requires c.loop-digit-test.true in
    let added = c.in_ok-number.ensures {u = tt} in
    record {
      value = omega (arith, c.loop-digit.invariant.value, c.in_ok-checked_mul.ensures {u = tt}, added, c.from.ensures);
      small = omega (arith, added);
    }

pub returns : goal.returns
returns c =
    let value : c.loop-digit.number ≡ digits_value 10 c.args.digits.now = c.loop-digit.invariant.value ∙ ap (digits_value 10) (take_all c.loop-digit.digit-index c.args.digits.now c.loop-digit-test.false) in
    (omega (arith, value, c.loop-digit.invariant.small), value)
