use Rattle.std.proofs.Common.{subst, sym, ◌∙◌}
use Rattle.std.specs.Str.Parse.{AllDigits}
use Rattle.site_base.proofs.Front.{front_digits, behind_digits, read_empty, read_none, read_some}
use Rattle.site_base.proofs.reading.read_number.Goals as goal

pub returns-then-is_empty : goal.returns-then-is_empty
returns-then-is_empty c =
    sym (read_empty c.args.text.now _ c.split_digits.result.1.now _ _ c.split_digits.ensures.digits c.split_digits.ensures.rest c.split_fraction.ensures.digits c.split_fraction.ensures.rest
    (sym c.is_empty.ensures ∙ c.if-is_empty.true))

pub returns-in_err-thousandths_in : goal.returns-in_err-thousandths_in
returns-in_err-thousandths_in c =
    c.from_residual.ensures
    ∙ sym (read_none c.args.text.now _ c.split_digits.result.1.now _ _ c.split_digits.ensures.digits c.split_digits.ensures.rest c.split_fraction.ensures.digits c.split_fraction.ensures.rest
    (sym c.is_empty.ensures ∙ c.if-is_empty.false) (sym (c.in_err-thousandths_in.ensures {u = tt}).value))

pub scaled_digits-requires-clause-whole : goal.scaled_digits-requires-clause-whole
scaled_digits-requires-clause-whole c = subst (AllDigits 10) (sym c.split_digits.ensures.digits) (front_digits c.args.text.now)

pub scaled_digits-requires-clause-behind : goal.scaled_digits-requires-clause-behind
scaled_digits-requires-clause-behind c = subst (AllDigits 10) (sym c.split_fraction.ensures.digits) (behind_digits c.split_digits.result.1.now)

pub returns : goal.returns
returns c =
    c.scaled_digits.ensures
    ∙ sym (read_some c.args.text.now _ c.split_digits.result.1.now _ _ _ c.split_digits.ensures.digits c.split_digits.ensures.rest c.split_fraction.ensures.digits c.split_fraction.ensures.rest
    (sym c.is_empty.ensures ∙ c.if-is_empty.false) (sym (c.in_ok-thousandths_in.ensures {u = tt}).value))
