use Rattle.std.proofs.Common.{ap, ◌∙◌}
use Rattle.dsl_ops.specs.Table.{thousandths_of}
use Rattle.dsl_ops.proofs.Shifts.{times_power}
use Rattle.dsl_ops.proofs.bits.shifted_left.Goals as goal

pub returns : goal.returns
returns c = c.number_of.ensures ∙ ap thousandths_of (times_power c.args.whole c.in_ok-checked_mul.field-0 c.args.places c.ranges.whole c.requires c.in_ok-checked_mul.ensures.0 c.in_ok-checked_mul.ensures.1)
