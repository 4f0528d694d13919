use Rattle.site_base.proofs.Digits.{last_in_range, part_none, part_more}
use Rattle.site_base.proofs.reading.part_of_unit.Goals as goal

pub overflow_sub-last-in-len1-up : goal.overflow_sub-last-in-len1-up
overflow_sub-last-in-len1-up c = (last_in_range _ _ c.requires.digits c.loop-digits.invariant.front_of c.loop-digits.invariant.most c.in-len1-up.len_at_least).0

pub returns-then-sum-ne0-clause-value : goal.returns-then-sum-ne0-clause-value
returns-then-sum-ne0-clause-value c = λ n e. c.if-sum-ne0.true (part_none c.loop-digits.digits.now c.args.behind.now c.args.size c.loop-digits.part c.from.result n c.loop-digits.invariant c.requires.digits c.in-len1-up.len_at_least c.from.ensures e)

pub loop-digits-preserved : goal.loop-digits-preserved
loop-digits-preserved c = part_more c.loop-digits.digits.now c.args.behind.now c.args.size c.loop-digits.part c.from.result c.loop-digits.invariant c.requires.digits c.in-len1-up.len_at_least c.from.ensures c.if-sum-ne0.false
