use Rattle.std.proofs.Common.{arith, sym}
use Rattle.std.proofs.lemmas.Int.{ints}
use Rattle.dsl_lib.proofs.Steps.{numbers_end, numbers_more, numbers_last, numbers_fewer, sum_is}
use Rattle.dsl_lib.proofs.ranges.numbers.Goals as goal

pub returns-in-None : goal.returns-in-None
returns-in-None c = numbers_last c.loop-end.next c.args.end c.args.step c.loop-end.numbers _ _ (omega (arith, ints)) c.requires (sym c.in-None.ensures.value) (omega (arith, ints)) (omega (arith, ints)) c.in_ok-push.ensures.ok c.loop-end.invariant

pub loop-end-smaller : goal.loop-end-smaller
loop-end-smaller c = numbers_fewer c.loop-end.next c.args.end c.args.step c.in-Some.sum (omega (arith, ints)) c.requires (sum_is c.loop-end.next c.args.step c.in-Some.sum (sym c.in-Some.ensures.value))

pub loop-end-preserved : goal.loop-end-preserved
loop-end-preserved c = numbers_more c.loop-end.next c.args.end c.args.step c.in-Some.sum c.loop-end.numbers _ _ (omega (arith, ints)) c.requires (sum_is c.loop-end.next c.args.step c.in-Some.sum (sym c.in-Some.ensures.value)) c.in_ok-push.ensures.ok c.loop-end.invariant

pub returns : goal.returns
returns c = numbers_end c.loop-end.next c.args.end c.args.step c.loop-end.numbers _ (omega (arith, ints)) c.requires c.loop-end.invariant
