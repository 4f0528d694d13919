use Rattle.std.proofs.Common.{arith}
use Rattle.dsl_lib.proofs.Limits.{replaced_length}
use Rattle.dsl_lib.proofs.over.replaced_is_over.Goals as goal

pub returns-in_default-less : goal.returns-in_default-less
returns-in_default-less c = λ yes.
    let step = replaced_length c.args.part.now c.args.by.now c.loop-front.rest.now c.in-Some.front.now c.in-Some.back.now c.requires c.in-Some.ensures.cases in
    omega (arith, step, c.in_default-less.ensures.over, c.loop-front.invariant.1)
