use Rattle.std.proofs.Common.{arith, ◌++◌, ◌∷◌, []}
use Rattle.dsl_lib.specs.Scalars.{scalar_text}
use Rattle.dsl_lib.proofs.AllIn.{front_step}
use Rattle.dsl_lib.proofs.Joins.{separated}
use Rattle.dsl_lib.proofs.joining.push_separated.Goals as goal

pub loop-item-preserved : goal.loop-item-preserved
loop-item-preserved c =
    let made = c.loop-item.invariant.0 in
    let t = c.in_ok-push_scalar.ensures.0 in
    (made ++ t ∷ [], separated c.loop-item.out _ _ c.args.out.now _ t made c.loop-item.invariant.1 c.in_ok-push_str.ensures.ok c.in_ok-push_scalar.ensures.2, front_step scalar_text c.args.items.now c.loop-item.item-index c.item-item.result made t _ (omega arith) c.item-item.is c.in_ok-push_scalar.ensures.1 c.loop-item.invariant.2)
