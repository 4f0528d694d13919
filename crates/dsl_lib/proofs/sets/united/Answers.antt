use Rattle.std.proofs.Common.{◌∷◌, ◌++◌, [], arith}
use Rattle.dsl_lib.specs.Arguments.{items_in}
use Rattle.dsl_lib.specs.Arrays.{all_in}
use Rattle.dsl_lib.proofs.AllIn.{front_none, front_step}
use Rattle.dsl_lib.proofs.Unions.{taken_more}
use Rattle.dsl_lib.proofs.sets.united.Goals as goal

pub loop-array-init : goal.loop-array-init
loop-array-init c = (c.new-taken.ensures.finds c.args.store.now, ([], c.new-taken.ensures.items, front_none (items_in c.args.store.now.cells) (all_in (items_in c.args.store.now.cells) c.args.arrays.now)))

pub loop-array-preserved : goal.loop-array-preserved
loop-array-preserved c =
    let made = c.loop-array.invariant.1.0 in
    let xs = c.in_ok-items.field-0.now in
    (c.in_ok-take_all.ensures.finds, (made ++ xs ∷ [], taken_more c.args.store.now.cells [] _ _ xs made c.loop-array.invariant.1.1 c.in_ok-take_all.ensures.items, front_step (items_in c.args.store.now.cells) c.args.arrays.now c.loop-array.array-index c.array-item.result made xs _ (omega arith) c.array-item.is c.in_ok-items.ensures.items c.loop-array.invariant.1.2))
