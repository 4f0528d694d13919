use Rattle.std.proofs.Common.{◌∷◌, ◌++◌, [], length, sym, ap, subst, ◌∙◌, arith}
use Rattle.std.specs.List.{AllByRecursion, filter}
use Rattle.dsl_value.specs.Whole.{Names}
use Rattle.dsl_lib.specs.Arguments.{items_in}
use Rattle.dsl_lib.specs.Arrays.{all_in, has_equal}
use Rattle.dsl_lib.proofs.AllIn.{front_none, front_step}
use Rattle.dsl_lib.proofs.Kept.{kept_by_none, kept_more}
use Rattle.dsl_lib.proofs.sets.kept_in_all.Goals as goal

pub loop-array-init : goal.loop-array-init
loop-array-init c = (
  subst (AllByRecursion (Names (length c.args.store.now.cells) (length c.args.store.now.functions))) (sym c.in_ok-kept.ensures) c.requires.values,
  ([], c.in_ok-kept.ensures ∙ sym (kept_by_none c.args.store.now.cells c.args.values.now), front_none (items_in c.args.store.now.cells) (all_in (items_in c.args.store.now.cells) c.args.arrays.now)),
)

pub loop-array-preserved : goal.loop-array-preserved
loop-array-preserved c =
    let made = c.loop-array.invariant.1.0 in
    let xs = c.in_ok-items.field-0.now in
    let cells = c.args.store.now.cells in (
      c.in_ok-fewer.ensures.stands,
      (
        made ++ xs ∷ [],
        c.in_ok-fewer.ensures.kept ∙ ap (filter (has_equal cells xs)) (c.as_slice.ensures ∙ c.loop-array.invariant.1.1) ∙ sym (kept_more cells made xs c.args.values.now),
        front_step (items_in cells) c.args.arrays.now c.loop-array.array-index c.array-item.result made xs _ (omega arith) c.array-item.is c.in_ok-items.ensures.items c.loop-array.invariant.1.2,
      ),
    )
