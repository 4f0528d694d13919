use Rattle.std.proofs.Common.{rules, ◌≡◌, ◌+◌, ◌-◌, ◌/◌, get_or, sym, ap, ◌∙◌, arith}
use Rattle.std.specs.declared.cmp.Ordering.TheVariants.{Less, Equal, Greater}
use Rattle.dsl_value.specs.Pairs.{key_cmp}
use Rattle.dsl_value.proofs.Rowed.{row_below, row_above}
use Rattle.dsl_value.proofs.pair_rows.row_for.Goals as goal

pub loop-low-preserved-in-Less : goal.loop-low-preserved-in-Less
loop-low-preserved-in-Less c =
    let middle = c.loop-low.low + (c.loop-low.high - c.loop-low.low) / 2 in
    let compared : key_cmp c.as_str.result.now c.args.key.now ≡ Less = search rules in
    row_below c.args.rows.now c.requires.full c.requires.sorted c.args.key.now c.loop-low.low middle c.loop-low.high c.loop-low.invariant (omega (arith, c.loop-low-test.true)) (omega (arith, c.loop-low-test.true)) c.index-rows-middle.result c.index.result.now
    (c.index.ensures ∙ ap (λ x. get_or x.items 0 c.index.result.now) c.index-rows-middle.is)
    Less (ap (λ x. key_cmp x c.args.key.now) (sym c.as_str.ensures) ∙ compared) tt

pub loop-low-preserved-in-Equal : goal.loop-low-preserved-in-Equal
loop-low-preserved-in-Equal c =
    let middle = c.loop-low.low + (c.loop-low.high - c.loop-low.low) / 2 in
    let compared : key_cmp c.as_str.result.now c.args.key.now ≡ Equal = search rules in
    row_below c.args.rows.now c.requires.full c.requires.sorted c.args.key.now c.loop-low.low middle c.loop-low.high c.loop-low.invariant (omega (arith, c.loop-low-test.true)) (omega (arith, c.loop-low-test.true)) c.index-rows-middle.result c.index.result.now
    (c.index.ensures ∙ ap (λ x. get_or x.items 0 c.index.result.now) c.index-rows-middle.is)
    Equal (ap (λ x. key_cmp x c.args.key.now) (sym c.as_str.ensures) ∙ compared) tt

pub loop-low-preserved : goal.loop-low-preserved
loop-low-preserved c =
    let middle = c.loop-low.low + (c.loop-low.high - c.loop-low.low) / 2 in
    let compared : key_cmp c.as_str.result.now c.args.key.now ≡ Greater = search rules in
    row_above c.args.rows.now c.requires.full c.requires.sorted c.args.key.now c.loop-low.low middle c.loop-low.high c.loop-low.invariant (omega (arith, c.loop-low-test.true)) (omega (arith, c.loop-low-test.true)) c.index-rows-middle.result c.index.result.now
    (c.index.ensures ∙ ap (λ x. get_or x.items 0 c.index.result.now) c.index-rows-middle.is)
    (ap (λ x. key_cmp x c.args.key.now) (sym c.as_str.ensures) ∙ compared)
