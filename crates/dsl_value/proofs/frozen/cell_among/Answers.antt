use Rattle.std.proofs.Common.{refl, ◌∙◌, arith}
use Rattle.dsl_value.proofs.Layered.{cell_here, cell_later, cells_later, none_beyond}
use Rattle.dsl_value.proofs.frozen.cell_among.Goals as goal

pub loop-layer-init : goal.loop-layer-init
loop-layer-init c = (refl, c.requires)

pub returns-then-left-len : goal.returns-then-left-len
returns-then-left-len c =
    c.cell.ensures ∙ cell_here c.args.layers.now c.loop-layer.layer-index c.layer-item.result c.loop-layer-test.true c.layer-item.is c.loop-layer.left (omega (arith, c.if-left-len.true, c.len.ensures.len)) ∙ c.loop-layer.invariant.0

pub loop-layer-preserved : goal.loop-layer-preserved
loop-layer-preserved c = (
  cell_later c.args.layers.now c.loop-layer.layer-index c.layer-item.result c.loop-layer-test.true c.layer-item.is c.loop-layer.left c.len-left.result c.len-left.ensures.len (omega (arith, c.if-left-len.false, c.len.ensures.len, c.len-left.ensures.len)) ∙ c.loop-layer.invariant.0,
  cells_later c.args.layers.now c.loop-layer.layer-index c.layer-item.result c.loop-layer-test.true c.layer-item.is c.loop-layer.left c.len-left.result c.len-left.ensures.len (omega (arith, c.if-left-len.false, c.len.ensures.len, c.len-left.ensures.len)) c.loop-layer.invariant.1,
)

pub unreachable-requires : goal.unreachable-requires
unreachable-requires c = none_beyond c.args.layers.now c.loop-layer.layer-index c.loop-layer.left (omega (arith, c.loop-layer-test.false)) c.loop-layer.invariant.1
