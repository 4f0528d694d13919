use Rattle.std.proofs.Common.{◌<◌, length, refl, sym, ◌∙◌, arith}
use Rattle.std.proofs.lemmas.Option.{get_or_from_slice_get}
use Rattle.dsl_value.specs.Contents.{function}
use Rattle.dsl_value.proofs.Layered.{function_here, function_later, functions_later, no_function_beyond, found_function}
use Rattle.dsl_value.proofs.frozen.function_among.Goals as goal

pub loop-layer-init : goal.loop-layer-init
loop-layer-init c = (λ d. refl, c.requires)

pub returns-then-left-functions : goal.returns-then-left-functions
returns-then-left-functions c =
    let f = function c.function.result.now in
    let lt : c.loop-layer.left < length c.layer-item.result.functions = omega (arith, c.if-left-functions.true, c.functions.ensures.len) in
    found_function _ c.args.func f c.requires
    (sym (c.loop-layer.invariant.0 f)
    ∙ sym (function_here c.args.layers.now c.loop-layer.layer-index c.layer-item.result c.loop-layer-test.true c.layer-item.is c.loop-layer.left f lt)
    ∙ get_or_from_slice_get c.layer-item.result.functions c.loop-layer.left f f (sym c.function.ensures))

pub loop-layer-preserved : goal.loop-layer-preserved
loop-layer-preserved c = (
  λ d. function_later c.args.layers.now c.loop-layer.layer-index c.layer-item.result c.loop-layer-test.true c.layer-item.is c.loop-layer.left c.functions-left.result d c.functions-left.ensures.len (omega (arith, c.if-left-functions.false, c.functions.ensures.len, c.functions-left.ensures.len)) ∙ c.loop-layer.invariant.0 d,
  functions_later c.args.layers.now c.loop-layer.layer-index c.layer-item.result c.loop-layer-test.true c.layer-item.is c.loop-layer.left c.functions-left.result c.functions-left.ensures.len (omega (arith, c.if-left-functions.false, c.functions.ensures.len, c.functions-left.ensures.len)) c.loop-layer.invariant.1,
)

pub unreachable-requires : goal.unreachable-requires
unreachable-requires c = no_function_beyond c.args.layers.now c.loop-layer.layer-index c.loop-layer.left (omega (arith, c.loop-layer-test.false)) c.loop-layer.invariant.1
