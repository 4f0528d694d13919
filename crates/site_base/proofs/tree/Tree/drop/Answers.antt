use Rattle.std.proofs.Common.{arith}
use Rattle.site_base.specs.Weight.{weight}
use Rattle.site_base.specs.declared.tree.Tree as tree
use Rattle.site_base.proofs.Weights.{weight_null, across, down}
use Rattle.site_base.proofs.tree.Tree.drop.Goals as goal

pub loop-self-smaller-then-has_parts-2 : goal.loop-self-smaller-then-has_parts-2
loop-self-smaller-then-has_parts-2 c = across (weight c.loop-self.self) (weight c.loop-self.part) (weight c.exchange_first-first.new.self) (weight c.exchange_first-first.result) (omega (arith, c.exchange_first-first.ensures.exchanged)) c.exchange_first-first.ensures.less

pub loop-self-smaller-else-has_parts-2 : goal.loop-self-smaller-else-has_parts-2
loop-self-smaller-else-has_parts-2 c =
    let alone = c.has_parts-then-has_parts.ensures.none c.if-has_parts-2.false in
    let more = c.has_parts.ensures.some c.if-has_parts.true in
    across (weight c.loop-self.self) (weight c.loop-self.part) (weight c.loop-self.part) (weight tree.Null) (omega (arith, weight_null, alone)) (omega (arith, weight_null, more))

pub loop-self-smaller : goal.loop-self-smaller
loop-self-smaller c = down (weight c.loop-self.self) (weight c.loop-self.part) (weight c.pop.new.self) (weight c.in-Some.last) c.in-Some.ensures.some (c.has_parts.ensures.none c.if-has_parts.false)
