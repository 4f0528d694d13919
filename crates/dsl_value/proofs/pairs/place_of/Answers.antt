use Rattle.std.proofs.Common.{rules, ◌+◌, ◌-◌, ◌/◌, arith}
use Rattle.dsl_value.proofs.Searching.{compared, after_less, at_equal, before_greater}
use Rattle.dsl_value.proofs.pairs.place_of.Goals as goal

pub loop-low-preserved-in-Less : goal.loop-low-preserved-in-Less
loop-low-preserved-in-Less c =
    let middle = c.loop-low.low + (c.loop-low.high - c.loop-low.low) / 2 in
    after_less _ c.requires _ c.loop-low.low middle c.loop-low.high c.loop-low.invariant (omega arith) (omega arith)
    (compared _ _ middle _ _ _ (omega arith) c.as_str.ensures (search rules))

pub returns-in-Equal-clause-found : goal.returns-in-Equal-clause-found
returns-in-Equal-clause-found c =
    let middle = c.loop-low.low + (c.loop-low.high - c.loop-low.low) / 2 in
    at_equal _ c.requires _ c.loop-low.low middle c.loop-low.high c.loop-low.invariant (omega arith) (omega arith)
    (compared _ _ middle _ _ _ (omega arith) c.as_str.ensures (search rules))

pub loop-low-preserved : goal.loop-low-preserved
loop-low-preserved c =
    let middle = c.loop-low.low + (c.loop-low.high - c.loop-low.low) / 2 in
    before_greater _ c.requires _ c.loop-low.low middle c.loop-low.high c.loop-low.invariant (omega arith) (omega arith)
    (compared _ _ middle _ _ _ (omega arith) c.as_str.ensures (search rules))
