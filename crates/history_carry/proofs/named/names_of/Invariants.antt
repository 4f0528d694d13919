-- The names of those that were passed.
use Rattle.std.proofs.Common.{◌≡◌, map, take}
use Rattle.history_carry.proofs.named.names_of.Given as goal

abbrev pub invariant-loop-thing : goal.invariant-loop-thing
invariant-loop-thing g l = l.names ≡ take l.thing-index (map g.T.Named.name_of l.things)
