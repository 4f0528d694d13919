-- The things so far, and those that are left, are all.
use Rattle.std.proofs.Common.{◌≡◌, ◌++◌, drop, map}
use Rattle.wave_objects.proofs.lending.each_of.Given as goal

abbrev pub invariant-loop-thing : goal.invariant-loop-thing
invariant-loop-thing g l = map (λ t. t.now) l.tasks.items ++ drop l.thing-index l.things ≡ l.things
