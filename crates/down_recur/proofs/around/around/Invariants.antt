use Rattle.std.proofs.Common.{◌≡◌, ◌++◌, drop}
use Rattle.std.specs.List.{flat_map}
use Rattle.down_recur.specs.Segments.{of_span}
use Rattle.down_recur.proofs.around.around.Given as goal

abbrev pub invariant-loop-span : goal.invariant-loop-span
invariant-loop-span l = l.segments.items ++ flat_map (of_span l.zone l.day) (drop l.span-index l.spans) ≡ flat_map (of_span l.zone l.day) l.spans
