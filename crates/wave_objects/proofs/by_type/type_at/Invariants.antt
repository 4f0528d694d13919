use Rattle.std.proofs.Common.{◌≡◌, ◌+◌, drop}
use Rattle.wave_objects.specs.ByType.{types_before}
use Rattle.wave_objects.proofs.by_type.type_at.Given as goal

abbrev pub invariant-loop-at : goal.invariant-loop-at
invariant-loop-at l = l.at + types_before l.target (drop l.at l.types) ≡ types_before l.target l.types
