use Rattle.std.proofs.Common.{◌≡◌, drop}
use Rattle.wave_objects.specs.ByType.{type_rules}
use Rattle.wave_objects.proofs.by_type.rules_to.Given as goal

abbrev pub invariant-loop-one : goal.invariant-loop-one
invariant-loop-one l = type_rules l.kind (drop l.one-index l.types) ≡ type_rules l.kind l.types
