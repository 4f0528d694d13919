use Rattle.std.proofs.Common.{◌≡◌, drop}
use Rattle.object_types.specs.Names.{type_among}
use Rattle.object_types.proofs.object_type.type_among.Given as goal

abbrev pub invariant-loop-kind : goal.invariant-loop-kind
invariant-loop-kind l = type_among (drop l.kind-index l.types) l.name ≡ type_among l.types l.name
