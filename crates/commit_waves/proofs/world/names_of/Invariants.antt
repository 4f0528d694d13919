use Rattle.std.proofs.Common.{◌≡◌, ◌++◌, drop, map}
use Rattle.object_types.specs.Names.{type_name}
use Rattle.commit_waves.proofs.world.names_of.Given as goal

abbrev pub invariant-loop-kind : goal.invariant-loop-kind
invariant-loop-kind l = l.names.items ++ map type_name (drop l.kind-index l.kinds) ≡ map type_name l.kinds
