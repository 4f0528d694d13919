-- The rules so far, and those that are left, are all.
use Rattle.std.proofs.Common.{◌≡◌, ◌++◌, ℕ, List, drop}
use Rattle.wave_objects.specs.ByType.{rules_going_to, type_rules}
use Rattle.wave_objects.proofs.by_type.rules_by_type.Given as goal

abbrev pub invariant-loop-place : goal.invariant-loop-place
invariant-loop-place l = (kind : List ℕ) → type_rules kind l.types.items ++ rules_going_to kind l.place (drop l.place l.rules) ≡ rules_going_to kind 0 l.rules
