use Rattle.std.proofs.Common.{◌≡◌, ◌+◌, ◌≤◌, length, drop}
use Rattle.dsl_value.specs.Outcomes.{bytes_of}
use Rattle.dsl_value.proofs.making.texts_units.Given as goal

-- what is counted, with the bytes that are left, is all of it
abbrev pub invariant-loop-item : goal.invariant-loop-item
invariant-loop-item l = (l.units + bytes_of (drop l.item-index l.items) ≡ (1 + length l.items) + bytes_of l.items) × (l.units ≤ l.most)
