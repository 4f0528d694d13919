use Rattle.std.proofs.Common.{◌≡◌, ◌++◌, drop, None}
use Rattle.site_audit.specs.Tracks.{gate_pairs}
use Rattle.site_audit.proofs.tracks.pairs_of.Given as goal

-- the pairs so far, and those of the other spots
abbrev pub invariant-loop-gate : goal.invariant-loop-gate
invariant-loop-gate l = l.pairs.items ++ gate_pairs l.gates l.gate l.last (drop l.gate l.spots) ≡ gate_pairs l.gates 0 None l.spots
