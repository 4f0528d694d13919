use Rattle.std.proofs.Common.{◌≡◌, ◌≤◌, ℕ, drop, length, get_or, replicate}
use Rattle.site_audit.specs.Order.{more_by}
use Rattle.site_audit.proofs.order.waits_of.Given as goal

-- counts with those of the pairs that are left come to all, and none is above the pairs so far
abbrev pub invariant-loop-pair : goal.invariant-loop-pair
invariant-loop-pair l =
    (more_by (drop l.pair-index l.pairs) l.waits.items ≡ more_by l.pairs (replicate l.count 0)) × (length l.waits.items ≡ l.count) × ((k : ℕ) → get_or l.waits.items k 0 ≤ l.pair-index)
