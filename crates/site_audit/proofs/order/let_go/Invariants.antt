use Rattle.std.proofs.Common.{◌≡◌, drop, length}
use Rattle.site_audit.specs.Order.{less_by, zeros}
use Rattle.site_audit.proofs.order.let_go.Given as goal

-- counts that are less by the rest are less by all, and those that are 0 are ready
abbrev pub invariant-loop-k : goal.invariant-loop-k
invariant-loop-k l =
    (less_by (drop l.k-index l.behind) l.waits.items ≡ less_by l.fn.behind l.fn.waits.items) × (l.ready.keys ≡ zeros l.waits.items) × (length l.waits.items ≡ length l.fn.waits.items)
