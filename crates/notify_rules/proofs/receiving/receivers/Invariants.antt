-- Those found so far, and those among the listeners that are left, are all.
use Rattle.std.proofs.Common.{◌≡◌, ◌++◌, ℕ, All, filter, map, drop, reverse, slice_get}
use Rattle.site_model.specs.PlainSite.{site_view}
use Rattle.run_meaning.specs.Decisions.{Case, has_received, receives}
use Rattle.notify_rules.specs.Case.{IsCase}
use Rattle.depend_graph.specs.Outlooks.{holds_in}
use Rattle.notify_rules.specs.Sent.{user_of}
use Rattle.notify_rules.proofs.receiving.receivers.Given as goal

abbrev pub invariant-loop-listener : goal.invariant-loop-listener
invariant-loop-listener l =
    (x : Case) (n : ℕ) → IsCase l.asked x → All (λ l. l.told ≡ has_received x.check n l.user (reverse x.history)) l.listeners →
    l.told ++ filter (λ u. receives (holds_in (site_view l.site) l.zone) x n l.kind u (slice_get l.site.users u)) (map user_of (drop l.listener-index l.listeners))
    ≡ filter (λ u. receives (holds_in (site_view l.site) l.zone) x n l.kind u (slice_get l.site.users u)) (map user_of l.listeners)
