-- What is decided so far, and for the kinds that are left, is all.
use Rattle.std.proofs.Common.{◌≡◌, ◌++◌, map, drop, reverse}
use Rattle.site_model.specs.PlainSite.{site_view}
use Rattle.run_meaning.specs.Decisions.{Case}
use Rattle.notify_rules.specs.Case.{IsCase, decided_for}
use Rattle.depend_graph.specs.Outlooks.{holds_in}
use Rattle.notify_rules.specs.Sent.{NeverFall, Remembers, user_of}
use Rattle.notify_rules.proofs.deciding.decide_kinds.Given as goal

abbrev pub invariant-loop-kind : goal.invariant-loop-kind
invariant-loop-kind l =
    (x : Case) → IsCase l.asked x → NeverFall (reverse x.history) → Remembers x.check (reverse x.history) l.sent → map user_of l.sent.listeners ≡ l.note.users →
    l.decisions ++ decided_for (site_view l.site) (holds_in (site_view l.site) l.zone) x (drop l.kind-index l.kinds) l.sent.notification l.note
    ≡ l.fn.decisions ++ decided_for (site_view l.site) (holds_in (site_view l.site) l.zone) x l.kinds l.sent.notification l.note
