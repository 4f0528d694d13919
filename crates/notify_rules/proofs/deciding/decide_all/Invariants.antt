-- What is decided so far, and on the notifications that are left, is all.
use Rattle.std.proofs.Common.{◌≡◌, ◌++◌, All, map, drop, reverse}
use Rattle.site_model.specs.PlainSite.{site_view}
use Rattle.run_meaning.specs.Decisions.{Case}
use Rattle.notify_rules.specs.Case.{IsCase, decided_on}
use Rattle.depend_graph.specs.Outlooks.{holds_in}
use Rattle.notify_rules.specs.Sent.{HasUsers, NeverFall, Remembers, number_of}
use Rattle.notify_rules.proofs.deciding.decide_all.Given as goal

abbrev pub invariant-loop-sent : goal.invariant-loop-sent
invariant-loop-sent l =
    (x : Case) → IsCase l.asked x → NeverFall (reverse x.history) → All (Remembers x.check (reverse x.history)) l.notes → All (HasUsers l.site.notifies) l.notes →
    l.decisions ++ decided_on (site_view l.site) (holds_in (site_view l.site) l.zone) x l.kinds (map number_of (drop l.sent-index l.notes))
    ≡ decided_on (site_view l.site) (holds_in (site_view l.site) l.zone) x l.kinds (map number_of l.notes)
