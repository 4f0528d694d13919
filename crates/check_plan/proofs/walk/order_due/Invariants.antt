-- The walk is on its way.
use Rattle.std.proofs.Common.{length}
use Rattle.site_model.specs.PlainSite.{site_view}
use Rattle.run_meaning.specs.Schedule.{due_from}
use Rattle.site_posts.specs.Books.{histories_of}
use Rattle.check_plan.specs.Walks.{IsOnWay, first_of, outlook_now, standing}
use Rattle.check_plan.proofs.walk.order_due.Given as goal

abbrev pub invariant-loop-checkable : goal.invariant-loop-checkable
invariant-loop-checkable l =
    IsOnWay (outlook_now (site_view l.setting.site.now) l.setting.zone.now l.setting.moment (histories_of l.books)) (first_of (record { watches = l.initial.watches; orders = l.initial.orders })) (standing l.watches l.orders l.walk)

abbrev pub decreases-loop-checkable : goal.decreases-loop-checkable
decreases-loop-checkable l = length (due_from l.setting.moment 0 l.watches)
