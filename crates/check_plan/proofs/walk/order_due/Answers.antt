-- A plan is one again after the walk.
use Rattle.std.proofs.Common.{refl, sym, subst}
use Rattle.site_model.specs.PlainSite.{site_view}
use Rattle.site_posts.specs.Books.{histories_of}
use Rattle.check_plan.specs.Walks.{AreAside, outlook_now, standing}
use Rattle.check_plan.proofs.Aside.{none_aside}
use Rattle.check_plan.proofs.Planning.{plan_walked}
use Rattle.check_plan.proofs.walk.order_due.Goals as goal

pub returns-clause-plan : goal.returns-clause-plan
returns-clause-plan c = λ is.
    let s = site_view c.args.setting.now.site.now in
    let way = c.loop-checkable.invariant in
    plan_walked s (outlook_now s c.args.setting.now.zone.now c.args.setting.now.moment (histories_of c.args.books.now)) (record { watches = c.args.watches.now; orders = c.args.orders.now })
    (standing c.loop-checkable.watches c.loop-checkable.orders c.loop-checkable.walk) c.put_back.new.watches refl is way c.put_back.ensures.whole
    (c.put_back.ensures.waiting c.loop-checkable.orders.outstanding (subst (λ ks. AreAside c.loop-checkable.watches c.loop-checkable.orders.outstanding ks) (sym c.as_slice.ensures.value) (way.aside (none_aside c.args.watches.now c.args.orders.now.outstanding is.waiting))))
