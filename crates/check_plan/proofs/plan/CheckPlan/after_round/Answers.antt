-- The walk behind a round's entries is the schedule's.
use Rattle.std.proofs.Common.{sym, ap, subst, ◌∙◌}
use Rattle.run_meaning.specs.Schedule as meant
use Rattle.site_model.specs.PlainSite.{site_view}
use Rattle.check_plan.specs.Plans.{Plan}
use Rattle.check_plan.specs.Rounds.{BeginsWith}
use Rattle.check_plan.proofs.Planning.{if_ok, on_ok, walk_from_round}
use Rattle.check_plan.proofs.plan.CheckPlan.after_round.Goals as goal

pub returns-clause-orders : goal.returns-clause-orders
returns-clause-orders c = λ command plans before round begins is.
    let s = site_view c.args.setting.now.site.now in
    let p : Plan = record { watches = c.self.inside.watches; orders = c.self.inside.orders } in
    let own = subst (BeginsWith s plans) (sym c.self.view_is) begins in
    if_ok (λ r so. so ∙ ap (λ (w : meant.Walk). w.orders) (walk_from_round s c.args.setting.now.zone.now command c.args.setting.now.moment plans p c.args.books.now before round c.args.segments.now c.follow.new.watches own is (c.follow.ensures.followed before round is.whole is.gathered is.shown))) c.order_due.result (c.order_due.ensures.orders command)

pub returns-clause-slots : goal.returns-clause-slots
returns-clause-slots c = λ command plans before round begins is.
    let s = site_view c.args.setting.now.site.now in
    let p : Plan = record { watches = c.self.inside.watches; orders = c.self.inside.orders } in
    let own = subst (BeginsWith s plans) (sym c.self.view_is) begins in
    on_ok (λ so. so ∙ ap (λ (w : meant.Walk). w.slots) (walk_from_round s c.args.setting.now.zone.now command c.args.setting.now.moment plans p c.args.books.now before round c.args.segments.now c.follow.new.watches own is (c.follow.ensures.followed before round is.whole is.gathered is.shown))) c.order_due.result (c.order_due.ensures.slots command)
