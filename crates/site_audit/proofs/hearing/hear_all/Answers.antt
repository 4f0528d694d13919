use Rattle.std.proofs.Common.{map, sym, ◌∙◌}
use Rattle.site_model.specs.PlainSite.{check_view}
use Rattle.site_audit.proofs.HearLaws.{more_heard, of_some, orders_go_on}
use Rattle.site_audit.proofs.hearing.hear_all.Goals as goal

pub loop-entry-preserved : goal.loop-entry-preserved
loop-entry-preserved c = (
  more_heard c.args.callers (map (λ x. x.name) (map check_view c.args.checks.now)) c.loop-entry.orders.items c.in-Some.entry _ _ c.loop-entry.all _ c.in-Some.ensures.steps.0 c.loop-entry.invariant.0 c.in-Some-2.more c.hear.new.orders.items
      (sym c.in-Some-2.is ∙ c.in_ok-more.ensures.heard) (of_some _ _ _ c.in-Some-2.is c.in_ok-more.ensures.orders),
  orders_go_on c.loop-entry.orders.items c.hear.new.orders.items c.in-Some.entry _ _ _ c.in-Some.ensures.steps.0 c.loop-entry.invariant.1 (of_some _ _ _ c.in-Some-2.is c.in_ok-more.ensures.orders),
)
