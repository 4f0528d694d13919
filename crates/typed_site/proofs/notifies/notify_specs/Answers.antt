use Rattle.std.proofs.Common.{◌++◌, ap, ◌∙◌}
use Rattle.std.specs.Borrow.{Bor}
use Rattle.std.specs.Option.{option_to_list}
use Rattle.site_model.specs.PlainSite.{object_view}
use Rattle.site_model.specs.declared.object.Object.{Object}
use Rattle.object_lists.proofs.Steps.{flat_end, flat_step}
use Rattle.typed_site.specs.Notifies.{notify_of}
use Rattle.typed_site.proofs.notifies.notify_specs.Goals as goal

pub loop-notify-preserved : goal.loop-notify-preserved
loop-notify-preserved c = λ ms are.
    flat_step (λ o. option_to_list (notify_of c.args.known.periods.now c.args.known.checkables.now c.args.known.users.now ms o)) (λ (o : Bor Object). object_view o.now)
    c.args.notifies.now c.loop-notify.notify-index c.notify-item.result c.loop-notify.specs.items c.push_some.new.out.items _
    c.loop-notify-test.true c.notify-item.is (c.in_ok-push_some.ensures ∙ ap (λ s. c.loop-notify.specs.items ++ option_to_list s) (c.in_ok-notify_spec.ensures ms are)) (c.loop-notify.invariant ms are)

pub returns : goal.returns
returns c = λ ms are.
    c.from.ensures
    ∙ flat_end (λ o. option_to_list (notify_of c.args.known.periods.now c.args.known.checkables.now c.args.known.users.now ms o)) (λ (o : Bor Object). object_view o.now)
    c.args.notifies.now c.loop-notify.notify-index c.loop-notify.specs.items _ c.loop-notify-test.false (c.loop-notify.invariant ms are)
