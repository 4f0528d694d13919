use Rattle.std.proofs.Common.{◌∙◌, ap}
use Rattle.site_model.specs.Names.{with_name}
use Rattle.log_text.proofs.NamesLaws.{names_more}
use Rattle.log_text.proofs.site_names.notify_names.Goals as goal

pub loop-notify-preserved : goal.loop-notify-preserved
loop-notify-preserved c =
    c.in_ok-add.ensures.names
    ∙ (ap (λ name. with_name name c.loop-notify.names) c.in_ok-clone.ensures.cases
    ∙ (ap (with_name c.notify-item.result.name) c.loop-notify.invariant
    ∙ names_more (λ n. n.name) c.args.notifies.now c.loop-notify.notify-index c.notify-item.result c.requires.distinct c.loop-notify-test.true c.notify-item.is))
