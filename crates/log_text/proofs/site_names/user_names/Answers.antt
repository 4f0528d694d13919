use Rattle.std.proofs.Common.{◌∙◌, ap}
use Rattle.site_model.specs.Names.{with_name}
use Rattle.log_text.proofs.NamesLaws.{names_more}
use Rattle.log_text.proofs.site_names.user_names.Goals as goal

pub loop-user-preserved : goal.loop-user-preserved
loop-user-preserved c =
    c.in_ok-add.ensures.names
    ∙ (ap (λ name. with_name name c.loop-user.names) c.in_ok-clone.ensures.cases
    ∙ (ap (with_name c.user-item.result.name) c.loop-user.invariant
    ∙ names_more (λ u. u.name) c.args.users.now c.loop-user.user-index c.user-item.result c.requires.distinct c.loop-user-test.true c.user-item.is))
