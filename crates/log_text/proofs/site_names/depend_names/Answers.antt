use Rattle.std.proofs.Common.{◌∙◌, ap}
use Rattle.site_model.specs.Names.{with_name}
use Rattle.log_text.proofs.NamesLaws.{names_more}
use Rattle.log_text.proofs.site_names.depend_names.Goals as goal

pub loop-depend-preserved : goal.loop-depend-preserved
loop-depend-preserved c =
    c.in_ok-add.ensures.names
    ∙ (ap (λ name. with_name name c.loop-depend.names) c.in_ok-clone.ensures.cases
    ∙ (ap (with_name c.depend-item.result.name) c.loop-depend.invariant
    ∙ names_more (λ d. d.name) c.args.depends.now c.loop-depend.depend-index c.depend-item.result c.requires.distinct c.loop-depend-test.true c.depend-item.is))
