use Rattle.std.proofs.Common.{◌∙◌, ap}
use Rattle.site_model.specs.Names.{with_name}
use Rattle.log_text.proofs.NamesLaws.{names_more}
use Rattle.history_carry.proofs.named.names_of.Goals as goal

pub loop-thing-preserved : goal.loop-thing-preserved
loop-thing-preserved g c =
    c.in_ok-add.ensures.names
    ∙ (ap (λ name. with_name name c.loop-thing.names) c.in_ok-clone.ensures.cases
    ∙ (ap (λ name. with_name name c.loop-thing.names) c.name.ensures
    ∙ (ap (with_name (g.T.Named.name_of c.thing-item.result)) c.loop-thing.invariant
    ∙ names_more g.T.Named.name_of c.args.things.now c.loop-thing.thing-index c.thing-item.result c.requires.distinct c.loop-thing-test.true c.thing-item.is)))
