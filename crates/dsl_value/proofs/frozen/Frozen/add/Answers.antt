use Rattle.std.proofs.Common.{ap, ◌∙◌}
use Rattle.dsl_value.specs.Parts.{beside, all_of, layers_of}
use Rattle.dsl_value.proofs.Layered.{counted_beside}
use Rattle.dsl_value.proofs.frozen.Frozen.add.Goals as goal

pub invariant_of-self : goal.invariant_of-self
invariant_of-self c =
    counted_beside (layers_of c.self.inside.layers) _ c.args.live c.self.inside.cells c.self.inside.functions c.len.result c.functions.result c.self.invariant c.len.ensures c.functions.ensures
    (c.in-Ok.ensures ∙ ap (λ ls. beside (all_of ls) c.args.live) c.layers_in.ensures)

pub returns-clause-ok : goal.returns-clause-ok
returns-clause-ok c =
    c.in-Ok.ensures
    ∙ ap (λ ls. beside (all_of ls) c.args.live) c.layers_in.ensures
    ∙ ap (λ s. beside s c.args.live) c.self.view_is
