use Rattle.std.proofs.Common.{ap, ◌∙◌}
use Rattle.dsl_value.specs.Parts.{all_of}
use Rattle.dsl_value.proofs.Layered.{all_added}
use Rattle.dsl_value.proofs.frozen.push_layer.Goals as goal

pub returns-in_ok-push : goal.returns-in_ok-push
returns-in_ok-push c = ap all_of c.in_ok-push.ensures.items ∙ all_added c.args.layers.now.items c.args.layer
