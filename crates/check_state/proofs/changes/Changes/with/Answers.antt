use Rattle.std.proofs.Common.{rules, ap, ◌∙◌, slice_set}
use Rattle.check_state.proofs.Turning.{turned}
use Rattle.check_state.proofs.changes.Changes.with.Goals as goal

pub returns : goal.returns
returns c = ap (λ z. slice_set z 0 c.args.change) c.rotate_right.ensures.after ∙ turned 19 c.args.self.slots c.args.change (search rules)
