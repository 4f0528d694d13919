use Rattle.dsl_ops.proofs.Merging.{merges}
use Rattle.dsl_ops.proofs.laws.right_keys_win.Goals as goal

pub returns : goal.returns
returns c = merges
