use Rattle.std.proofs.Common.{arith}
use Rattle.std.proofs.lemmas.Grind.{common_steps}
use Rattle.depend_graph.proofs.Rows.{row_at}
use Rattle.notify_rules.proofs.note_index.add.Goals as goal

pub returns : goal.returns
returns c = grind (arith, common_steps, row_at)
