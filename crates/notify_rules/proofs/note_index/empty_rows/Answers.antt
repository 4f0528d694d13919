use Rattle.std.proofs.Common.{arith}
use Rattle.std.proofs.lemmas.Grind.{common_steps}
use Rattle.depend_graph.proofs.Rows.{row_none}
use Rattle.notify_rules.proofs.note_index.empty_rows.Goals as goal

pub loop-index-preserved : goal.loop-index-preserved
loop-index-preserved c = record {
  many = grind (arith, common_steps);
  empty = λ k. grind (arith, common_steps, row_none _ k c.loop-index.invariant.empty);
}
