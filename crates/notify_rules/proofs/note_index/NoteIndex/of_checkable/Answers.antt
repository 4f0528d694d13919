use Rattle.std.proofs.Common.{rules}
use Rattle.depend_graph.proofs.Rows.{row_at}
use Rattle.notify_rules.proofs.note_index.NoteIndex.of_checkable.Goals as goal

pub returns : goal.returns
returns c = search (rules, row_at)
