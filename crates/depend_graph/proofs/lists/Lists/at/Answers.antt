use Rattle.std.proofs.Common.{rules}
use Rattle.depend_graph.proofs.Rows.{row_at}
use Rattle.depend_graph.proofs.lists.Lists.at.Goals as goal

pub returns : goal.returns
returns c = search (rules, row_at)
