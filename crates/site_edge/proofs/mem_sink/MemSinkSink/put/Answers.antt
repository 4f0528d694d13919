use Rattle.std.proofs.Common.{rules}
use Rattle.site_edge.proofs.Parts.{adds_front}
use Rattle.site_edge.proofs.mem_sink.MemSinkSink.put.Goals as goal

pub returns-then-fails-clause-err : goal.returns-then-fails-clause-err
returns-then-fails-clause-err c = search (rules, adds_front)
