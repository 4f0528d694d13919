use Rattle.std.proofs.Common.{[]}
use Rattle.live_world.proofs.Reading.{reads_pieces, lines_read}
use Rattle.live_world.proofs.lines.lines_are_read.Goals as goal

pub returns-clause-pieces : goal.returns-clause-pieces
returns-clause-pieces c = reads_pieces

pub returns-clause-lines : goal.returns-clause-lines
returns-clause-lines c = lines_read []
