use Rattle.dsl_lib.proofs.PieceLaws.{pieces_join}
use Rattle.dsl_lib.proofs.laws.pieces_join_to_the_text.Goals as goal

pub returns : goal.returns
returns c = pieces_join
