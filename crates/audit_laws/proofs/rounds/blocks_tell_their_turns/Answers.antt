use Rattle.audit_laws.proofs.TurnTold.{turn_told_again}
use Rattle.audit_laws.proofs.rounds.blocks_tell_their_turns.Goals as goal

pub returns : goal.returns
returns c = turn_told_again
