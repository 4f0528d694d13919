use Rattle.audit_laws.proofs.CallersTold.{turn_told_by}
use Rattle.audit_laws.proofs.rounds.blocks_tell_turns_of_callers.Goals as goal

pub returns : goal.returns
returns c = turn_told_by
