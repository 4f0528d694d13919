use Rattle.commit_meaning.proofs.Deciding.{is_world}
use Rattle.commit_meaning.proofs.laws.worlds_decide_reads.Goals as goal

pub returns : goal.returns
returns c = is_world
