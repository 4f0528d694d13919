-- One caller leaves one thing, of which there is one state file.
use Rattle.kept_runs.proofs.Kept.{one_file}
use Rattle.kept_runs.proofs.laws.a_state_file_is_one.Goals as goal

pub returns : goal.returns
returns c = λ s given turns v w names p q. one_file s given turns v w names p q
