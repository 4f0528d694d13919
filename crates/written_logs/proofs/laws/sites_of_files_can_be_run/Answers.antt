use Rattle.written_logs.proofs.Sites.{runs}
use Rattle.written_logs.proofs.laws.sites_of_files_can_be_run.Goals as goal

pub returns : goal.returns
returns c = runs
