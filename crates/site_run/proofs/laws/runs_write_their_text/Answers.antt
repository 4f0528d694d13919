-- By the status.
use Rattle.site_run.proofs.Told.{tells_of}
use Rattle.site_run.proofs.laws.runs_write_their_text.Goals as goal

pub returns : goal.returns
returns c = λ s course limit old new e. tells_of course limit old new s (λ _ _. Unit {0}) e
