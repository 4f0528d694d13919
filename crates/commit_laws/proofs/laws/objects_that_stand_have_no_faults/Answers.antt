use Rattle.commit_laws.proofs.Standing.{no_duplicates, no_missing}
use Rattle.commit_laws.proofs.laws.objects_that_stand_have_no_faults.Goals as goal

pub returns-clause-apart : goal.returns-clause-apart
returns-clause-apart c = no_duplicates

pub returns-clause-there : goal.returns-clause-there
returns-clause-there c = no_missing
