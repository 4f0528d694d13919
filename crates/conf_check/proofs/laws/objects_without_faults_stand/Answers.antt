use Rattle.conf_check.proofs.StandingLaws.{are_apart, all_stand}
use Rattle.conf_check.proofs.laws.objects_without_faults_stand.Goals as goal

pub returns-clause-apart : goal.returns-clause-apart
returns-clause-apart c = are_apart

pub returns-clause-there : goal.returns-clause-there
returns-clause-there c = all_stand
