use Rattle.site_conf.proofs.TellingLaws.{in_order}
use Rattle.site_conf.proofs.laws.faults_stand_in_walking_order.Goals as goal

pub returns : goal.returns
returns c = in_order
