use Rattle.group_growth.proofs.JoinLaws.{objects_join}
use Rattle.group_growth.proofs.laws.objects_join_groups_once.Goals as goal

pub returns : goal.returns
returns c = objects_join
