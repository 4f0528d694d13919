use Rattle.std.proofs.Common.{arith}
use Rattle.std.proofs.lemmas.Grind.{common_steps}
use Rattle.object_lists.proofs.MemberLaws.{list_there}
use Rattle.object_lists.proofs.members.push_at.Goals as goal

pub returns : goal.returns
returns c = grind (arith, common_steps, list_there)
