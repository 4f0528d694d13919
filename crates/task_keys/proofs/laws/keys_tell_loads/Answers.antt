use Rattle.task_keys.proofs.AlikeLoads.{agreed, agrees}
use Rattle.task_keys.proofs.laws.keys_tell_loads.Goals as goal

pub returns : goal.returns
returns c = λ p q. (agrees p q, agreed p q)
