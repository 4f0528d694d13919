-- By its turns as they are read, and when its periods hold.
use Rattle.site_run.proofs.OneLog.{one_log}
use Rattle.site_run.proofs.laws.a_log_over_a_site_is_one.Goals as goal

pub returns : goal.returns
returns c = λ style limit s given turns v w names p q. one_log style limit s given turns v w names p q
