use Rattle.whole_runs.proofs.Given.{one_site_log}
use Rattle.whole_runs.proofs.laws.a_site_log_is_one.Goals as goal

pub returns : goal.returns
returns c = λ style recur limit s histories turns v w names p q. one_site_log style recur limit s histories turns v w names p q
