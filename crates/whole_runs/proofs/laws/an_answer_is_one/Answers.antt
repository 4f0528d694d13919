use Rattle.whole_runs.proofs.Queried.{one_answer}
use Rattle.whole_runs.proofs.laws.an_answer_is_one.Goals as goal

pub returns : goal.returns
returns c = λ s given turns query v w names p q. one_answer s given turns query v w names p q
