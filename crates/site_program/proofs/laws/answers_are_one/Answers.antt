-- One answer.
use Rattle.site_program.proofs.OneAnswer.{one_answer}
use Rattle.site_program.proofs.laws.answers_are_one.Goals as goal

pub returns : goal.returns
returns c = one_answer
