use Rattle.commit_meaning.proofs.ViewAnswers.{answers_stay}
use Rattle.commit_meaning.proofs.laws.answers_stay.Goals as goal

pub returns : goal.returns
returns c = answers_stay
