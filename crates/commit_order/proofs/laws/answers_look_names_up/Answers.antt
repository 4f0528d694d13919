use Rattle.commit_order.proofs.Answers.{answers_alike}
use Rattle.commit_order.proofs.laws.answers_look_names_up.Goals as goal

pub returns : goal.returns
returns c = answers_alike
