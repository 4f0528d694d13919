use Rattle.commit_laws.proofs.Commits.{commit_loses_nothing}
use Rattle.commit_laws.proofs.laws.a_commit_loses_nothing.Goals as goal

pub returns : goal.returns
returns c = λ phases last load is. commit_loses_nothing phases last load is
