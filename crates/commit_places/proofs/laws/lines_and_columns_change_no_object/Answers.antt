use Rattle.commit_places.proofs.Commits.{commits_alike}
use Rattle.commit_places.proofs.laws.lines_and_columns_change_no_object.Goals as goal

pub returns : goal.returns
returns c = commits_alike
