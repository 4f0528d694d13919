use Rattle.commit_places.proofs.Waves.{diags_of_moved}
use Rattle.commit_places.proofs.Commits.{committed_moved}
use Rattle.commit_places.proofs.laws.commits_at_other_places.Goals as goal

pub returns-clause-objects : goal.returns-clause-objects
returns-clause-objects c = committed_moved

pub returns-clause-diags : goal.returns-clause-diags
returns-clause-diags c = diags_of_moved
