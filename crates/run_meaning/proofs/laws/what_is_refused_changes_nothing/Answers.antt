use Rattle.run_meaning.proofs.Dealing.{same_dealt, same_outstanding, same_stage, same_turn}
use Rattle.run_meaning.proofs.laws.what_is_refused_changes_nothing.Goals as goal

pub returns-clause-events : goal.returns-clause-events
returns-clause-events c = same_dealt

pub returns-clause-outstanding : goal.returns-clause-outstanding
returns-clause-outstanding c = same_outstanding

pub returns-clause-log : goal.returns-clause-log
returns-clause-log c = same_turn

pub returns-clause-stage : goal.returns-clause-stage
returns-clause-stage c = same_stage
