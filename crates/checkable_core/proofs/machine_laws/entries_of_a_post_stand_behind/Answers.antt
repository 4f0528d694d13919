use Rattle.checkable_core.proofs.Behind.{counted, replayed, seen_of_all}
use Rattle.checkable_core.proofs.machine_laws.entries_of_a_post_stand_behind.Goals as goal

pub returns-clause-replayed : goal.returns-clause-replayed
returns-clause-replayed c = replayed

pub returns-clause-counted : goal.returns-clause-counted
returns-clause-counted c = counted

pub returns-clause-seen : goal.returns-clause-seen
returns-clause-seen c = seen_of_all
