use Rattle.command_macros.proofs.StandLaws.{all_stand, they_rise, keys_stay}
use Rattle.command_macros.proofs.laws.arguments_stand_in_order.Goals as goal

pub returns-clause-same : goal.returns-clause-same
returns-clause-same c = all_stand

pub returns-clause-order : goal.returns-clause-order
returns-clause-order c = they_rise

pub returns-clause-keys : goal.returns-clause-keys
returns-clause-keys c = keys_stay
