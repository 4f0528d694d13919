use Rattle.std.proofs.Common.{map}
use Rattle.run_text.specs.TurnReading.{nothing_fed, turn_read}
use Rattle.run_text.proofs.CommandLaws.{turns_ask}
use Rattle.run_text.proofs.laws.scripts_keep_the_schedule.Goals as goal

pub returns-clause-slots : goal.returns-clause-slots
returns-clause-slots c s holds command callers given ts ls is =
    c.slots_are_by_looking_back.ensures s holds command nothing_fed callers given (map (turn_read s) ts) ls is (turns_ask s ts)

pub returns-clause-outstanding : goal.returns-clause-outstanding
returns-clause-outstanding c s holds command callers given ts ls is =
    c.outstanding_orders_are_the_same.ensures s holds command nothing_fed callers given (map (turn_read s) ts) ls is (turns_ask s ts)

pub returns-clause-few : goal.returns-clause-few
returns-clause-few c s holds command callers given ts ls is =
    c.no_more_orders_than_may_be.ensures s holds command nothing_fed callers given (map (turn_read s) ts) ls is (turns_ask s ts)
