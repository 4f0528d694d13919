use Rattle.caller_examples.proofs.BothOrders.{line_is_first, report_is_first}
use Rattle.caller_examples.proofs.callers.two_callers_on_a_service.Goals as goal

pub returns-clause-line : goal.returns-clause-line
returns-clause-line c = line_is_first

pub returns-clause-report : goal.returns-clause-report
returns-clause-report c = report_is_first
