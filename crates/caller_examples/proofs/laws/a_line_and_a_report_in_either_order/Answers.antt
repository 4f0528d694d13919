use Rattle.caller_examples.proofs.LineAndReport.{run_is}
use Rattle.caller_examples.proofs.laws.a_line_and_a_report_in_either_order.Goals as goal

pub returns : goal.returns
returns c = run_is
