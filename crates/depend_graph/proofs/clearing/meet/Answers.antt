use Rattle.depend_graph.proofs.Freed.{left_met}
use Rattle.depend_graph.proofs.clearing.meet.Goals as goal

pub returns-in_err-push-clause-left : goal.returns-in_err-push-clause-left
returns-in_err-push-clause-left c = left_met c.args.met.now.items c.args.checkable

pub returns-clause-left : goal.returns-clause-left
returns-clause-left c = left_met c.args.met.now.items c.args.checkable
