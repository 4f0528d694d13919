-- Nothing is shared.
use Rattle.std.proofs.Common.{None}
use Rattle.apply_rules.proofs.Shared.{are_shared}
use Rattle.apply_rules.proofs.evaluation.one_item.Goals as goal

pub returns-clause-shared : goal.returns-clause-shared
returns-clause-shared c = λ s. are_shared s (record { target = c.args.target.now; values = None }) tt c.keep.new.made.items c.in_ok-keep.ensures.like
