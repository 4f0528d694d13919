use Rattle.std.proofs.Common.{◌≡◌, length}
use Rattle.dsl_value.specs.Pairs.{dict_of}
use Rattle.eval_work.proofs.locals.Locals.put_left.Given as goal

abbrev pub invariant-loop-name : goal.invariant-loop-name
invariant-loop-name l = dict_of l.left l.self ≡ dict_of l.pairs l.fn.self

abbrev pub decreases-loop-name : goal.decreases-loop-name
decreases-loop-name l = length l.left
