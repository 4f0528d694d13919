use Rattle.std.proofs.Common.{◌≡◌, drop}
use Rattle.dsl_value.specs.Pairs.{dict_of}
use Rattle.eval_meaning.specs.Functions.{bound}
use Rattle.name_work.proofs.calling.put_params.Given as goal

abbrev pub invariant-loop-i : goal.invariant-loop-i
invariant-loop-i l = dict_of (bound (drop l.i l.params) (drop l.i l.args)) l.locals ≡ dict_of (bound l.params l.args) l.fn.locals
