use Rattle.std.proofs.Common.{◌≡◌, drop, map}
use Rattle.dsl_value.specs.Pairs.{dict_of}
use Rattle.eval_meaning.specs.Load.{constant_that}
use Rattle.dsl_load.specs.Starts.{texts_view}
use Rattle.dsl_load.proofs.first_names.put_constants.Given as goal

abbrev pub invariant-loop-name : goal.invariant-loop-name
invariant-loop-name l = dict_of (map (constant_that l.can_be_replaced) (texts_view (drop l.name-index l.names))) l.constants ≡ dict_of (map (constant_that l.can_be_replaced) (texts_view l.names)) l.fn.constants
