use Rattle.std.proofs.Common.{◌≡◌, ◌++◌, drop, map}
use Rattle.eval_meaning.specs.Load.{own_name}
use Rattle.dsl_load.specs.Starts.{texts_view}
use Rattle.dsl_load.proofs.first_names.push_own_names.Given as goal

abbrev pub invariant-loop-name : goal.invariant-loop-name
invariant-loop-name l = l.strings.items ++ map own_name (texts_view (drop l.name-index l.names)) ≡ l.fn.strings.items ++ map own_name (texts_view l.names)
