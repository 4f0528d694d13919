use Rattle.std.proofs.Common.{◌≡◌, drop}
use Rattle.dsl_lib.specs.Names.{call_among}
use Rattle.dsl_lib.proofs.names.call_among.Given as goal

abbrev pub invariant-loop-call : goal.invariant-loop-call
invariant-loop-call l = call_among (drop l.call-index l.calls) l.name ≡ call_among l.calls l.name
