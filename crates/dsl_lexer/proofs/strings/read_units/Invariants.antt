use Rattle.std.proofs.Common.{◌-◌, ◌≤◌, length}
use Rattle.dsl_lexer.specs.Strings.{body_of}
use Rattle.dsl_lexer.proofs.Bodies.{Reads}
use Rattle.dsl_lexer.proofs.strings.read_units.Given as goal

abbrev pub invariant-loop-rest : goal.invariant-loop-rest
invariant-loop-rest l = record { within : length l.rest ≤ length l.bytes; reads : Reads l.value.items l.rest (length l.bytes - length l.rest) (body_of l.bytes) }

abbrev pub decreases-loop-rest : goal.decreases-loop-rest
decreases-loop-rest l = length l.rest
