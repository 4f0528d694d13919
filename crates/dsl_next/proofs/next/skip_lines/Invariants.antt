use Rattle.std.proofs.Common.{◌≡◌, length}
use Rattle.dsl_rules.specs.Alphabet.{skip}
use Rattle.dsl_grammar.specs.Codes.{sorts}
use Rattle.dsl_next.proofs.next.skip_lines.Given as goal

abbrev pub decreases-loop-rest : goal.decreases-loop-rest
decreases-loop-rest l = length l.rest

abbrev pub invariant-loop-rest : goal.invariant-loop-rest
invariant-loop-rest l = skip sorts l.rest ≡ skip sorts l.fn.tokens
