use Rattle.std.proofs.Common.{◌≡◌, drop}
use Rattle.dsl_lexer.specs.Steps.{find_end}
use Rattle.dsl_lexer.proofs.Ends.{shifted}
use Rattle.dsl_lexer.proofs.spans.end_len.Given as goal

-- the end is found in what is left
abbrev pub invariant-loop-len : goal.invariant-loop-len
invariant-loop-len l = find_end l.end l.text ≡ shifted l.len (find_end l.end (drop l.len l.text))
