use Rattle.std.proofs.Common.{◌+◌, ◌≤◌, length}
use Rattle.dsl_lexer.specs.Lexing.{lexed}
use Rattle.dsl_lexer.proofs.Lexeds.{Reads}
use Rattle.dsl_lexer.proofs.Utf8Laws.{Alike}
use Rattle.dsl_lexer.proofs.lexing.tokens_of.Given as goal

abbrev pub invariant-loop-rest : goal.invariant-loop-rest
invariant-loop-rest l = record {
  text : Alike l.rest l.bytes;
  reads : Reads l.tokens l.place l.brackets.items l.rest (lexed l.fn.start l.bytes);
  line : l.place.line + length l.rest ≤ l.fn.start.line + length l.bytes;
  col : l.place.col + length l.rest ≤ l.fn.start.col + length l.bytes;
}

abbrev pub decreases-loop-rest : goal.decreases-loop-rest
decreases-loop-rest l = length l.rest
