use Rattle.std.proofs.Common.{◌≡◌, ◌+◌, ◌≤◌, drop}
use Rattle.dsl_lexer.specs.Places.{place_behind}
use Rattle.dsl_lexer.proofs.lexing.place_behind.Given as goal

abbrev pub invariant-loop-byte : goal.invariant-loop-byte
invariant-loop-byte l = record {
  rest : place_behind (drop l.byte-index l.bytes) l.place ≡ place_behind l.bytes l.fn.start;
  line : l.place.line ≤ l.fn.start.line + l.byte-index;
  col : l.place.col ≤ l.fn.start.col + l.byte-index;
}
