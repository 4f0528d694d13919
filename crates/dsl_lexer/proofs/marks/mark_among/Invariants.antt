use Rattle.std.proofs.Common.{◌≡◌, drop}
use Rattle.dsl_lexer.specs.Marks.{mark_among}
use Rattle.dsl_lexer.proofs.marks.mark_among.Given as goal

abbrev pub invariant-loop-mark : goal.invariant-loop-mark
invariant-loop-mark l = mark_among (drop l.mark-index l.marks) l.text ≡ mark_among l.marks l.text
