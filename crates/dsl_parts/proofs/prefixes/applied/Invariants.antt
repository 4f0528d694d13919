use Rattle.std.proofs.Common.{◌≡◌, length}
use Rattle.dsl_syntax.specs.SyntaxView.{expr_view}
use Rattle.dsl_parts.specs.ExprParts.{prefixes_view}
use Rattle.dsl_grammar.specs.Grammar.{with_prefixes}
use Rattle.dsl_parts.proofs.prefixes.applied.Given as goal

abbrev pub invariant-loop-sign : goal.invariant-loop-sign
invariant-loop-sign l =
    with_prefixes (prefixes_view l.signs.items) (expr_view l.whole) ≡ with_prefixes (prefixes_view l.fn.signs.items) (expr_view l.fn.operand)

abbrev pub decreases-loop-sign : goal.decreases-loop-sign
decreases-loop-sign l = length l.signs.items
