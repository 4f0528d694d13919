use Rattle.std.proofs.Common.{◌≡◌, [], ◌∷◌, ◌-◌, false}
use Rattle.dsl_lexer.specs.declared.sign.Sign.TheVariants as signs
use Rattle.dsl_rules.specs.Grammar.{always}
use Rattle.dsl_rules.specs.Reading.{turns}
use Rattle.dsl_grammar.specs.Codes.{sorts, sign_sort}
use Rattle.dsl_grammar.specs.Grammar.{Dashed, dashed}
use Rattle.dsl_grammar.specs.Reading.{read_by}
use Rattle.dsl_grammar.specs.Terms.{IDENT, behind, sign}
use Rattle.dsl_statements.proofs.inclusions.dashed_name.Given as goal

-- what the rest gives from here on is what all gives
abbrev pub invariant-loop : goal.invariant-loop
invariant-loop l =
    turns sorts false (sign_sort signs.Minus ∷ []) always dashed (read_by l.most (behind (sign signs.Minus) IDENT)) (l.most - l.counter) l.name l.rest
    ≡ read_by l.most Dashed l.fn.tokens
