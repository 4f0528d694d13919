use Rattle.std.proofs.Common.{◌≡◌, ◌-◌, [], ◌∷◌, false}
use Rattle.dsl_lexer.specs.declared.sign.Sign.TheVariants as signs
use Rattle.dsl_rules.specs.Grammar.{always}
use Rattle.dsl_rules.specs.Reading.{turns}
use Rattle.dsl_grammar.specs.Codes.{sorts, sign_sort}
use Rattle.dsl_grammar.specs.Grammar.{Names, add_name}
use Rattle.dsl_grammar.specs.Reading.{read_by}
use Rattle.dsl_grammar.specs.Terms.{behind, sign, IDENT}
use Rattle.dsl_parts.proofs.functions.names.Given as goal

abbrev pub invariant-loop : goal.invariant-loop
invariant-loop l =
    turns sorts false (sign_sort signs.Comma ∷ []) always add_name (read_by l.most (behind (sign signs.Comma) IDENT)) (l.most - l.counter) l.list l.rest ≡ read_by l.most Names l.tokens
