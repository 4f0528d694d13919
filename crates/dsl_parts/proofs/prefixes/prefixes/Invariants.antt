use Rattle.std.proofs.Common.{◌≡◌, ◌-◌, false}
use Rattle.dsl_rules.specs.Grammar.{always}
use Rattle.dsl_rules.specs.Reading.{turns}
use Rattle.dsl_grammar.specs.Codes.{sorts}
use Rattle.dsl_parts.specs.ExprParts.{prefixes_view}
use Rattle.dsl_grammar.specs.Grammar.{OnePrefix, Prefixes, add_prefix}
use Rattle.dsl_grammar.specs.Operators.{unary_sorts}
use Rattle.dsl_grammar.specs.Reading.{read_by}
use Rattle.dsl_parts.proofs.prefixes.prefixes.Given as goal

abbrev pub invariant-loop : goal.invariant-loop
invariant-loop l =
    turns sorts false unary_sorts always add_prefix (read_by l.most OnePrefix) (l.most - l.counter) (prefixes_view l.signs.items) l.rest ≡ read_by l.most Prefixes l.tokens
