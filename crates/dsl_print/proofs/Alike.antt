-- What is but for places: the wanted part of a tree, and what was read for it.
use Rattle.std.specs.Prelude.{◌≡◌}
use Rattle.dsl_syntax.specs.Syntax.{Expression, Expressions, MaybeExpression, Uses, Function, Loop, Statement, StatementKind, Statements}
use Rattle.dsl_grammar.specs.Grammar.{Begun, begun_expression}
use Rattle.dsl_print.specs.Bare.{bare_expression, bare_expressions, bare_maybe, bare_uses, bare_function, bare_loop, bare_statement, bare_statement_kind, bare_statements}

abbrev pub Is : Expression → Expression → Type 0
Is e v = bare_expression v ≡ bare_expression e

-- with the place where it begins
abbrev pub IsBegun : Expression → Begun → Type 0
IsBegun e v = bare_expression (begun_expression v) ≡ bare_expression e

abbrev pub AreLike : Expressions → Expressions → Type 0
AreLike es v = bare_expressions v ≡ bare_expressions es

abbrev pub IsMaybe : MaybeExpression → MaybeExpression → Type 0
IsMaybe m v = bare_maybe v ≡ bare_maybe m

abbrev pub IsUses : Uses → Uses → Type 0
IsUses us v = bare_uses v ≡ bare_uses us

abbrev pub IsFunction : Function → Function → Type 0
IsFunction f v = bare_function v ≡ bare_function f

abbrev pub IsLoop : Loop → Loop → Type 0
IsLoop l v = bare_loop v ≡ bare_loop l

abbrev pub IsKind : StatementKind → StatementKind → Type 0
IsKind k v = bare_statement_kind v ≡ bare_statement_kind k

abbrev pub IsStatement : Statement → Statement → Type 0
IsStatement s v = bare_statement v ≡ bare_statement s

abbrev pub IsBlock : Statements → Statements → Type 0
IsBlock d v = bare_statements v ≡ bare_statements d
