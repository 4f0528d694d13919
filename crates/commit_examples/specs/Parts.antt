-- Parts of configurations, as syntax. All of them stand at one place, but for those that are given one.
use Rattle.std.specs.Prelude.{ℕ, ◌+◌, List, [], ◌∷◌, codes, true}
use Rattle.site_base.specs.declared.place.Place.{Place}
use Rattle.dsl_syntax.specs.Syntax.{Expression, expression, Expressions, no_expressions, more_expressions, call, member_step, ExpressionKind, string, name, member, binary, boolean, at_name, no_steps, Statements, no_statements, more_statements, statement, StatementKind, assign, set}
use Rattle.dsl_syntax.specs.declared.set_op.SetOp.TheVariants as set_op
use Rattle.dsl_syntax.specs.declared.bin_op.BinOp.TheVariants as bin

abbrev pub in_line : ℕ → Place
in_line n = record { file = 0; line = n; col = 1 }

abbrev pub at : Place
at = in_line 1

abbrev pub of : ExpressionKind → Expression
of k = expression at k

abbrev pub text : List ℕ → Expression
text t = of (string t)

abbrev pub named : List ℕ → Expression
named n = of (name n)

-- `e.n`
abbrev pub part : Expression → List ℕ → Expression
part e n = of (member e n)

-- `e.n()` and `e.n(a, b)`
abbrev pub calls : Expression → List ℕ → Expressions → Expression
calls e n es = of (call (part e n) es)

abbrev pub two : Expression → Expression → Expressions
two a b = more_expressions a (more_expressions b no_expressions)

-- `a == b`
abbrev pub same : Expression → Expression → Expression
same a b = of (binary bin.Equal a b)

-- `a != b`
abbrev pub different : Expression → Expression → Expression
different a b = of (binary bin.NotEqual a b)

-- `host.name`
abbrev pub host_name : Expression
host_name = part (named (codes "host")) (codes "name")

abbrev pub block : List StatementKind → Statements
block [] = no_statements
block (k ∷ ks) = more_statements (statement at k) (block ks)

-- the statements one below the other, from this line on
abbrev pub lines : ℕ → List StatementKind → Statements
lines n [] = no_statements
lines n (k ∷ ks) = more_statements (statement (in_line n) k) (lines (n + 1) ks)

-- `n = e`
abbrev pub sets : List ℕ → Expression → StatementKind
sets n e = set (at_name n) no_steps set_op.Plain e

-- `vars.n = e`
abbrev pub sets_var : List ℕ → Expression → StatementKind
sets_var n e = set (at_name (codes "vars")) (member_step n no_steps) set_op.Plain e

-- `assign where true`
abbrev pub always : StatementKind
always = assign (of (boolean true))
