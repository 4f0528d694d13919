-- Lists of the syntax tree with one thing more, without places.
use Rattle.std.proofs.Common.{◌≡◌, ℕ, List, refl, ap}
use Rattle.dsl_syntax.specs.Syntax.{Expression, Expressions, no_expressions, more_expressions, Entries, no_entries, more_entries, MaybeExpression, Uses, no_uses, more_uses, Steps, no_steps, member_step, index_step, Arms, no_arms, more_arms, Statement, Statements, no_statements, more_statements}
use Rattle.dsl_syntax.specs.Lists.{add_expression, add_entry, add_use, add_member, add_index, add_arm, add_statement}
use Rattle.dsl_print.specs.Bare.{bare_expression, bare_expressions, bare_entries, bare_maybe, bare_uses, bare_steps, bare_arms, bare_statement, bare_statements}

-- Expressions.

pub bare_add_expression : (xs : Expressions) (e : Expression) → bare_expressions (add_expression xs e) ≡ add_expression (bare_expressions xs) (bare_expression e)
bare_add_expression no_expressions e = refl
bare_add_expression (more_expressions x xs) e = ap (more_expressions (bare_expression x)) (bare_add_expression xs e)

-- Entries.

pub bare_add_entry : (xs : Entries) (k : List ℕ) (e : Expression) → bare_entries (add_entry xs k e) ≡ add_entry (bare_entries xs) k (bare_expression e)
bare_add_entry no_entries k e = refl
bare_add_entry (more_entries j x xs) k e = ap (more_entries j (bare_expression x)) (bare_add_entry xs k e)

-- Captured names.

pub bare_add_use : (xs : Uses) (k : List ℕ) (e : MaybeExpression) → bare_uses (add_use xs k e) ≡ add_use (bare_uses xs) k (bare_maybe e)
bare_add_use no_uses k e = refl
bare_add_use (more_uses j x xs) k e = ap (more_uses j (bare_maybe x)) (bare_add_use xs k e)

-- Steps.

pub bare_add_member : (xs : Steps) (n : List ℕ) → bare_steps (add_member xs n) ≡ add_member (bare_steps xs) n
bare_add_member no_steps n = refl
bare_add_member (member_step m xs) n = ap (member_step m) (bare_add_member xs n)
bare_add_member (index_step e xs) n = ap (index_step (bare_expression e)) (bare_add_member xs n)

pub bare_add_index : (xs : Steps) (i : Expression) → bare_steps (add_index xs i) ≡ add_index (bare_steps xs) (bare_expression i)
bare_add_index no_steps i = refl
bare_add_index (member_step m xs) i = ap (member_step m) (bare_add_index xs i)
bare_add_index (index_step e xs) i = ap (index_step (bare_expression e)) (bare_add_index xs i)

-- Arms.

pub bare_add_arm : (xs : Arms) (e : Expression) (b : Statements) → bare_arms (add_arm xs e b) ≡ add_arm (bare_arms xs) (bare_expression e) (bare_statements b)
bare_add_arm no_arms e b = refl
bare_add_arm (more_arms x c xs) e b = ap (more_arms (bare_expression x) (bare_statements c)) (bare_add_arm xs e b)

-- Statements.

pub bare_add_statement : (xs : Statements) (s : Statement) → bare_statements (add_statement xs s) ≡ add_statement (bare_statements xs) (bare_statement s)
bare_add_statement no_statements s = refl
bare_add_statement (more_statements x xs) s = ap (more_statements (bare_statement x)) (bare_add_statement xs s)
