-- The lists of the plain syntax tree: one thing of each, one more at the end, one list after the other, the k-th thing,
-- and what is left behind the first k.
use Rattle.std.specs.Prelude.{ℕ, zero, suc, List, Option, Some, None}
use Rattle.dsl_syntax.specs.Syntax.{Expression, Expressions, no_expressions, more_expressions, Entries, no_entries, more_entries, MaybeExpression, Uses, no_uses, more_uses, Steps, no_steps, member_step, index_step, Arms, no_arms, more_arms, Statement, Statements, no_statements, more_statements}

-- One thing of a list.

-- a key and its value, as written in a dictionary
pub data Entry : Type 0 where
  entry : List ℕ → Expression → Entry

-- a name of a `use` list, with the expression of its value if it has one
pub data Captured : Type 0 where
  captured : List ℕ → MaybeExpression → Captured

-- the way to a member, or to what an index names
pub data OneStep : Type 0 where
  to_member : List ℕ → OneStep
  to_index : Expression → OneStep

-- a condition, and what is run if it holds
pub data Armed : Type 0 where
  armed : Expression → Statements → Armed

-- one thing before a list

abbrev pub more_entry : Entry → Entries → Entries
more_entry (entry k x) xs = more_entries k x xs

abbrev pub more_captured : Captured → Uses → Uses
more_captured (captured n x) xs = more_uses n x xs

abbrev pub more_step : OneStep → Steps → Steps
more_step (to_member n) xs = member_step n xs
more_step (to_index x) xs = index_step x xs

abbrev pub more_armed : Armed → Arms → Arms
more_armed (armed x b) xs = more_arms x b xs

-- Expressions.

abbrev pub add_expression : Expressions → Expression → Expressions
add_expression no_expressions e = more_expressions e no_expressions
add_expression (more_expressions x xs) e = more_expressions x (add_expression xs e)

abbrev pub join_expressions : Expressions → Expressions → Expressions
join_expressions no_expressions ys = ys
join_expressions (more_expressions x xs) ys = more_expressions x (join_expressions xs ys)

abbrev pub expression_at : Expressions → ℕ → Option Expression
expression_at no_expressions k = None
expression_at (more_expressions x xs) zero = Some x
expression_at (more_expressions x xs) (suc k) = expression_at xs k

abbrev pub expressions_from : ℕ → Expressions → Expressions
expressions_from zero xs = xs
expressions_from (suc k) no_expressions = no_expressions
expressions_from (suc k) (more_expressions x xs) = expressions_from k xs

-- Entries.

abbrev pub add_entry : Entries → List ℕ → Expression → Entries
add_entry no_entries n e = more_entries n e no_entries
add_entry (more_entries k x xs) n e = more_entries k x (add_entry xs n e)

abbrev pub join_entries : Entries → Entries → Entries
join_entries no_entries ys = ys
join_entries (more_entries k x xs) ys = more_entries k x (join_entries xs ys)

abbrev pub entry_at : Entries → ℕ → Option Entry
entry_at no_entries k = None
entry_at (more_entries k x xs) zero = Some (entry k x)
entry_at (more_entries n x xs) (suc k) = entry_at xs k

abbrev pub entries_from : ℕ → Entries → Entries
entries_from zero xs = xs
entries_from (suc k) no_entries = no_entries
entries_from (suc k) (more_entries n x xs) = entries_from k xs

-- Captured names.

abbrev pub add_use : Uses → List ℕ → MaybeExpression → Uses
add_use no_uses n e = more_uses n e no_uses
add_use (more_uses m x xs) n e = more_uses m x (add_use xs n e)

abbrev pub join_uses : Uses → Uses → Uses
join_uses no_uses ys = ys
join_uses (more_uses m x xs) ys = more_uses m x (join_uses xs ys)

abbrev pub use_at : Uses → ℕ → Option Captured
use_at no_uses k = None
use_at (more_uses m x xs) zero = Some (captured m x)
use_at (more_uses m x xs) (suc k) = use_at xs k

abbrev pub uses_from : ℕ → Uses → Uses
uses_from zero xs = xs
uses_from (suc k) no_uses = no_uses
uses_from (suc k) (more_uses m x xs) = uses_from k xs

-- Steps.

abbrev pub add_member : Steps → List ℕ → Steps
add_member no_steps n = member_step n no_steps
add_member (member_step m xs) n = member_step m (add_member xs n)
add_member (index_step x xs) n = index_step x (add_member xs n)

abbrev pub add_index : Steps → Expression → Steps
add_index no_steps e = index_step e no_steps
add_index (member_step m xs) e = member_step m (add_index xs e)
add_index (index_step x xs) e = index_step x (add_index xs e)

abbrev pub join_steps : Steps → Steps → Steps
join_steps no_steps ys = ys
join_steps (member_step m xs) ys = member_step m (join_steps xs ys)
join_steps (index_step x xs) ys = index_step x (join_steps xs ys)

abbrev pub step_at : Steps → ℕ → Option OneStep
step_at no_steps k = None
step_at (member_step m xs) zero = Some (to_member m)
step_at (member_step m xs) (suc k) = step_at xs k
step_at (index_step x xs) zero = Some (to_index x)
step_at (index_step x xs) (suc k) = step_at xs k

abbrev pub steps_from : ℕ → Steps → Steps
steps_from zero xs = xs
steps_from (suc k) no_steps = no_steps
steps_from (suc k) (member_step m xs) = steps_from k xs
steps_from (suc k) (index_step x xs) = steps_from k xs

-- Arms.

abbrev pub add_arm : Arms → Expression → Statements → Arms
add_arm no_arms e b = more_arms e b no_arms
add_arm (more_arms x c xs) e b = more_arms x c (add_arm xs e b)

abbrev pub join_arms : Arms → Arms → Arms
join_arms no_arms ys = ys
join_arms (more_arms x c xs) ys = more_arms x c (join_arms xs ys)

abbrev pub arm_at : Arms → ℕ → Option Armed
arm_at no_arms k = None
arm_at (more_arms x c xs) zero = Some (armed x c)
arm_at (more_arms x c xs) (suc k) = arm_at xs k

abbrev pub arms_from : ℕ → Arms → Arms
arms_from zero xs = xs
arms_from (suc k) no_arms = no_arms
arms_from (suc k) (more_arms x c xs) = arms_from k xs

-- Statements.

abbrev pub add_statement : Statements → Statement → Statements
add_statement no_statements s = more_statements s no_statements
add_statement (more_statements x xs) s = more_statements x (add_statement xs s)

abbrev pub join_statements : Statements → Statements → Statements
join_statements no_statements ys = ys
join_statements (more_statements x xs) ys = more_statements x (join_statements xs ys)

abbrev pub statement_at : Statements → ℕ → Option Statement
statement_at no_statements k = None
statement_at (more_statements x xs) zero = Some x
statement_at (more_statements x xs) (suc k) = statement_at xs k

abbrev pub statements_from : ℕ → Statements → Statements
statements_from zero xs = xs
statements_from (suc k) no_statements = no_statements
statements_from (suc k) (more_statements x xs) = statements_from k xs
