-- The lists of the plain syntax tree: what is added and joined, the k-th thing, and what is left behind the first k.
use Rattle.std.proofs.Common.{◌≡◌, ℕ, zero, suc, ◌+◌, List, [], ◌∷◌, ◌++◌, drop, Option, Some, None, slice_get, refl, ap, sym, ◌∙◌}
use Rattle.std.specs.Option.{option_map}
use Rattle.std.proofs.lemmas.Option.{none-some, same_Some}
use Rattle.dsl_syntax.specs.Syntax.{Expression, expression, Expressions, no_expressions, more_expressions, Entries, no_entries, more_entries, MaybeExpression, Uses, no_uses, more_uses, Steps, no_steps, member_step, index_step, Arms, no_arms, more_arms, Statement, Statements, no_statements, more_statements}
use Rattle.dsl_syntax.specs.Lists.{Entry, entry, Captured, captured, OneStep, to_member, to_index, Armed, armed, more_entry, more_captured, more_step, more_armed, add_expression, join_expressions, expression_at, expressions_from, add_entry, join_entries, entry_at, entries_from, add_use, join_uses, use_at, uses_from, add_member, add_index, join_steps, step_at, steps_from, add_arm, join_arms, arm_at, arms_from, add_statement, join_statements, statement_at, statements_from}
use Rattle.dsl_syntax.specs.SyntaxView.{expr_view, expr_kind_view, maybe_expr_view, stmt_view, stmt_row, entry_view, captured_view, step_view, armed_view, use_then, step_then, arm_then, exprs_view, entries_view, uses_view, steps_view, arms_view, stmts_view}
use Rattle.dsl_syntax.specs.declared.arm.Arm.{Arm}
use Rattle.dsl_syntax.specs.declared.expr.Expr.{Expr}
use Rattle.dsl_syntax.specs.declared.expr_kind.ExprKind.TheBlock.{struct-Use, struct-Arm, Step::Member, Step::Index'}
use Rattle.dsl_syntax.specs.declared.expr_kind.ExprKind.TheViews.{out-Arm, out-Use, roll-Use}
use Rattle.dsl_syntax.specs.declared.step.Step.{Step}
use Rattle.dsl_syntax.specs.declared.stmt.Stmt.{Stmt}
use Rattle.dsl_syntax.specs.declared.used.Use.{Use}
use Rattle.dsl_syntax.proofs.SyntaxRows.{use_fields, arm_fields, made_use}

-- Expressions.

pub join_add_expression : (xs : Expressions) (e : Expression) (ys : Expressions) → join_expressions (add_expression xs e) ys ≡ join_expressions xs (more_expressions e ys)
join_add_expression no_expressions e ys = refl
join_add_expression (more_expressions x xs) e ys = ap (more_expressions x) (join_add_expression xs e ys)

pub join_no_expressions : (xs : Expressions) → join_expressions xs no_expressions ≡ xs
join_no_expressions no_expressions = refl
join_no_expressions (more_expressions x xs) = ap (more_expressions x) (join_no_expressions xs)

pub expression_split : (xs : Expressions) (k : ℕ) (x : Expression) → expression_at xs k ≡ Some x → expressions_from k xs ≡ more_expressions x (expressions_from (suc k) xs)
expression_split no_expressions k x is = absurd (none-some x is)
expression_split (more_expressions y xs) zero x is = ap (λ z. more_expressions z xs) (same_Some y x is)
expression_split (more_expressions y xs) (suc k) x is = expression_split xs k x is

-- in the code's lists
pub exprs_from : (k : ℕ) (xs : List (Expr)) → exprs_view (drop k xs) ≡ expressions_from k (exprs_view xs)
exprs_from zero xs = refl
exprs_from (suc k) [] = refl
exprs_from (suc k) (e ∷ xs) = exprs_from k xs

pub exprs_at : (xs : List (Expr)) (k : ℕ) → expression_at (exprs_view xs) k ≡ option_map expr_view (slice_get xs k)
exprs_at [] k = refl
exprs_at (e ∷ xs) zero = refl
exprs_at (e ∷ xs) (suc k) = exprs_at xs k

pub exprs_more : (es : List Expr) (e : Expr) → exprs_view (es ++ e ∷ []) ≡ add_expression (exprs_view es) (expr_view e)
exprs_more [] e = refl
exprs_more (x ∷ es) e = ap (more_expressions (expr_view x)) (exprs_more es e)

pub exprs_turn : (es : List Expr) (k : ℕ) (e : Expr) → drop k es ≡ e ∷ drop (k + 1) es → exprs_view (drop k es) ≡ more_expressions (expr_view e) (exprs_view (drop (k + 1) es))
exprs_turn es k e here = ap exprs_view here

-- Entries.

pub join_add_entry : (xs : Entries) (k : List ℕ) (e : Expression) (ys : Entries) → join_entries (add_entry xs k e) ys ≡ join_entries xs (more_entries k e ys)
join_add_entry no_entries k e ys = refl
join_add_entry (more_entries n x xs) k e ys = ap (more_entries n x) (join_add_entry xs k e ys)

pub join_no_entries : (xs : Entries) → join_entries xs no_entries ≡ xs
join_no_entries no_entries = refl
join_no_entries (more_entries n x xs) = ap (more_entries n x) (join_no_entries xs)

pub entry_split : (xs : Entries) (k : ℕ) (x : Entry) → entry_at xs k ≡ Some x → entries_from k xs ≡ more_entry x (entries_from (suc k) xs)
entry_split no_entries k x is = absurd (none-some x is)
entry_split (more_entries n y xs) zero x is = ap (λ z. more_entry z xs) (same_Some (entry n y) x is)
entry_split (more_entries n y xs) (suc k) x is = entry_split xs k x is

-- in the code's lists
pub pairs_from : (k : ℕ) (xs : List (List ℕ × Expr)) → entries_view (drop k xs) ≡ entries_from k (entries_view xs)
pairs_from zero xs = refl
pairs_from (suc k) [] = refl
pairs_from (suc k) (p ∷ xs) = pairs_from k xs

pub pairs_at : (xs : List (List ℕ × Expr)) (k : ℕ) → entry_at (entries_view xs) k ≡ option_map entry_view (slice_get xs k)
pairs_at [] k = refl
pairs_at (p ∷ xs) zero = refl
pairs_at (p ∷ xs) (suc k) = pairs_at xs k

pub entries_more : (ps : List (List ℕ × Expr)) (p : List ℕ × Expr) → entries_view (ps ++ p ∷ []) ≡ add_entry (entries_view ps) p.0 (expr_view p.1)
entries_more [] p = refl
entries_more (x ∷ ps) p = ap (more_entries x.0 (expr_view x.1)) (entries_more ps p)

pub entries_turn : (ps : List (List ℕ × Expr)) (k : ℕ) (p : List ℕ × Expr) → drop k ps ≡ p ∷ drop (k + 1) ps → entries_view (drop k ps) ≡ more_entries p.0 (expr_view p.1) (entries_view (drop (k + 1) ps))
entries_turn ps k p here = ap entries_view here

-- Captured names.

pub join_add_use : (xs : Uses) (k : List ℕ) (e : MaybeExpression) (ys : Uses) → join_uses (add_use xs k e) ys ≡ join_uses xs (more_uses k e ys)
join_add_use no_uses k e ys = refl
join_add_use (more_uses n x xs) k e ys = ap (more_uses n x) (join_add_use xs k e ys)

pub join_no_uses : (xs : Uses) → join_uses xs no_uses ≡ xs
join_no_uses no_uses = refl
join_no_uses (more_uses n x xs) = ap (more_uses n x) (join_no_uses xs)

pub use_split : (xs : Uses) (k : ℕ) (x : Captured) → use_at xs k ≡ Some x → uses_from k xs ≡ more_captured x (uses_from (suc k) xs)
use_split no_uses k x is = absurd (none-some x is)
use_split (more_uses n y xs) zero x is = ap (λ z. more_captured z xs) (same_Some (captured n y) x is)
use_split (more_uses n y xs) (suc k) x is = use_split xs k x is

-- in the code's lists
pub used_from : (k : ℕ) (xs : List (Use)) → uses_view (drop k xs) ≡ uses_from k (uses_view xs)
used_from zero xs = refl
used_from (suc k) [] = refl
used_from (suc k) (struct-Use t o ∷ xs) = used_from k xs

pub used_at : (xs : List (Use)) (k : ℕ) → use_at (uses_view xs) k ≡ option_map captured_view (slice_get xs k)
used_at [] k = refl
used_at (struct-Use t o ∷ xs) zero = refl
used_at (struct-Use t o ∷ xs) (suc k) = used_at xs k

pub uses_more : (us : List Use) (t : List ℕ) (e : Option Expr) → uses_view (us ++ roll-Use (record { name = t; expr = e }) ∷ []) ≡ add_use (uses_view us) t (maybe_expr_view e)
uses_more [] t e = made_use t e no_uses
uses_more (u ∷ us) t e = rw (use_fields u (uses_view (us ++ roll-Use (record { name = t; expr = e }) ∷ [])), use_fields u (uses_view us)) (ap (more_uses (out-Use u).name (maybe_expr_view (out-Use u).expr)) (uses_more us t e))

pub uses_turn : (us : List Use) (k : ℕ) (u : Use) → drop k us ≡ u ∷ drop (k + 1) us → uses_view (drop k us) ≡ more_uses (out-Use u).name (maybe_expr_view (out-Use u).expr) (uses_view (drop (k + 1) us))
uses_turn us k u here = ap uses_view here ∙ use_fields u (uses_view (drop (k + 1) us))

-- Steps.

pub join_add_member : (xs : Steps) (n : List ℕ) (ys : Steps) → join_steps (add_member xs n) ys ≡ join_steps xs (member_step n ys)
join_add_member no_steps n ys = refl
join_add_member (member_step m xs) n ys = ap (member_step m) (join_add_member xs n ys)
join_add_member (index_step x xs) n ys = ap (index_step x) (join_add_member xs n ys)

pub join_add_index : (xs : Steps) (i : Expression) (ys : Steps) → join_steps (add_index xs i) ys ≡ join_steps xs (index_step i ys)
join_add_index no_steps i ys = refl
join_add_index (member_step m xs) i ys = ap (member_step m) (join_add_index xs i ys)
join_add_index (index_step x xs) i ys = ap (index_step x) (join_add_index xs i ys)

pub join_no_steps : (xs : Steps) → join_steps xs no_steps ≡ xs
join_no_steps no_steps = refl
join_no_steps (member_step m xs) = ap (member_step m) (join_no_steps xs)
join_no_steps (index_step x xs) = ap (index_step x) (join_no_steps xs)

pub step_split : (xs : Steps) (k : ℕ) (x : OneStep) → step_at xs k ≡ Some x → steps_from k xs ≡ more_step x (steps_from (suc k) xs)
step_split no_steps k x is = absurd (none-some x is)
step_split (member_step m xs) zero x is = ap (λ z. more_step z xs) (same_Some (to_member m) x is)
step_split (index_step y xs) zero x is = ap (λ z. more_step z xs) (same_Some (to_index y) x is)
step_split (member_step m xs) (suc k) x is = step_split xs k x is
step_split (index_step y xs) (suc k) x is = step_split xs k x is

-- in the code's lists
pub stepped_from : (k : ℕ) (xs : List (Step)) → steps_view (drop k xs) ≡ steps_from k (steps_view xs)
stepped_from zero xs = refl
stepped_from (suc k) [] = refl
stepped_from (suc k) (Step::Member t ∷ xs) = stepped_from k xs
stepped_from (suc k) (Step::Index' l j ∷ xs) = stepped_from k xs

pub stepped_at : (xs : List (Step)) (k : ℕ) → step_at (steps_view xs) k ≡ option_map step_view (slice_get xs k)
stepped_at [] k = refl
stepped_at (Step::Member t ∷ xs) zero = refl
stepped_at (Step::Index' l j ∷ xs) zero = refl
stepped_at (Step::Member t ∷ xs) (suc k) = stepped_at xs k
stepped_at (Step::Index' l j ∷ xs) (suc k) = stepped_at xs k

member_then : (s : Step) (ss : Steps) (n : List ℕ) → add_member (step_then s ss) n ≡ step_then s (add_member ss n)
member_then (Step::Member t) ss n = refl
member_then (Step::Index' l k) ss n = refl

index_then : (s : Step) (ss : Steps) (e : Expression) → add_index (step_then s ss) e ≡ step_then s (add_index ss e)
index_then (Step::Member t) ss e = refl
index_then (Step::Index' l k) ss e = refl

pub members_more : (ss : List Step) (t : List ℕ) → steps_view (ss ++ Step::Member t ∷ []) ≡ add_member (steps_view ss) t
members_more [] t = refl
members_more (s ∷ ss) t = ap (step_then s) (members_more ss t) ∙ sym (member_then s (steps_view ss) t)

pub indices_more : (ss : List Step) (l : _) (k : _) → steps_view (ss ++ Step::Index' l k ∷ []) ≡ add_index (steps_view ss) (expression l (expr_kind_view k))
indices_more [] l k = refl
indices_more (s ∷ ss) l k = ap (step_then s) (indices_more ss l k) ∙ sym (index_then s (steps_view ss) (expression l (expr_kind_view k)))

pub steps_turn : (ss : List Step) (k : ℕ) (s : Step) → drop k ss ≡ s ∷ drop (k + 1) ss → steps_view (drop k ss) ≡ step_then s (steps_view (drop (k + 1) ss))
steps_turn ss k s here = ap steps_view here

-- Arms.

pub join_add_arm : (xs : Arms) (e : Expression) (b : Statements) (ys : Arms) → join_arms (add_arm xs e b) ys ≡ join_arms xs (more_arms e b ys)
join_add_arm no_arms e b ys = refl
join_add_arm (more_arms x c xs) e b ys = ap (more_arms x c) (join_add_arm xs e b ys)

pub join_no_arms : (xs : Arms) → join_arms xs no_arms ≡ xs
join_no_arms no_arms = refl
join_no_arms (more_arms x c xs) = ap (more_arms x c) (join_no_arms xs)

pub arm_split : (xs : Arms) (k : ℕ) (x : Armed) → arm_at xs k ≡ Some x → arms_from k xs ≡ more_armed x (arms_from (suc k) xs)
arm_split no_arms k x is = absurd (none-some x is)
arm_split (more_arms y c xs) zero x is = ap (λ z. more_armed z xs) (same_Some (armed y c) x is)
arm_split (more_arms y c xs) (suc k) x is = arm_split xs k x is

-- in the code's lists
pub armed_from : (k : ℕ) (xs : List (Arm)) → arms_view (drop k xs) ≡ arms_from k (arms_view xs)
armed_from zero xs = refl
armed_from (suc k) [] = refl
armed_from (suc k) (struct-Arm l j s b ∷ xs) = armed_from k xs

pub armed_at : (xs : List (Arm)) (k : ℕ) → arm_at (arms_view xs) k ≡ option_map armed_view (slice_get xs k)
armed_at [] k = refl
armed_at (struct-Arm l j s b ∷ xs) zero = refl
armed_at (struct-Arm l j s b ∷ xs) (suc k) = armed_at xs k

arm_more : (a : Arm) (more : Arms) (e : Expression) (b : Statements) → add_arm (arm_then a more) e b ≡ arm_then a (add_arm more e b)
arm_more (struct-Arm l k s c) more e b = refl

pub arms_more : (as' : List Arm) (l : _) (k : _) (s : _) (b : _) → arms_view (as' ++ struct-Arm l k s b ∷ []) ≡ add_arm (arms_view as') (expression l (expr_kind_view k)) (stmt_row b)
arms_more [] l k s b = refl
arms_more (a ∷ as') l k s b = ap (arm_then a) (arms_more as' l k s b) ∙ sym (arm_more a (arms_view as') (expression l (expr_kind_view k)) (stmt_row b))

pub arms_turn : (arms : List Arm) (k : ℕ) (a : Arm) → drop k arms ≡ a ∷ drop (k + 1) arms → arms_view (drop k arms) ≡ more_arms (expr_view (out-Arm a).cond) (stmts_view (out-Arm a).block.items) (arms_view (drop (k + 1) arms))
arms_turn arms k a here = ap arms_view here ∙ arm_fields a (arms_view (drop (k + 1) arms))

-- Statements.

pub join_add_statement : (xs : Statements) (s : Statement) (ys : Statements) → join_statements (add_statement xs s) ys ≡ join_statements xs (more_statements s ys)
join_add_statement no_statements s ys = refl
join_add_statement (more_statements x xs) s ys = ap (more_statements x) (join_add_statement xs s ys)

pub join_no_statements : (xs : Statements) → join_statements xs no_statements ≡ xs
join_no_statements no_statements = refl
join_no_statements (more_statements x xs) = ap (more_statements x) (join_no_statements xs)

pub statement_split : (xs : Statements) (k : ℕ) (x : Statement) → statement_at xs k ≡ Some x → statements_from k xs ≡ more_statements x (statements_from (suc k) xs)
statement_split no_statements k x is = absurd (none-some x is)
statement_split (more_statements y xs) zero x is = ap (λ z. more_statements z xs) (same_Some y x is)
statement_split (more_statements y xs) (suc k) x is = statement_split xs k x is

-- in the code's lists
pub stmts_from : (k : ℕ) (xs : List (Stmt)) → stmts_view (drop k xs) ≡ statements_from k (stmts_view xs)
stmts_from zero xs = refl
stmts_from (suc k) [] = refl
stmts_from (suc k) (s ∷ xs) = stmts_from k xs

pub stmts_at : (xs : List (Stmt)) (k : ℕ) → statement_at (stmts_view xs) k ≡ option_map stmt_view (slice_get xs k)
stmts_at [] k = refl
stmts_at (s ∷ xs) zero = refl
stmts_at (s ∷ xs) (suc k) = stmts_at xs k

pub stmts_more : (ss : List Stmt) (s : Stmt) → stmts_view (ss ++ s ∷ []) ≡ add_statement (stmts_view ss) (stmt_view s)
stmts_more [] s = refl
stmts_more (x ∷ ss) s = ap (more_statements (stmt_view x)) (stmts_more ss s)

pub stmts_turn : (ss : List Stmt) (k : ℕ) (s : Stmt) → drop k ss ≡ s ∷ drop (k + 1) ss → stmts_view (drop k ss) ≡ more_statements (stmt_view s) (stmts_view (drop (k + 1) ss))
stmts_turn ss k s here = ap stmts_view here
