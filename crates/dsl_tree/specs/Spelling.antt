-- The one spelling of a syntax tree: one statement a line, and parentheses round each operand that isn't a primary.
use Rattle.std.specs.Prelude.{ℕ, List, [], ◌∷◌, ◌++◌, Bool, true, false, Option, Some, None, codes, if◌then◌else◌}
use Rattle.site_base.specs.Numbers.{number_text}
use Rattle.site_base.specs.Quoted.{quoted}
use Rattle.dsl_syntax.specs.Syntax.{Root, at_name, at_this, at_globals, Expression, expression, ExpressionKind, null, this, globals, boolean, number, string, name, array, dictionary, member, index, call, unary, binary, function_value, Expressions, no_expressions, more_expressions, Entries, no_entries, more_entries, MaybeExpression, no_expression, some_expression, Loop, loop, MaybeLoop, no_loop, some_loop, Function, function, Uses, no_uses, more_uses, Steps, no_steps, member_step, index_step, Arms, no_arms, more_arms, Statement, statement, Statements, no_statements, more_statements, StatementKind, object, template, apply, assign, ignore, import, throw, eval, include, include_library, include_all, const, var, set, choose, while, for, define, return, break, continue}
use Rattle.dsl_tree.specs.Operators.{unary_text, binary_text, set_text}

-- whether it is no primary, and so stands in parentheses as an operand
abbrev pub is_compound : ExpressionKind → Bool
is_compound (member e n) = true
is_compound (index e i) = true
is_compound (call e es) = true
is_compound (unary o e) = true
is_compound (binary o e d) = true
is_compound k = false

abbrev pub is_dictionary : Expression → Bool
is_dictionary (expression p (dictionary ps)) = true
is_dictionary e = false

-- whether its spelling begins with a brace
abbrev pub begins_with_brace : Expression → Bool
begins_with_brace (expression p (dictionary ps)) = true
begins_with_brace (expression p (member e n)) = is_dictionary e
begins_with_brace (expression p (index e i)) = is_dictionary e
begins_with_brace (expression p (call e es)) = is_dictionary e
begins_with_brace (expression p (binary o e d)) = is_dictionary e
begins_with_brace e = false

-- with parentheses round it, or without
abbrev pub in_parentheses : Bool → List ℕ → List ℕ
in_parentheses true text = 40 ∷ (text ++ 41 ∷ [])
in_parentheses false text = text

-- a comma and a blank before each but the first
abbrev pub comma_if : Bool → List ℕ
comma_if false = []
comma_if true = 44 ∷ 32 ∷ []

-- the word before each arm of an `if` but the first
abbrev pub else_if : Bool → List ℕ
else_if false = []
else_if true = codes " else "

-- names, each but the first behind a comma, with the closing parenthesis
abbrev pub names_text : Bool → List (List ℕ) → List ℕ
names_text later [] = 41 ∷ []
names_text later (n ∷ ns) = comma_if later ++ (n ++ names_text true ns)

abbrev pub params_text : List (List ℕ) → List ℕ
params_text ns = 40 ∷ names_text false ns

abbrev pub root_text : Root → List ℕ
root_text (at_name n) = n
root_text at_this = codes "this"
root_text at_globals = codes "globals"

abbrev pub boolean_text : Bool → List ℕ
boolean_text true = codes "true"
boolean_text false = codes "false"

abbrev pub target_text : Option (List ℕ) → List ℕ
target_text None = []
target_text (Some t) = codes " to " ++ t

-- the lines of a block between braces
abbrev pub braced : List ℕ → List ℕ
braced lines = 123 ∷ 10 ∷ (lines ++ 125 ∷ [])

-- a condition and the lines of its block
abbrev pub arm_text : List ℕ → List ℕ → List ℕ
arm_text condition lines = codes "if (" ++ (condition ++ (codes ") " ++ braced lines))

abbrev mutual
  pub expr_text : Expression → List ℕ
  expr_text (expression p k) = expr_kind_text k

  -- an operand, in parentheses unless it is a primary
  pub operand_text : Expression → List ℕ
  operand_text (expression p k) = in_parentheses (is_compound k) (expr_kind_text k)

  pub expr_kind_text : ExpressionKind → List ℕ
  expr_kind_text null = codes "null"
  expr_kind_text this = codes "this"
  expr_kind_text globals = codes "globals"
  expr_kind_text (boolean b) = boolean_text b
  expr_kind_text (number n) = number_text n
  expr_kind_text (string s) = quoted s
  expr_kind_text (name s) = s
  expr_kind_text (array es) = 91 ∷ (exprs_text false es ++ 93 ∷ [])
  expr_kind_text (dictionary ps) = codes "{ " ++ entries_text false ps
  expr_kind_text (member e n) = operand_text e ++ 46 ∷ n
  expr_kind_text (index e i) = operand_text e ++ 91 ∷ (expr_text i ++ 93 ∷ [])
  expr_kind_text (call e es) = operand_text e ++ 40 ∷ (exprs_text false es ++ 41 ∷ [])
  expr_kind_text (unary o e) = unary_text o ++ operand_text e
  expr_kind_text (binary o e d) = operand_text e ++ 32 ∷ (binary_text o ++ 32 ∷ operand_text d)
  expr_kind_text (function_value f) = codes "function " ++ function_text f

  pub exprs_text : Bool → Expressions → List ℕ
  exprs_text later no_expressions = []
  exprs_text later (more_expressions e es) = comma_if later ++ (expr_text e ++ exprs_text true es)

  -- with the closing brace
  pub entries_text : Bool → Entries → List ℕ
  entries_text false no_entries = 125 ∷ []
  entries_text true no_entries = codes " }"
  entries_text later (more_entries k e ps) = comma_if later ++ (quoted k ++ (codes " = " ++ (expr_text e ++ entries_text true ps)))

  -- parameters, captured names and the block
  pub function_text : Function → List ℕ
  function_text (function ps us b) = params_text ps ++ (uses_text us ++ 32 ∷ braced (stmts_text b))

  pub uses_text : Uses → List ℕ
  uses_text no_uses = []
  uses_text (more_uses n e us) = codes " use (" ++ (n ++ (given_text e ++ captures_text true us))

  -- with the closing parenthesis
  pub captures_text : Bool → Uses → List ℕ
  captures_text later no_uses = 41 ∷ []
  captures_text later (more_uses n e us) = comma_if later ++ (n ++ (given_text e ++ captures_text true us))

  -- what a name is given, if anything
  pub given_text : MaybeExpression → List ℕ
  given_text no_expression = []
  given_text (some_expression e) = codes " = " ++ expr_text e

  -- what is returned, if anything
  pub returned_text : MaybeExpression → List ℕ
  returned_text no_expression = []
  returned_text (some_expression e) = 32 ∷ expr_text e

  pub loop_text : Loop → List ℕ
  loop_text (loop k None e) = 40 ∷ (k ++ (codes " in " ++ (expr_text e ++ 41 ∷ [])))
  loop_text (loop k (Some v) e) = 40 ∷ (k ++ (codes " => " ++ (v ++ (codes " in " ++ (expr_text e ++ 41 ∷ [])))))

  -- one statement a line
  pub stmts_text : Statements → List ℕ
  stmts_text no_statements = []
  stmts_text (more_statements s ss) = stmt_text s ++ 10 ∷ stmts_text ss

  pub stmt_text : Statement → List ℕ
  stmt_text (statement p k) = stmt_kind_text k

  pub steps_text : Steps → List ℕ
  steps_text no_steps = []
  steps_text (member_step n ss) = 46 ∷ (n ++ steps_text ss)
  steps_text (index_step e ss) = 91 ∷ (expr_text e ++ 93 ∷ steps_text ss)

  pub arms_text : Bool → Arms → List ℕ
  arms_text later no_arms = []
  arms_text later (more_arms e b more) = else_if later ++ (arm_text (expr_text e) (stmts_text b) ++ arms_text true more)

  pub else_text : Statements → List ℕ
  else_text no_statements = []
  else_text (more_statements s ss) = codes " else " ++ braced (stmt_text s ++ 10 ∷ stmts_text ss)

  -- the name of an `apply`, in parentheses where it would begin with a brace
  pub apply_name_text : MaybeExpression → List ℕ
  apply_name_text no_expression = []
  apply_name_text (some_expression e) = 32 ∷ in_parentheses (begins_with_brace e) (expr_text e)

  pub apply_loop_text : MaybeLoop → List ℕ
  apply_loop_text no_loop = []
  apply_loop_text (some_loop l) = codes " for " ++ loop_text l

  pub stmt_kind_text : StatementKind → List ℕ
  stmt_kind_text (object t e us b) = codes "object " ++ (t ++ 32 ∷ (expr_text e ++ (uses_text us ++ 32 ∷ braced (stmts_text b))))
  stmt_kind_text (template t e us b) = codes "template " ++ (t ++ 32 ∷ (expr_text e ++ (uses_text us ++ 32 ∷ braced (stmts_text b))))
  stmt_kind_text (apply t e to l us b) = codes "apply " ++ (t ++ (apply_name_text e ++ (target_text to ++ (apply_loop_text l ++ (uses_text us ++ 32 ∷ braced (stmts_text b))))))
  stmt_kind_text (assign e) = codes "assign where " ++ expr_text e
  stmt_kind_text (ignore e) = codes "ignore where " ++ expr_text e
  stmt_kind_text (import e) = codes "import " ++ expr_text e
  stmt_kind_text (throw e) = codes "throw " ++ expr_text e
  stmt_kind_text (eval e) = expr_text e
  stmt_kind_text (include n p) = codes "include " ++ quoted n
  stmt_kind_text (include_library n p) = codes "include <" ++ (n ++ 62 ∷ [])
  stmt_kind_text (include_all d n p) = codes "include_recursive " ++ (quoted d ++ 44 ∷ 32 ∷ quoted n)
  stmt_kind_text (const n e) = codes "const " ++ (n ++ (codes " = " ++ expr_text e))
  stmt_kind_text (var n e) = codes "var " ++ (n ++ given_text e)
  stmt_kind_text (set r ss o e) = root_text r ++ (steps_text ss ++ 32 ∷ (set_text o ++ 32 ∷ expr_text e))
  stmt_kind_text (choose arms b) = arms_text false arms ++ else_text b
  stmt_kind_text (while e b) = codes "while (" ++ (expr_text e ++ (codes ") " ++ braced (stmts_text b)))
  stmt_kind_text (for l b) = codes "for " ++ (loop_text l ++ 32 ∷ braced (stmts_text b))
  stmt_kind_text (define n f) = codes "function " ++ (n ++ function_text f)
  stmt_kind_text (return e) = codes "return" ++ returned_text e
  stmt_kind_text break = codes "break"
  stmt_kind_text continue = codes "continue"

-- the print of a whole file
abbrev pub file_text : Statements → List ℕ
file_text ss = stmts_text ss
