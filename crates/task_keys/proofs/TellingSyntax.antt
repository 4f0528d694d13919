-- What the keys of syntax tell: all but the places.
use Rattle.std.specs.Prelude.{◌==◌, if◌then◌else◌}
use Rattle.std.proofs.Common.{◌≡◌, ℕ, [], ◌∷◌, refl, sym, ap, ◌∙◌}
use Rattle.place_laws.specs.Alike.{nowhere}
use Rattle.dsl_syntax.specs.Syntax.{Root, at_name, at_this, at_globals, Expression, expression, ExpressionKind, null, this, globals, boolean, number, string, name, array, dictionary, member, index, call, unary, binary, function_value, Expressions, no_expressions, more_expressions, Entries, no_entries, more_entries, MaybeExpression, no_expression, some_expression, Loop, loop, MaybeLoop, no_loop, some_loop, Function, function, Uses, no_uses, more_uses, Steps, no_steps, member_step, index_step, Arms, no_arms, more_arms, Statement, statement, Statements, no_statements, more_statements, StatementKind, object, template, apply, assign, ignore, import, throw, eval, include, include_library, include_all, const, var, set, choose, while, for, define, return, break, continue}
use Rattle.dsl_syntax.specs.declared.bin_op.BinOp.{BinOp}
use Rattle.dsl_syntax.specs.declared.bin_op.BinOp.TheVariants as bin
use Rattle.dsl_syntax.specs.declared.set_op.SetOp.{SetOp}
use Rattle.dsl_syntax.specs.declared.set_op.SetOp.TheVariants as setting
use Rattle.dsl_syntax.specs.declared.un_op.UnOp.{UnOp}
use Rattle.dsl_syntax.specs.declared.un_op.UnOp.TheVariants as un
use Rattle.place_laws.specs.MovedSyntax.{moved_expression, moved_kind, moved_expressions, moved_entries, moved_maybe, moved_loop, moved_maybe_loop, moved_function, moved_uses, moved_steps, moved_arms, moved_statement, moved_statements, moved_statement_kind}
use Rattle.task_keys.specs.Operators.{unary_number, binary_number, set_number}
use Rattle.task_keys.specs.SyntaxKeys.{root_key, expression_key, kind_key, expressions_key, entries_key, maybe_key, loop_key, maybe_loop_key, function_key, uses_key, steps_key, arms_key, statement_key, statements_key, statement_kind_key}
use Rattle.task_keys.proofs.Telling.{Tells, kind, alone, byte, other, by, one, two, three, four, six}
use Rattle.task_keys.proofs.TellingKeys.{same_whole, same_boolean, same_text, same_texts, same_maybe_text}

-- ---- operators

abbrev unary_of : ℕ → UnOp
unary_of n = if n == 0 then un.Not else if n == 1 then un.Complement else if n == 2 then un.Plus else un.Minus

unary_back : (o : UnOp) → unary_of (unary_number o) ≡ o
unary_back un.Not = refl
unary_back un.Complement = refl
unary_back un.Plus = refl
unary_back un.Minus = refl

same_unary : (o p : UnOp) → Tells (unary_number o ∷ []) (unary_number p ∷ []) (o ≡ p)
same_unary o p = by (byte (unary_number o) (unary_number p)) (λ e. sym (unary_back o) ∙ ap unary_of e ∙ unary_back p)

abbrev binary_of : ℕ → BinOp
binary_of n = if n == 0 then bin.Mul else if n == 1 then bin.Div else if n == 2 then bin.Rem else if n == 3 then bin.Add else if n == 4 then bin.Sub else if n == 5 then bin.ShiftLeft else if n == 6 then bin.ShiftRight else if n == 7 then bin.Less else if n == 8 then bin.Greater else if n == 9 then bin.LessEqual else if n == 10 then bin.GreaterEqual else if n == 11 then bin.In else if n == 12 then bin.NotIn else if n == 13 then bin.Equal else if n == 14 then bin.NotEqual else if n == 15 then bin.BitAnd else if n == 16 then bin.BitXor else if n == 17 then bin.BitOr else if n == 18 then bin.And else bin.Or

binary_back : (o : BinOp) → binary_of (binary_number o) ≡ o
binary_back bin.Mul = refl
binary_back bin.Div = refl
binary_back bin.Rem = refl
binary_back bin.Add = refl
binary_back bin.Sub = refl
binary_back bin.ShiftLeft = refl
binary_back bin.ShiftRight = refl
binary_back bin.Less = refl
binary_back bin.Greater = refl
binary_back bin.LessEqual = refl
binary_back bin.GreaterEqual = refl
binary_back bin.In = refl
binary_back bin.NotIn = refl
binary_back bin.Equal = refl
binary_back bin.NotEqual = refl
binary_back bin.BitAnd = refl
binary_back bin.BitXor = refl
binary_back bin.BitOr = refl
binary_back bin.And = refl
binary_back bin.Or = refl

same_binary : (o p : BinOp) → Tells (binary_number o ∷ []) (binary_number p ∷ []) (o ≡ p)
same_binary o p = by (byte (binary_number o) (binary_number p)) (λ e. sym (binary_back o) ∙ ap binary_of e ∙ binary_back p)

abbrev set_of : ℕ → SetOp
set_of n = if n == 0 then setting.Plain else if n == 1 then setting.Add else if n == 2 then setting.Sub else if n == 3 then setting.Mul else setting.Div

set_back : (o : SetOp) → set_of (set_number o) ≡ o
set_back setting.Plain = refl
set_back setting.Add = refl
set_back setting.Sub = refl
set_back setting.Mul = refl
set_back setting.Div = refl

same_set : (o p : SetOp) → Tells (set_number o ∷ []) (set_number p ∷ []) (o ≡ p)
same_set o p = by (byte (set_number o) (set_number p)) (λ e. sym (set_back o) ∙ ap set_of e ∙ set_back p)

same_root : (r q : Root) → Tells (root_key r) (root_key q) (r ≡ q)
same_root (at_name n) (at_name m) = kind 0 (one at_name (same_text n m))
same_root at_this at_this = alone 1 refl
same_root at_globals at_globals = alone 2 refl
same_root r q = other refl

-- ---- expressions and statements

mutual
  pub same_expression : (e f : Expression) → Tells (expression_key e) (expression_key f) (moved_expression nowhere e ≡ moved_expression nowhere f)
  same_expression (expression l k) (expression m j) = one (expression (nowhere l)) (same_kind k j)

  pub same_kind : (k j : ExpressionKind) → Tells (kind_key k) (kind_key j) (moved_kind nowhere k ≡ moved_kind nowhere j)
  same_kind null null = alone 0 refl
  same_kind this this = alone 1 refl
  same_kind globals globals = alone 2 refl
  same_kind (boolean a) (boolean b) = kind 3 (one boolean (same_boolean a b))
  same_kind (number m) (number n) = kind 4 (one number (same_whole m n))
  same_kind (string t) (string u) = kind 5 (one string (same_text t u))
  same_kind (name t) (name u) = kind 6 (one name (same_text t u))
  same_kind (array es) (array fs) = kind 7 (one array (same_expressions es fs))
  same_kind (dictionary es) (dictionary fs) = kind 8 (one dictionary (same_entries es fs))
  same_kind (member e n) (member f m) = kind 9 (two member (same_expression e f) (same_text n m))
  same_kind (index e i) (index f j) = kind 10 (two index (same_expression e f) (same_expression i j))
  same_kind (call e es) (call f fs) = kind 11 (two call (same_expression e f) (same_expressions es fs))
  same_kind (unary o e) (unary p f) = kind 12 (two unary (same_unary o p) (same_expression e f))
  same_kind (binary o a b) (binary p c d) = kind 13 (three binary (same_binary o p) (same_expression a c) (same_expression b d))
  same_kind (function_value f) (function_value g) = kind 14 (one function_value (same_function f g))
  same_kind k j = other refl

  pub same_expressions : (es fs : Expressions) → Tells (expressions_key es) (expressions_key fs) (moved_expressions nowhere es ≡ moved_expressions nowhere fs)
  same_expressions no_expressions no_expressions = alone 0 refl
  same_expressions (more_expressions e es) (more_expressions f fs) = kind 1 (two more_expressions (same_expression e f) (same_expressions es fs))
  same_expressions es fs = other refl

  pub same_entries : (es fs : Entries) → Tells (entries_key es) (entries_key fs) (moved_entries nowhere es ≡ moved_entries nowhere fs)
  same_entries no_entries no_entries = alone 0 refl
  same_entries (more_entries k e es) (more_entries l f fs) = kind 1 (three more_entries (same_text k l) (same_expression e f) (same_entries es fs))
  same_entries es fs = other refl

  pub same_maybe : (o p : MaybeExpression) → Tells (maybe_key o) (maybe_key p) (moved_maybe nowhere o ≡ moved_maybe nowhere p)
  same_maybe no_expression no_expression = alone 0 refl
  same_maybe (some_expression e) (some_expression f) = kind 1 (one some_expression (same_expression e f))
  same_maybe o p = other refl

  pub same_loop : (x y : Loop) → Tells (loop_key x) (loop_key y) (moved_loop nowhere x ≡ moved_loop nowhere y)
  same_loop (loop k v e) (loop l w f) = three loop (same_text k l) (same_maybe_text v w) (same_expression e f)

  pub same_maybe_loop : (x y : MaybeLoop) → Tells (maybe_loop_key x) (maybe_loop_key y) (moved_maybe_loop nowhere x ≡ moved_maybe_loop nowhere y)
  same_maybe_loop no_loop no_loop = alone 0 refl
  same_maybe_loop (some_loop x) (some_loop y) = kind 1 (one some_loop (same_loop x y))
  same_maybe_loop x y = other refl

  pub same_function : (f g : Function) → Tells (function_key f) (function_key g) (moved_function nowhere f ≡ moved_function nowhere g)
  same_function (function ps us b) (function qs vs c) = three function (same_texts ps qs) (same_uses us vs) (same_statements b c)

  pub same_uses : (us vs : Uses) → Tells (uses_key us) (uses_key vs) (moved_uses nowhere us ≡ moved_uses nowhere vs)
  same_uses no_uses no_uses = alone 0 refl
  same_uses (more_uses n o us) (more_uses m p vs) = kind 1 (three more_uses (same_text n m) (same_maybe o p) (same_uses us vs))
  same_uses us vs = other refl

  pub same_steps : (ss ts : Steps) → Tells (steps_key ss) (steps_key ts) (moved_steps nowhere ss ≡ moved_steps nowhere ts)
  same_steps no_steps no_steps = alone 0 refl
  same_steps (member_step n ss) (member_step m ts) = kind 1 (two member_step (same_text n m) (same_steps ss ts))
  same_steps (index_step e ss) (index_step f ts) = kind 2 (two index_step (same_expression e f) (same_steps ss ts))
  same_steps ss ts = other refl

  pub same_arms : (as' bs : Arms) → Tells (arms_key as') (arms_key bs) (moved_arms nowhere as' ≡ moved_arms nowhere bs)
  same_arms no_arms no_arms = alone 0 refl
  same_arms (more_arms e b more) (more_arms f c others) = kind 1 (three more_arms (same_expression e f) (same_statements b c) (same_arms more others))
  same_arms x y = other refl

  pub same_statement : (s t : Statement) → Tells (statement_key s) (statement_key t) (moved_statement nowhere s ≡ moved_statement nowhere t)
  same_statement (statement l k) (statement m j) = one (statement (nowhere l)) (same_statement_kind k j)

  pub same_statements : (b c : Statements) → Tells (statements_key b) (statements_key c) (moved_statements nowhere b ≡ moved_statements nowhere c)
  same_statements no_statements no_statements = alone 0 refl
  same_statements (more_statements x xs) (more_statements y ys) = kind 1 (two more_statements (same_statement x y) (same_statements xs ys))
  same_statements b c = other refl

  pub same_statement_kind : (k j : StatementKind) → Tells (statement_kind_key k) (statement_kind_key j) (moved_statement_kind nowhere k ≡ moved_statement_kind nowhere j)
  same_statement_kind (object t e us b) (object u f vs c) = kind 0 (four object (same_text t u) (same_expression e f) (same_uses us vs) (same_statements b c))
  same_statement_kind (template t e us b) (template u f vs c) = kind 1 (four template (same_text t u) (same_expression e f) (same_uses us vs) (same_statements b c))
  same_statement_kind (apply t o to x us b) (apply u p onto y vs c) = kind 2 (six apply (same_text t u) (same_maybe o p) (same_maybe_text to onto) (same_maybe_loop x y) (same_uses us vs) (same_statements b c))
  same_statement_kind (assign e) (assign f) = kind 3 (one assign (same_expression e f))
  same_statement_kind (ignore e) (ignore f) = kind 4 (one ignore (same_expression e f))
  same_statement_kind (import e) (import f) = kind 5 (one import (same_expression e f))
  same_statement_kind (throw e) (throw f) = kind 6 (one throw (same_expression e f))
  same_statement_kind (eval e) (eval f) = kind 7 (one eval (same_expression e f))
  same_statement_kind (include n l) (include m k) = kind 8 (one (λ t. include t (nowhere l)) (same_text n m))
  same_statement_kind (include_library n l) (include_library m k) = kind 9 (one (λ t. include_library t (nowhere l)) (same_text n m))
  same_statement_kind (include_all d n l) (include_all c m k) = kind 10 (two (λ t u. include_all t u (nowhere l)) (same_text d c) (same_text n m))
  same_statement_kind (const n e) (const m f) = kind 11 (two const (same_text n m) (same_expression e f))
  same_statement_kind (var n o) (var m p) = kind 12 (two var (same_text n m) (same_maybe o p))
  same_statement_kind (set r ss o e) (set q ts p f) = kind 13 (four set (same_root r q) (same_steps ss ts) (same_set o p) (same_expression e f))
  same_statement_kind (choose x b) (choose y c) = kind 14 (two choose (same_arms x y) (same_statements b c))
  same_statement_kind (while e b) (while f c) = kind 15 (two while (same_expression e f) (same_statements b c))
  same_statement_kind (for x b) (for y c) = kind 16 (two for (same_loop x y) (same_statements b c))
  same_statement_kind (define n f) (define m g) = kind 17 (two define (same_text n m) (same_function f g))
  same_statement_kind (return o) (return p) = kind 18 (one return (same_maybe o p))
  same_statement_kind break break = alone 19 refl
  same_statement_kind continue continue = alone 20 refl
  same_statement_kind k j = other refl
