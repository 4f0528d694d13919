-- Places are no part of the keys of syntax: what is moved has the same key.
use Rattle.std.proofs.Common.{◌≡◌, ℕ, List, ◌∷◌, ◌++◌, refl, ap}
use Rattle.site_base.specs.declared.place.Place.{Place}
use Rattle.dsl_syntax.specs.Syntax.{Expression, expression, ExpressionKind, null, this, globals, boolean, number, string, name, array, dictionary, member, index, call, unary, binary, function_value, Expressions, no_expressions, more_expressions, Entries, no_entries, more_entries, MaybeExpression, no_expression, some_expression, Loop, loop, MaybeLoop, no_loop, some_loop, Function, function, Uses, no_uses, more_uses, Steps, no_steps, member_step, index_step, Arms, no_arms, more_arms, Statement, statement, Statements, no_statements, more_statements, StatementKind, object, template, apply, assign, ignore, import, throw, eval, include, include_library, include_all, const, var, set, choose, while, for, define, return, break, continue}
use Rattle.place_laws.specs.MovedSyntax.{moved_expression, moved_kind, moved_expressions, moved_entries, moved_maybe, moved_loop, moved_maybe_loop, moved_function, moved_uses, moved_steps, moved_arms, moved_statement, moved_statements, moved_statement_kind}
use Rattle.task_keys.specs.Keys.{text_key, texts_key, maybe_text_key}
use Rattle.task_keys.specs.Operators.{unary_number, binary_number, set_number}
use Rattle.task_keys.specs.SyntaxKeys.{root_key, expression_key, kind_key, expressions_key, entries_key, maybe_key, loop_key, maybe_loop_key, function_key, uses_key, steps_key, arms_key, statement_key, statements_key, statement_kind_key}
use Rattle.task_keys.proofs.Telling.{ap2}

-- one key after another
joined : {a b x y : List ℕ} → a ≡ x → b ≡ y → a ++ b ≡ x ++ y
joined e h = ap2 (λ x y. x ++ y) e h

-- after what is the same
behind : (k : List ℕ) {b y : List ℕ} → b ≡ y → k ++ b ≡ k ++ y
behind k e = ap (λ x. k ++ x) e

-- after the number of a kind
kind : (n : ℕ) {b y : List ℕ} → b ≡ y → n ∷ b ≡ n ∷ y
kind n e = ap (λ x. n ∷ x) e

module _ (move : Place → Place) where
  mutual
    pub unmoved_expression : (e : Expression) → expression_key (moved_expression move e) ≡ expression_key e
    unmoved_expression (expression l k) = unmoved_kind k

    pub unmoved_kind : (k : ExpressionKind) → kind_key (moved_kind move k) ≡ kind_key k
    unmoved_kind null = refl
    unmoved_kind this = refl
    unmoved_kind globals = refl
    unmoved_kind (boolean b) = refl
    unmoved_kind (number n) = refl
    unmoved_kind (string t) = refl
    unmoved_kind (name t) = refl
    unmoved_kind (array es) = kind 7 (unmoved_expressions es)
    unmoved_kind (dictionary es) = kind 8 (unmoved_entries es)
    unmoved_kind (member e n) = kind 9 (joined (unmoved_expression e) refl)
    unmoved_kind (index e i) = kind 10 (joined (unmoved_expression e) (unmoved_expression i))
    unmoved_kind (call e es) = kind 11 (joined (unmoved_expression e) (unmoved_expressions es))
    unmoved_kind (unary o e) = kind 12 (kind (unary_number o) (unmoved_expression e))
    unmoved_kind (binary o a b) = kind 13 (kind (binary_number o) (joined (unmoved_expression a) (unmoved_expression b)))
    unmoved_kind (function_value f) = kind 14 (unmoved_function f)

    pub unmoved_expressions : (es : Expressions) → expressions_key (moved_expressions move es) ≡ expressions_key es
    unmoved_expressions no_expressions = refl
    unmoved_expressions (more_expressions e es) = kind 1 (joined (unmoved_expression e) (unmoved_expressions es))

    pub unmoved_entries : (es : Entries) → entries_key (moved_entries move es) ≡ entries_key es
    unmoved_entries no_entries = refl
    unmoved_entries (more_entries k e es) = kind 1 (behind (text_key k) (joined (unmoved_expression e) (unmoved_entries es)))

    pub unmoved_maybe : (o : MaybeExpression) → maybe_key (moved_maybe move o) ≡ maybe_key o
    unmoved_maybe no_expression = refl
    unmoved_maybe (some_expression e) = kind 1 (unmoved_expression e)

    pub unmoved_loop : (x : Loop) → loop_key (moved_loop move x) ≡ loop_key x
    unmoved_loop (loop k v e) = behind (text_key k) (behind (maybe_text_key v) (unmoved_expression e))

    pub unmoved_maybe_loop : (x : MaybeLoop) → maybe_loop_key (moved_maybe_loop move x) ≡ maybe_loop_key x
    unmoved_maybe_loop no_loop = refl
    unmoved_maybe_loop (some_loop x) = kind 1 (unmoved_loop x)

    pub unmoved_function : (f : Function) → function_key (moved_function move f) ≡ function_key f
    unmoved_function (function ps us b) = behind (texts_key ps) (joined (unmoved_uses us) (unmoved_statements b))

    pub unmoved_uses : (us : Uses) → uses_key (moved_uses move us) ≡ uses_key us
    unmoved_uses no_uses = refl
    unmoved_uses (more_uses n o us) = kind 1 (behind (text_key n) (joined (unmoved_maybe o) (unmoved_uses us)))

    pub unmoved_steps : (ss : Steps) → steps_key (moved_steps move ss) ≡ steps_key ss
    unmoved_steps no_steps = refl
    unmoved_steps (member_step n ss) = kind 1 (behind (text_key n) (unmoved_steps ss))
    unmoved_steps (index_step e ss) = kind 2 (joined (unmoved_expression e) (unmoved_steps ss))

    pub unmoved_arms : (arms : Arms) → arms_key (moved_arms move arms) ≡ arms_key arms
    unmoved_arms no_arms = refl
    unmoved_arms (more_arms e b more) = kind 1 (joined (unmoved_expression e) (joined (unmoved_statements b) (unmoved_arms more)))

    pub unmoved_statement : (s : Statement) → statement_key (moved_statement move s) ≡ statement_key s
    unmoved_statement (statement l k) = unmoved_statement_kind k

    pub unmoved_statements : (b : Statements) → statements_key (moved_statements move b) ≡ statements_key b
    unmoved_statements no_statements = refl
    unmoved_statements (more_statements x xs) = kind 1 (joined (unmoved_statement x) (unmoved_statements xs))

    pub unmoved_statement_kind : (k : StatementKind) → statement_kind_key (moved_statement_kind move k) ≡ statement_kind_key k
    unmoved_statement_kind (object t e us b) = kind 0 (behind (text_key t) (joined (unmoved_expression e) (joined (unmoved_uses us) (unmoved_statements b))))
    unmoved_statement_kind (template t e us b) = kind 1 (behind (text_key t) (joined (unmoved_expression e) (joined (unmoved_uses us) (unmoved_statements b))))
    unmoved_statement_kind (apply t o to x us b) = kind 2 (behind (text_key t) (joined (unmoved_maybe o) (behind (maybe_text_key to) (joined (unmoved_maybe_loop x) (joined (unmoved_uses us) (unmoved_statements b))))))
    unmoved_statement_kind (assign e) = kind 3 (unmoved_expression e)
    unmoved_statement_kind (ignore e) = kind 4 (unmoved_expression e)
    unmoved_statement_kind (import e) = kind 5 (unmoved_expression e)
    unmoved_statement_kind (throw e) = kind 6 (unmoved_expression e)
    unmoved_statement_kind (eval e) = kind 7 (unmoved_expression e)
    unmoved_statement_kind (include n l) = refl
    unmoved_statement_kind (include_library n l) = refl
    unmoved_statement_kind (include_all d n l) = refl
    unmoved_statement_kind (const n e) = kind 11 (behind (text_key n) (unmoved_expression e))
    unmoved_statement_kind (var n o) = kind 12 (behind (text_key n) (unmoved_maybe o))
    unmoved_statement_kind (set r ss o e) = kind 13 (behind (root_key r) (joined (unmoved_steps ss) (kind (set_number o) (unmoved_expression e))))
    unmoved_statement_kind (choose arms others) = kind 14 (joined (unmoved_arms arms) (unmoved_statements others))
    unmoved_statement_kind (while e b) = kind 15 (joined (unmoved_expression e) (unmoved_statements b))
    unmoved_statement_kind (for x b) = kind 16 (joined (unmoved_loop x) (unmoved_statements b))
    unmoved_statement_kind (define n f) = kind 17 (behind (text_key n) (unmoved_function f))
    unmoved_statement_kind (return o) = kind 18 (unmoved_maybe o)
    unmoved_statement_kind break = refl
    unmoved_statement_kind continue = refl
