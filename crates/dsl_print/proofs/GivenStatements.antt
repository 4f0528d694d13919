-- Statements that the grammar gives can be printed.
use Rattle.std.proofs.Common.{◌≡◌, ℕ, List, Bool, true, false, cond, Option, Some, None, refl, subst}
use Rattle.dsl_syntax.specs.Syntax.{at_name, at_this, at_globals, Expression, expression, ExpressionKind, this, globals, name, member, index, MaybeExpression, Steps, no_steps, member_step, index_step, Arms, no_arms, more_arms, Statement, Statements, no_statements, more_statements}
use Rattle.dsl_lexer.specs.declared.sign.Sign.TheVariants as signs
use Rattle.dsl_lexer.specs.declared.token.Token.{Token}
use Rattle.dsl_rules.specs.Alphabet.{same}
use Rattle.dsl_rules.specs.Grammar.{Rules}
use Rattle.dsl_grammar.specs.Codes.{kind_sort, sign_sort}
use Rattle.dsl_grammar.specs.Grammar.{Expr, Block, Target, target, target_of, target_of_kind, stepped, Maybe_set, maybe_set, set_value, evaluated, Setting, setting, assigned, SetTo, SetOrEval, VarStatement, while_armed, Guarded, Choice, choice, choice_value, Otherwise, else_if, else_block, first_arm, add_else, ElseIf, Else, FirstChoice, Choices, IfStatement, WhileStatement, ForStatement, Define, ReturnStatement, DefineOrSet, ImportStatement, ThrowStatement, Common, AssignStatement, IgnoreStatement, BodyKind, BodyStatement, MaybeBodyStatement, BodyStatements, Body, Bodied, bodied, UseBody, Named, named, NamedBody, object_named, template_named, Heads, heads, OneHead, head_to, head_for, add_head, AnyHead, ApplyHeads, Headed, headed, applied, ApplyName, HeadedBody, ApplyStatement, ConstStatement, ObjectStatement, TemplateStatement, Kind}
use Rattle.dsl_syntax.specs.Lists.{Armed, armed, add_member, add_index, add_arm, add_statement, to_member, to_index}
use Rattle.dsl_grammar.specs.Table.{step_on}
use Rattle.dsl_grammar.specs.Terms.{Name, Value}
use Rattle.dsl_grammar.proofs.Leading.{member_before, index_before, stepped_some}
use Rattle.dsl_print.proofs.Good.{IsIdent, IsMaybeIdent, Where, in_block, in_body, is_body, has_arm, GoodRoot, Good, GoodKind, GoodMaybe, GoodMaybeLoop, GoodLoop, GoodUses, GoodSteps, GoodArms, GoodStatement, GoodStatements, GoodStatementKind}
use Rattle.dsl_print.proofs.Keeping.{Keeps, Any, OfTurn, keeps_token, keeps_empty, keeps_both, keeps_behind, keeps_before, keeps_three, keeps_either, keeps_ahead, keeps_made, keeps_here, keeps_maybe, keeps_loop, keeps_nl, keeps_row, keeps_thing, keeps_rec_not}
use Rattle.dsl_print.proofs.GivenExpressions.{keeps_IDENT, keeps_MaybeUse, keeps_Func, keeps_LoopHead, keeps_Slot}

-- Lists with one thing more are good.

-- steps, with a member
member_more : (ss : Steps) (n : List ℕ) → GoodSteps ss → IsIdent n → GoodSteps (add_member ss n)
member_more no_steps n h k = (k, tt)
member_more (member_step m ss) n h k = (h.0, member_more ss n h.1 k)
member_more (index_step e ss) n h k = (h.0, member_more ss n h.1 k)

-- steps, with an index
index_more : (ss : Steps) (e : Expression) → GoodSteps ss → Good e → GoodSteps (add_index ss e)
index_more no_steps e h k = (k, tt)
index_more (member_step m ss) e h k = (h.0, index_more ss e h.1 k)
index_more (index_step x ss) e h k = (h.0, index_more ss e h.1 k)

-- arms
arm_more : (as' : Arms) (e : Expression) (b : Statements) → GoodArms as' → Good e → GoodStatements in_block b → GoodArms (add_arm as' e b)
arm_more no_arms e b h k l = (k, l, tt)
arm_more (more_arms x c as') e b h k l = (h.0, h.1, arm_more as' e b h.2 k l)

-- with one more there is one
has_more : (as' : Arms) (e : Expression) (b : Statements) → has_arm (add_arm as' e b) ≡ true
has_more no_arms e b = refl
has_more (more_arms x c as') e b = refl

-- statements
pub statement_more : (c : Where) (ss : Statements) (s : Statement) → GoodStatements c ss → GoodStatement c s → GoodStatements c (add_statement ss s)
statement_more c no_statements s h k = (k, tt)
statement_more c (more_statements x ss) s h k = (h.0, statement_more c ss s h.1 k)

-- Targets of assignments.

-- where a target begins, and its steps
abbrev GoodTarget : Target → Type 0
GoodTarget (target r ss) = GoodRoot r × GoodSteps ss

-- none, or one that is more than `this` or `globals`
abbrev GoodMaybeTarget : Option Target → Type 0
GoodMaybeTarget None = Unit {0}
GoodMaybeTarget (Some g) = GoodTarget g × (stepped (Some g) ≡ Some g)

-- a target with a member more
member_on : (f : Target) (n : List ℕ) → GoodTarget f → IsIdent n → GoodTarget (step_on f (to_member n))
member_on (target r ss) n h k = (h.0, member_more ss n h.1 k)

-- a target with an index more
index_on : (f : Target) (e : Expression) → GoodTarget f → Good e → GoodTarget (step_on f (to_index e))
index_on (target r ss) e h k = (h.0, index_more ss e h.1 k)

-- a target is good if an equal one is
found_good : (f g : Target) → Some f ≡ Some g → GoodTarget f → GoodTarget g
found_good f g is h = let e : f ≡ g = cc in subst GoodTarget e h

-- where a good expression leads is good
mutual
  target_good : (e : Expression) → Good e → (g : Target) → target_of e ≡ Some g → GoodTarget g
  target_good (expression p k) h g is = kind_target k h g is

  kind_target : (k : ExpressionKind) → GoodKind k → (g : Target) → target_of_kind k ≡ Some g → GoodTarget g
  kind_target (name n) h g is = found_good (target (at_name n) no_steps) g is (h, tt)
  kind_target this h g is = found_good (target at_this no_steps) g is (tt, tt)
  kind_target globals h g is = found_good (target at_globals no_steps) g is (tt, tt)
  kind_target (member e n) h g is = let b = member_before n (target_of e) g is in subst GoodTarget b.2 (member_on b.0 n (target_good e h.0 b.0 b.1) h.1)
  kind_target (index e i) h g is = let b = index_before i (target_of e) g is in subst GoodTarget b.2 (index_on b.0 i (target_good e h.0 b.0 b.1) h.1)
  kind_target k h g is = absurd cc

-- what is found is good without `this` and `globals` alone
stepped_good : (o : Option Target) → ((g : Target) → o ≡ Some g → GoodTarget g) → GoodMaybeTarget (stepped o)
stepped_good o h = by (stepped o) refl
  where
    by : (s : Option Target) → stepped o ≡ s → GoodMaybeTarget s
    by None e = tt
    by (Some g) e = let is = stepped_some o g e in (h g is, subst (λ z. stepped z ≡ Some g) is e)

-- Parts that can be printed.

-- what something is set to
abbrev GoodSetting : Setting → Type 0
GoodSetting (setting o e) = Good e

-- a condition and a block
abbrev GoodArmed : Armed → Type 0
GoodArmed (armed e b) = Good e × GoodStatements in_block b

-- the arms so far, of which there is one at least, and the `else`
abbrev GoodChoice : Choice → Type 0
GoodChoice (choice as' b more) = (has_arm as' ≡ true) × GoodArms as' × GoodStatements in_block b

-- what stands behind an `else`
abbrev GoodOtherwise : Otherwise → Type 0
GoodOtherwise (else_if (armed e b)) = Good e × GoodStatements in_block b
GoodOtherwise (else_block b) = GoodStatements in_block b

-- a body with what it uses
abbrev GoodBodied : Bodied → Type 0
GoodBodied (bodied us b) = GoodUses us × GoodStatements in_body b

-- a name, an expression and a body
abbrev GoodNamed : Named → Type 0
GoodNamed (named t e (bodied us b)) = IsIdent t × Good e × GoodUses us × GoodStatements in_body b

-- the heads so far
abbrev GoodHeads : Heads → Type 0
GoodHeads (heads to each) = IsMaybeIdent to × GoodMaybeLoop each

-- one head
abbrev GoodHead : OneHead → Type 0
GoodHead (head_to n) = IsIdent n
GoodHead (head_for l) = GoodLoop l

-- heads and a body
abbrev GoodHeaded : Headed → Type 0
GoodHeaded (headed (heads to each) (bodied us b)) = IsMaybeIdent to × GoodMaybeLoop each × GoodUses us × GoodStatements in_body b

-- the first arm
first_good : (a : Armed) → GoodArmed a → GoodChoice (first_arm a)
first_good (armed e b) h = (refl, (h.0, h.1, tt), tt)

-- a further arm
else_if_good : (a : Armed) → GoodArmed a → GoodOtherwise (else_if a)
else_if_good (armed e b) h = h

-- the arms so far, with one more or the `else`
else_more : (c : Choice) (o : Otherwise) → GoodChoice c → GoodOtherwise o → GoodChoice (add_else c o)
else_more (choice as' b more) (else_if (armed e c)) h k = (has_more as' e c, arm_more as' e c h.1 k.0 k.1, h.2)
else_more (choice as' b more) (else_block c) h k = (h.0, h.1, k)

-- a name, an expression and a body
named_good : (n : List ℕ) (e : Expression) (b : Bodied) → IsIdent n → Good e → GoodBodied b → GoodNamed (named n e b)
named_good n e (bodied us b) h k l = (h, k, l.0, l.1)

-- heads, with one more
head_more : (hs : Heads) (x : OneHead) → GoodHeads hs → GoodHead x → GoodHeads (add_head hs x)
head_more (heads to each) (head_to n) h k = (k, h.1)
head_more (heads to each) (head_for l) h k = (h.0, k)

-- heads and a body
headed_good : (hs : Heads) (b : Bodied) → GoodHeads hs → GoodBodied b → GoodHeaded (headed hs b)
headed_good (heads to each) (bodied us b) h k = (h.0, h.1, k.0, k.1)

-- Statements that are good in any place, and those that are good outside of bodies.
module _ (c : Where) where
  -- an evaluation or an assignment, with where it leads to
  abbrev GoodMaybeSet : Maybe_set → Type 0
  GoodMaybeSet (maybe_set s o) = GoodStatementKind c s × GoodMaybeTarget o

  -- an expression
  evaluated_good : (t : Token) (e : Expression) → Good e → GoodMaybeSet (evaluated t e)
  evaluated_good t e h = (h, by (same (kind_sort t.kind) (sign_sort signs.OpenParen)))
    where
      by : (b : Bool) → GoodMaybeTarget (cond b None (stepped (target_of e)))
      by true = tt
      by false = stepped_good (target_of e) (target_good e h)

  -- what is set
  assigned_good : (s : Maybe_set) (x : Setting) → GoodMaybeSet s → GoodSetting x → GoodMaybeSet (assigned s x)
  assigned_good (maybe_set s None) x h k = h
  assigned_good (maybe_set s (Some (target r ss))) (setting o e) h k = ((h.1.0.0, h.1.1, h.1.0.1, k), tt)

  -- the statement alone
  set_value_good : (s : Maybe_set) → GoodMaybeSet s → GoodStatementKind c (set_value s)
  set_value_good (maybe_set s o) h = h.0

  -- an `if`
  choice_good : (x : Choice) → GoodChoice x → GoodStatementKind c (choice_value x)
  choice_good (choice as' b more) h = h

  -- a `while`
  while_good : (a : Armed) → GoodArmed a → GoodStatementKind c (while_armed a)
  while_good (armed e b) h = h

  -- an object
  object_good : is_body c ≡ false → (n : Named) → GoodNamed n → GoodStatementKind c (object_named n)
  object_good out (named t e (bodied us b)) h = (out, h.0, h.1, h.2, h.3)

  -- a template
  template_good : is_body c ≡ false → (n : Named) → GoodNamed n → GoodStatementKind c (template_named n)
  template_good out (named t e (bodied us b)) h = (out, h.0, h.1, h.2, h.3)

  -- an `apply`
  applied_good : is_body c ≡ false → (n : List ℕ) (e : MaybeExpression) (x : Headed) → IsIdent n → GoodMaybe e → GoodHeaded x → GoodStatementKind c (applied n e x)
  applied_good out n e (headed (heads to each) (bodied us b)) h k l = (out, h, k, l.0, l.1, l.2, l.3)

module _ {L : Rules Token Name Value} (keeps_expr : Keeps L Expr Good) (keeps_block : Keeps L Block (GoodStatements in_block)) where
  -- setop nl expr
  keeps_SetTo : Keeps L SetTo GoodSetting
  unfolding SetTo
  keeps_SetTo = keeps_both keeps_token (keeps_behind keeps_nl keeps_expr) (λ o e h k. k)

  -- "(" expr ")" block
  keeps_Guarded : Keeps L Guarded GoodArmed
  unfolding Guarded
  keeps_Guarded = keeps_both (keeps_behind keeps_token (keeps_before keeps_expr keeps_token)) keeps_block (λ e b h k. (h, k))

  -- "if" "(" expr ")" block
  keeps_ElseIf : Keeps L ElseIf GoodOtherwise
  unfolding ElseIf
  keeps_ElseIf = keeps_made (keeps_behind keeps_token keeps_Guarded) else_if_good

  -- "else" ( "if" "(" expr ")" block | block )
  keeps_Else : Keeps L Else GoodOtherwise
  unfolding Else
  keeps_Else = keeps_behind keeps_token (keeps_either keeps_ElseIf (keeps_made keeps_block (λ b h. h)))

  -- "if" "(" expr ")" block
  keeps_FirstChoice : Keeps L FirstChoice GoodChoice
  unfolding FirstChoice
  keeps_FirstChoice = keeps_behind keeps_token (keeps_made keeps_Guarded first_good)

  -- the same, and each `else`
  keeps_Choices : Keeps L Choices GoodChoice
  unfolding Choices
  keeps_Choices = keeps_loop keeps_FirstChoice keeps_Else else_more

  -- Common statements are good in any place.

  -- target setop nl expr | expr
  keeps_SetOrEval : (c : Where) → Keeps L SetOrEval (GoodStatementKind c)
  unfolding SetOrEval
  keeps_SetOrEval c = keeps_made (keeps_loop (keeps_here keeps_expr (evaluated_good c)) keeps_SetTo (assigned_good c)) (set_value_good c)

  -- "var" IDENT [ "=" nl expr ]
  keeps_VarStatement : (c : Where) → Keeps L VarStatement (GoodStatementKind c)
  unfolding VarStatement
  keeps_VarStatement c = keeps_behind keeps_token (keeps_both keeps_IDENT (keeps_maybe {V = GoodMaybe} (keeps_behind keeps_token (keeps_behind keeps_nl keeps_expr)) (λ e h. h) tt) (λ n e h k. (h, k)))

  -- an `if`
  keeps_IfStatement : (c : Where) → Keeps L IfStatement (GoodStatementKind c)
  unfolding IfStatement
  keeps_IfStatement c = keeps_made keeps_Choices (choice_good c)

  -- "while" "(" expr ")" block
  keeps_WhileStatement : (c : Where) → Keeps L WhileStatement (GoodStatementKind c)
  unfolding WhileStatement
  keeps_WhileStatement c = keeps_behind keeps_token (keeps_made keeps_Guarded (while_good c))

  -- "for" loop block
  keeps_ForStatement : (c : Where) → Keeps L ForStatement (GoodStatementKind c)
  unfolding ForStatement
  keeps_ForStatement c = keeps_behind keeps_token (keeps_both (keeps_LoopHead keeps_expr keeps_block) keeps_block (λ l b h k. (h, k)))

  -- "function" IDENT params [use] block
  keeps_Define : (c : Where) → Keeps L Define (GoodStatementKind c)
  unfolding Define
  keeps_Define c = keeps_behind keeps_token (keeps_both keeps_IDENT (keeps_Func keeps_expr keeps_block) (λ n f h k. (h, k)))

  -- "return" [expr]
  keeps_ReturnStatement : (c : Where) → Keeps L ReturnStatement (GoodStatementKind c)
  unfolding ReturnStatement
  keeps_ReturnStatement c = keeps_behind keeps_token (keeps_made (keeps_Slot keeps_expr keeps_block) (λ e h. h))

  -- a definition, an assignment or an expression
  keeps_DefineOrSet : (c : Where) → Keeps L DefineOrSet (GoodStatementKind c)
  unfolding DefineOrSet
  keeps_DefineOrSet c = keeps_ahead (keeps_Define c) (keeps_SetOrEval c)

  -- "import" expr
  keeps_ImportStatement : (c : Where) → Keeps L ImportStatement (GoodStatementKind c)
  unfolding ImportStatement
  keeps_ImportStatement c = keeps_behind keeps_token (keeps_made keeps_expr (λ e h. h))

  -- "throw" expr
  keeps_ThrowStatement : (c : Where) → Keeps L ThrowStatement (GoodStatementKind c)
  unfolding ThrowStatement
  keeps_ThrowStatement c = keeps_behind keeps_token (keeps_made keeps_expr (λ e h. h))

  -- any of these, "break" and "continue"
  keeps_Common : (c : Where) → Keeps L Common (GoodStatementKind c)
  unfolding Common
  keeps_Common c =
      keeps_either (keeps_VarStatement c)
      (keeps_either (keeps_ImportStatement c)
      (keeps_either (keeps_IfStatement c)
      (keeps_either (keeps_WhileStatement c)
      (keeps_either (keeps_ForStatement c)
      (keeps_either (keeps_ReturnStatement c)
      (keeps_either (keeps_made {U = Any} keeps_token (λ p h. tt))
      (keeps_either (keeps_made {U = Any} keeps_token (λ p h. tt))
      (keeps_either (keeps_ThrowStatement c)
      (keeps_DefineOrSet c)))))))))

  -- Bodies of objects.

  -- "assign" "where" expr
  keeps_AssignStatement : Keeps L AssignStatement (GoodStatementKind in_body)
  unfolding AssignStatement
  keeps_AssignStatement = keeps_behind keeps_token (keeps_behind keeps_token (keeps_made keeps_expr (λ e h. (refl, h))))

  -- "ignore" "where" expr
  keeps_IgnoreStatement : Keeps L IgnoreStatement (GoodStatementKind in_body)
  unfolding IgnoreStatement
  keeps_IgnoreStatement = keeps_behind keeps_token (keeps_behind keeps_token (keeps_made keeps_expr (λ e h. (refl, h))))

  -- bst = "assign" "where" expr | "ignore" "where" expr | common
  keeps_BodyKind : Keeps L BodyKind (GoodStatementKind in_body)
  unfolding BodyKind
  keeps_BodyKind = keeps_either keeps_AssignStatement (keeps_either keeps_IgnoreStatement (keeps_Common in_body))

  -- the same with its place
  keeps_BodyStatement : Keeps L BodyStatement (GoodStatement in_body)
  unfolding BodyStatement
  keeps_BodyStatement = keeps_here keeps_BodyKind (λ t k h. h)

  -- the same, or none
  keeps_MaybeBodyStatement : Keeps L MaybeBodyStatement (OfTurn (GoodStatement in_body))
  unfolding MaybeBodyStatement
  keeps_MaybeBodyStatement = keeps_thing keeps_BodyStatement

  -- {bsep} [ bst { bsep {bsep} bst } {bsep} ]
  keeps_BodyStatements : Keeps L BodyStatements (GoodStatements in_body)
  unfolding BodyStatements
  keeps_BodyStatements = keeps_row no_statements keeps_MaybeBodyStatement tt (statement_more in_body)

  -- body = "{" {bsep} [ bst { bsep {bsep} bst } {bsep} ] "}"
  keeps_Body : Keeps L Body (GoodStatements in_body)
  unfolding Body
  keeps_Body = keeps_behind keeps_token (keeps_before keeps_BodyStatements keeps_token)

  -- [use] body
  keeps_UseBody : Keeps L UseBody GoodBodied
  unfolding UseBody
  keeps_UseBody = keeps_both (keeps_MaybeUse keeps_expr keeps_block) keeps_Body (λ us b h k. (h, k))

  -- IDENT expr [use] body
  keeps_NamedBody : Keeps L NamedBody GoodNamed
  unfolding NamedBody
  keeps_NamedBody = keeps_three named keeps_IDENT keeps_expr keeps_UseBody named_good

  -- "to" IDENT | "for" loop
  keeps_AnyHead : Keeps L AnyHead GoodHead
  unfolding AnyHead
  keeps_AnyHead = keeps_either (keeps_made (keeps_behind keeps_token keeps_IDENT) (λ n h. h)) (keeps_made (keeps_behind keeps_token (keeps_LoopHead keeps_expr keeps_block)) (λ l h. h))

  -- any number of these
  keeps_ApplyHeads : Keeps L ApplyHeads GoodHeads
  unfolding ApplyHeads
  keeps_ApplyHeads = keeps_loop (keeps_empty (tt, tt)) keeps_AnyHead head_more

  -- heads [use] body
  keeps_HeadedBody : Keeps L HeadedBody GoodHeaded
  unfolding HeadedBody
  keeps_HeadedBody = keeps_both keeps_ApplyHeads keeps_UseBody headed_good

  -- [expr]
  keeps_ApplyName : Keeps L ApplyName GoodMaybe
  unfolding ApplyName
  keeps_ApplyName = keeps_either (keeps_rec_not keeps_expr (λ e h. h)) (keeps_empty tt)

  -- Statements outside of bodies.

  module _ (c : Where) (out : is_body c ≡ false) where
    -- "apply" IDENT [expr] heads [use] body
    keeps_ApplyStatement : Keeps L ApplyStatement (GoodStatementKind c)
    unfolding ApplyStatement
    keeps_ApplyStatement = keeps_behind keeps_token (keeps_three applied keeps_IDENT keeps_ApplyName keeps_HeadedBody (applied_good c out))

    -- "const" IDENT "=" nl expr
    keeps_ConstStatement : Keeps L ConstStatement (GoodStatementKind c)
    unfolding ConstStatement
    keeps_ConstStatement = keeps_behind keeps_token (keeps_both keeps_IDENT (keeps_behind keeps_token (keeps_behind keeps_nl keeps_expr)) (λ n e h k. (out, h, k)))

    -- "object" IDENT expr [use] body
    keeps_ObjectStatement : Keeps L ObjectStatement (GoodStatementKind c)
    unfolding ObjectStatement
    keeps_ObjectStatement = keeps_behind keeps_token (keeps_made keeps_NamedBody (object_good c out))

    -- "template" IDENT expr [use] body
    keeps_TemplateStatement : Keeps L TemplateStatement (GoodStatementKind c)
    unfolding TemplateStatement
    keeps_TemplateStatement = keeps_behind keeps_token (keeps_made keeps_NamedBody (template_good c out))

    -- stmt: any of these, and what is common
    pub keeps_Kind : Keeps L Kind (GoodStatementKind c)
    unfolding Kind
    keeps_Kind = keeps_either keeps_ObjectStatement (keeps_either keeps_TemplateStatement (keeps_either keeps_ApplyStatement (keeps_either keeps_ConstStatement (keeps_Common c))))
