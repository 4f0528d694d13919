-- The grammar, production by production.
use Rattle.std.specs.Prelude.{ℕ, zero, suc, List, [], ◌∷◌, ◌++◌, Bool, true, false, not, drop, Option, Some, None, cond, is_some, codes}
use Rattle.site_base.specs.declared.place.Place.{Place}
use Rattle.dsl_syntax.specs.declared.set_op.SetOp.{SetOp}
use Rattle.dsl_syntax.specs.declared.un_op.UnOp.{UnOp}
use Rattle.dsl_syntax.specs.declared.bin_op.BinOp.{BinOp}
use Rattle.dsl_syntax.specs.Syntax.{Root, at_name, at_this, at_globals, Expression, expression, ExpressionKind, null, this, globals, boolean, number, string, name, array, dictionary, member, index, call, unary, binary, function_value, Expressions, no_expressions, Entries, no_entries, MaybeExpression, no_expression, some_expression, Loop, loop as a_loop, MaybeLoop, no_loop, some_loop, Function, function, Uses, no_uses, Steps, no_steps, Arms, no_arms, more_arms, Statement, statement, Statements, no_statements, more_statements, StatementKind, object, template, apply, assign, ignore, import, throw, eval, include, include_library, include_all, const, var, set, choose, while, for, define, return, break, continue}
use Rattle.dsl_lexer.specs.declared.token.Token.{Token}
use Rattle.dsl_lexer.specs.declared.token_kind.TokenKind.{TokenKind}
use Rattle.dsl_lexer.specs.declared.token_kind.TokenKind.TheVariants as kinds
use Rattle.dsl_lexer.specs.declared.word.Word.TheVariants as words
use Rattle.dsl_lexer.specs.declared.sign.Sign.TheVariants as signs
use Rattle.dsl_rules.specs.Alphabet.{Sort, same, and, or, at}
use Rattle.dsl_rules.specs.Grammar.{one, empty, both, either, ahead, made, here, loop, chain, rec, rec_not, always, Rules, Derives}
use Rattle.dsl_grammar.specs.Codes.{kind_sort, word_sort, sign_sort, ident_sort, number_sort, string_sort, sorts}
use Rattle.dsl_syntax.specs.Lists.{Entry, entry, Captured, captured, Armed, armed, add_expression, add_entry, add_use, add_member, add_index, add_arm, add_statement}
use Rattle.dsl_grammar.specs.Operators.{level_sorts, binary_of, unary_sorts, unary_of, set_sorts, set_of}
use Rattle.dsl_grammar.specs.Terms.{Name, expr, block, Value, starts, Rule, word, sign, text, IDENT, STRING, behind, before, three, maybe, nl, listed, Turn, nothing, thing, row_of, sep, bsep}

-- Parts of productions.

abbrev pub Expr : Rule Expression
Expr = rec expr (λ e. e)

abbrev pub Block : Rule Statements
Block = rec block (λ b. b)

abbrev pub add_name : List (List ℕ) → List ℕ → List (List ℕ)
add_name ns n = ns ++ n ∷ []

-- params = "(" [ IDENT { "," IDENT } ] ")"
unfoldable pub Names : Rule (List (List ℕ))
Names = listed add_name [] IDENT

unfoldable pub Params : Rule (List (List ℕ))
Params = behind (sign signs.OpenParen) (before (maybe (λ ns. ns) [] Names) (sign signs.CloseParen))

abbrev pub add_captured : Uses → Captured → Uses
add_captured us (captured n e) = add_use us n e

-- IDENT [ "=" expr ]
unfoldable pub OneUse : Rule Captured
OneUse = both captured IDENT (maybe some_expression no_expression (behind (sign signs.Set) Expr))

unfoldable pub UseNames : Rule Uses
UseNames = listed add_captured no_uses OneUse

-- use = "use" "(" IDENT [ "=" expr ] { "," IDENT [ "=" expr ] } ")"
unfoldable pub UseList : Rule Uses
UseList = behind (word words.Use) (behind (sign signs.OpenParen) (before UseNames (sign signs.CloseParen)))

unfoldable pub MaybeUse : Rule Uses
MaybeUse = maybe (λ us. us) no_uses UseList

-- params [use] block
unfoldable pub Func : Rule Function
Func = three function Params MaybeUse Block

-- "=>" IDENT
unfoldable pub Valued : Rule (Option (List ℕ))
Valued = maybe Some None (behind (sign signs.Arrow) IDENT)

-- loop = "(" IDENT [ "=>" IDENT ] "in" expr ")"
unfoldable pub LoopHead : Rule Loop
LoopHead =
    behind (sign signs.OpenParen) (three a_loop IDENT Valued (behind (word words.In) (before Expr (sign signs.CloseParen))))

-- Expressions.

-- an expression, and where its text begins
pub data Begun : Type 0 where
  begun : Place → Expression → Begun

abbrev pub begun_expression : Begun → Expression
begun_expression (begun p e) = e

abbrev pub literal_kind : TokenKind → ExpressionKind
literal_kind (kinds.Word words.True) = boolean true
literal_kind (kinds.Word words.False) = boolean false
literal_kind (kinds.Word words.This) = this
literal_kind (kinds.Word words.Globals) = globals
literal_kind (kinds.Ident t) = name t
literal_kind (kinds.Number n) = number n
literal_kind (kinds.Str t) = string t
literal_kind k = null

abbrev pub literal_sorts : List Sort
literal_sorts = word_sort words.True ∷ word_sort words.False ∷ word_sort words.Null ∷ word_sort words.This ∷ word_sort words.Globals ∷ ident_sort ∷ number_sort ∷ string_sort ∷ []

-- literal, IDENT, "this" and "globals"
unfoldable pub Literal : Rule Expression
Literal = one literal_sorts (λ t. expression t.place (literal_kind t.kind))

-- "(" expr ")"
unfoldable pub Paren : Rule Expression
Paren = behind (sign signs.OpenParen) (before Expr (sign signs.CloseParen))

-- what stands between the commas of an array so far, and if the last is there
pub data Slots : Type 0 where
  slots : Expressions → Bool → Slots

abbrev pub slots_value : Slots → Expressions
slots_value (slots es full) = es

abbrev pub may_follow : Slots → Sort → Bool
may_follow (slots es full) k = full

abbrev pub add_slot : Slots → MaybeExpression → Slots
add_slot (slots es full) no_expression = slots es false
add_slot (slots es full) (some_expression e) = slots (add_expression es e) true

unfoldable pub Slot : Rule MaybeExpression
Slot = maybe some_expression no_expression Expr

unfoldable pub CommaSlot : Rule MaybeExpression
CommaSlot = behind (sign signs.Comma) Slot

-- [ expr { "," expr } [","] ]
unfoldable pub Elements : Rule Slots
Elements = loop false (sign_sort signs.Comma ∷ []) may_follow add_slot (made (add_slot (slots no_expressions true)) Slot) CommaSlot

unfoldable pub BracketedElements : Rule Slots
BracketedElements = behind (sign signs.OpenBracket) (before Elements (sign signs.CloseBracket))

unfoldable pub Array : Rule Expression
Array = here (λ t s. expression t.place (array (slots_value s))) BracketedElements

abbrev pub add_pair : Entries → Entry → Entries
add_pair es (entry k e) = add_entry es k e

-- pair = ( IDENT | STRING ) "=" nl expr
unfoldable pub Pair : Rule Entry
Pair = both entry (one (ident_sort ∷ string_sort ∷ []) text) (behind (sign signs.Set) (behind nl Expr))

unfoldable pub MaybePair : Rule (Turn Entry)
MaybePair = maybe thing nothing Pair

unfoldable pub Pairs : Rule Entries
Pairs = row_of bsep add_pair no_entries MaybePair

unfoldable pub BracedPairs : Rule Entries
BracedPairs = behind (sign signs.OpenBrace) (before Pairs (sign signs.CloseBrace))

-- dict = "{" {bsep} [ pair { bsep {bsep} pair } {bsep} ] "}"
unfoldable pub Dict : Rule Expression
Dict = here (λ t es. expression t.place (dictionary es)) BracedPairs

unfoldable pub FunctionFunc : Rule Function
FunctionFunc = behind (word words.Function) Func

-- "function" params [use] block
unfoldable pub FunctionLiteral : Rule Expression
FunctionLiteral = here (λ t f. expression t.place (function_value f)) FunctionFunc

unfoldable pub Prim : Rule Expression
Prim = either Literal (either Paren (either Array (either Dict FunctionLiteral)))

-- level 1: what is behind a primary expression
pub data Tail : Type 0 where
  member_tail : List ℕ → Tail
  index_tail : Expression → Tail
  call_tail : Expressions → Tail

abbrev pub with_tail : Begun → Tail → Begun
with_tail (begun p e) (member_tail n) = begun p (expression p (member e n))
with_tail (begun p e) (index_tail i) = begun p (expression p (index e i))
with_tail (begun p e) (call_tail es) = begun p (expression p (call e es))

-- [ expr { "," expr } ]
unfoldable pub Listed : Rule Expressions
Listed = listed add_expression no_expressions Expr

unfoldable pub Arguments : Rule Expressions
Arguments = maybe (λ es. es) no_expressions Listed

unfoldable pub OneTail : Rule Tail
OneTail =
    either (made member_tail (behind (sign signs.Dot) IDENT))
    (either (made index_tail (behind (sign signs.OpenBracket) (before Expr (sign signs.CloseBracket))))
    (made call_tail (behind (sign signs.OpenParen) (before Arguments (sign signs.CloseParen)))))

abbrev pub tail_sorts : List Sort
tail_sorts = sign_sort signs.Dot ∷ sign_sort signs.OpenBracket ∷ sign_sort signs.OpenParen ∷ []

unfoldable pub BegunPrim : Rule Begun
BegunPrim = here (λ t e. begun t.place e) Prim

unfoldable pub Postfix : Rule Begun
Postfix = loop false tail_sorts always with_tail BegunPrim OneTail

-- level 2: operators before an operand
pub data Prefix : Type 0 where
  prefix : Place → UnOp → Prefix

abbrev pub with_prefixes : List Prefix → Expression → Expression
with_prefixes [] e = e
with_prefixes (prefix p o ∷ os) e = expression p (unary o (with_prefixes os e))

abbrev pub OnePrefix : Rule Prefix
OnePrefix = one unary_sorts (λ t. prefix t.place (unary_of t.kind))

abbrev pub add_prefix : List Prefix → Prefix → List Prefix
add_prefix os o = os ++ o ∷ []

unfoldable pub Prefixes : Rule (List Prefix)
Prefixes = loop false unary_sorts always add_prefix (made (add_prefix []) OnePrefix) OnePrefix

unfoldable pub Prefixed : Rule Expression
Prefixed = either (both with_prefixes Prefixes (made begun_expression Postfix)) (made begun_expression Postfix)

unfoldable pub Unary : Rule Begun
Unary = here (λ t e. begun t.place e) Prefixed

-- levels 3 to 13: operands between operators, each of which newlines may follow
abbrev pub joined : Begun → BinOp → Begun → Begun
joined (begun p e) o (begun q f) = begun p (expression p (binary o e f))

unfoldable pub Operator : ℕ → Rule BinOp
Operator k = before (one (level_sorts k) (λ t. binary_of t.kind)) nl

unfoldable pub Level : ℕ → Rule Begun
Level zero = Unary
Level (suc k) = chain (level_sorts k) joined (Level k) (Operator k)

-- "=>" and a block, or an expression that is returned
abbrev pub returned : Token → Expression → Statements
returned t e = more_statements (statement t.place (return (some_expression e))) no_statements

unfoldable pub Returned : Rule Statements
Returned = here returned (rec_not (sign_sort signs.OpenBrace ∷ []) expr (λ e. e))

unfoldable pub LambdaBody : Rule Statements
LambdaBody = either Block Returned

unfoldable pub LambdaFunc : Rule Function
LambdaFunc = both (λ ps b. function ps no_uses b) Params (behind (sign signs.Arrow) LambdaBody)

unfoldable pub Lambda : Rule Expression
Lambda = here (λ t f. expression t.place (function_value f)) LambdaFunc

-- a lambda begins with `( )`, `( IDENT ,` or `( IDENT ) =>`
abbrev pub begins_lambda : List Token → Bool
begins_lambda ts =
    and (at sorts (sign_sort signs.OpenParen ∷ []) ts) (or (at sorts (sign_sort signs.CloseParen ∷ []) (drop 1 ts)) (and (at sorts (ident_sort ∷ []) (drop 1 ts))
    (or (at sorts (sign_sort signs.Comma ∷ []) (drop 1 (drop 1 ts))) (and (at sorts (sign_sort signs.CloseParen ∷ []) (drop 1 (drop 1 ts))) (at sorts (sign_sort signs.Arrow ∷ []) (drop 1 (drop 1 (drop 1 ts))))))))

-- expr = params "=>" ( block | expr ) | level13
unfoldable pub Whole : Rule Expression
Whole = ahead (sign_sort signs.Arrow ∷ []) begins_lambda Lambda (made begun_expression (Level 11))

-- Statements.

-- where an assignment leads to
pub data Target : Type 0 where
  target : Root → Steps → Target

abbrev pub with_member : List ℕ → Option Target → Option Target
with_member n None = None
with_member n (Some (target r ss)) = Some (target r (add_member ss n))

abbrev pub with_index : Expression → Option Target → Option Target
with_index e None = None
with_index e (Some (target r ss)) = Some (target r (add_index ss e))

abbrev mutual
  pub target_of : Expression → Option Target
  target_of (expression p k) = target_of_kind k

  pub target_of_kind : ExpressionKind → Option Target
  target_of_kind (name n) = Some (target (at_name n) no_steps)
  target_of_kind this = Some (target at_this no_steps)
  target_of_kind globals = Some (target at_globals no_steps)
  target_of_kind (member e n) = with_member n (target_of e)
  target_of_kind (index e i) = with_index i (target_of e)
  target_of_kind k = None

-- `this` and `globals` are targets only with a step
abbrev pub stepped : Option Target → Option Target
stepped (Some (target at_this no_steps)) = None
stepped (Some (target at_globals no_steps)) = None
stepped o = o

-- a statement, and where it leads to if it may be an assignment
pub data Maybe_set : Type 0 where
  maybe_set : StatementKind → Option Target → Maybe_set

abbrev pub set_value : Maybe_set → StatementKind
set_value (maybe_set s o) = s

abbrev pub may_set : Maybe_set → Sort → Bool
may_set (maybe_set s o) k = is_some o

-- a target doesn't begin with a parenthesis
abbrev pub evaluated : Token → Expression → Maybe_set
evaluated t e = maybe_set (eval e) (cond (same (kind_sort t.kind) (sign_sort signs.OpenParen)) None (stepped (target_of e)))

pub data Setting : Type 0 where
  setting : SetOp → Expression → Setting

abbrev pub assigned : Maybe_set → Setting → Maybe_set
assigned (maybe_set s None) x = maybe_set s None
assigned (maybe_set s (Some (target r ss))) (setting o e) = maybe_set (set r ss o e) None

-- target setop nl expr | expr
unfoldable pub SetTo : Rule Setting
SetTo = both setting (one set_sorts (λ t. set_of t.kind)) (behind nl Expr)

unfoldable pub SetOrEval : Rule StatementKind
SetOrEval = made set_value (loop false set_sorts may_set assigned (here evaluated Expr) SetTo)

-- "var" IDENT [ "=" nl expr ]
unfoldable pub VarStatement : Rule StatementKind
VarStatement = behind (word words.Var) (both var IDENT (maybe some_expression no_expression (behind (sign signs.Set) (behind nl Expr))))

-- "(" expr ")" block
unfoldable pub Guarded : Rule Armed
Guarded = both armed (behind (sign signs.OpenParen) (before Expr (sign signs.CloseParen))) Block

-- the arms so far, and if an `else` may follow
pub data Choice : Type 0 where
  choice : Arms → Statements → Bool → Choice

abbrev pub choice_value : Choice → StatementKind
choice_value (choice as' b more) = choose as' b

abbrev pub may_else : Choice → Sort → Bool
may_else (choice as' b more) k = more

pub data Otherwise : Type 0 where
  else_if : Armed → Otherwise
  else_block : Statements → Otherwise

abbrev pub first_arm : Armed → Choice
first_arm (armed e b) = choice (more_arms e b no_arms) no_statements true

abbrev pub add_else : Choice → Otherwise → Choice
add_else (choice as' b more) (else_if (armed e c)) = choice (add_arm as' e c) b true
add_else (choice as' b more) (else_block c) = choice as' c false

unfoldable pub ElseIf : Rule Otherwise
ElseIf = made else_if (behind (word words.If) Guarded)

unfoldable pub Else : Rule Otherwise
Else = behind (word words.Else) (either ElseIf (made else_block Block))

unfoldable pub FirstChoice : Rule Choice
FirstChoice = behind (word words.If) (made first_arm Guarded)

unfoldable pub Choices : Rule Choice
Choices = loop true (word_sort words.Else ∷ []) may_else add_else FirstChoice Else

-- "if" "(" expr ")" block { nl "else" "if" "(" expr ")" block } [ nl "else" block ]
unfoldable pub IfStatement : Rule StatementKind
IfStatement = made choice_value Choices

-- "while" "(" expr ")" block
abbrev pub while_armed : Armed → StatementKind
while_armed (armed e b) = while e b

unfoldable pub WhileStatement : Rule StatementKind
WhileStatement = behind (word words.While) (made while_armed Guarded)

-- "for" loop block
unfoldable pub ForStatement : Rule StatementKind
ForStatement = behind (word words.For) (both for LoopHead Block)

-- "function" IDENT params [use] block
unfoldable pub Define : Rule StatementKind
Define = behind (word words.Function) (both define IDENT Func)

-- "return" [expr]
unfoldable pub ReturnStatement : Rule StatementKind
ReturnStatement = behind (word words.Return) (made return Slot)

-- `function IDENT` begins a definition, and else `function` an expression
abbrev pub begins_define : List Token → Bool
begins_define ts = and (at sorts (word_sort words.Function ∷ []) ts) (at sorts (ident_sort ∷ []) (drop 1 ts))

unfoldable pub DefineOrSet : Rule StatementKind
DefineOrSet = ahead [] begins_define Define SetOrEval

unfoldable pub ImportStatement : Rule StatementKind
ImportStatement = behind (word words.Import) (made import Expr)

unfoldable pub ThrowStatement : Rule StatementKind
ThrowStatement = behind (word words.Throw) (made throw Expr)

unfoldable pub Common : Rule StatementKind
Common =
    either VarStatement
    (either ImportStatement
    (either IfStatement
    (either WhileStatement
    (either ForStatement
    (either ReturnStatement
    (either (made (λ p. break) (word words.Break))
    (either (made (λ p. continue) (word words.Continue))
    (either ThrowStatement
    DefineOrSet))))))))

-- with which tokens they begin
abbrev pub common_words : List Sort
common_words =
    word_sort words.Var ∷ word_sort words.Import ∷ word_sort words.If ∷ word_sort words.While ∷ word_sort words.For ∷ word_sort words.Return ∷ word_sort words.Break ∷ word_sort words.Continue ∷ word_sort words.Throw
    ∷ word_sort words.Function ∷ []

abbrev pub common_sorts : List Sort
common_sorts = common_words ++ starts expr

abbrev pub statement_sorts : List Sort
statement_sorts = word_sort words.Object ∷ word_sort words.Template ∷ word_sort words.Apply ∷ word_sort words.Const ∷ common_sorts

abbrev pub body_sorts : List Sort
body_sorts = word_sort words.Assign ∷ word_sort words.Ignore ∷ common_sorts

abbrev pub top_sorts : List Sort
top_sorts = word_sort words.Include ∷ word_sort words.IncludeRecursive ∷ statement_sorts

abbrev pub placed : Rule StatementKind → Rule Statement
placed g = here (λ t k. statement t.place k) g

-- bst = "assign" "where" expr | "ignore" "where" expr | common
unfoldable pub AssignStatement : Rule StatementKind
AssignStatement = behind (word words.Assign) (behind (word words.Where) (made assign Expr))

unfoldable pub IgnoreStatement : Rule StatementKind
IgnoreStatement = behind (word words.Ignore) (behind (word words.Where) (made ignore Expr))

unfoldable pub BodyKind : Rule StatementKind
BodyKind = either AssignStatement (either IgnoreStatement Common)

unfoldable pub BodyStatement : Rule Statement
BodyStatement = placed BodyKind

-- body = "{" {bsep} [ bst { bsep {bsep} bst } {bsep} ] "}"
unfoldable pub MaybeBodyStatement : Rule (Turn Statement)
MaybeBodyStatement = maybe thing nothing BodyStatement

unfoldable pub BodyStatements : Rule Statements
BodyStatements = row_of bsep add_statement no_statements MaybeBodyStatement

unfoldable pub Body : Rule Statements
Body = behind (sign signs.OpenBrace) (before BodyStatements (sign signs.CloseBrace))

-- [use] body
pub data Bodied : Type 0 where
  bodied : Uses → Statements → Bodied

unfoldable pub UseBody : Rule Bodied
UseBody = both bodied MaybeUse Body

-- IDENT expr [use] body
pub data Named : Type 0 where
  named : List ℕ → Expression → Bodied → Named

unfoldable pub NamedBody : Rule Named
NamedBody = three named IDENT Expr UseBody

abbrev pub object_named : Named → StatementKind
object_named (named t e (bodied us b)) = object t e us b

abbrev pub template_named : Named → StatementKind
template_named (named t e (bodied us b)) = template t e us b

-- at most one "to" IDENT and at most one "for" loop, in either order
pub data Heads : Type 0 where
  heads : Option (List ℕ) → MaybeLoop → Heads

pub data OneHead : Type 0 where
  head_to : List ℕ → OneHead
  head_for : Loop → OneHead

abbrev pub has_no_loop : MaybeLoop → Bool
has_no_loop no_loop = true
has_no_loop (some_loop l) = false

abbrev pub may_head : Heads → Sort → Bool
may_head (heads to each) k = cond (same k (word_sort words.To)) (not (is_some to)) (has_no_loop each)

abbrev pub add_head : Heads → OneHead → Heads
add_head (heads to each) (head_to t) = heads (Some t) each
add_head (heads to each) (head_for l) = heads to (some_loop l)

unfoldable pub AnyHead : Rule OneHead
AnyHead = either (made head_to (behind (word words.To) IDENT)) (made head_for (behind (word words.For) LoopHead))

unfoldable pub ApplyHeads : Rule Heads
ApplyHeads = loop false (word_sort words.To ∷ word_sort words.For ∷ []) may_head add_head (empty (heads None no_loop)) AnyHead

pub data Headed : Type 0 where
  headed : Heads → Bodied → Headed

abbrev pub applied : List ℕ → MaybeExpression → Headed → StatementKind
applied t e (headed (heads to each) (bodied us b)) = apply t e to each us b

-- "apply" IDENT [expr] heads [use] body, where the expression doesn't begin with `{`
unfoldable pub ApplyName : Rule MaybeExpression
ApplyName = either (rec_not (sign_sort signs.OpenBrace ∷ []) expr some_expression) (empty no_expression)

unfoldable pub HeadedBody : Rule Headed
HeadedBody = both headed ApplyHeads UseBody

unfoldable pub ApplyStatement : Rule StatementKind
ApplyStatement = behind (word words.Apply) (three applied IDENT ApplyName HeadedBody)

-- "const" IDENT "=" nl expr
unfoldable pub ConstStatement : Rule StatementKind
ConstStatement = behind (word words.Const) (both const IDENT (behind (sign signs.Set) (behind nl Expr)))

unfoldable pub ObjectStatement : Rule StatementKind
ObjectStatement = behind (word words.Object) (made object_named NamedBody)

unfoldable pub TemplateStatement : Rule StatementKind
TemplateStatement = behind (word words.Template) (made template_named NamedBody)

unfoldable pub Kind : Rule StatementKind
Kind =
    either ObjectStatement
    (either TemplateStatement
    (either ApplyStatement
    (either ConstStatement
    Common)))

unfoldable pub AnyStatement : Rule Statement
AnyStatement = placed Kind

unfoldable pub MaybeStatement : Rule (Turn Statement)
MaybeStatement = maybe thing nothing AnyStatement

unfoldable pub BlockStatements : Rule Statements
BlockStatements = row_of sep add_statement no_statements MaybeStatement

-- block = "{" {sep} [ stmt { sep {sep} stmt } {sep} ] "}"
unfoldable pub Braced : Rule Statements
Braced = behind (sign signs.OpenBrace) (before BlockStatements (sign signs.CloseBrace))

-- Files.

-- "<" IDENT { "-" IDENT } ">"
abbrev pub dashed : List ℕ → List ℕ → List ℕ
dashed n m = n ++ codes "-" ++ m

pub data Located : Type 0 where
  located : Place → List ℕ → Located

unfoldable pub Dashed : Rule (List ℕ)
Dashed = loop false (sign_sort signs.Minus ∷ []) always dashed IDENT (behind (sign signs.Minus) IDENT)

unfoldable pub AngledName : Rule (List ℕ)
AngledName = behind (sign signs.Less) (before Dashed (sign signs.Greater))

unfoldable pub LibraryName : Rule Located
LibraryName = here (λ t n. located t.place n) AngledName

unfoldable pub LocatedString : Rule Located
LocatedString = one (string_sort ∷ []) (λ t. located t.place (text t))

abbrev pub included : Located → StatementKind
included (located p n) = include n p

abbrev pub included_library : Located → StatementKind
included_library (located p n) = include_library n p

abbrev pub included_all : Located → List ℕ → StatementKind
included_all (located p n) pattern = include_all n pattern p

-- include = "include" STRING | "include" "<" IDENT { "-" IDENT } ">" | "include_recursive" STRING [ "," STRING ]
unfoldable pub Included : Rule StatementKind
Included = behind (word words.Include) (either (made included LocatedString) (made included_library LibraryName))

unfoldable pub IncludedAll : Rule StatementKind
IncludedAll = behind (word words.IncludeRecursive) (both included_all LocatedString (maybe (λ n. n) (codes "*.conf") (behind (sign signs.Comma) STRING)))

unfoldable pub Inclusion : Rule StatementKind
Inclusion = either Included IncludedAll

-- top = stmt | include
unfoldable pub TopKind : Rule StatementKind
TopKind = either Inclusion Kind

unfoldable pub Top : Rule Statement
Top = placed TopKind

-- file = {sep} [ top { sep {sep} top } {sep} ]
unfoldable pub MaybeTop : Rule (Turn Statement)
MaybeTop = maybe thing nothing Top

unfoldable pub FileStatements : Rule Statements
FileStatements = row_of sep add_statement no_statements MaybeTop

-- what the two names stand for
abbrev pub production : (k : Name) → Rule (Value k)
production expr = Whole
production block = Braced

-- what each name stands for, with names inside one another at most so deep
abbrev pub names : ℕ → Rules Token Name Value
names zero k ts a rest = ⊥
names (suc h) k ts a rest = Derives sorts (names h) (production k) ts a rest
