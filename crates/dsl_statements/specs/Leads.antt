-- Which statement stands where.
use Rattle.std.specs.Prelude.{◌≡◌, ℕ, List, [], ◌∷◌, Option, Some, None, cond, false}
use Rattle.site_base.specs.declared.place.Place.{Place}
use Rattle.dsl_syntax.specs.Syntax.{Statement, statement, Statements, no_statements, StatementKind, break, continue}
use Rattle.dsl_syntax.specs.Lists.{add_statement}
use Rattle.dsl_lexer.specs.declared.token.Token.{Token}
use Rattle.dsl_lexer.specs.declared.word.Word.{Word}
use Rattle.dsl_lexer.specs.declared.word.Word.TheVariants as words
use Rattle.dsl_lexer.specs.declared.sign.Sign.TheVariants as signs
use Rattle.dsl_rules.specs.Alphabet.{Sort, at}
use Rattle.dsl_rules.specs.Grammar.{made}
use Rattle.dsl_rules.specs.Reading.{Read, got, ◌>>=◌}
use Rattle.dsl_grammar.specs.Codes.{sorts, word_sort}
use Rattle.dsl_grammar.specs.Grammar.{Expr, TopKind, Kind, BodyKind, MaybeTop, MaybeStatement, MaybeBodyStatement, FileStatements, BlockStatements, BodyStatements, Inclusion, NamedBody, ApplyStatement, ConstStatement, VarStatement, IfStatement, WhileStatement, ForStatement, ReturnStatement, Define, SetOrEval, begins_define, top_sorts, statement_sorts, body_sorts}
use Rattle.dsl_grammar.specs.Reading.{read_by}
use Rattle.dsl_grammar.specs.Terms.{Rule, Turn, add_turn, behind, before, word, sign, sep, bsep}
use Rattle.dsl_statements.specs.NamedView.{named_of}
use Rattle.dsl_statements.specs.Parts.{worded}
use Rattle.dsl_statements.specs.declared.leads.Within.{Within}
use Rattle.dsl_statements.specs.declared.leads.Within.TheVariants as within
use Rattle.dsl_statements.specs.declared.leads.Lead.{Lead}
use Rattle.dsl_statements.specs.declared.leads.Lead.TheVariants as leads

-- What stands where.

-- what a statement may be
abbrev pub kind_in : Within → Rule StatementKind
kind_in within.File = TopKind
kind_in within.Block = Kind
kind_in within.Body = BodyKind

-- with which tokens one begins, and what stands between two
abbrev pub first_sorts : Within → List Sort
first_sorts within.File = top_sorts
first_sorts within.Block = statement_sorts
first_sorts within.Body = body_sorts

abbrev pub separators : Within → List Sort
separators within.Body = bsep
separators w = sep

-- one statement or none, all statements, and these in braces
abbrev pub maybe_in : Within → Rule (Turn Statement)
maybe_in within.File = MaybeTop
maybe_in within.Block = MaybeStatement
maybe_in within.Body = MaybeBodyStatement

abbrev pub all_in : Within → Rule Statements
all_in within.File = FileStatements
all_in within.Block = BlockStatements
all_in within.Body = BodyStatements

abbrev pub braced_in : Within → Rule Statements
braced_in w = behind (sign signs.OpenBrace) (before (all_in w) (sign signs.CloseBrace))

-- Which statement it is.

abbrev pub function_lead : List Token → Lead
function_lead ts = cond (begins_define ts) leads.Define leads.SetOrEval

abbrev pub common_lead : List Token → Lead
common_lead ts =
    cond (at sorts (word_sort words.Var ∷ []) ts) leads.Var
    (cond (at sorts (word_sort words.Import ∷ []) ts) (leads.Worded words.Import)
    (cond (at sorts (word_sort words.If ∷ []) ts) leads.If
    (cond (at sorts (word_sort words.While ∷ []) ts) leads.While
    (cond (at sorts (word_sort words.For ∷ []) ts) leads.For
    (cond (at sorts (word_sort words.Return ∷ []) ts) leads.Return
    (cond (at sorts (word_sort words.Break ∷ []) ts) leads.Break
    (cond (at sorts (word_sort words.Continue ∷ []) ts) leads.Continue
    (cond (at sorts (word_sort words.Throw ∷ []) ts) (leads.Worded words.Throw)
    (function_lead ts)))))))))

abbrev pub block_lead : List Token → Lead
block_lead ts =
    cond (at sorts (word_sort words.Object ∷ []) ts) (leads.Named words.Object)
    (cond (at sorts (word_sort words.Template ∷ []) ts) (leads.Named words.Template)
    (cond (at sorts (word_sort words.Apply ∷ []) ts) leads.Apply
    (cond (at sorts (word_sort words.Const ∷ []) ts) leads.Const
    (common_lead ts))))

abbrev pub body_lead : List Token → Lead
body_lead ts =
    cond (at sorts (word_sort words.Assign ∷ []) ts) (leads.Worded words.Assign)
    (cond (at sorts (word_sort words.Ignore ∷ []) ts) (leads.Worded words.Ignore)
    (common_lead ts))

abbrev pub lead_of : Within → List Token → Lead
lead_of within.File ts = cond (at sorts (word_sort words.Include ∷ word_sort words.IncludeRecursive ∷ []) ts) leads.Inclusion (block_lead ts)
lead_of within.Block ts = block_lead ts
lead_of within.Body ts = body_lead ts

-- What it is read by.

-- the words before the expression of a statement that is one
abbrev pub heading : Word → Rule Place
heading words.Assign = behind (word words.Assign) (word words.Where)
heading words.Ignore = behind (word words.Ignore) (word words.Where)
heading w = word w

abbrev pub led : Lead → Rule StatementKind
led leads.Inclusion = Inclusion
led (leads.Named w) = behind (word w) (made (named_of w) NamedBody)
led leads.Apply = ApplyStatement
led leads.Const = ConstStatement
led leads.Var = VarStatement
led (leads.Worded w) = behind (heading w) (made (worded w) Expr)
led leads.If = IfStatement
led leads.While = WhileStatement
led leads.For = ForStatement
led leads.Return = ReturnStatement
led leads.Break = made (λ p. break) (word words.Break)
led leads.Continue = made (λ p. continue) (word words.Continue)
led leads.Define = Define
led leads.SetOrEval = SetOrEval

-- no statement of the place begins at these tokens, or the one that is read by its lead
abbrev pub LeadsTo : Within → List Token → Option (Place × Lead) → Type 0
LeadsTo w ts None = (n : ℕ) (ss : Statements) → read_by n (made (add_turn add_statement ss) (maybe_in w)) ts ≡ got ss ts
LeadsTo w ts (Some x) =
    (n : ℕ) (ss : Statements) → read_by n (made (add_turn add_statement ss) (maybe_in w)) ts ≡ (read_by n (led x.1) ts >>= λ k rest. got (add_statement ss (statement x.0 k)) rest)

-- A statement with a body of its own ranks above those that may stand in a body.

abbrev pub rank : Lead → ℕ
rank (leads.Named w) = 1
rank leads.Apply = 1
rank l = 0

abbrev pub room : Within → ℕ
room within.Body = 0
room w = 1
