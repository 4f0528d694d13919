-- Trees that can be printed: their names, strings and numbers can be spelled, and each statement stands where it may.
use Rattle.std.specs.Prelude.{ℕ, ℤ, ◌≡◌, List, [], ◌∷◌, ◌++◌, Bool, true, false, Option, Some, None}
use Rattle.std.specs.Str.{IsUtf8}
use Rattle.site_base.specs.Reading.{number_read}
use Rattle.dsl_syntax.specs.Syntax.{Root, at_name, at_this, at_globals, Expression, expression, ExpressionKind, null, this, globals, boolean, number, string, name, array, dictionary, member, index, call, unary, binary, function_value, Expressions, no_expressions, more_expressions, Entries, no_entries, more_entries, MaybeExpression, no_expression, some_expression, Loop, loop, MaybeLoop, no_loop, some_loop, Function, function, Uses, no_uses, more_uses, Steps, no_steps, member_step, index_step, Arms, no_arms, more_arms, Statement, statement, Statements, no_statements, more_statements, StatementKind, object, template, apply, assign, ignore, import, throw, eval, include, include_library, include_all, const, var, set, choose, while, for, define, return, break, continue}
use Rattle.dsl_lexer.specs.Tokens.{is_name}
use Rattle.dsl_lexer.specs.Words.{word_spelling}
use Rattle.dsl_lexer.specs.declared.word.Word.{Word}
use Rattle.dsl_grammar.specs.Grammar.{target, stepped}

-- a name that is no word
abbrev pub IsIdent : List ℕ → Type 0
IsIdent n = (is_name n ≡ true) × ((w : Word) → n ≡ word_spelling w → ⊥)

abbrev pub AreIdents : List (List ℕ) → Type 0
AreIdents [] = Unit {0}
AreIdents (n ∷ ns) = IsIdent n × AreIdents ns

abbrev pub IsMaybeIdent : Option (List ℕ) → Type 0
IsMaybeIdent None = Unit {0}
IsMaybeIdent (Some n) = IsIdent n

-- a number that some text stands for
abbrev pub IsAmount : ℤ → Type 0
IsAmount z = (text : List ℕ) × (number_read text ≡ Some z)

-- names, each behind a dash
abbrev pub dashes : List (List ℕ) → List ℕ
dashes [] = []
dashes (n ∷ ns) = 45 ∷ (n ++ dashes ns)

-- a library's name: names with dashes between them
abbrev pub IsLibrary : List ℕ → Type 0
IsLibrary n = (first : List ℕ) × (others : List (List ℕ)) × IsIdent first × AreIdents others × (n ≡ first ++ dashes others)

-- where statements stand: in a file, in a block, or in the body of an object
pub data Where : Type 0 where
  in_file in_block in_body : Where

abbrev pub is_file : Where → Bool
is_file in_file = true
is_file c = false

abbrev pub is_body : Where → Bool
is_body in_body = true
is_body c = false

abbrev pub has_arm : Arms → Bool
has_arm no_arms = false
has_arm (more_arms e b more) = true

abbrev pub GoodRoot : Root → Type 0
GoodRoot (at_name n) = IsIdent n
GoodRoot at_this = Unit {0}
GoodRoot at_globals = Unit {0}

abbrev mutual
  pub Good : Expression → Type 0
  Good (expression p k) = GoodKind k

  pub GoodKind : ExpressionKind → Type 0
  GoodKind null = Unit {0}
  GoodKind this = Unit {0}
  GoodKind globals = Unit {0}
  GoodKind (boolean b) = Unit {0}
  GoodKind (number n) = IsAmount n
  GoodKind (string s) = IsUtf8 s
  GoodKind (name s) = IsIdent s
  GoodKind (array es) = GoodAll es
  GoodKind (dictionary ps) = GoodEntries ps
  GoodKind (member e n) = Good e × IsIdent n
  GoodKind (index e i) = Good e × Good i
  GoodKind (call e es) = Good e × GoodAll es
  GoodKind (unary o e) = Good e
  GoodKind (binary o e d) = Good e × Good d
  GoodKind (function_value f) = GoodFunction f

  pub GoodAll : Expressions → Type 0
  GoodAll no_expressions = Unit {0}
  GoodAll (more_expressions e es) = Good e × GoodAll es

  pub GoodEntries : Entries → Type 0
  GoodEntries no_entries = Unit {0}
  GoodEntries (more_entries k e ps) = IsUtf8 k × Good e × GoodEntries ps

  pub GoodMaybe : MaybeExpression → Type 0
  GoodMaybe no_expression = Unit {0}
  GoodMaybe (some_expression e) = Good e

  pub GoodLoop : Loop → Type 0
  GoodLoop (loop k v e) = IsIdent k × IsMaybeIdent v × Good e

  pub GoodMaybeLoop : MaybeLoop → Type 0
  GoodMaybeLoop no_loop = Unit {0}
  GoodMaybeLoop (some_loop l) = GoodLoop l

  pub GoodFunction : Function → Type 0
  GoodFunction (function ps us b) = AreIdents ps × GoodUses us × GoodStatements in_block b

  pub GoodUses : Uses → Type 0
  GoodUses no_uses = Unit {0}
  GoodUses (more_uses n e us) = IsIdent n × GoodMaybe e × GoodUses us

  pub GoodSteps : Steps → Type 0
  GoodSteps no_steps = Unit {0}
  GoodSteps (member_step n ss) = IsIdent n × GoodSteps ss
  GoodSteps (index_step e ss) = Good e × GoodSteps ss

  pub GoodArms : Arms → Type 0
  GoodArms no_arms = Unit {0}
  GoodArms (more_arms e b more) = Good e × GoodStatements in_block b × GoodArms more

  pub GoodStatement : Where → Statement → Type 0
  GoodStatement c (statement p k) = GoodStatementKind c k

  pub GoodStatements : Where → Statements → Type 0
  GoodStatements c no_statements = Unit {0}
  GoodStatements c (more_statements s ss) = GoodStatement c s × GoodStatements c ss

  pub GoodStatementKind : Where → StatementKind → Type 0
  GoodStatementKind c (object t e us b) = (is_body c ≡ false) × IsIdent t × Good e × GoodUses us × GoodStatements in_body b
  GoodStatementKind c (template t e us b) = (is_body c ≡ false) × IsIdent t × Good e × GoodUses us × GoodStatements in_body b
  GoodStatementKind c (apply t e to l us b) = (is_body c ≡ false) × IsIdent t × GoodMaybe e × IsMaybeIdent to × GoodMaybeLoop l × GoodUses us × GoodStatements in_body b
  GoodStatementKind c (assign e) = (is_body c ≡ true) × Good e
  GoodStatementKind c (ignore e) = (is_body c ≡ true) × Good e
  GoodStatementKind c (import e) = Good e
  GoodStatementKind c (throw e) = Good e
  GoodStatementKind c (eval e) = Good e
  GoodStatementKind c (include n p) = (is_file c ≡ true) × IsUtf8 n
  GoodStatementKind c (include_library n p) = (is_file c ≡ true) × IsLibrary n
  GoodStatementKind c (include_all d n p) = (is_file c ≡ true) × IsUtf8 d × IsUtf8 n
  GoodStatementKind c (const n e) = (is_body c ≡ false) × IsIdent n × Good e
  GoodStatementKind c (var n e) = IsIdent n × GoodMaybe e
  GoodStatementKind c (set r ss o e) = GoodRoot r × (stepped (Some (target r ss)) ≡ Some (target r ss)) × GoodSteps ss × Good e
  GoodStatementKind c (choose arms b) = (has_arm arms ≡ true) × GoodArms arms × GoodStatements in_block b
  GoodStatementKind c (while e b) = Good e × GoodStatements in_block b
  GoodStatementKind c (for l b) = GoodLoop l × GoodStatements in_block b
  GoodStatementKind c (define n f) = IsIdent n × GoodFunction f
  GoodStatementKind c (return e) = GoodMaybe e
  GoodStatementKind c break = Unit {0}
  GoodStatementKind c continue = Unit {0}
