-- What a print is when it is read again.
use Rattle.std.specs.Prelude.{ℕ, ◌≡◌, List, None, Result, Ok, Err}
use Rattle.dsl_syntax.specs.Syntax.{Statements}
use Rattle.dsl_syntax.specs.SyntaxView.{file_view}
use Rattle.dsl_syntax.specs.declared.file.File.{File}
use Rattle.dsl_tree.specs.Spelling.{file_text}
use Rattle.dsl_lexer.specs.Lists.{HasTokens}
use Rattle.dsl_lexer.specs.declared.token.Token.{Token}
use Rattle.dsl_depth.specs.Depth.{IsFirstDeep}
use Rattle.dsl_grammar.specs.Files.{Outcome, tree_found, fault_at, deep_at_place, IsDeepFault, Parses, file_outcome}
use Rattle.dsl_grammar.specs.Parsing.{GivesOnly}
use Rattle.dsl_grammar.specs.declared.parse_error.ParseError.{ParseError}
use Rattle.dsl_grammar.specs.declared.parse_error.ParseError.TheVariants as errors
use Rattle.dsl_print.specs.Bare.{bare_statements}

-- two trees that differ in places alone
abbrev pub IsAlike : Statements → Statements → Type 0
IsAlike tree other = bare_statements tree ≡ bare_statements other

-- a tree that the grammar gives for the bytes of a file
abbrev pub HasTree : ℕ → List ℕ → Statements → Type 0
HasTree file bytes tree = (tokens : List Token) × HasTokens file bytes tokens × Parses tokens tree

-- as a file, the print of a tree has a tree that is alike
abbrev pub PrintIsTree : ℕ → Statements → Type 0
PrintIsTree file tree = (again : Statements) × HasTree file (file_text tree) again × IsAlike again tree

-- what reading the tokens of a print comes to: a tree that is alike, where no token stands too deep, and else the first
-- token that does
abbrev pub ComesTo : List Token → Statements → Outcome → Type 0
ComesTo tokens tree (tree_found again) = IsAlike again tree × IsFirstDeep tokens None
ComesTo tokens tree (fault_at place) = ⊥
ComesTo tokens tree (deep_at_place place) = IsDeepFault tokens place

-- so is what is read of each print as a file
abbrev pub IsReadBack : ℕ → Statements → Type 0
IsReadBack file tree = (tokens : List Token) → HasTokens file (file_text tree) tokens → ComesTo tokens tree (file_outcome tokens)

-- what `parse` answers to the tokens of a print: a file that is alike, or the first token that stands too deep, or that
-- there was no memory
abbrev pub GivesBack : List Token → Statements → Result File ParseError → Type 0
GivesBack tokens tree (Ok file) = IsAlike (file_view file) tree
GivesBack tokens tree (Err (errors.SyntaxFault place)) = ⊥
GivesBack tokens tree (Err (errors.TooDeep place)) = IsDeepFault tokens place
GivesBack tokens tree (Err errors.OutOfMemory) = Unit {0}

-- so does each answer by which only trees of the tokens are given, as those of `parse`
abbrev pub IsParsedBack : ℕ → Statements → Type 0
IsParsedBack file tree = (tokens : List Token) → HasTokens file (file_text tree) tokens → (result : Result File ParseError) → GivesOnly tokens result → GivesBack tokens tree result
