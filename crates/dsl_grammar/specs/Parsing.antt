-- What `parse` gives.
use Rattle.std.specs.Prelude.{◌≡◌, List, Result, Ok, Err, None}
use Rattle.dsl_syntax.specs.Syntax.{Statements}
use Rattle.dsl_syntax.specs.SyntaxView.{file_view}
use Rattle.dsl_syntax.specs.declared.file.File.{File}
use Rattle.dsl_lexer.specs.declared.token.Token.{Token}
use Rattle.dsl_grammar.specs.declared.parse_error.ParseError.{ParseError}
use Rattle.dsl_grammar.specs.declared.parse_error.ParseError.TheVariants as errors
use Rattle.dsl_depth.specs.Depth.{IsFirstDeep}
use Rattle.dsl_grammar.specs.Files.{Outcome, tree_found, fault_at, deep_at_place, Parses, IsSyntaxFault, IsDeepFault}

-- the file that is given is a tree of the tokens
abbrev pub GivesTree : List Token → Result File ParseError → Type 0
GivesTree tokens (Ok file) = Parses tokens (file_view file)
GivesTree tokens (Err e) = Unit {0}

-- where a file is given, no token stands too deep
abbrev pub IsShallow : List Token → Result File ParseError → Type 0
IsShallow tokens (Ok file) = IsFirstDeep tokens None
IsShallow tokens (Err e) = Unit {0}

-- that tree is given, or the first token that stands too deep, or there was no memory
abbrev pub GivesTreeOrDeep : List Token → Statements → Result File ParseError → Type 0
GivesTreeOrDeep tokens tree (Ok file) = file_view file ≡ tree
GivesTreeOrDeep tokens tree (Err (errors.SyntaxFault place)) = ⊥
GivesTreeOrDeep tokens tree (Err (errors.TooDeep place)) = IsDeepFault tokens place
GivesTreeOrDeep tokens tree (Err errors.OutOfMemory) = Unit {0}

-- a tree that the tokens have is given, unless a token stands too deep
abbrev pub GivesOnly : List Token → Result File ParseError → Type 0
GivesOnly tokens result = (tree : Statements) → Parses tokens tree → GivesTreeOrDeep tokens tree result

-- the place of a fault is that of the first token with which no file goes on, or which stands too deep
abbrev pub GivesFault : List Token → Result File ParseError → Type 0
GivesFault tokens (Ok file) = Unit {0}
GivesFault tokens (Err (errors.SyntaxFault place)) = IsSyntaxFault tokens place
GivesFault tokens (Err (errors.TooDeep place)) = IsDeepFault tokens place
GivesFault tokens (Err errors.OutOfMemory) = Unit {0}

-- what is given is what is read of the tokens, unless there was no memory
abbrev pub Answers : Outcome → Result File ParseError → Type 0
Answers o (Err errors.OutOfMemory) = Unit {0}
Answers (tree_found tree) (Ok file) = file_view file ≡ tree
Answers (fault_at place) (Err (errors.SyntaxFault p)) = p ≡ place
Answers (deep_at_place place) (Err (errors.TooDeep p)) = p ≡ place
Answers o result = ⊥
