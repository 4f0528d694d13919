-- What a walk finds in files that are told.
use Rattle.std.specs.Prelude.{ℕ, ◌≡◌, ◌≤◌, ◌<◌, ◌⊎◌, List, [], Some, None, length, slice_get}
use Rattle.dsl_syntax.specs.Syntax.{Statements}
use Rattle.dsl_lexer.specs.Lists.{HasTokens, HasFault}
use Rattle.dsl_lexer.specs.declared.token.Token.{Token}
use Rattle.dsl_depth.specs.Depth.{IsFirstDeep}
use Rattle.dsl_grammar.specs.Files.{Parses, IsSyntaxFault, IsDeepFault}
use Rattle.site_base.specs.Quoted.{quoted}
use Rattle.site_base.specs.declared.diag.Diag.{Diag}
use Rattle.site_base.specs.declared.diag_kind.DiagKind.TheVariants as kind
use Rattle.site_base.specs.declared.place.Place.{Place}
use Rattle.conf_sources.specs.Reading.{diag_at, in_file}
use Rattle.conf_sources.specs.Sources.{Told, full_name, content_of}
use Rattle.site_conf.specs.Walks.{WalkState}
use Rattle.conf_sources.specs.declared.source.Source.{Source}

-- these bytes, as those of the file with this index, have tokens, and the tree is the only one that the tokens have; none stands too deep
pub record IsTreeOf (file : ℕ) (bytes : List ℕ) (tree : Statements) : Type 0 where
  pub short : length bytes ≤ 4194304
  pub tokens : List Token
  pub read : HasTokens file bytes tokens
  pub parsed : Parses tokens tree
  pub only : (other : Statements) → Parses tokens other → tree ≡ other
  pub shallow : IsFirstDeep tokens None

-- of what was met under this index there is a tree, which is that of its bytes
pub record IsTold (all : Told) (s : WalkState) (index : ℕ) (source : Source) : Type 0 where
  pub tree : Statements
  pub there : slice_get s.trees index ≡ Some tree
  pub bytes : List ℕ
  pub content : content_of all source ≡ Some bytes
  pub of_them : IsTreeOf index bytes tree

-- Faults of a file's own text, with their diagnostics.

pub record IsLexical (file : ℕ) (bytes : List ℕ) (d : Diag) : Type 0 where
  pub place : Place
  pub told : d ≡ diag_at (in_file file place) kind.Lexical []
  pub fault : HasFault file bytes place

pub record IsOfSyntax (file : ℕ) (bytes : List ℕ) (d : Diag) : Type 0 where
  pub tokens : List Token
  pub read : HasTokens file bytes tokens
  pub place : Place
  pub told : d ≡ diag_at (in_file file place) kind.Syntax []
  pub fault : IsSyntaxFault tokens place

pub record IsOfDepth (file : ℕ) (bytes : List ℕ) (d : Diag) : Type 0 where
  pub tokens : List Token
  pub read : HasTokens file bytes tokens
  pub place : Place
  pub told : d ≡ diag_at (in_file file place) kind.TooDeep []
  pub fault : IsDeepFault tokens place

abbrev pub IsOwn : ℕ → List ℕ → Diag → Type 0
IsOwn file bytes d = IsLexical file bytes d ⊎ (IsOfSyntax file bytes d ⊎ IsOfDepth file bytes d)

-- What a diagnostic is of.

-- a file that was met, and that has a fault of its own
pub record IsOfFile (all : Told) (sources : List Source) (d : Diag) : Type 0 where
  pub index : ℕ
  pub source : Source
  pub met : slice_get sources index ≡ Some source
  pub bytes : List ℕ
  pub content : content_of all source ≡ Some bytes
  pub own : IsOwn index bytes d

-- an inclusion of a file that isn't there
pub record IsOfMissing (all : Told) (d : Diag) : Type 0 where
  pub at : Place
  pub source : Source
  pub told : d ≡ diag_at at kind.NoFile (quoted (full_name source))
  pub missing : content_of all source ≡ None

-- an inclusion of a file that is too long
pub record IsOfLong (all : Told) (d : Diag) : Type 0 where
  pub at : Place
  pub source : Source
  pub told : d ≡ diag_at at kind.FileTooLong (quoted (full_name source))
  pub bytes : List ℕ
  pub content : content_of all source ≡ Some bytes
  pub long : 4194304 < length bytes

-- an inclusion in which too many stand, or that is one too many
pub record IsBeyond (d : Diag) : Type 0 where
  pub at : Place
  pub source : Source
  pub told : (d ≡ diag_at at kind.IncludeDepth (quoted (full_name source))) ⊎ (d ≡ diag_at at kind.TooManyFiles (quoted (full_name source)))

abbrev pub IsFinding : Told → List Source → Diag → Type 0
IsFinding all sources d = IsOfFile all sources d ⊎ (IsOfMissing all d ⊎ (IsOfLong all d ⊎ IsBeyond d))
