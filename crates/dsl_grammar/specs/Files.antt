-- What tokens are files, and where others go wrong.
use Rattle.std.specs.Prelude.{◌≡◌, ◌-◌, ◌≤◌, ℕ, suc, List, [], ◌∷◌, ◌++◌, length, take, drop, true, Option, Some, None}
use Rattle.dsl_syntax.specs.Syntax.{Statements}
use Rattle.site_base.specs.declared.place.Place.{Place}
use Rattle.dsl_lexer.specs.declared.token.Token.{Token}
use Rattle.dsl_lexer.specs.Lists.{is_end}
use Rattle.dsl_rules.specs.Grammar.{Derives}
use Rattle.dsl_rules.specs.Reading.{Read, got, bad}
use Rattle.dsl_grammar.specs.Codes.{sorts}
use Rattle.dsl_grammar.specs.Grammar.{names, FileStatements}
use Rattle.dsl_depth.specs.Depth.{IsTooDeep, IsFirstDeepAt, IsFirstDeep, deep_at}
use Rattle.dsl_grammar.specs.Reading.{read_by}

-- the tokens spell these statements, before the end
abbrev pub Parses : List Token → Statements → Type 0
Parses tokens tree = (h : ℕ) × (last : Token) × Derives sorts (names h) FileStatements tokens tree (last ∷ []) × (is_end last.kind ≡ true)

-- the tokens begin a file
abbrev pub Begins : List Token → Type 0
Begins front = (more : List Token) × (tree : Statements) × Parses (front ++ more) tree

-- the tokens before this one begin a file, and the tokens through it begin none; through none of them the tokens are
-- too deep
pub record IsSyntaxFault (tokens : List Token) (place : Place) : Type 0 where
  pub front : List Token
  pub at : Token
  pub behind : List Token
  pub whole : tokens ≡ front ++ at ∷ behind
  pub place_is : at.place ≡ place
  pub begins : Begins front
  pub no_further : Begins (front ++ at ∷ []) → ⊥
  pub shallow : (m : ℕ) → m ≤ length front → IsTooDeep (take (suc m) tokens) → ⊥

-- the tokens through this one are too deep, and those through no earlier one; the tokens before it begin a file
pub record IsDeepFault (tokens : List Token) (place : Place) : Type 0 where
  pub front : List Token
  pub at : Token
  pub behind : List Token
  pub whole : tokens ≡ front ++ at ∷ behind
  pub place_is : at.place ≡ place
  pub deep : IsFirstDeepAt tokens (length front)
  pub begins : Begins front

-- What is read.

-- a tree, or the place of a fault
pub data Outcome : Type 0 where
  tree_found : Statements → Outcome
  fault_at : Place → Outcome
  deep_at_place : Place → Outcome

-- the place of the first of these
abbrev pub head_place : List Token → Place
head_place [] = record { file = 0; line = 0; col = 0 }
head_place (t ∷ ts) = t.place

-- where tokens are read up to: the first that is too deep, or the end
abbrev pub cut_at : List Token → Option ℕ → ℕ
cut_at tokens (Some n) = n
cut_at tokens None = length tokens - 1

-- what reading the tokens up to there comes to, with those from there on
abbrev pub outcome : Option ℕ → List Token → Read Token Statements → Outcome
outcome deep from (got tree (t ∷ rest)) = fault_at t.place
outcome deep from (bad (t ∷ rest)) = fault_at t.place
outcome None from (got tree []) = tree_found tree
outcome None from (bad []) = fault_at (head_place from)
outcome (Some n) from (got tree []) = deep_at_place (head_place from)
outcome (Some n) from (bad []) = deep_at_place (head_place from)

-- what is read of a file's tokens
abbrev pub file_outcome : List Token → Outcome
file_outcome tokens = outcome (deep_at tokens) (drop (cut_at tokens (deep_at tokens)) tokens) (read_by (length tokens) FileStatements (take (cut_at tokens (deep_at tokens)) tokens))

-- a tree is the only one that the tokens have, and none of them stands too deep; a fault is the exact one
abbrev pub Holds : List Token → Outcome → Type 0
Holds tokens (tree_found tree) = Parses tokens tree × ((other : Statements) → Parses tokens other → tree ≡ other) × IsFirstDeep tokens None
Holds tokens (fault_at place) = IsSyntaxFault tokens place
Holds tokens (deep_at_place place) = IsDeepFault tokens place
