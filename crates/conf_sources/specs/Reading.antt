-- What a file comes to when it is read.
use Rattle.std.specs.Prelude.{ℕ, List, [], ◌∷◌, length, nat_lt, Option, Some, None, if◌then◌else◌}
use Rattle.dsl_syntax.specs.Syntax.{Statements, no_statements}
use Rattle.site_base.specs.declared.diag.Diag.{Diag}
use Rattle.site_base.specs.declared.diag_kind.DiagKind.{DiagKind}
use Rattle.site_base.specs.declared.diag_kind.DiagKind.TheVariants as kind
use Rattle.site_base.specs.declared.place.Place.{Place}
use Rattle.dsl_lexer.specs.Lexing.{Lexed, all, bad, file_tokens}
use Rattle.dsl_grammar.specs.Files.{Outcome, tree_found, fault_at, deep_at_place, file_outcome}
use Rattle.conf_sources.specs.Inclusions.{inclusions}
use Rattle.conf_sources.specs.declared.holding.Holding.{Holding}
use Rattle.conf_sources.specs.declared.holding.Holding.TheVariants.{Missing, TooLong, Broken, Whole}
use Rattle.conf_sources.specs.declared.inclusion.Inclusion.{Inclusion}

-- a diagnostic that belongs to no item
abbrev pub diag_at : Place → DiagKind → List ℕ → Diag
diag_at p k text = record { number = record { item = 0; target = record { item = 0; host = 0; key = 0 }; key = 0 }; place = p; kind = k; text = text }

-- what is kept of a file: its tree and the inclusions in it, and the fault of its own text
pub record Kept : Type 0 where
  pub holding : Holding
  pub tree : Statements
  pub inclusions : List Inclusion
  pub faults : List Diag

-- there is no tree, and no fault of the file's own
abbrev pub kept_none : Holding → Kept
kept_none h = record { holding = h; tree = no_statements; inclusions = []; faults = [] }

-- this line and column of a file
abbrev pub in_file : ℕ → Place → Place
in_file file p = record p { file = file }

abbrev pub kept_fault : ℕ → DiagKind → Place → Kept
kept_fault file k p = record { holding = Broken; tree = no_statements; inclusions = []; faults = diag_at (in_file file p) k [] ∷ [] }

abbrev pub kept_tree : Statements → Kept
kept_tree tree = record { holding = Whole; tree = tree; inclusions = inclusions tree; faults = [] }

-- by what the grammar makes of its tokens
abbrev pub kept_outcome : ℕ → Outcome → Kept
kept_outcome file (tree_found tree) = kept_tree tree
kept_outcome file (fault_at p) = kept_fault file kind.Syntax p
kept_outcome file (deep_at_place p) = kept_fault file kind.TooDeep p

abbrev pub kept_tokens : ℕ → Lexed → Kept
kept_tokens file (all tokens) = kept_outcome file (file_outcome tokens)
kept_tokens file (bad p) = kept_fault file kind.Lexical p

unfoldable pub kept_bytes : ℕ → List ℕ → Kept
kept_bytes file bytes = kept_tokens file (file_tokens file bytes)

-- a file is read up to 4 MiB
abbrev pub kept_content : ℕ → Option (List ℕ) → Kept
kept_content file None = kept_none Missing
kept_content file (Some bytes) = if nat_lt 4194304 (length bytes) then kept_none TooLong else kept_bytes file bytes
