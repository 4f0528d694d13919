-- A print is read back.
use Rattle.std.proofs.Common.{◌≡◌, ℕ, List, [], ◌∷◌, ◌++◌, refl, sym, ap, ◌∙◌, subst, arith, append_assoc, append-nil}
use Rattle.dsl_syntax.specs.Syntax.{Statements, no_statements, more_statements}
use Rattle.dsl_tree.specs.Spelling.{file_text, stmt_text, stmts_text}
use Rattle.dsl_lexer.specs.Places.{start_of, place_behind}
use Rattle.dsl_lexer.specs.Tokens.{Lexes, ends, token}
use Rattle.dsl_lexer.specs.declared.token.Token.{Token}
use Rattle.dsl_lexer.specs.declared.token_kind.TokenKind.TheVariants as kinds
use Rattle.dsl_lexer.proofs.ListLaws.{lexes_whole, one_list}
use Rattle.dsl_grammar.specs.Files.{Outcome, tree_found, fault_at, deep_at_place, Parses, Holds, file_outcome}
use Rattle.dsl_grammar.specs.Parsing.{GivesTreeOrDeep}
use Rattle.dsl_grammar.specs.declared.parse_error.ParseError.{ParseError}
use Rattle.dsl_grammar.specs.declared.parse_error.ParseError.TheVariants as errors
use Rattle.dsl_syntax.specs.declared.file.File.{File}
use Rattle.std.specs.Prelude.{Result, Ok, Err}
use Rattle.dsl_grammar.specs.Grammar.{FileStatements}
use Rattle.dsl_grammar.proofs.Place.{file_holds}
use Rattle.dsl_print.specs.Bare.{bare_statements}
use Rattle.dsl_print.specs.Printing.{HasTree, IsAlike, PrintIsTree, ComesTo, IsReadBack, GivesBack, IsParsedBack}
use Rattle.dsl_print.proofs.Good.{GoodStatements, in_file}
use Rattle.dsl_print.proofs.Given.{given}
use Rattle.dsl_print.proofs.Printed.{anything, Prints, prints_wide}
use Rattle.dsl_print.proofs.Rows.{file_none, file_prints}
use Rattle.dsl_print.proofs.Trees.{statement_print, lines_print}
use Rattle.dsl_print.proofs.Alike.{IsBlock}

-- the print of a file
file_print : (ss : Statements) → GoodStatements in_file ss → Prints [] [] FileStatements (IsBlock ss) anything (stmts_text ss) []
file_print no_statements g = file_none []
file_print (more_statements s ss) g =
    prints_wide anything _ [] (λ ts k. refl) (file_prints s (more_statements s ss) (stmt_text s) (stmts_text ss) [] (statement_print [] in_file s (stmts_text ss ++ []) g.0)
    (λ v i. lines_print [] in_file ss [] refl g.1 (bare_statements (more_statements s ss)) (more_statements v no_statements) (ap (λ z. more_statements z (bare_statements ss)) i)))

pub tree : (file other : ℕ) (bytes : List ℕ) (printed : Statements) → HasTree file bytes printed → PrintIsTree other printed
tree file other bytes printed h =
    let u = file_print printed (given file bytes h.0 printed h.1 h.2) (start_of other) in
    let last : Token = token (place_behind (file_text printed) (start_of other)) kinds.End in
    (u.value, (u.front ++ last ∷ [], (u.utf8, subst (λ t. Lexes (start_of other) [] t (u.front ++ last ∷ [])) (append-nil (file_text printed)) (u.spells (last ∷ []) ends)), (u.low, last, u.derives u.low (omega arith) (last ∷ []), refl)), u.is)

-- what reading holds, where there is a tree
holds_tree : (tokens : List Token) (again printed : Statements) → Parses tokens again → IsAlike again printed → (o : Outcome) → Holds tokens o → ComesTo tokens printed o
holds_tree tokens again printed p a (tree_found found) h = (ap bare_statements (h.1 again p) ∙ a, h.2)
holds_tree tokens again printed p a (fault_at place) h = h.no_further (h.behind, again, subst (λ ts. Parses ts again) (h.whole ∙ sym (append_assoc h.front (h.at ∷ []) h.behind)) p)
holds_tree tokens again printed p a (deep_at_place place) h = h

pub back : (file other : ℕ) (bytes : List ℕ) (printed : Statements) → HasTree file bytes printed → IsReadBack other printed
back file other bytes printed h tokens t =
    let u = tree file other bytes printed h in
    let same : u.1.0 ≡ tokens = one_list other (file_text printed) u.1.0 tokens u.1.1 t in
    holds_tree tokens u.0 printed (subst (λ ts. Parses ts u.0) same u.1.2) u.2 (file_outcome tokens) (file_holds tokens (lexes_whole (start_of other) [] (file_text printed) tokens t.1))

-- what is answered, where there is a tree
gives_tree : (tokens : List Token) (again printed : Statements) → IsAlike again printed → (result : Result File ParseError) → GivesTreeOrDeep tokens again result → GivesBack tokens printed result
gives_tree tokens again printed a (Ok file) h = ap bare_statements h ∙ a
gives_tree tokens again printed a (Err (errors.SyntaxFault place)) h = h
gives_tree tokens again printed a (Err (errors.TooDeep place)) h = h
gives_tree tokens again printed a (Err errors.OutOfMemory) h = tt

pub parsed : (file other : ℕ) (bytes : List ℕ) (printed : Statements) → HasTree file bytes printed → IsParsedBack other printed
parsed file other bytes printed h tokens t result only =
    let u = tree file other bytes printed h in
    let same : u.1.0 ≡ tokens = one_list other (file_text printed) u.1.0 tokens u.1.1 t in
    gives_tree tokens u.0 printed u.2 result (only u.0 (subst (λ ts. Parses ts u.0) same u.1.2))
