-- The trees that the grammar gives for a file can be printed.
use Rattle.std.proofs.Common.{◌≡◌, ℕ, zero, suc, List, [], ◌∷◌, ◌++◌, refl, sym, ap, ◌∙◌, subst, append_assoc, append-nil}
use Rattle.std.specs.Str.{IsUtf8}
use Rattle.std.specs.Prelude.{codes}
use Rattle.dsl_syntax.specs.Syntax.{Statements, no_statements}
use Rattle.dsl_lexer.specs.Lists.{HasTokens}
use Rattle.dsl_lexer.specs.declared.token.Token.{Token}
use Rattle.dsl_rules.specs.Grammar.{Rules, rec}
use Rattle.dsl_grammar.specs.Files.{Parses}
use Rattle.dsl_grammar.specs.Grammar.{Expr, Block, names, production, dashed, Located, located, Dashed, AngledName, LibraryName, LocatedString, included, included_library, included_all, Included, IncludedAll, Inclusion, TopKind, Top, MaybeTop, FileStatements, AnyStatement, MaybeStatement, BlockStatements, Braced}
use Rattle.dsl_grammar.specs.Terms.{Name, expr, block, Value, kind_text}
use Rattle.dsl_print.proofs.Good.{IsIdent, dashes, IsLibrary, in_file, in_block, Good, GoodStatement, GoodStatements, GoodStatementKind}
use Rattle.dsl_print.proofs.Keeping.{Keeps, OfTurn, lexed_good, keeps_one, keeps_token, keeps_both, keeps_behind, keeps_before, keeps_either, keeps_made, keeps_here, keeps_maybe, keeps_loop, keeps_row, keeps_thing}
use Rattle.dsl_print.proofs.GivenExpressions.{ident_text, string_text, idents_more, keeps_IDENT, keeps_STRING, keeps_Whole}
use Rattle.dsl_print.proofs.GivenStatements.{statement_more, keeps_Kind}
use Rattle.dsl_print.proofs.Ascii.{ascii_utf8}

-- Names of libraries.

-- the dashes and names with one more at the end
dashes_more : (ns : List (List ℕ)) (m : List ℕ) → dashes ns ++ 45 ∷ m ≡ dashes (ns ++ m ∷ [])
dashes_more [] m = ap (λ z. 45 ∷ z) (sym (append-nil m))
dashes_more (n ∷ ns) m = ap (λ z. 45 ∷ z) (append_assoc n (dashes ns) (45 ∷ m) ∙ ap (λ z. n ++ z) (dashes_more ns m))

-- a library's name and one name more
library_more : (n m : List ℕ) → IsLibrary n → IsIdent m → IsLibrary (dashed n m)
library_more n m (first, others, ident, idents, is) h = (first, others ++ m ∷ [], ident, idents_more others m idents h, by)
  where
    by : dashed n m ≡ first ++ dashes (others ++ m ∷ [])
    by = append_assoc n (codes "-") m ∙ (ap (λ z. z ++ 45 ∷ m) is ∙ (append_assoc first (dashes others) (45 ∷ m) ∙ ap (λ z. first ++ z) (dashes_more others m)))

-- one name alone
library_first : (n : List ℕ) → IsIdent n → IsLibrary n
library_first n h = (n, [], h, tt, sym (append-nil n))

-- Inclusions.

-- it holds of the text that stands there
abbrev OfLocated : (List ℕ → Type 0) → Located → Type 0
OfLocated V (located p n) = V n

-- what is included, by its text
include_good : (x : Located) → OfLocated IsUtf8 x → GoodStatementKind in_file (included x)
include_good (located p n) h = (refl, h)

-- and by the name of a library
library_good : (x : Located) → OfLocated IsLibrary x → GoodStatementKind in_file (included_library x)
library_good (located p n) h = (refl, h)

-- and all of a folder
all_good : (x : Located) (n : List ℕ) → OfLocated IsUtf8 x → IsUtf8 n → GoodStatementKind in_file (included_all x n)
all_good (located p d) n h k = (refl, h, k)

module _ {L : Rules Token Name Value} where
  -- IDENT { "-" IDENT }
  keeps_Dashed : Keeps L Dashed IsLibrary
  unfolding Dashed
  keeps_Dashed = keeps_loop (keeps_one (λ t good m. library_first (kind_text t.kind) (ident_text t.kind good m))) (keeps_behind keeps_token keeps_IDENT) library_more

  -- "<" IDENT { "-" IDENT } ">"
  keeps_AngledName : Keeps L AngledName IsLibrary
  unfolding AngledName
  keeps_AngledName = keeps_behind keeps_token (keeps_before keeps_Dashed keeps_token)

  -- the same with its place
  keeps_LibraryName : Keeps L LibraryName (OfLocated IsLibrary)
  unfolding LibraryName
  keeps_LibraryName = keeps_here keeps_AngledName (λ t n h. h)

  -- a string with its place
  keeps_LocatedString : Keeps L LocatedString (OfLocated IsUtf8)
  unfolding LocatedString
  keeps_LocatedString = keeps_one (λ t good m. string_text t.kind good m)

  -- "include" STRING | "include" "<" IDENT { "-" IDENT } ">"
  keeps_Included : Keeps L Included (GoodStatementKind in_file)
  unfolding Included
  keeps_Included = keeps_behind keeps_token (keeps_either (keeps_made keeps_LocatedString include_good) (keeps_made keeps_LibraryName library_good))

  -- "include_recursive" STRING [ "," STRING ]
  keeps_IncludedAll : Keeps L IncludedAll (GoodStatementKind in_file)
  unfolding IncludedAll
  keeps_IncludedAll = keeps_behind keeps_token (keeps_both keeps_LocatedString (keeps_maybe (keeps_behind keeps_token keeps_STRING) (λ n h. h) (ascii_utf8 (codes "*.conf") refl)) all_good)

  -- any of these
  keeps_Inclusion : Keeps L Inclusion (GoodStatementKind in_file)
  unfolding Inclusion
  keeps_Inclusion = keeps_either keeps_Included keeps_IncludedAll

module _ {L : Rules Token Name Value} (keeps_expr : Keeps L Expr Good) (keeps_block : Keeps L Block (GoodStatements in_block)) where
  -- Blocks.

  -- a statement with its place
  keeps_AnyStatement : Keeps L AnyStatement (GoodStatement in_block)
  unfolding AnyStatement
  keeps_AnyStatement = keeps_here (keeps_Kind keeps_expr keeps_block in_block refl) (λ t k h. h)

  -- the same, or none
  keeps_MaybeStatement : Keeps L MaybeStatement (OfTurn (GoodStatement in_block))
  unfolding MaybeStatement
  keeps_MaybeStatement = keeps_thing keeps_AnyStatement

  -- {sep} [ stmt { sep {sep} stmt } {sep} ]
  keeps_BlockStatements : Keeps L BlockStatements (GoodStatements in_block)
  unfolding BlockStatements
  keeps_BlockStatements = keeps_row no_statements keeps_MaybeStatement tt (statement_more in_block)

  -- block = "{" {sep} [ stmt { sep {sep} stmt } {sep} ] "}"
  pub keeps_Braced : Keeps L Braced (GoodStatements in_block)
  unfolding Braced
  keeps_Braced = keeps_behind keeps_token (keeps_before keeps_BlockStatements keeps_token)

  -- Files.

  -- top = stmt | include
  keeps_TopKind : Keeps L TopKind (GoodStatementKind in_file)
  unfolding TopKind
  keeps_TopKind = keeps_either keeps_Inclusion (keeps_Kind keeps_expr keeps_block in_file refl)

  -- the same with its place
  keeps_Top : Keeps L Top (GoodStatement in_file)
  unfolding Top
  keeps_Top = keeps_here keeps_TopKind (λ t k h. h)

  -- the same, or none
  keeps_MaybeTop : Keeps L MaybeTop (OfTurn (GoodStatement in_file))
  unfolding MaybeTop
  keeps_MaybeTop = keeps_thing keeps_Top

  -- file = {sep} [ top { sep {sep} top } {sep} ]
  keeps_FileStatements : Keeps L FileStatements (GoodStatements in_file)
  unfolding FileStatements
  keeps_FileStatements = keeps_row no_statements keeps_MaybeTop tt (statement_more in_file)

-- a name is good where it stands if what it stands for is
above : (h : ℕ) (k : Name) {U : Value k → Type 0} → Keeps (names h) (production k) U → Keeps (names (suc h)) (rec k (λ a. a)) U
above h k {U} p = record {
  keeps = λ ts a rest good d. let x = p.keeps ts d.0 rest good d.1 in (subst U d.2 x.0, x.1);
}

-- both names are good at each depth
keeps_names : (h : ℕ) → Keeps (names h) Expr Good × Keeps (names h) Block (GoodStatements in_block)
keeps_names zero = (record { keeps = λ ts a rest good d. absurd d.1 }, record { keeps = λ ts a rest good d. absurd d.1 })
keeps_names (suc h) =
    let below = keeps_names h in
    (above h expr (keeps_Whole below.0 below.1), above h block (keeps_Braced below.0 below.1))

-- the trees of a file's tokens are good
pub given : (file : ℕ) (bytes : List ℕ) (tokens : List Token) (tree : Statements) → HasTokens file bytes tokens → Parses tokens tree → GoodStatements in_file tree
given file bytes tokens tree has (h, last, d, is_last) =
    let k = keeps_names h in
    ((keeps_FileStatements k.0 k.1).keeps tokens tree (last ∷ []) (lexed_good file bytes tokens has) d).0
