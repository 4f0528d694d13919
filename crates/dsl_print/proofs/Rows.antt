-- Where statements stand, and rows of statements, printed from their parts.
use Rattle.std.proofs.Common.{◌≡◌, ℕ, List, [], ◌∷◌, ◌++◌, true, false, refl, sym, ap, ◌∙◌, subst}
use Rattle.site_base.specs.declared.place.Place.{Place}
use Rattle.dsl_syntax.specs.Syntax.{Statement, statement, Statements, no_statements, more_statements, StatementKind}
use Rattle.dsl_lexer.specs.Brackets.{keeps}
use Rattle.dsl_lexer.specs.declared.sign.Sign.{Sign}
use Rattle.dsl_lexer.specs.declared.sign.Sign.TheVariants as signs
use Rattle.dsl_rules.specs.Alphabet.{Sort, among}
use Rattle.dsl_rules.specs.Grammar.{one, always}
use Rattle.dsl_grammar.specs.Codes.{sign_sort, line_sort}
use Rattle.dsl_syntax.specs.Lists.{add_statement}
use Rattle.dsl_grammar.specs.Terms.{Rule, behind, maybe, Turn, nothing, thing, add_turn, row_of, sep, bsep}
use Rattle.dsl_grammar.specs.Grammar.{Common, Kind, BodyKind, TopKind, Inclusion, AnyStatement, BodyStatement, Top, MaybeStatement, MaybeBodyStatement, MaybeTop, BlockStatements, BodyStatements, FileStatements, Braced, Body}
use Rattle.dsl_tree.specs.Spelling.{braced}
use Rattle.dsl_print.specs.Bare.{nowhere, bare_statements}
use Rattle.dsl_print.proofs.Good.{Where, in_file, in_block, in_body, is_file, is_body}
use Rattle.dsl_print.proofs.Printed.{Front, anything, one_of, has_some, Prints, prints_both, prints_made, prints_left, prints_right, prints_here, prints_empty}
use Rattle.dsl_print.proofs.Loops.{Further, turns_more, turns_last, prints_loop, prints_once}
use Rattle.dsl_print.proofs.Spelled.{prints_newline, prints_brace_line, prints_close_brace}
use Rattle.dsl_print.proofs.Alike.{IsKind, IsStatement, IsBlock}

-- The rules of statements and of rows of them, and the separators, by where they stand.

abbrev pub kind_rule : Where → Rule StatementKind
kind_rule in_file = TopKind
kind_rule in_block = Kind
kind_rule in_body = BodyKind

abbrev pub statement_rule : Where → Rule Statement
statement_rule in_file = Top
statement_rule in_block = AnyStatement
statement_rule in_body = BodyStatement

abbrev pub seps : Where → List Sort
seps in_file = sep
seps in_block = sep
seps in_body = bsep

-- a separator, and a statement or none
abbrev pub line_rule : Where → Rule (Turn Statement)
line_rule c = behind (one (seps c) (λ t. t.place)) (maybe thing nothing (statement_rule c))

-- further lines, each begun by a newline, behind the statements so far: together they are the target
abbrev pub Lines : List Sign → Where → Statements → List ℕ → List ℕ → Statements → Type 0
Lines b c target text rest a = (p : Place) → Further b b false (seps c) always (add_turn add_statement) (line_rule c) (λ v. bare_statements v ≡ target) text rest a p

-- a line with this statement
abbrev pub IsLine : Statement → Turn Statement → Type 0
IsLine s t = (v : Statement) × (t ≡ thing v) × IsStatement s v

-- newlines separate statements in each place
separates : (c : Where) → among line_sort (seps c) ≡ true
separates in_file = refl
separates in_block = refl
separates in_body = refl

module _ {b : List Sign} where
  -- what is common stands in each place
  pub common_in : {V : StatementKind → Type 0} {o : Front} (c : Where) (x rest : List ℕ) → Prints b b Common V o x rest → Prints b b (kind_rule c) V o x rest
  unfolding TopKind Kind BodyKind
  common_in in_file x rest P = prints_right x rest (prints_right x rest (prints_right x rest (prints_right x rest (prints_right x rest P))))
  common_in in_block x rest P = prints_right x rest (prints_right x rest (prints_right x rest (prints_right x rest P)))
  common_in in_body x rest P = prints_right x rest (prints_right x rest P)

  -- a statement of blocks stands in files too
  pub kind_in : {V : StatementKind → Type 0} {o : Front} (c : Where) (x rest : List ℕ) → is_body c ≡ false → Prints b b Kind V o x rest → Prints b b (kind_rule c) V o x rest
  unfolding TopKind
  kind_in in_file x rest e P = prints_right x rest P
  kind_in in_block x rest e P = P
  kind_in in_body x rest e P = absurd cc

  -- a statement of bodies alone
  pub body_in : {V : StatementKind → Type 0} {o : Front} (c : Where) (x rest : List ℕ) → is_body c ≡ true → Prints b b BodyKind V o x rest → Prints b b (kind_rule c) V o x rest
  body_in in_file x rest e P = absurd cc
  body_in in_block x rest e P = absurd cc
  body_in in_body x rest e P = P

  -- a statement of files alone
  pub file_in : {V : StatementKind → Type 0} {o : Front} (c : Where) (x rest : List ℕ) → is_file c ≡ true → Prints b b Inclusion V o x rest → Prints b b (kind_rule c) V o x rest
  unfolding TopKind
  file_in in_file x rest e P = prints_left x rest P
  file_in in_block x rest e P = absurd cc
  file_in in_body x rest e P = absurd cc

  -- a statement at its place
  pub statement_of : {o : Front} (c : Where) (k : StatementKind) (q : Place) (x rest : List ℕ) → has_some o ≡ true → Prints b b (kind_rule c) (IsKind k) o x rest → Prints b b (statement_rule c) (IsStatement (statement q k)) o x rest
  unfolding Top AnyStatement BodyStatement
  statement_of in_file k q x rest n P = prints_here x rest n P (λ t v i. ap (statement nowhere) i)
  statement_of in_block k q x rest n P = prints_here x rest n P (λ t v i. ap (statement nowhere) i)
  statement_of in_body k q x rest n P = prints_here x rest n P (λ t v i. ap (statement nowhere) i)

  -- Rows.

  -- the last newline
  pub row_end : (c : Where) (target : Statements) (rest : List ℕ) (a : Statements) → keeps b ≡ true → bare_statements a ≡ target → Lines b c target (10 ∷ []) rest a
  row_end c target rest a k i = turns_last {W = λ t. t ≡ nothing} line_sort (10 ∷ []) rest a (separates c) refl refl
      (prints_both {X = λ t. t ≡ nothing} (10 ∷ []) [] rest (prints_newline (seps c) rest k (separates c)) (prints_right [] rest (prints_empty {V = λ t. t ≡ nothing} rest refl)) (λ v w x j. j))
      (λ v j. ap (λ t. bare_statements (add_turn add_statement a t)) j ∙ i)

  -- one line more
  pub row_more : {o : Front} (c : Where) (s : Statement) (target : Statements) (x y rest : List ℕ) (a : Statements) → keeps b ≡ true → Prints b b (statement_rule c) (IsStatement s) o x ((10 ∷ y) ++ rest)
      → ((v : Statement) → IsStatement s v → Lines b c target (10 ∷ y) rest (add_statement a v)) → Lines b c target ((10 ∷ x) ++ (10 ∷ y)) rest a
  row_more c s target x y rest a k P Q = turns_more {W = IsLine s} line_sort (10 ∷ x) (10 ∷ y) rest a (separates c) refl refl
      (prints_both {X = IsLine s} (10 ∷ []) x ((10 ∷ y) ++ rest) (prints_newline (seps c) _ k (separates c)) (prints_left x _ (prints_made {X = IsLine s} x _ P (λ v i. (v, refl, i)))) (λ v w i j. j))
      (λ t l. subst (λ z. Lines b c target (10 ∷ y) rest (add_turn add_statement a z)) (sym l.1) (Q l.0 l.2))

  -- a row that begins with a newline, or is empty
  row_of_lines : (c : Where) (target : Statements) (lines rest : List ℕ) → Lines b c target lines rest no_statements
      → Prints b b (row_of (seps c) add_statement no_statements (maybe thing nothing (statement_rule c))) (λ v. bare_statements v ≡ target) anything lines rest
  row_of_lines c target lines rest L = prints_loop {V = λ a. a ≡ no_statements} [] lines rest
      (prints_made {V = λ t. t ≡ nothing} [] _ (prints_right [] _ (prints_empty {V = λ t. t ≡ nothing} _ refl)) (λ t j. ap (add_turn add_statement no_statements) j))
      (λ a i. subst (Lines b c target lines rest) (sym i) L)

  -- a row that begins with a statement
  row_of_first : {o : Front} (c : Where) (s : Statement) (target : Statements) (x y rest : List ℕ) → Prints b b (statement_rule c) (IsStatement s) o x ((10 ∷ y) ++ rest)
      → ((v : Statement) → IsStatement s v → Lines b c target (10 ∷ y) rest (more_statements v no_statements))
      → Prints b b (row_of (seps c) add_statement no_statements (maybe thing nothing (statement_rule c))) (λ v. bare_statements v ≡ target) o (x ++ 10 ∷ y) rest
  row_of_first c s target x y rest P Q = prints_loop {V = λ a. (v : Statement) × (a ≡ more_statements v no_statements) × IsStatement s v} x (10 ∷ y) rest
      (prints_made {V = IsLine s} x _ (prints_left x _ (prints_made {X = IsLine s} x _ P (λ v i. (v, refl, i)))) (λ t l. (l.0, ap (add_turn add_statement no_statements) l.1, l.2)))
      (λ a l. subst (Lines b c target (10 ∷ y) rest) (sym l.1) (Q l.0 l.2))

module _ {b : List Sign} where
  -- block = "{" {sep} [ stmt { sep {sep} stmt } {sep} ] "}"
  pub block_prints : (d : Statements) (lines rest : List ℕ) → Lines (b ++ signs.OpenBrace ∷ []) in_block (bare_statements d) (10 ∷ lines) (125 ∷ rest) no_statements → Prints b b Braced (IsBlock d) (one_of (sign_sort signs.OpenBrace ∷ [])) (braced lines) rest
  unfolding Braced BlockStatements MaybeStatement
  block_prints d lines rest L = prints_both {X = IsBlock d} (123 ∷ []) (10 ∷ (lines ++ 125 ∷ [])) rest (prints_brace_line _)
      (prints_both (10 ∷ lines) (125 ∷ []) rest (row_of_lines in_block (bare_statements d) (10 ∷ lines) (125 ∷ rest) L) (prints_close_brace rest) (λ v w i j. i)) (λ v w i j. j)

  -- body = "{" {bsep} [ bst { bsep {bsep} bst } {bsep} ] "}"
  pub body_prints : (d : Statements) (lines rest : List ℕ) → Lines (b ++ signs.OpenBrace ∷ []) in_body (bare_statements d) (10 ∷ lines) (125 ∷ rest) no_statements → Prints b b Body (IsBlock d) (one_of (sign_sort signs.OpenBrace ∷ [])) (braced lines) rest
  unfolding Body BodyStatements MaybeBodyStatement
  body_prints d lines rest L = prints_both {X = IsBlock d} (123 ∷ []) (10 ∷ (lines ++ 125 ∷ [])) rest (prints_brace_line _)
      (prints_both (10 ∷ lines) (125 ∷ []) rest (row_of_lines in_body (bare_statements d) (10 ∷ lines) (125 ∷ rest) L) (prints_close_brace rest) (λ v w i j. i)) (λ v w i j. j)

  -- a file with no statement
  pub file_none : (rest : List ℕ) → Prints b b FileStatements (IsBlock no_statements) anything [] rest
  unfolding FileStatements MaybeTop
  file_none rest = prints_once [] rest (prints_made {V = λ t. t ≡ nothing} [] rest (prints_right [] rest (prints_empty {V = λ t. t ≡ nothing} rest refl)) (λ t j. ap (λ z. bare_statements (add_turn add_statement no_statements z)) j))

  -- a file with a first statement
  pub file_prints : {o : Front} (s : Statement) (d : Statements) (x y rest : List ℕ) → Prints b b Top (IsStatement s) o x ((10 ∷ y) ++ rest)
      → ((v : Statement) → IsStatement s v → Lines b in_file (bare_statements d) (10 ∷ y) rest (more_statements v no_statements)) → Prints b b FileStatements (IsBlock d) o (x ++ 10 ∷ y) rest
  unfolding FileStatements MaybeTop
  file_prints s d x y rest P Q = row_of_first in_file s (bare_statements d) x y rest P Q
