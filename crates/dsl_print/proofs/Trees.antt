-- The print of each tree that can be printed is read again: by recursion over trees.
use Rattle.std.proofs.Common.{◌≡◌, ℕ, List, [], ◌∷◌, ◌++◌, Bool, true, false, codes, Option, Some, None, refl, sym, ap, ◌∙◌, true≢false}
use Rattle.site_base.specs.Numbers.{number_text}
use Rattle.site_base.specs.Quoted.{quoted}
use Rattle.site_base.specs.declared.place.Place.{Place}
use Rattle.dsl_syntax.specs.Syntax.{Root, Expression, expression, ExpressionKind, null, this, globals, boolean, number, string, name, array, dictionary, member, index, call, unary, binary, function_value, Expressions, no_expressions, more_expressions, Entries, no_entries, more_entries, MaybeExpression, no_expression, some_expression, Loop, loop, MaybeLoop, no_loop, some_loop, Function, function, Uses, no_uses, more_uses, Steps, no_steps, member_step, index_step, Arms, no_arms, more_arms, Statement, statement, Statements, no_statements, more_statements, StatementKind, object, template, apply, assign, ignore, import, throw, eval, include, include_library, include_all, const, var, set, choose, while, for, define, return, break, continue}
use Rattle.dsl_tree.specs.Operators.{binary_text, set_text}
use Rattle.dsl_tree.specs.Spelling.{is_compound, begins_with_brace, in_parentheses, braced, target_text, apply_name_text, apply_loop_text, expr_text, operand_text, expr_kind_text, exprs_text, entries_text, function_text, uses_text, given_text, loop_text, steps_text, arms_text, else_text, stmts_text, stmt_text, stmt_kind_text}
use Rattle.dsl_lexer.specs.Brackets.{keeps}
use Rattle.dsl_lexer.specs.Tokens.{quotes}
use Rattle.dsl_lexer.specs.declared.sign.Sign.{Sign}
use Rattle.dsl_lexer.specs.declared.sign.Sign.TheVariants as signs
use Rattle.dsl_lexer.specs.declared.word.Word.TheVariants as words
use Rattle.dsl_lexer.specs.declared.token_kind.TokenKind.TheVariants as kinds
use Rattle.dsl_grammar.specs.Codes.{sign_sort}
use Rattle.dsl_syntax.specs.Lists.{add_expression, add_entry, add_use, add_statement, join_expressions, join_entries, join_uses, join_statements}
use Rattle.dsl_grammar.specs.Grammar.{ApplyName, heads, Common, Kind, BodyKind, Inclusion, Begun, Expr, Block, Whole, Prim, Elements, slots, slots_value, Arguments, Pairs, Func, MaybeUse, LoopHead}
use Rattle.dsl_print.specs.Bare.{bare_expressions, bare_entries, bare_uses, bare_statements}
use Rattle.dsl_print.proofs.Good.{Good, GoodKind, GoodAll, GoodEntries, GoodMaybe, GoodLoop, GoodMaybeLoop, GoodFunction, GoodUses, GoodSteps, GoodArms, GoodStatement, GoodStatements, GoodStatementKind, Where, is_file, is_body, in_block, in_body}
use Rattle.dsl_print.proofs.Strings.{quoted_string, quoted_utf8}
use Rattle.dsl_print.proofs.Amounts.{amount_read, amount_utf8, amount_ends}
use Rattle.dsl_print.proofs.SignTokens.{unary_token}
use Rattle.dsl_syntax.proofs.SyntaxLists.{join_no_expressions, join_no_entries, join_no_uses, join_no_statements}
use Rattle.dsl_print.proofs.Printed.{Front, anything, some, no_brace, one_of, opens_some, Prints, prints_rec, prints_text, prints_wide}
use Rattle.dsl_print.proofs.Loops.{turns_end}
use Rattle.dsl_print.proofs.Spelled.{IsEnd, keeps_brace}
use Rattle.dsl_print.proofs.Expressions.{literal_prints, member_prints, index_prints}
use Rattle.dsl_print.proofs.Operations.{unary_prints, binary_prints}
use Rattle.dsl_print.proofs.Collections.{MoreArguments, arguments_more, no_arguments, some_arguments, call_prints, FromSlots, slots_more, no_elements, some_elements, array_prints, MoreEntries, entries_more, no_pairs, some_pairs, dictionary_prints}
use Rattle.dsl_print.proofs.Functions.{Given, MoreUses, given_none, given_some, uses_more, no_captures, some_captures, func_prints, function_prints, key_loop_prints, value_loop_prints}
use Rattle.dsl_print.proofs.Shapes.{begins_bare, first_sort, operand_sort, begin_of, end_at, exprs_end, entries_later, entries_inner, entries_inner_is, entries_end, uses_later, uses_all_is, uses_end, given_goes, joins_expression, joins_entry, joins_use, joins_statement, whole_postfix, whole_prim, operand_of}
use Rattle.dsl_print.proofs.Rows.{common_in, kind_in, body_in, file_in, kind_rule, statement_rule, Lines, statement_of, row_end, row_more, block_prints, body_prints}
use Rattle.dsl_rules.specs.Alphabet.{Sort}
use Rattle.dsl_lexer.specs.Letters.{goes_on}
use Rattle.dsl_print.proofs.Applies.{blank_end, spaced_end, name_spaced, target_spaced, loop_spaced, uses_spaced, no_brace_of, Heading, name_none_prints, name_bare_prints, name_paren_prints, heading_none, heading_for, apply_prints}
use Rattle.dsl_print.proofs.Objects.{object_prints, template_prints, const_prints, assign_prints, ignore_prints}
use Rattle.dsl_print.proofs.Includes.{include_prints, include_library_prints, include_all_prints}
use Rattle.dsl_print.proofs.Choices.{Choosing, IsBefore, choice_end, choice_else, choice_more, choose_prints}
use Rattle.dsl_print.proofs.Targets.{LeadsTo, Stepping, steps_apart, steps_end, steps_member, steps_index, target_prints}
use Rattle.dsl_print.proofs.Settings.{set_prints}
use Rattle.dsl_print.proofs.Statements.{import_prints, throw_prints, eval_prints, var_none_prints, var_some_prints, while_prints, for_prints, define_prints, return_none_prints, return_some_prints, break_prints, continue_prints}
use Rattle.dsl_print.proofs.Ascii.{ascii_utf8, names_utf8, point_name}
use Rattle.dsl_print.proofs.Alike.{Is, AreLike, IsMaybe, IsUses, IsFunction, IsLoop, IsKind, IsStatement, IsBlock}

-- a block of lines
block_of : {b : List Sign} (d : Statements) (rest : List ℕ) → Lines (b ++ signs.OpenBrace ∷ []) in_block (bare_statements d) (10 ∷ stmts_text d) (125 ∷ rest) no_statements → Prints b b Block (IsBlock d) (one_of (sign_sort signs.OpenBrace ∷ [])) (braced (stmts_text d)) rest
block_of d rest L = prints_rec _ rest (block_prints d (stmts_text d) rest L) (λ v i. i)

-- an expression is printed wherever it ends, and as a primary if it is one
pub record Printable (p : Place) (k : ExpressionKind) : Type 0 where
  pub whole : (b : List Sign) (rest : List ℕ) → IsEnd rest → Prints b b Whole (Is (expression p k)) (one_of (first_sort k ∷ [])) (expr_kind_text k) rest
  pub prim : (b : List Sign) (rest : List ℕ) → is_compound k ≡ false → IsEnd rest → Prints b b Prim (Is (expression p k)) (one_of (first_sort k ∷ [])) (expr_kind_text k) rest

of_prim : (p : Place) (k : ExpressionKind) → ((b : List Sign) (rest : List ℕ) → IsEnd rest → Prints b b Prim (Is (expression p k)) (one_of (first_sort k ∷ [])) (expr_kind_text k) rest) → Printable p k
of_prim p k P = record { whole = λ b rest h. whole_prim (expression p k) (first_sort k) (expr_kind_text k) rest (P b rest h); prim = λ b rest c h. P b rest h }

of_whole : (p : Place) (k : ExpressionKind) → is_compound k ≡ true → ((b : List Sign) (rest : List ℕ) → IsEnd rest → Prints b b Whole (Is (expression p k)) (one_of (first_sort k ∷ [])) (expr_kind_text k) rest) → Printable p k
of_whole p k e P = record { whole = P; prim = λ b rest c h. absurd (true≢false (sym e ∙ c)) }

as_expr : {b : List Sign} {o : Front} (e : Expression) (x rest : List ℕ) → Prints b b Whole (Is e) o x rest → Prints b b Expr (Is e) o x rest
as_expr e x rest P = prints_rec x rest P (λ v i. i)

-- a statement that may stand anywhere
in_common : {b : List Sign} {s : Sort} (c : Where) (k : StatementKind) (x rest : List ℕ) → Prints b b Common (IsKind k) (one_of (s ∷ [])) x rest → Prints b b (kind_rule c) (IsKind k) some x rest
in_common {s = s} c k x rest P = prints_wide some x rest (λ ts e. opens_some (one_of (s ∷ [])) ts refl e) (common_in c x rest P)

-- one that stands in no body, in a body alone, and in a file alone
in_kind : {b : List Sign} {s : Sort} (c : Where) (k : StatementKind) (x rest : List ℕ) → is_body c ≡ false → Prints b b Kind (IsKind k) (one_of (s ∷ [])) x rest → Prints b b (kind_rule c) (IsKind k) some x rest
in_kind {s = s} c k x rest i P = prints_wide some x rest (λ ts e. opens_some (one_of (s ∷ [])) ts refl e) (kind_in c x rest i P)

in_a_body : {b : List Sign} {s : Sort} (c : Where) (k : StatementKind) (x rest : List ℕ) → is_body c ≡ true → Prints b b BodyKind (IsKind k) (one_of (s ∷ [])) x rest → Prints b b (kind_rule c) (IsKind k) some x rest
in_a_body {s = s} c k x rest i P = prints_wide some x rest (λ ts e. opens_some (one_of (s ∷ [])) ts refl e) (body_in c x rest i P)

in_a_file : {b : List Sign} {s : Sort} (c : Where) (k : StatementKind) (x rest : List ℕ) → is_file c ≡ true → Prints b b Inclusion (IsKind k) (one_of (s ∷ [])) x rest → Prints b b (kind_rule c) (IsKind k) some x rest
in_a_file {s = s} c k x rest i P = prints_wide some x rest (λ ts e. opens_some (one_of (s ∷ [])) ts refl e) (file_in c x rest i P)

-- what follows a name ends it
uses_follow : (us : Uses) (rest : List ℕ) → IsEnd (uses_text us ++ 32 ∷ rest)
uses_follow no_uses rest = end_at 32 rest refl refl
uses_follow (more_uses n m us) rest = (refl, refl)

-- the last block of an `if`, if there is one
else_of : {b : List Sign} (other : Statements) (arms : Arms) (rest : List ℕ) → Lines (b ++ signs.OpenBrace ∷ []) in_block (bare_statements other) (10 ∷ stmts_text other) (125 ∷ rest) no_statements → (done : Arms) → IsBefore done no_arms arms → Choosing b (choose arms other) (else_text other) rest done
else_of no_statements arms rest L done i = choice_end done arms rest i
else_of (more_statements s ss) arms rest L done i = choice_else done arms (more_statements s ss) (braced (stmts_text (more_statements s ss))) rest i (block_of (more_statements s ss) rest L)

-- the name of an `apply`
name_of : {b : List Sign} (p : Place) (k : ExpressionKind) (rest : List ℕ) → Prints b b Whole (Is (expression p k)) (one_of (first_sort k ∷ [])) (expr_kind_text k) rest
    → Prints (b ++ signs.OpenParen ∷ []) (b ++ signs.OpenParen ∷ []) Whole (Is (expression p k)) (one_of (first_sort k ∷ [])) (expr_kind_text k) (41 ∷ rest)
    → Prints b b ApplyName (IsMaybe (some_expression (expression p k))) anything (apply_name_text (some_expression (expression p k))) rest
name_of {b = b} p k rest P Q = prints_wide anything _ rest (λ ts e. refl) (by (begins_with_brace (expression p k)) refl)
  where
    by : (c : Bool) → begins_with_brace (expression p k) ≡ c → Prints b b ApplyName (IsMaybe (some_expression (expression p k))) no_brace (32 ∷ in_parentheses c (expr_kind_text k)) rest
    by true e = name_paren_prints (expression p k) (expr_kind_text k) rest Q
    by false e = name_bare_prints (expression p k) (expr_kind_text k) rest (prints_wide no_brace (expr_kind_text k) rest (no_brace_of (first_sort k) (begins_bare p k e)) P)

-- a function's text goes on no name
function_goes : (f : Function) (rest : List ℕ) → goes_on (function_text f ++ rest) ≡ false
function_goes (function ns us d) rest = refl

mutual
  pub expr_prints : (b : List Sign) (e : Expression) (rest : List ℕ) → Good e → IsEnd rest → Prints b b Whole (Is e) (begin_of e) (expr_text e) rest
  expr_prints b (expression p k) rest g h = (kind_prints p k g).whole b rest h

  pub kind_prints : (p : Place) (k : ExpressionKind) → GoodKind k → Printable p k
  kind_prints p null g = of_prim p null (λ b rest h. literal_prints (kinds.Word words.Null) null p (codes "null") rest refl (refl, h.0) refl refl (ascii_utf8 (codes "null") refl))
  kind_prints p this g = of_prim p this (λ b rest h. literal_prints (kinds.Word words.This) this p (codes "this") rest refl (refl, h.0) refl refl (ascii_utf8 (codes "this") refl))
  kind_prints p globals g = of_prim p globals (λ b rest h. literal_prints (kinds.Word words.Globals) globals p (codes "globals") rest refl (refl, h.0) refl refl (ascii_utf8 (codes "globals") refl))
  kind_prints p (boolean true) g = of_prim p (boolean true) (λ b rest h. literal_prints (kinds.Word words.True) (boolean true) p (codes "true") rest refl (refl, h.0) refl refl (ascii_utf8 (codes "true") refl))
  kind_prints p (boolean false) g = of_prim p (boolean false) (λ b rest h. literal_prints (kinds.Word words.False) (boolean false) p (codes "false") rest refl (refl, h.0) refl refl (ascii_utf8 (codes "false") refl))
  kind_prints p (number n) g = of_prim p (number n) (λ b rest h. literal_prints (kinds.Number n) (number n) p (number_text n) rest refl (amount_read n g, amount_ends n rest g h.0 h.1) refl refl (amount_utf8 n g))
  kind_prints p (string s) g = of_prim p (string s) (λ b rest h. literal_prints (kinds.Str s) (string s) p (quoted s) rest refl (quotes, quoted_string s, g) refl refl (quoted_utf8 s g))
  kind_prints p (name s) g = of_prim p (name s) (λ b rest h. literal_prints (kinds.Ident s) (name s) p s rest refl (refl, g.0, g.1, h.0) refl refl (names_utf8 s g.0))
  kind_prints p (array es) g = of_prim p (array es) (λ b rest h. array_prints es p (exprs_text false es) rest (elements_print (b ++ signs.OpenBracket ∷ []) es (93 ∷ rest) g (end_at 93 rest refl refl)))
  kind_prints p (dictionary ps) g =
      of_prim p (dictionary ps) (λ b rest h. prints_text _ _ rest (ap (λ z. 123 ∷ z) (entries_inner_is ps)) (dictionary_prints ps p (entries_inner ps) (entries_text false ps) rest (entries_inner_is ps) (pairs_print (b ++ signs.OpenBrace ∷ []) ps (32 ∷ 125 ∷ rest) g (refl, refl))))
  kind_prints p (function_value f) g = of_prim p (function_value f) (λ b rest h. function_prints f p (function_text f) rest (func_print b f rest g))
  kind_prints p (member e n) g =
      of_whole p (member e n) refl (λ b rest h. whole_postfix (expression p (member e n)) _ _ rest (member_prints e p n (operand_text e) rest refl (operand_prints b e (46 ∷ (n ++ rest)) g.0 (refl, point_name n rest g.1.0)) g.1 h.0))
  kind_prints p (index e i) g =
      of_whole p (index e i) refl (λ b rest h. whole_postfix (expression p (index e i)) _ _ rest (index_prints e i p (operand_text e) (expr_text i) rest refl (operand_prints b e (91 ∷ (expr_text i ++ 93 ∷ rest)) g.0 (end_at 91 (expr_text i ++ 93 ∷ rest) refl refl)) (expr_prints (b ++ signs.OpenBracket ∷ []) i (93 ∷ rest) g.1 (end_at 93 rest refl refl))))
  kind_prints p (call e es) g =
      of_whole p (call e es) refl (λ b rest h. whole_postfix (expression p (call e es)) _ _ rest (call_prints e es p (operand_text e) (exprs_text false es) rest refl (operand_prints b e (40 ∷ (exprs_text false es ++ 41 ∷ rest)) g.0 (end_at 40 (exprs_text false es ++ 41 ∷ rest) refl refl)) (arguments_print (b ++ signs.OpenParen ∷ []) es (41 ∷ rest) g.1 (end_at 41 rest refl refl))))
  kind_prints p (unary o e) g = of_whole p (unary o e) refl (λ b rest h. unary_prints o e p (operand_text e) rest refl (unary_token (keeps b) o e rest g h.0) (operand_prints b e rest g h))
  kind_prints p (binary o e d) g =
      of_whole p (binary o e d) refl (λ b rest h. binary_prints o e d p (operand_text e) (operand_text d) rest refl refl (operand_prints b e (32 ∷ (binary_text o ++ 32 ∷ (operand_text d ++ rest))) g.0 (end_at 32 (binary_text o ++ 32 ∷ (operand_text d ++ rest)) refl refl)) (operand_prints b d rest g.1 h))

  pub operand_prints : (b : List Sign) (e : Expression) (rest : List ℕ) → Good e → IsEnd rest → Prints b b Prim (Is e) (one_of (operand_sort e ∷ [])) (operand_text e) rest
  operand_prints b (expression p k) rest g h = operand_of p k rest (λ c. (kind_prints p k g).prim b rest c h) ((kind_prints p k g).whole (b ++ signs.OpenParen ∷ []) (41 ∷ rest) (end_at 41 rest refl refl))

  -- arguments, elements and entries

  pub arguments_print : (b : List Sign) (es : Expressions) (rest : List ℕ) → GoodAll es → IsEnd rest → Prints b b Arguments (AreLike es) anything (exprs_text false es) rest
  arguments_print b no_expressions rest g h = no_arguments rest
  arguments_print b (more_expressions e es) rest g h =
      prints_wide anything _ rest (λ ts k. refl) (some_arguments e (more_expressions e es) (expr_text e) (exprs_text true es) rest (expr_prints b e (exprs_text true es ++ rest) g.0 (exprs_end es rest h))
      (λ v i. arguments_turns b es rest g.1 h (more_expressions e es) (add_expression no_expressions v) (joins_expression no_expressions es v e (more_expressions e es) i refl)))

  arguments_turns : (b : List Sign) (es : Expressions) (rest : List ℕ) → GoodAll es → IsEnd rest → (all a : Expressions) → join_expressions (bare_expressions a) (bare_expressions es) ≡ bare_expressions all → MoreArguments b all (exprs_text true es) rest a
  arguments_turns b no_expressions rest g h all a q = turns_end rest a (sym (join_no_expressions (bare_expressions a)) ∙ q)
  arguments_turns b (more_expressions e es) rest g h all a q =
      arguments_more e all (expr_text e) (exprs_text true es) rest a (expr_prints b e (exprs_text true es ++ rest) g.0 (exprs_end es rest h))
      (λ v i. arguments_turns b es rest g.1 h all (add_expression a v) (joins_expression a es v e all i q))

  pub elements_print : (b : List Sign) (es : Expressions) (rest : List ℕ) → GoodAll es → IsEnd rest → Prints b b Elements (λ s. AreLike es (slots_value s)) anything (exprs_text false es) rest
  elements_print b no_expressions rest g h = no_elements rest
  elements_print b (more_expressions e es) rest g h =
      prints_wide anything _ rest (λ ts k. refl) (some_elements e (more_expressions e es) (expr_text e) (exprs_text true es) rest (expr_prints b e (exprs_text true es ++ rest) g.0 (exprs_end es rest h))
      (λ v i. slots_turns b es rest g.1 h (more_expressions e es) (add_expression no_expressions v) (joins_expression no_expressions es v e (more_expressions e es) i refl)))

  slots_turns : (b : List Sign) (es : Expressions) (rest : List ℕ) → GoodAll es → IsEnd rest → (all a : Expressions) → join_expressions (bare_expressions a) (bare_expressions es) ≡ bare_expressions all → FromSlots b all (exprs_text true es) rest (slots a true)
  slots_turns b no_expressions rest g h all a q = turns_end rest (slots a true) (sym (join_no_expressions (bare_expressions a)) ∙ q)
  slots_turns b (more_expressions e es) rest g h all a q =
      slots_more e all (expr_text e) (exprs_text true es) rest a (expr_prints b e (exprs_text true es ++ rest) g.0 (exprs_end es rest h))
      (λ v i. slots_turns b es rest g.1 h all (add_expression a v) (joins_expression a es v e all i q))

  pub pairs_print : (b : List Sign) (ps : Entries) (rest : List ℕ) → GoodEntries ps → IsEnd rest → Prints b b Pairs (λ v. bare_entries v ≡ bare_entries ps) anything (entries_inner ps) rest
  pairs_print b no_entries rest g h = no_pairs rest
  pairs_print b (more_entries k e ps) rest g h =
      prints_wide anything _ rest (λ ts k. refl) (some_pairs k e (more_entries k e ps) (expr_text e) (entries_later ps) rest g.0 (expr_prints b e (entries_later ps ++ rest) g.1 (entries_end ps rest h))
      (λ v i. entries_turns b ps rest g.2 h (more_entries k e ps) (add_entry no_entries k v) (joins_entry no_entries ps k v e (more_entries k e ps) i refl)))

  entries_turns : (b : List Sign) (ps : Entries) (rest : List ℕ) → GoodEntries ps → IsEnd rest → (all a : Entries) → join_entries (bare_entries a) (bare_entries ps) ≡ bare_entries all → MoreEntries b all (entries_later ps) rest a
  entries_turns b no_entries rest g h all a q = turns_end rest a (sym (join_no_entries (bare_entries a)) ∙ q)
  entries_turns b (more_entries k e ps) rest g h all a q =
      entries_more k e all (expr_text e) (entries_later ps) rest a g.0 (expr_prints b e (entries_later ps ++ rest) g.1 (entries_end ps rest h))
      (λ v i. entries_turns b ps rest g.2 h all (add_entry a k v) (joins_entry a ps k v e all i q))

  -- functions

  pub func_print : (b : List Sign) (f : Function) (rest : List ℕ) → GoodFunction f → Prints b b Func (IsFunction f) (one_of (sign_sort signs.OpenParen ∷ [])) (function_text f) rest
  func_print b (function ps us d) rest g = func_prints ps us d (uses_text us) (braced (stmts_text d)) rest g.0 (uses_print b us (32 ∷ (braced (stmts_text d) ++ rest)) g.1) (block_of d rest (lines_print (b ++ signs.OpenBrace ∷ []) in_block d (125 ∷ rest) (keeps_brace b) g.2 (bare_statements d) no_statements refl))

  pub given_print : (b : List Sign) (m : MaybeExpression) (rest : List ℕ) → GoodMaybe m → IsEnd rest → Prints b b Given (IsMaybe m) anything (given_text m) rest
  given_print b no_expression rest g h = given_none rest
  given_print b (some_expression e) rest g h = given_some e (expr_text e) rest (expr_prints b e rest g h)

  pub uses_print : (b : List Sign) (us : Uses) (rest : List ℕ) → GoodUses us → Prints b b MaybeUse (IsUses us) anything (uses_text us) rest
  uses_print b no_uses rest g = no_captures rest
  uses_print b (more_uses n m us) rest g =
      prints_text _ _ rest (uses_all_is n m us) (some_captures n m (more_uses n m us) (given_text m) (uses_later us) rest g.0 (given_goes m (uses_later us ++ 41 ∷ rest) (uses_end us (41 ∷ rest) (end_at 41 rest refl refl)).0)
      (given_print (b ++ signs.OpenParen ∷ []) m (uses_later us ++ 41 ∷ rest) g.1 (uses_end us (41 ∷ rest) (end_at 41 rest refl refl)))
      (λ w i. uses_turns (b ++ signs.OpenParen ∷ []) us (41 ∷ rest) g.2 (end_at 41 rest refl refl) (more_uses n m us) (add_use no_uses n w) (joins_use no_uses us n w m (more_uses n m us) i refl)))

  uses_turns : (b : List Sign) (us : Uses) (rest : List ℕ) → GoodUses us → IsEnd rest → (all a : Uses) → join_uses (bare_uses a) (bare_uses us) ≡ bare_uses all → MoreUses b all (uses_later us) rest a
  uses_turns b no_uses rest g h all a q = turns_end rest a (sym (join_no_uses (bare_uses a)) ∙ q)
  uses_turns b (more_uses n m us) rest g h all a q =
      uses_more n m all (given_text m) (uses_later us) rest a g.0 (given_goes m (uses_later us ++ rest) (uses_end us rest h).0) (given_print b m (uses_later us ++ rest) g.1 (uses_end us rest h))
      (λ w i. uses_turns b us rest g.2 h all (add_use a n w) (joins_use a us n w m all i q))

  pub loop_print : (b : List Sign) (l : Loop) (rest : List ℕ) → GoodLoop l → Prints b b LoopHead (IsLoop l) (one_of (sign_sort signs.OpenParen ∷ [])) (loop_text l) rest
  loop_print b (loop k None e) rest g = key_loop_prints k e (expr_text e) rest g.0 (expr_prints (b ++ signs.OpenParen ∷ []) e (41 ∷ rest) g.2 (end_at 41 rest refl refl))
  loop_print b (loop k (Some v) e) rest g = value_loop_prints k v e (expr_text e) rest g.0 g.1 (expr_prints (b ++ signs.OpenParen ∷ []) e (41 ∷ rest) g.2 (end_at 41 rest refl refl))

  -- blocks and statements

  pub lines_print : (b : List Sign) (c : Where) (ss : Statements) (rest : List ℕ) → keeps b ≡ true → GoodStatements c ss → (all a : Statements) → join_statements (bare_statements a) (bare_statements ss) ≡ all → Lines b c all (10 ∷ stmts_text ss) rest a
  lines_print b c no_statements rest k g all a q = row_end c all rest a k (sym (join_no_statements (bare_statements a)) ∙ q)
  lines_print b c (more_statements s ss) rest k g all a q =
      row_more c s all (stmt_text s) (stmts_text ss) rest a k (statement_print b c s (stmts_text ss ++ rest) g.0)
      (λ v i. lines_print b c ss rest k g.1 all (add_statement a v) (joins_statement a ss v s all i q))

  pub statement_print : (b : List Sign) (c : Where) (s : Statement) (rest : List ℕ) → GoodStatement c s → Prints b b (statement_rule c) (IsStatement s) some (stmt_text s) (10 ∷ rest)
  statement_print b c (statement p k) rest g = statement_of c k p (stmt_kind_text k) (10 ∷ rest) refl (statement_kind_print b c k rest g)

  pub statement_kind_print : (b : List Sign) (c : Where) (k : StatementKind) (rest : List ℕ) → GoodStatementKind c k → Prints b b (kind_rule c) (IsKind k) some (stmt_kind_text k) (10 ∷ rest)
  statement_kind_print b c (import e) rest g = in_common c (import e) _ _ (import_prints e (expr_text e) (10 ∷ rest) (as_expr e _ _ (expr_prints b e (10 ∷ rest) g (end_at 10 rest refl refl))))
  statement_kind_print b c (throw e) rest g = in_common c (throw e) _ _ (throw_prints e (expr_text e) (10 ∷ rest) (as_expr e _ _ (expr_prints b e (10 ∷ rest) g (end_at 10 rest refl refl))))
  statement_kind_print b c (eval (expression p k)) rest g = in_common c (eval (expression p k)) _ _ (eval_prints (expression p k) (expr_kind_text k) (10 ∷ rest) refl (as_expr (expression p k) _ _ ((kind_prints p k g).whole b (10 ∷ rest) (end_at 10 rest refl refl))))
  statement_kind_print b c (var n no_expression) rest g = in_common c (var n no_expression) _ _ (var_none_prints n rest g.0)
  statement_kind_print b c (var n (some_expression e)) rest g = in_common c (var n (some_expression e)) _ _ (var_some_prints n e (expr_text e) (10 ∷ rest) g.0 (as_expr e _ _ (expr_prints b e (10 ∷ rest) g.1 (end_at 10 rest refl refl))))
  statement_kind_print b c (while e d) rest g =
      in_common c (while e d) _ _ (while_prints e d (expr_text e) (braced (stmts_text d)) (10 ∷ rest) (as_expr e _ _ (expr_prints (b ++ signs.OpenParen ∷ []) e (codes ") " ++ (braced (stmts_text d) ++ 10 ∷ rest)) g.0 (refl, refl)))
      (block_of d (10 ∷ rest) (lines_print (b ++ signs.OpenBrace ∷ []) in_block d (125 ∷ 10 ∷ rest) (keeps_brace b) g.1 (bare_statements d) no_statements refl)))
  statement_kind_print b c (for l d) rest g =
      in_common c (for l d) _ _ (for_prints l d (loop_text l) (braced (stmts_text d)) (10 ∷ rest) (loop_print b l (32 ∷ (braced (stmts_text d) ++ 10 ∷ rest)) g.0)
      (block_of d (10 ∷ rest) (lines_print (b ++ signs.OpenBrace ∷ []) in_block d (125 ∷ 10 ∷ rest) (keeps_brace b) g.1 (bare_statements d) no_statements refl)))
  statement_kind_print b c (define n f) rest g = in_common c (define n f) _ _ (define_prints n f (function_text f) (10 ∷ rest) g.0 (function_goes f (10 ∷ rest)) (func_print b f (10 ∷ rest) g.1))
  statement_kind_print b c (return no_expression) rest g = in_common c (return no_expression) _ _ (return_none_prints rest)
  statement_kind_print b c (return (some_expression e)) rest g = in_common c (return (some_expression e)) _ _ (return_some_prints e (expr_text e) (10 ∷ rest) (as_expr e _ _ (expr_prints b e (10 ∷ rest) g (end_at 10 rest refl refl))))
  statement_kind_print b c break rest g = in_common c break _ _ (break_prints rest)
  statement_kind_print b c continue rest g = in_common c continue _ _ (continue_prints rest)
  statement_kind_print b c (object t e us d) rest g =
      in_kind c (object t e us d) _ _ g.0 (object_prints t e us d (expr_text e) (uses_text us) (braced (stmts_text d)) (10 ∷ rest) g.1 (as_expr e _ _ (expr_prints b e (uses_text us ++ 32 ∷ (braced (stmts_text d) ++ 10 ∷ rest)) g.2 (uses_follow us (braced (stmts_text d) ++ 10 ∷ rest))))
      (uses_print b us (32 ∷ (braced (stmts_text d) ++ 10 ∷ rest)) g.3) (body_prints d (stmts_text d) (10 ∷ rest) (lines_print (b ++ signs.OpenBrace ∷ []) in_body d (125 ∷ 10 ∷ rest) (keeps_brace b) g.4 (bare_statements d) no_statements refl)))
  statement_kind_print b c (template t e us d) rest g =
      in_kind c (template t e us d) _ _ g.0 (template_prints t e us d (expr_text e) (uses_text us) (braced (stmts_text d)) (10 ∷ rest) g.1 (as_expr e _ _ (expr_prints b e (uses_text us ++ 32 ∷ (braced (stmts_text d) ++ 10 ∷ rest)) g.2 (uses_follow us (braced (stmts_text d) ++ 10 ∷ rest))))
      (uses_print b us (32 ∷ (braced (stmts_text d) ++ 10 ∷ rest)) g.3) (body_prints d (stmts_text d) (10 ∷ rest) (lines_print (b ++ signs.OpenBrace ∷ []) in_body d (125 ∷ 10 ∷ rest) (keeps_brace b) g.4 (bare_statements d) no_statements refl)))
  statement_kind_print b c (assign e) rest g = in_a_body c (assign e) _ _ g.0 (assign_prints e (expr_text e) (10 ∷ rest) (as_expr e _ _ (expr_prints b e (10 ∷ rest) g.1 (end_at 10 rest refl refl))))
  statement_kind_print b c (ignore e) rest g = in_a_body c (ignore e) _ _ g.0 (ignore_prints e (expr_text e) (10 ∷ rest) (as_expr e _ _ (expr_prints b e (10 ∷ rest) g.1 (end_at 10 rest refl refl))))
  statement_kind_print b c (include n q) rest g = in_a_file c (include n q) _ _ g.0 (include_prints n q (10 ∷ rest) g.1)
  statement_kind_print b c (include_library n q) rest g = in_a_file c (include_library n q) _ _ g.0 (include_library_prints n q rest g.1)
  statement_kind_print b c (include_all d n q) rest g = in_a_file c (include_all d n q) _ _ g.0 (include_all_prints d n q (10 ∷ rest) g.1 g.2)
  statement_kind_print b c (const n e) rest g = in_kind c (const n e) _ _ g.0 (const_prints n e (expr_text e) (10 ∷ rest) g.1 (as_expr e _ _ (expr_prints b e (10 ∷ rest) g.2 (end_at 10 rest refl refl))))
  statement_kind_print b c (set r ss o e) rest g =
      in_common c (set r ss o e) _ _ (set_prints r ss o e (steps_text ss) (expr_text e) (10 ∷ rest) g.1
      (target_prints r ss (steps_text ss) (32 ∷ (set_text o ++ 32 ∷ (expr_text e ++ 10 ∷ rest))) g.0 (steps_apart ss (set_text o ++ 32 ∷ (expr_text e ++ 10 ∷ rest))) (λ v l. steps_print b r ss ss (set_text o ++ 32 ∷ (expr_text e ++ 10 ∷ rest)) v g.2 l))
      (as_expr e _ _ (expr_prints b e (10 ∷ rest) g.3 (end_at 10 rest refl refl))))
  statement_kind_print b c (choose no_arms d) rest g = absurd (true≢false (sym g.0))
  statement_kind_print b c (choose (more_arms e d more) other) rest g =
      in_common c (choose (more_arms e d more) other) _ _ (choose_prints more e d other (expr_text e) (braced (stmts_text d)) (arms_text true more) (else_text other) (10 ∷ rest)
      (as_expr e _ _ (expr_prints (b ++ signs.OpenParen ∷ []) e (codes ") " ++ (braced (stmts_text d) ++ ((arms_text true more ++ else_text other) ++ 10 ∷ rest))) g.1.0 (refl, refl)))
      (block_of d _ (lines_print (b ++ signs.OpenBrace ∷ []) in_block d (125 ∷ ((arms_text true more ++ else_text other) ++ 10 ∷ rest)) (keeps_brace b) g.1.1 (bare_statements d) no_statements refl))
      (λ again i. arms_print b more (more_arms e d more) other (10 ∷ rest) again g.1.2 i (else_of other (more_arms e d more) (10 ∷ rest) (lines_print (b ++ signs.OpenBrace ∷ []) in_block other (125 ∷ 10 ∷ rest) (keeps_brace b) g.2 (bare_statements other) no_statements refl))))
  statement_kind_print b c (apply t e to l us d) rest g =
      in_kind c (apply t e to l us d) _ _ g.0 (apply_prints t e to l us d (apply_name_text e) (apply_loop_text l) (uses_text us) (braced (stmts_text d)) (10 ∷ rest) g.1 g.3 (name_spaced e) (loop_spaced l) (uses_spaced us)
      (name_print b e _ g.2 (spaced_end (target_text to) _ (target_spaced to) (spaced_end (apply_loop_text l) _ (loop_spaced l) (spaced_end (uses_text us) _ (uses_spaced us) (blank_end (braced (stmts_text d) ++ 10 ∷ rest))))))
      (heading_print b to l _ g.4) (uses_print b us _ g.5) (body_prints d (stmts_text d) (10 ∷ rest) (lines_print (b ++ signs.OpenBrace ∷ []) in_body d (125 ∷ 10 ∷ rest) (keeps_brace b) g.6 (bare_statements d) no_statements refl)))

  name_print : (b : List Sign) (e : MaybeExpression) (rest : List ℕ) → GoodMaybe e → IsEnd rest → Prints b b ApplyName (IsMaybe e) anything (apply_name_text e) rest
  name_print b no_expression rest g h = name_none_prints rest
  name_print b (some_expression (expression p k)) rest g h = name_of p k rest ((kind_prints p k g).whole b rest h) ((kind_prints p k g).whole (b ++ signs.OpenParen ∷ []) (41 ∷ rest) (end_at 41 rest refl refl))

  heading_print : (b : List Sign) (to : Option (List ℕ)) (l : MaybeLoop) (rest : List ℕ) → GoodMaybeLoop l → Heading b to l (apply_loop_text l) rest (heads to no_loop)
  heading_print b to no_loop rest g = heading_none to rest
  heading_print b to (some_loop l) rest g = heading_for to l (loop_text l) rest (loop_print b l rest g)

  steps_print : (b : List Sign) (r : Root) (more ss : Steps) (rest : List ℕ) (a : Begun) → GoodSteps more → LeadsTo r more ss a → Stepping b r ss (steps_text more) (32 ∷ rest) a
  steps_print b r no_steps ss rest a g l = steps_end r ss (32 ∷ rest) a l
  steps_print b r (member_step n more) ss rest a g l = steps_member r n more ss (steps_text more) (32 ∷ rest) a l g.0 (steps_apart more rest) (λ v k. steps_print b r more ss rest v g.1 k)
  steps_print b r (index_step e more) ss rest a g l =
      steps_index r e more ss (expr_text e) (steps_text more) (32 ∷ rest) a l (as_expr e _ _ (expr_prints (b ++ signs.OpenBracket ∷ []) e (93 ∷ (steps_text more ++ 32 ∷ rest)) g.0 (end_at 93 (steps_text more ++ 32 ∷ rest) refl refl)))
      (λ v k. steps_print b r more ss rest v g.1 k)

  -- further arms, with what is printed of the last block
  arms_print : (b : List Sign) (more arms : Arms) (other : Statements) (rest : List ℕ) (done : Arms) → GoodArms more → IsBefore done more arms → ((again : Arms) → IsBefore again no_arms arms → Choosing b (choose arms other) (else_text other) rest again)
      → Choosing b (choose arms other) (arms_text true more ++ else_text other) rest done
  arms_print b no_arms arms other rest done g i E = E done i
  arms_print b (more_arms e d more) arms other rest done g i E =
      choice_more done more arms e d other (expr_text e) (braced (stmts_text d)) (arms_text true more) (else_text other) rest i
      (as_expr e _ _ (expr_prints (b ++ signs.OpenParen ∷ []) e (codes ") " ++ (braced (stmts_text d) ++ ((arms_text true more ++ else_text other) ++ rest))) g.0 (refl, refl)))
      (block_of d _ (lines_print (b ++ signs.OpenBrace ∷ []) in_block d (125 ∷ ((arms_text true more ++ else_text other) ++ rest)) (keeps_brace b) g.1 (bare_statements d) no_statements refl))
      (λ again j. arms_print b more arms other rest again g.2 j E)
