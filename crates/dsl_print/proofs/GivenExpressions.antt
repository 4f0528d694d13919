-- Expressions that the grammar gives can be printed.
use Rattle.std.proofs.Common.{◌≡◌, ℕ, zero, suc, List, [], ◌∷◌, ◌++◌, true}
use Rattle.std.specs.Str.{IsUtf8}
use Rattle.dsl_syntax.specs.declared.bin_op.BinOp.{BinOp}
use Rattle.dsl_syntax.specs.Syntax.{Expression, Expressions, no_expressions, more_expressions, Entries, no_entries, more_entries, MaybeExpression, no_expression, some_expression, function, Uses, no_uses, more_uses, loop as a_loop}
use Rattle.dsl_lexer.specs.declared.token.Token.{Token}
use Rattle.dsl_lexer.specs.declared.token_kind.TokenKind.{TokenKind}
use Rattle.dsl_lexer.specs.declared.token_kind.TokenKind.TheVariants as kinds
use Rattle.dsl_lexer.specs.declared.word.Word.TheVariants as words
use Rattle.dsl_rules.specs.Alphabet.{among}
use Rattle.dsl_rules.specs.Grammar.{Rules}
use Rattle.dsl_grammar.specs.Codes.{kind_sort, ident_sort, string_sort}
use Rattle.dsl_grammar.specs.Grammar.{Expr, Block, Names, Params, add_captured, OneUse, UseNames, UseList, MaybeUse, Func, Valued, LoopHead, Begun, begun, begun_expression, literal_kind, Literal, Paren, Slots, slots, slots_value, add_slot, Slot, CommaSlot, Elements, BracketedElements, Array, add_pair, Pair, MaybePair, Pairs, BracedPairs, Dict, FunctionFunc, FunctionLiteral, Prim, Tail, member_tail, index_tail, call_tail, with_tail, Listed, Arguments, OneTail, BegunPrim, Postfix, Prefix, prefix, with_prefixes, Prefixes, Prefixed, Unary, joined, Operator, Level, Returned, LambdaBody, LambdaFunc, Lambda, Whole}
use Rattle.dsl_syntax.specs.Lists.{Captured, captured, Entry, entry, add_expression, add_entry, add_use}
use Rattle.dsl_grammar.specs.Terms.{Name, Value, kind_text, IDENT, STRING}
use Rattle.dsl_print.proofs.Good.{IsIdent, AreIdents, IsMaybeIdent, Good, GoodKind, GoodAll, GoodEntries, GoodMaybe, GoodLoop, GoodFunction, GoodUses, GoodStatements, in_block}
use Rattle.dsl_print.proofs.Keeping.{GoodTokenKind, Keeps, Any, OfTurn, keeps_one, keeps_token, keeps_both, keeps_behind, keeps_before, keeps_three, keeps_either, keeps_ahead, keeps_made, keeps_here, keeps_maybe, keeps_loop, keeps_nl, keeps_listed, keeps_row, keeps_thing, keeps_chain, keeps_rec_not}
use Rattle.dsl_print.proofs.Ascii.{names_utf8}

-- Names and strings.

-- the text of an identifier is a name
pub ident_text : (k : TokenKind) → GoodTokenKind k → among (kind_sort k) (ident_sort ∷ []) ≡ true → IsIdent (kind_text k)
ident_text (kinds.Ident n) good m = good
ident_text k good m = absurd cc

-- the text of a string is UTF-8
pub string_text : (k : TokenKind) → GoodTokenKind k → among (kind_sort k) (string_sort ∷ []) ≡ true → IsUtf8 (kind_text k)
string_text (kinds.Str s) good m = good
string_text k good m = absurd cc

-- so is that of either
key_text : (k : TokenKind) → GoodTokenKind k → among (kind_sort k) (ident_sort ∷ string_sort ∷ []) ≡ true → IsUtf8 (kind_text k)
key_text (kinds.Ident n) good m = names_utf8 n good.0
key_text (kinds.Str s) good m = good
key_text k good m = absurd cc

-- the value of a literal is that of its token
literal_good : (k : TokenKind) → GoodTokenKind k → GoodKind (literal_kind k)
literal_good (kinds.Ident n) good = good
literal_good (kinds.Number z) good = good
literal_good (kinds.Str s) good = good
literal_good (kinds.Word words.True) good = tt
literal_good (kinds.Word words.False) good = tt
literal_good (kinds.Word words.This) good = tt
literal_good (kinds.Word words.Globals) good = tt
literal_good k good = tt

-- Lists with one thing more are good.

-- names
pub idents_more : (ns : List (List ℕ)) (n : List ℕ) → AreIdents ns → IsIdent n → AreIdents (ns ++ n ∷ [])
idents_more [] n h k = (k, tt)
idents_more (m ∷ ns) n h k = (h.0, idents_more ns n h.1 k)

-- expressions
expression_more : (es : Expressions) (e : Expression) → GoodAll es → Good e → GoodAll (add_expression es e)
expression_more no_expressions e h k = (k, tt)
expression_more (more_expressions x xs) e h k = (h.0, expression_more xs e h.1 k)

-- entries of a dictionary
entry_more : (es : Entries) (n : List ℕ) (e : Expression) → GoodEntries es → IsUtf8 n → Good e → GoodEntries (add_entry es n e)
entry_more no_entries n e h u k = (u, k, tt)
entry_more (more_entries m x xs) n e h u k = (h.0, h.1, entry_more xs n e h.2 u k)

-- captured names
use_more : (us : Uses) (n : List ℕ) (e : MaybeExpression) → GoodUses us → IsIdent n → GoodMaybe e → GoodUses (add_use us n e)
use_more no_uses n e h i k = (i, k, tt)
use_more (more_uses m x xs) n e h i k = (h.0, h.1, use_more xs n e h.2 i k)

-- Parts that can be printed.

-- a name, and its value if it has one
abbrev GoodCaptured : Captured → Type 0
GoodCaptured (captured n e) = IsIdent n × GoodMaybe e

-- the elements of an array so far
abbrev GoodSlots : Slots → Type 0
GoodSlots (slots es full) = GoodAll es

-- a key and its value
abbrev GoodEntry : Entry → Type 0
GoodEntry (entry k e) = IsUtf8 k × Good e

-- what stands behind an expression
abbrev GoodTail : Tail → Type 0
GoodTail (member_tail n) = IsIdent n
GoodTail (index_tail i) = Good i
GoodTail (call_tail es) = GoodAll es

-- an expression, and where it begins
abbrev GoodBegun : Begun → Type 0
GoodBegun (begun p e) = Good e

-- captured names, each with its value
captured_more : (us : Uses) (c : Captured) → GoodUses us → GoodCaptured c → GoodUses (add_captured us c)
captured_more us (captured n e) h k = use_more us n e h k.0 k.1

-- elements
slot_more : (c : Slots) (e : MaybeExpression) → GoodSlots c → GoodMaybe e → GoodSlots (add_slot c e)
slot_more (slots es full) no_expression h k = h
slot_more (slots es full) (some_expression e) h k = expression_more es e h k

-- the elements so far
slots_good : (c : Slots) → GoodSlots c → GoodAll (slots_value c)
slots_good (slots es full) h = h

-- entries
pair_more : (es : Entries) (x : Entry) → GoodEntries es → GoodEntry x → GoodEntries (add_pair es x)
pair_more es (entry k e) h g = entry_more es k e h g.0 g.1

-- an expression with one tail more
tail_more : (b : Begun) (x : Tail) → GoodBegun b → GoodTail x → GoodBegun (with_tail b x)
tail_more (begun p e) (member_tail n) h k = (h, k)
tail_more (begun p e) (index_tail i) h k = (h, k)
tail_more (begun p e) (call_tail es) h k = (h, k)

-- an expression behind operators
prefixes_good : (os : List Prefix) (e : Expression) → Good e → Good (with_prefixes os e)
prefixes_good [] e h = h
prefixes_good (prefix p o ∷ os) e h = prefixes_good os e h

-- an expression alone
begun_good : (b : Begun) → GoodBegun b → Good (begun_expression b)
begun_good (begun p e) h = h

-- two operands
joined_good : (b : Begun) (o : BinOp) (c : Begun) → GoodBegun b → GoodBegun c → GoodBegun (joined b o c)
joined_good (begun p e) o (begun q f) h k = (h, k)

module _ {L : Rules Token Name Value} where
  -- IDENT
  pub keeps_IDENT : Keeps L IDENT IsIdent
  keeps_IDENT = keeps_one (λ t good m. ident_text t.kind good m)

  -- STRING
  pub keeps_STRING : Keeps L STRING IsUtf8
  keeps_STRING = keeps_one (λ t good m. string_text t.kind good m)

  -- IDENT { "," IDENT }
  pub keeps_Names : Keeps L Names AreIdents
  unfolding Names
  keeps_Names = keeps_listed [] keeps_IDENT tt idents_more

  -- params = "(" [ IDENT { "," IDENT } ] ")"
  pub keeps_Params : Keeps L Params AreIdents
  unfolding Params
  keeps_Params = keeps_behind keeps_token (keeps_before (keeps_maybe keeps_Names (λ ns h. h) tt) keeps_token)

  -- [ "=>" IDENT ]
  pub keeps_Valued : Keeps L Valued IsMaybeIdent
  unfolding Valued
  keeps_Valued = keeps_maybe (keeps_behind keeps_token keeps_IDENT) (λ n h. h) tt

  -- a literal
  keeps_Literal : Keeps L Literal Good
  unfolding Literal
  keeps_Literal = keeps_one (λ t good m. literal_good t.kind good)

  -- operators before an operand
  keeps_Prefixes : Keeps L Prefixes Any
  unfolding Prefixes
  keeps_Prefixes = keeps_loop (keeps_made {U = Any} keeps_token (λ o h. tt)) (keeps_token) (λ os o h k. tt)

  -- an operator of a level, and newlines
  keeps_Operator : (k : ℕ) → Keeps L (Operator k) Any
  unfolding Operator
  keeps_Operator k = keeps_before keeps_token keeps_nl

module _ {L : Rules Token Name Value} (keeps_expr : Keeps L Expr Good) (keeps_block : Keeps L Block (GoodStatements in_block)) where
  -- IDENT [ "=" expr ]
  pub keeps_OneUse : Keeps L OneUse GoodCaptured
  unfolding OneUse
  keeps_OneUse = keeps_both keeps_IDENT (keeps_maybe {V = GoodMaybe} (keeps_behind keeps_token keeps_expr) (λ e h. h) tt) (λ n e h k. (h, k))

  -- one or more of these
  keeps_UseNames : Keeps L UseNames GoodUses
  unfolding UseNames
  keeps_UseNames = keeps_listed no_uses keeps_OneUse tt captured_more

  -- use = "use" "(" IDENT [ "=" expr ] { "," IDENT [ "=" expr ] } ")"
  keeps_UseList : Keeps L UseList GoodUses
  unfolding UseList
  keeps_UseList = keeps_behind keeps_token (keeps_behind keeps_token (keeps_before keeps_UseNames keeps_token))

  -- [use]
  pub keeps_MaybeUse : Keeps L MaybeUse GoodUses
  unfolding MaybeUse
  keeps_MaybeUse = keeps_maybe keeps_UseList (λ us h. h) tt

  -- params [use] block
  pub keeps_Func : Keeps L Func GoodFunction
  unfolding Func
  keeps_Func = keeps_three function keeps_Params keeps_MaybeUse keeps_block (λ ns us b h k l. (h, k, l))

  -- loop = "(" IDENT [ "=>" IDENT ] "in" expr ")"
  pub keeps_LoopHead : Keeps L LoopHead GoodLoop
  unfolding LoopHead
  keeps_LoopHead = keeps_behind keeps_token (keeps_three a_loop keeps_IDENT keeps_Valued (keeps_behind keeps_token (keeps_before keeps_expr keeps_token)) (λ n v e h k l. (h, k, l)))

  -- "(" expr ")"
  keeps_Paren : Keeps L Paren Good
  unfolding Paren
  keeps_Paren = keeps_behind keeps_token (keeps_before keeps_expr keeps_token)

  -- [expr]
  pub keeps_Slot : Keeps L Slot GoodMaybe
  unfolding Slot
  keeps_Slot = keeps_maybe keeps_expr (λ e h. h) tt

  -- "," [expr]
  keeps_CommaSlot : Keeps L CommaSlot GoodMaybe
  unfolding CommaSlot
  keeps_CommaSlot = keeps_behind keeps_token keeps_Slot

  -- [ expr { "," expr } [","] ]
  keeps_Elements : Keeps L Elements GoodSlots
  unfolding Elements
  keeps_Elements = keeps_loop (keeps_made keeps_Slot (λ e h. slot_more (slots no_expressions true) e tt h)) keeps_CommaSlot slot_more

  -- the same between brackets
  keeps_BracketedElements : Keeps L BracketedElements GoodSlots
  unfolding BracketedElements
  keeps_BracketedElements = keeps_behind keeps_token (keeps_before keeps_Elements keeps_token)

  -- an array
  keeps_Array : Keeps L Array Good
  unfolding Array
  keeps_Array = keeps_here keeps_BracketedElements (λ t c h. slots_good c h)

  -- pair = ( IDENT | STRING ) "=" nl expr
  keeps_Pair : Keeps L Pair GoodEntry
  unfolding Pair
  keeps_Pair = keeps_both {U = IsUtf8} (keeps_one (λ t good m. key_text t.kind good m)) (keeps_behind keeps_token (keeps_behind keeps_nl keeps_expr)) (λ k e h g. (h, g))

  -- [pair]
  keeps_MaybePair : Keeps L MaybePair (OfTurn GoodEntry)
  unfolding MaybePair
  keeps_MaybePair = keeps_thing keeps_Pair

  -- {bsep} [ pair { bsep {bsep} pair } {bsep} ]
  keeps_Pairs : Keeps L Pairs GoodEntries
  unfolding Pairs
  keeps_Pairs = keeps_row no_entries keeps_MaybePair tt pair_more

  -- the same between braces
  keeps_BracedPairs : Keeps L BracedPairs GoodEntries
  unfolding BracedPairs
  keeps_BracedPairs = keeps_behind keeps_token (keeps_before keeps_Pairs keeps_token)

  -- a dictionary
  keeps_Dict : Keeps L Dict Good
  unfolding Dict
  keeps_Dict = keeps_here keeps_BracedPairs (λ t es h. h)

  -- "function" params [use] block
  keeps_FunctionFunc : Keeps L FunctionFunc GoodFunction
  unfolding FunctionFunc
  keeps_FunctionFunc = keeps_behind keeps_token keeps_Func

  -- a function
  keeps_FunctionLiteral : Keeps L FunctionLiteral Good
  unfolding FunctionLiteral
  keeps_FunctionLiteral = keeps_here keeps_FunctionFunc (λ t f h. h)

  -- a primary expression
  keeps_Prim : Keeps L Prim Good
  unfolding Prim
  keeps_Prim = keeps_either keeps_Literal (keeps_either keeps_Paren (keeps_either keeps_Array (keeps_either keeps_Dict keeps_FunctionLiteral)))

  -- expr { "," expr }
  keeps_Listed : Keeps L Listed GoodAll
  unfolding Listed
  keeps_Listed = keeps_listed no_expressions keeps_expr tt expression_more

  -- [ expr { "," expr } ]
  keeps_Arguments : Keeps L Arguments GoodAll
  unfolding Arguments
  keeps_Arguments = keeps_maybe keeps_Listed (λ es h. h) tt

  -- a member, an index or arguments
  keeps_OneTail : Keeps L OneTail GoodTail
  unfolding OneTail
  keeps_OneTail =
      keeps_either (keeps_made (keeps_behind keeps_token keeps_IDENT) (λ n h. h))
      (keeps_either (keeps_made (keeps_behind keeps_token (keeps_before keeps_expr keeps_token)) (λ i h. h))
      (keeps_made (keeps_behind keeps_token (keeps_before keeps_Arguments keeps_token)) (λ es h. h)))

  -- a primary expression, with where it begins
  keeps_BegunPrim : Keeps L BegunPrim GoodBegun
  unfolding BegunPrim
  keeps_BegunPrim = keeps_here keeps_Prim (λ t e h. h)

  -- one with tails
  keeps_Postfix : Keeps L Postfix GoodBegun
  unfolding Postfix
  keeps_Postfix = keeps_loop keeps_BegunPrim keeps_OneTail tail_more

  -- one with operators before it
  keeps_Prefixed : Keeps L Prefixed Good
  unfolding Prefixed
  keeps_Prefixed = keeps_either (keeps_both keeps_Prefixes (keeps_made keeps_Postfix begun_good) (λ os e h k. prefixes_good os e k)) (keeps_made keeps_Postfix begun_good)

  -- the same, with where it begins
  keeps_Unary : Keeps L Unary GoodBegun
  unfolding Unary
  keeps_Unary = keeps_here keeps_Prefixed (λ t e h. h)

  -- operands between operators
  keeps_Level : (k : ℕ) → Keeps L (Level k) GoodBegun
  unfolding Level
  keeps_Level zero = keeps_Unary
  keeps_Level (suc k) = keeps_chain (keeps_Level k) (keeps_Operator k) joined_good

  -- an expression that is returned
  keeps_Returned : Keeps L Returned (GoodStatements in_block)
  unfolding Returned
  keeps_Returned = keeps_here (keeps_rec_not keeps_expr (λ e h. h)) (λ t e h. (h, tt))

  -- block | expr
  keeps_LambdaBody : Keeps L LambdaBody (GoodStatements in_block)
  unfolding LambdaBody
  keeps_LambdaBody = keeps_either keeps_block keeps_Returned

  -- params "=>" ( block | expr )
  keeps_LambdaFunc : Keeps L LambdaFunc GoodFunction
  unfolding LambdaFunc
  keeps_LambdaFunc = keeps_both keeps_Params (keeps_behind keeps_token keeps_LambdaBody) (λ ns b h k. (h, tt, k))

  -- a lambda
  keeps_Lambda : Keeps L Lambda Good
  unfolding Lambda
  keeps_Lambda = keeps_here keeps_LambdaFunc (λ t f h. h)

  -- expr = params "=>" ( block | expr ) | level13
  pub keeps_Whole : Keeps L Whole Good
  unfolding Whole
  keeps_Whole = keeps_ahead keeps_Lambda (keeps_made (keeps_Level 11) begun_good)
