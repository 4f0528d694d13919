-- The grammar can be read with a token or two before one's eyes: expressions.
use Rattle.std.proofs.Common.{◌≡◌, ◌≤◌, ℕ, List, [], ◌∷◌, ◌++◌, length, true, false, refl, inl}
use Rattle.dsl_lexer.specs.declared.token.Token.{Token}
use Rattle.dsl_lexer.specs.declared.word.Word.TheVariants as words
use Rattle.dsl_lexer.specs.declared.sign.Sign.TheVariants as signs
use Rattle.dsl_rules.specs.Alphabet.{Sort, same, among}
use Rattle.dsl_syntax.specs.Syntax.{Expression}
use Rattle.dsl_rules.specs.Grammar.{Rules}
use Rattle.dsl_rules.specs.Reading.{Read, got}
use Rattle.dsl_rules.proofs.Shape.{lift, Fits}
use Rattle.dsl_grammar.specs.Codes.{sorts, word_sort, sign_sort, ident_sort}
use Rattle.dsl_grammar.specs.Operators.{level_sorts}
use Rattle.dsl_grammar.specs.Terms.{Name, expr, block, Value, starts, Rule, nl}
use Rattle.dsl_grammar.specs.Grammar.{Names, Params, OneUse, UseNames, UseList, MaybeUse, Func, Valued, LoopHead, Literal, Paren, Slot, CommaSlot, Elements, BracketedElements, Array, Pair, MaybePair, Pairs, BracedPairs, Dict, FunctionFunc, FunctionLiteral, Prim, Listed, Arguments, OneTail, BegunPrim, Postfix, Prefixes, Prefixed, Unary, Returned, LambdaBody, LambdaFunc, Lambda, tail_sorts, begins_define}

-- by which tokens the two names go on
abbrev pub goes : Name → List Sort
goes expr =
    sign_sort signs.Arrow ∷ (tail_sorts ++ (level_sorts 0 ++ (level_sorts 1 ++ (level_sorts 2 ++ (level_sorts 3 ++ (level_sorts 4 ++ (level_sorts 5 ++ (level_sorts 6 ++ (level_sorts 7 ++ (level_sorts 8 ++ (level_sorts 9 ++ level_sorts 10)))))))))))
goes block = []

-- with which token a sentence of each begins
abbrev pub opening : Name → Sort
opening expr = word_sort words.Null
opening block = sign_sort signs.OpenBrace

-- what else is known of expressions: none begins as a definition does, and a name alone is one
pub record Also (n : ℕ) (L : ℕ → Rules Token Name Value) (E : (k : Name) → List Token → Read Token (Value k)) : Type 0 where
  pub undefined : (h : ℕ) (ts : List Token) (e : Expression) (rest : List Token) → L h expr ts e rest → begins_define ts ≡ false
  pub names : (t v : Token) (s : List Token) → same (sorts.sort_of t) ident_sort ≡ true → among (sorts.sort_of v) (sign_sort signs.CloseParen ∷ sign_sort signs.Comma ∷ []) ≡ true → length (t ∷ v ∷ s) ≤ n → (e : Expression) × (E expr (t ∷ v ∷ s) ≡ got e (v ∷ s))

abbrev pub FitsHere : {A : Type 0} → Rule A → Type 1
FitsHere g = Fits sorts Value starts goes opening Also g

pub fits_nl : FitsHere nl
fits_nl = (lift tt, lift (refl, refl), lift (refl, (λ e. absurd cc), refl, (refl, refl), (refl, refl), inl (refl, refl)))

pub fits_Names : FitsHere Names
unfolding Names
fits_Names = (lift (refl, refl), (lift (refl, refl), lift (refl, refl), lift ((refl, refl), refl)), lift (refl, (λ e. absurd cc), refl, (refl, refl), (refl, refl), inl (refl, refl)))

pub fits_Params : FitsHere Params
unfolding Params Names
fits_Params = (lift (refl, refl), ((fits_Names, lift tt, lift (refl, refl)), lift (refl, refl), lift ((refl, refl), refl)), lift ((refl, refl), refl))

pub fits_OneUse : FitsHere OneUse
unfolding OneUse
fits_OneUse = (lift (refl, refl), ((lift (refl, refl), lift tt, lift ((refl, refl), refl)), lift tt, lift (refl, refl)), lift ((refl, refl), refl))

pub fits_UseNames : FitsHere UseNames
unfolding UseNames OneUse
fits_UseNames = (fits_OneUse, (lift (refl, refl), fits_OneUse, lift ((refl, refl), refl)), lift (refl, (λ e. absurd cc), refl, (refl, refl), (refl, refl), inl (refl, refl)))

pub fits_UseList : FitsHere UseList
unfolding UseList UseNames OneUse
fits_UseList = (lift (refl, refl), (lift (refl, refl), (fits_UseNames, lift (refl, refl), lift ((refl, refl), refl)), lift ((refl, refl), refl)), lift ((refl, refl), refl))

pub fits_MaybeUse : FitsHere MaybeUse
unfolding MaybeUse UseList UseNames OneUse
fits_MaybeUse = (fits_UseList, lift tt, lift (refl, refl))

pub fits_Func : FitsHere Func
unfolding Func Params Names MaybeUse UseList UseNames OneUse
fits_Func = (fits_Params, (fits_MaybeUse, lift tt, lift ((refl, refl), refl)), lift ((refl, refl), refl))

pub fits_Valued : FitsHere Valued
unfolding Valued
fits_Valued = ((lift (refl, refl), lift (refl, refl), lift ((refl, refl), refl)), lift tt, lift (refl, refl))

pub fits_LoopHead : FitsHere LoopHead
unfolding LoopHead Valued
fits_LoopHead = (lift (refl, refl), (lift (refl, refl), (fits_Valued, (lift (refl, refl), (lift tt, lift (refl, refl), lift ((refl, refl), refl)), lift ((refl, refl), refl)), lift ((refl, refl), refl)), lift ((refl, refl), refl)), lift ((refl, refl), refl))

pub fits_Literal : FitsHere Literal
unfolding Literal
fits_Literal = lift (refl, refl)

pub fits_Paren : FitsHere Paren
unfolding Paren
fits_Paren = (lift (refl, refl), (lift tt, lift (refl, refl), lift ((refl, refl), refl)), lift ((refl, refl), refl))

pub fits_Slot : FitsHere Slot
unfolding Slot
fits_Slot = (lift tt, lift tt, lift (refl, refl))

pub fits_CommaSlot : FitsHere CommaSlot
unfolding CommaSlot Slot
fits_CommaSlot = (lift (refl, refl), fits_Slot, lift ((refl, refl), refl))

pub fits_Elements : FitsHere Elements
unfolding Elements CommaSlot Slot
fits_Elements = (fits_Slot, fits_CommaSlot, lift (refl, (λ e. absurd cc), refl, (refl, refl), (refl, refl), inl (refl, refl)))

pub fits_BracketedElements : FitsHere BracketedElements
unfolding BracketedElements Elements CommaSlot Slot
fits_BracketedElements = (lift (refl, refl), (fits_Elements, lift (refl, refl), lift ((refl, refl), refl)), lift ((refl, refl), refl))

pub fits_Array : FitsHere Array
unfolding Array BracketedElements Elements CommaSlot Slot
fits_Array = (fits_BracketedElements, lift refl)

pub fits_Pair : FitsHere Pair
unfolding Pair
fits_Pair = (lift (refl, refl), (lift (refl, refl), (fits_nl, lift tt, lift ((refl, refl), refl)), lift ((refl, refl), refl)), lift ((refl, refl), refl))

pub fits_MaybePair : FitsHere MaybePair
unfolding MaybePair Pair
fits_MaybePair = (fits_Pair, lift tt, lift (refl, refl))

pub fits_Pairs : FitsHere Pairs
unfolding Pairs MaybePair Pair
fits_Pairs = (fits_MaybePair, (lift (refl, refl), fits_MaybePair, lift ((refl, refl), refl)), lift (refl, (λ e. absurd cc), refl, (refl, refl), (refl, refl), inl (refl, refl)))

pub fits_BracedPairs : FitsHere BracedPairs
unfolding BracedPairs Pairs MaybePair Pair
fits_BracedPairs = (lift (refl, refl), (fits_Pairs, lift (refl, refl), lift ((refl, refl), refl)), lift ((refl, refl), refl))

pub fits_Dict : FitsHere Dict
unfolding Dict BracedPairs Pairs MaybePair Pair
fits_Dict = (fits_BracedPairs, lift refl)

pub fits_FunctionFunc : FitsHere FunctionFunc
unfolding FunctionFunc Func Params Names MaybeUse UseList UseNames OneUse
fits_FunctionFunc = (lift (refl, refl), fits_Func, lift ((refl, refl), refl))

pub fits_FunctionLiteral : FitsHere FunctionLiteral
unfolding FunctionLiteral FunctionFunc Func Params Names MaybeUse UseList UseNames OneUse
fits_FunctionLiteral = (fits_FunctionFunc, lift refl)

pub fits_Prim : FitsHere Prim
unfolding Prim Literal Paren Array BracketedElements Elements CommaSlot Slot Dict BracedPairs Pairs MaybePair Pair FunctionLiteral FunctionFunc Func Params Names MaybeUse UseList UseNames OneUse
fits_Prim = (fits_Literal, (fits_Paren, (fits_Array, (fits_Dict, fits_FunctionLiteral, lift (refl, refl)), lift (refl, refl)), lift (refl, refl)), lift (refl, refl))

pub fits_Listed : FitsHere Listed
unfolding Listed
fits_Listed = (lift tt, (lift (refl, refl), lift tt, lift ((refl, refl), refl)), lift (refl, (λ e. absurd cc), refl, (refl, refl), (refl, refl), inl (refl, refl)))

pub fits_Arguments : FitsHere Arguments
unfolding Arguments Listed
fits_Arguments = (fits_Listed, lift tt, lift (refl, refl))

pub fits_OneTail : FitsHere OneTail
unfolding OneTail Arguments Listed
fits_OneTail = ((lift (refl, refl), lift (refl, refl), lift ((refl, refl), refl)), ((lift (refl, refl), (lift tt, lift (refl, refl), lift ((refl, refl), refl)), lift ((refl, refl), refl)), (lift (refl, refl), (fits_Arguments, lift (refl, refl), lift ((refl, refl), refl)), lift ((refl, refl), refl)), lift (refl, refl)), lift (refl, refl))

pub fits_BegunPrim : FitsHere BegunPrim
unfolding BegunPrim Prim Literal Paren Array BracketedElements Elements CommaSlot Slot Dict BracedPairs Pairs MaybePair Pair FunctionLiteral FunctionFunc Func Params Names MaybeUse UseList UseNames OneUse
fits_BegunPrim = (fits_Prim, lift refl)

pub fits_Postfix : FitsHere Postfix
unfolding Postfix BegunPrim Prim Literal Paren Array BracketedElements Elements CommaSlot Slot Dict BracedPairs Pairs MaybePair Pair FunctionLiteral FunctionFunc Func Params Names MaybeUse UseList UseNames OneUse OneTail Arguments Listed
fits_Postfix = (fits_BegunPrim, fits_OneTail, lift (refl, (λ e. absurd cc), refl, (refl, refl), (refl, refl), inl (refl, refl)))

pub fits_Prefixes : FitsHere Prefixes
unfolding Prefixes
fits_Prefixes = (lift (refl, refl), lift (refl, refl), lift (refl, (λ e. absurd cc), refl, (refl, refl), (refl, refl), inl (refl, refl)))

pub fits_Prefixed : FitsHere Prefixed
unfolding Prefixed Prefixes Postfix BegunPrim Prim Literal Paren Array BracketedElements Elements CommaSlot Slot Dict BracedPairs Pairs MaybePair Pair FunctionLiteral FunctionFunc Func Params Names MaybeUse UseList UseNames OneUse OneTail Arguments Listed
fits_Prefixed = ((fits_Prefixes, fits_Postfix, lift ((refl, refl), refl)), fits_Postfix, lift (refl, refl))

pub fits_Unary : FitsHere Unary
unfolding Unary Prefixed Prefixes Postfix BegunPrim Prim Literal Paren Array BracketedElements Elements CommaSlot Slot Dict BracedPairs Pairs MaybePair Pair FunctionLiteral FunctionFunc Func Params Names MaybeUse UseList UseNames OneUse OneTail Arguments Listed
fits_Unary = (fits_Prefixed, lift refl)

pub fits_Returned : FitsHere Returned
unfolding Returned
fits_Returned = (lift (refl, refl), lift refl)

pub fits_LambdaBody : FitsHere LambdaBody
unfolding LambdaBody Returned
fits_LambdaBody = (lift tt, fits_Returned, lift (refl, refl))

pub fits_LambdaFunc : FitsHere LambdaFunc
unfolding LambdaFunc Params Names LambdaBody Returned
fits_LambdaFunc = (fits_Params, (lift (refl, refl), fits_LambdaBody, lift ((refl, refl), refl)), lift ((refl, refl), refl))

pub fits_Lambda : FitsHere Lambda
unfolding Lambda LambdaFunc Params Names LambdaBody Returned
fits_Lambda = (fits_LambdaFunc, lift refl)
