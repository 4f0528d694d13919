-- The grammar can be read with a token or two before one's eyes: statements.
use Rattle.std.proofs.Common.{◌≡◌, ℕ, List, ◌∷◌, true, false, refl, sym, subst, inl, inr}
use Rattle.dsl_lexer.specs.declared.token.Token.{Token}
use Rattle.dsl_rules.specs.Alphabet.{Sort, same, among}
use Rattle.dsl_rules.specs.Grammar.{one, always}
use Rattle.dsl_rules.specs.Reading.{Read, got, first, read}
use Rattle.dsl_rules.proofs.Shape.{lift, Lines}
use Rattle.dsl_grammar.specs.Codes.{sorts}
use Rattle.dsl_grammar.specs.Terms.{Name, Value, starts, Rule, sep, bsep, Turn, nothing, behind}
use Rattle.dsl_grammar.specs.Grammar.{AngledName, AnyHead, AnyStatement, ApplyHeads, ApplyName, ApplyStatement, AssignStatement, BlockStatements, Body, BodyKind, BodyStatement, BodyStatements, Braced, Choices, Common, ConstStatement, Dashed, Define, DefineOrSet, Else, ElseIf, FileStatements, FirstChoice, ForStatement, Func, Guarded, HeadedBody, IfStatement, IgnoreStatement, ImportStatement, Included, IncludedAll, Inclusion, Kind, LibraryName, LocatedString, LoopHead, MaybeBodyStatement, MaybeStatement, MaybeTop, MaybeUse, NamedBody, Names, ObjectStatement, OneUse, Params, Prim, ReturnStatement, SetOrEval, SetTo, Slot, TemplateStatement, ThrowStatement, Top, TopKind, UseBody, UseList, UseNames, Valued, VarStatement, WhileStatement}
use Rattle.dsl_rules.proofs.Basics.{among_is, same_is}
use Rattle.dsl_syntax.specs.Syntax.{Statement}
use Rattle.dsl_grammar.proofs.Fitting.{goes, opening, FitsHere, fits_nl, fits_Func, fits_LoopHead, fits_MaybeUse, fits_Slot}
use Rattle.dsl_grammar.proofs.Defining.{tells}

-- a newline is a turn by itself where another stands behind it
pub row_lines : {C : Type 0} (seps : List Sort) (g : Rule (Turn Statement)) → among sorts.line seps ≡ true → ((m : ℕ) (E : (k : Name) → List Token → Read Token (Value k)) (u : Token) (ts : List Token) → same (sorts.sort_of u) sorts.line ≡ true → (y : Turn Statement) × (read sorts starts m E g (u ∷ ts) ≡ got y (u ∷ ts))) → Lines sorts Value starts goes opening seps (λ l. (c : C) → always c l ≡ true) (behind (one seps (λ t. t.place)) g)
row_lines seps g h none = (h, λ c. refl, λ m E t u ts e e'. let y = none m E u ts e' in (y.0, rw (among_is (sorts.sort_of t) sorts.line seps e h, y.1) refl))

pub fits_SetTo : FitsHere SetTo
unfolding SetTo
fits_SetTo = (lift (refl, refl), (fits_nl, lift tt, lift ((refl, refl), refl)), lift ((refl, refl), refl))

pub fits_SetOrEval : FitsHere SetOrEval
unfolding SetOrEval SetTo
fits_SetOrEval = ((lift tt, lift refl), fits_SetTo, lift (refl, (λ e. absurd cc), refl, (refl, refl), (refl, refl), inl (refl, refl)))

pub fits_VarStatement : FitsHere VarStatement
unfolding VarStatement
fits_VarStatement = (lift (refl, refl), (lift (refl, refl), ((lift (refl, refl), (fits_nl, lift tt, lift ((refl, refl), refl)), lift ((refl, refl), refl)), lift tt, lift (refl, refl)), lift ((refl, refl), refl)), lift ((refl, refl), refl))

pub fits_Guarded : FitsHere Guarded
unfolding Guarded
fits_Guarded = ((lift (refl, refl), (lift tt, lift (refl, refl), lift ((refl, refl), refl)), lift ((refl, refl), refl)), lift tt, lift ((refl, refl), refl))

pub fits_ElseIf : FitsHere ElseIf
unfolding ElseIf Guarded
fits_ElseIf = (lift (refl, refl), fits_Guarded, lift ((refl, refl), refl))

pub fits_Else : FitsHere Else
unfolding Else ElseIf Guarded
fits_Else = (lift (refl, refl), (fits_ElseIf, lift tt, lift (refl, refl)), lift ((refl, refl), refl))

pub fits_FirstChoice : FitsHere FirstChoice
unfolding FirstChoice Guarded
fits_FirstChoice = (lift (refl, refl), fits_Guarded, lift ((refl, refl), refl))

pub fits_Choices : FitsHere Choices
unfolding Choices FirstChoice Guarded Else ElseIf
fits_Choices = (fits_FirstChoice, fits_Else, lift (refl, (λ e. (refl, refl)), refl, (refl, refl), (refl, refl), inl (refl, refl)))

pub fits_IfStatement : FitsHere IfStatement
unfolding IfStatement Choices FirstChoice Guarded Else ElseIf
fits_IfStatement = fits_Choices

pub fits_WhileStatement : FitsHere WhileStatement
unfolding WhileStatement Guarded
fits_WhileStatement = (lift (refl, refl), fits_Guarded, lift ((refl, refl), refl))

pub fits_ForStatement : FitsHere ForStatement
unfolding ForStatement LoopHead Valued
fits_ForStatement = (lift (refl, refl), (fits_LoopHead, lift tt, lift ((refl, refl), refl)), lift ((refl, refl), refl))

pub fits_Define : FitsHere Define
unfolding Define Func Params Names MaybeUse UseList UseNames OneUse
fits_Define = (lift (refl, refl), (lift (refl, refl), fits_Func, lift ((refl, refl), refl)), lift ((refl, refl), refl))

pub fits_ReturnStatement : FitsHere ReturnStatement
unfolding ReturnStatement Slot
fits_ReturnStatement = (lift (refl, refl), fits_Slot, lift ((refl, refl), refl))

pub fits_ImportStatement : FitsHere ImportStatement
unfolding ImportStatement
fits_ImportStatement = (lift (refl, refl), lift tt, lift ((refl, refl), refl))

pub fits_ThrowStatement : FitsHere ThrowStatement
unfolding ThrowStatement
fits_ThrowStatement = (lift (refl, refl), lift tt, lift ((refl, refl), refl))

pub fits_DefineOrSet : FitsHere DefineOrSet
unfolding DefineOrSet
fits_DefineOrSet = (fits_Define, fits_SetOrEval, tells)

pub fits_Common : FitsHere Common
unfolding Common VarStatement ImportStatement IfStatement Choices FirstChoice Guarded Else ElseIf WhileStatement ForStatement LoopHead Valued ReturnStatement Slot ThrowStatement DefineOrSet Define Func Params Names MaybeUse UseList UseNames OneUse SetOrEval SetTo
fits_Common = (fits_VarStatement, (fits_ImportStatement, (fits_IfStatement, (fits_WhileStatement, (fits_ForStatement, (fits_ReturnStatement, (lift (refl, refl), (lift (refl, refl), (fits_ThrowStatement, fits_DefineOrSet, lift (refl, refl)), lift (refl, refl)), lift (refl, refl)), lift (refl, refl)), lift (refl, refl)), lift (refl, refl)), lift (refl, refl)), lift (refl, refl)), lift (refl, refl))

pub fits_AssignStatement : FitsHere AssignStatement
unfolding AssignStatement
fits_AssignStatement = (lift (refl, refl), (lift (refl, refl), lift tt, lift ((refl, refl), refl)), lift ((refl, refl), refl))

pub fits_IgnoreStatement : FitsHere IgnoreStatement
unfolding IgnoreStatement
fits_IgnoreStatement = (lift (refl, refl), (lift (refl, refl), lift tt, lift ((refl, refl), refl)), lift ((refl, refl), refl))

pub fits_BodyKind : FitsHere BodyKind
unfolding BodyKind AssignStatement IgnoreStatement Common VarStatement ImportStatement IfStatement Choices FirstChoice Guarded Else ElseIf WhileStatement ForStatement LoopHead Valued ReturnStatement Slot ThrowStatement DefineOrSet Define Func Params Names MaybeUse UseList UseNames OneUse SetOrEval SetTo
fits_BodyKind = (fits_AssignStatement, (fits_IgnoreStatement, fits_Common, lift (refl, refl)), lift (refl, refl))

pub fits_BodyStatement : FitsHere BodyStatement
unfolding BodyStatement BodyKind AssignStatement IgnoreStatement Common VarStatement ImportStatement IfStatement Choices FirstChoice Guarded Else ElseIf WhileStatement ForStatement LoopHead Valued ReturnStatement Slot ThrowStatement DefineOrSet Define Func Params Names MaybeUse UseList UseNames OneUse SetOrEval SetTo
fits_BodyStatement = (fits_BodyKind, lift refl)

line_BodyStatement : among sorts.line (first sorts starts false BodyStatement) ≡ false
unfolding BodyStatement BodyKind AssignStatement IgnoreStatement Common VarStatement ImportStatement IfStatement Choices FirstChoice Guarded Else ElseIf WhileStatement ForStatement LoopHead Valued ReturnStatement Slot ThrowStatement DefineOrSet Define Func Params Names MaybeUse UseList UseNames OneUse SetOrEval SetTo
line_BodyStatement = refl

pub fits_MaybeBodyStatement : FitsHere MaybeBodyStatement
unfolding MaybeBodyStatement BodyStatement BodyKind AssignStatement IgnoreStatement Common VarStatement ImportStatement IfStatement Choices FirstChoice Guarded Else ElseIf WhileStatement ForStatement LoopHead Valued ReturnStatement Slot ThrowStatement DefineOrSet Define Func Params Names MaybeUse UseList UseNames OneUse SetOrEval SetTo
fits_MaybeBodyStatement = (fits_BodyStatement, lift tt, lift (refl, refl))

none_MaybeBodyStatement : (m : ℕ) (E : (k : Name) → List Token → Read Token (Value k)) (u : Token) (ts : List Token) → same (sorts.sort_of u) sorts.line ≡ true → (y : Turn Statement) × (read sorts starts m E MaybeBodyStatement (u ∷ ts) ≡ got y (u ∷ ts))
unfolding MaybeBodyStatement
none_MaybeBodyStatement m E u ts e = (nothing, rw (off) refl)
  where
    off : among (sorts.sort_of u) (first sorts starts false BodyStatement) ≡ false
    off = subst (λ z. among z (first sorts starts false BodyStatement) ≡ false) (sym (same_is (sorts.sort_of u) sorts.line e)) (line_BodyStatement)

pub fits_BodyStatements : FitsHere BodyStatements
unfolding BodyStatements MaybeBodyStatement BodyStatement BodyKind AssignStatement IgnoreStatement Common VarStatement ImportStatement IfStatement Choices FirstChoice Guarded Else ElseIf WhileStatement ForStatement LoopHead Valued ReturnStatement Slot ThrowStatement DefineOrSet Define Func Params Names MaybeUse UseList UseNames OneUse SetOrEval SetTo
fits_BodyStatements = (fits_MaybeBodyStatement, (lift (refl, refl), fits_MaybeBodyStatement, lift ((refl, refl), refl)), lift (refl, (λ e. absurd cc), refl, (refl, refl), (refl, refl), inr (refl, row_lines bsep MaybeBodyStatement refl (none_MaybeBodyStatement))))

pub fits_Body : FitsHere Body
unfolding Body BodyStatements MaybeBodyStatement BodyStatement BodyKind AssignStatement IgnoreStatement Common VarStatement ImportStatement IfStatement Choices FirstChoice Guarded Else ElseIf WhileStatement ForStatement LoopHead Valued ReturnStatement Slot ThrowStatement DefineOrSet Define Func Params Names MaybeUse UseList UseNames OneUse SetOrEval SetTo
fits_Body = (lift (refl, refl), (fits_BodyStatements, lift (refl, refl), lift ((refl, refl), refl)), lift ((refl, refl), refl))

pub fits_UseBody : FitsHere UseBody
unfolding UseBody MaybeUse UseList UseNames OneUse Body BodyStatements MaybeBodyStatement BodyStatement BodyKind AssignStatement IgnoreStatement Common VarStatement ImportStatement IfStatement Choices FirstChoice Guarded Else ElseIf WhileStatement ForStatement LoopHead Valued ReturnStatement Slot ThrowStatement DefineOrSet Define Func Params Names SetOrEval SetTo
fits_UseBody = (fits_MaybeUse, fits_Body, lift ((refl, refl), refl))

pub fits_NamedBody : FitsHere NamedBody
unfolding NamedBody UseBody MaybeUse UseList UseNames OneUse Body BodyStatements MaybeBodyStatement BodyStatement BodyKind AssignStatement IgnoreStatement Common VarStatement ImportStatement IfStatement Choices FirstChoice Guarded Else ElseIf WhileStatement ForStatement LoopHead Valued ReturnStatement Slot ThrowStatement DefineOrSet Define Func Params Names SetOrEval SetTo
fits_NamedBody = (lift (refl, refl), (lift tt, fits_UseBody, lift ((refl, refl), refl)), lift ((refl, refl), refl))

pub fits_AnyHead : FitsHere AnyHead
unfolding AnyHead LoopHead Valued
fits_AnyHead = ((lift (refl, refl), lift (refl, refl), lift ((refl, refl), refl)), (lift (refl, refl), fits_LoopHead, lift ((refl, refl), refl)), lift (refl, refl))

pub fits_ApplyHeads : FitsHere ApplyHeads
unfolding ApplyHeads AnyHead LoopHead Valued
fits_ApplyHeads = (lift tt, fits_AnyHead, lift (refl, (λ e. absurd cc), refl, (refl, refl), (refl, refl), inl (refl, refl)))

pub fits_ApplyName : FitsHere ApplyName
unfolding ApplyName
fits_ApplyName = (lift (refl, refl), lift tt, lift (refl, refl))

pub fits_HeadedBody : FitsHere HeadedBody
unfolding HeadedBody ApplyHeads AnyHead LoopHead Valued UseBody MaybeUse UseList UseNames OneUse Body BodyStatements MaybeBodyStatement BodyStatement BodyKind AssignStatement IgnoreStatement Common VarStatement ImportStatement IfStatement Choices FirstChoice Guarded Else ElseIf WhileStatement ForStatement ReturnStatement Slot ThrowStatement DefineOrSet Define Func Params Names SetOrEval SetTo
fits_HeadedBody = (fits_ApplyHeads, fits_UseBody, lift ((refl, refl), refl))

pub fits_ApplyStatement : FitsHere ApplyStatement
unfolding ApplyStatement ApplyName HeadedBody ApplyHeads AnyHead LoopHead Valued UseBody MaybeUse UseList UseNames OneUse Body BodyStatements MaybeBodyStatement BodyStatement BodyKind AssignStatement IgnoreStatement Common VarStatement ImportStatement IfStatement Choices FirstChoice Guarded Else ElseIf WhileStatement ForStatement ReturnStatement Slot ThrowStatement DefineOrSet Define Func Params Names SetOrEval SetTo
fits_ApplyStatement = (lift (refl, refl), (lift (refl, refl), (fits_ApplyName, fits_HeadedBody, lift ((refl, refl), refl)), lift ((refl, refl), refl)), lift ((refl, refl), refl))

pub fits_ConstStatement : FitsHere ConstStatement
unfolding ConstStatement
fits_ConstStatement = (lift (refl, refl), (lift (refl, refl), (lift (refl, refl), (fits_nl, lift tt, lift ((refl, refl), refl)), lift ((refl, refl), refl)), lift ((refl, refl), refl)), lift ((refl, refl), refl))

pub fits_ObjectStatement : FitsHere ObjectStatement
unfolding ObjectStatement NamedBody UseBody MaybeUse UseList UseNames OneUse Body BodyStatements MaybeBodyStatement BodyStatement BodyKind AssignStatement IgnoreStatement Common VarStatement ImportStatement IfStatement Choices FirstChoice Guarded Else ElseIf WhileStatement ForStatement LoopHead Valued ReturnStatement Slot ThrowStatement DefineOrSet Define Func Params Names SetOrEval SetTo
fits_ObjectStatement = (lift (refl, refl), fits_NamedBody, lift ((refl, refl), refl))

pub fits_TemplateStatement : FitsHere TemplateStatement
unfolding TemplateStatement NamedBody UseBody MaybeUse UseList UseNames OneUse Body BodyStatements MaybeBodyStatement BodyStatement BodyKind AssignStatement IgnoreStatement Common VarStatement ImportStatement IfStatement Choices FirstChoice Guarded Else ElseIf WhileStatement ForStatement LoopHead Valued ReturnStatement Slot ThrowStatement DefineOrSet Define Func Params Names SetOrEval SetTo
fits_TemplateStatement = (lift (refl, refl), fits_NamedBody, lift ((refl, refl), refl))

pub fits_Kind : FitsHere Kind
unfolding Kind ObjectStatement NamedBody UseBody MaybeUse UseList UseNames OneUse Body BodyStatements MaybeBodyStatement BodyStatement BodyKind AssignStatement IgnoreStatement Common VarStatement ImportStatement IfStatement Choices FirstChoice Guarded Else ElseIf WhileStatement ForStatement LoopHead Valued ReturnStatement Slot ThrowStatement DefineOrSet Define Func Params Names SetOrEval SetTo TemplateStatement ApplyStatement ApplyName HeadedBody ApplyHeads AnyHead ConstStatement
fits_Kind = (fits_ObjectStatement, (fits_TemplateStatement, (fits_ApplyStatement, (fits_ConstStatement, fits_Common, lift (refl, refl)), lift (refl, refl)), lift (refl, refl)), lift (refl, refl))

pub fits_AnyStatement : FitsHere AnyStatement
unfolding AnyStatement Kind ObjectStatement NamedBody UseBody MaybeUse UseList UseNames OneUse Body BodyStatements MaybeBodyStatement BodyStatement BodyKind AssignStatement IgnoreStatement Common VarStatement ImportStatement IfStatement Choices FirstChoice Guarded Else ElseIf WhileStatement ForStatement LoopHead Valued ReturnStatement Slot ThrowStatement DefineOrSet Define Func Params Names SetOrEval SetTo TemplateStatement ApplyStatement ApplyName HeadedBody ApplyHeads AnyHead ConstStatement
fits_AnyStatement = (fits_Kind, lift refl)

line_AnyStatement : among sorts.line (first sorts starts false AnyStatement) ≡ false
unfolding AnyStatement Kind ObjectStatement NamedBody UseBody MaybeUse UseList UseNames OneUse Body BodyStatements MaybeBodyStatement BodyStatement BodyKind AssignStatement IgnoreStatement Common VarStatement ImportStatement IfStatement Choices FirstChoice Guarded Else ElseIf WhileStatement ForStatement LoopHead Valued ReturnStatement Slot ThrowStatement DefineOrSet Define Func Params Names SetOrEval SetTo TemplateStatement ApplyStatement ApplyName HeadedBody ApplyHeads AnyHead ConstStatement
line_AnyStatement = refl

pub fits_MaybeStatement : FitsHere MaybeStatement
unfolding MaybeStatement AnyStatement Kind ObjectStatement NamedBody UseBody MaybeUse UseList UseNames OneUse Body BodyStatements MaybeBodyStatement BodyStatement BodyKind AssignStatement IgnoreStatement Common VarStatement ImportStatement IfStatement Choices FirstChoice Guarded Else ElseIf WhileStatement ForStatement LoopHead Valued ReturnStatement Slot ThrowStatement DefineOrSet Define Func Params Names SetOrEval SetTo TemplateStatement ApplyStatement ApplyName HeadedBody ApplyHeads AnyHead ConstStatement
fits_MaybeStatement = (fits_AnyStatement, lift tt, lift (refl, refl))

none_MaybeStatement : (m : ℕ) (E : (k : Name) → List Token → Read Token (Value k)) (u : Token) (ts : List Token) → same (sorts.sort_of u) sorts.line ≡ true → (y : Turn Statement) × (read sorts starts m E MaybeStatement (u ∷ ts) ≡ got y (u ∷ ts))
unfolding MaybeStatement
none_MaybeStatement m E u ts e = (nothing, rw (off) refl)
  where
    off : among (sorts.sort_of u) (first sorts starts false AnyStatement) ≡ false
    off = subst (λ z. among z (first sorts starts false AnyStatement) ≡ false) (sym (same_is (sorts.sort_of u) sorts.line e)) (line_AnyStatement)

pub fits_BlockStatements : FitsHere BlockStatements
unfolding BlockStatements MaybeStatement AnyStatement Kind ObjectStatement NamedBody UseBody MaybeUse UseList UseNames OneUse Body BodyStatements MaybeBodyStatement BodyStatement BodyKind AssignStatement IgnoreStatement Common VarStatement ImportStatement IfStatement Choices FirstChoice Guarded Else ElseIf WhileStatement ForStatement LoopHead Valued ReturnStatement Slot ThrowStatement DefineOrSet Define Func Params Names SetOrEval SetTo TemplateStatement ApplyStatement ApplyName HeadedBody ApplyHeads AnyHead ConstStatement
fits_BlockStatements = (fits_MaybeStatement, (lift (refl, refl), fits_MaybeStatement, lift ((refl, refl), refl)), lift (refl, (λ e. absurd cc), refl, (refl, refl), (refl, refl), inr (refl, row_lines sep MaybeStatement refl (none_MaybeStatement))))

pub fits_Braced : FitsHere Braced
unfolding Braced BlockStatements MaybeStatement AnyStatement Kind ObjectStatement NamedBody UseBody MaybeUse UseList UseNames OneUse Body BodyStatements MaybeBodyStatement BodyStatement BodyKind AssignStatement IgnoreStatement Common VarStatement ImportStatement IfStatement Choices FirstChoice Guarded Else ElseIf WhileStatement ForStatement LoopHead Valued ReturnStatement Slot ThrowStatement DefineOrSet Define Func Params Names SetOrEval SetTo TemplateStatement ApplyStatement ApplyName HeadedBody ApplyHeads AnyHead ConstStatement
fits_Braced = (lift (refl, refl), (fits_BlockStatements, lift (refl, refl), lift ((refl, refl), refl)), lift ((refl, refl), refl))

pub fits_Dashed : FitsHere Dashed
unfolding Dashed
fits_Dashed = (lift (refl, refl), (lift (refl, refl), lift (refl, refl), lift ((refl, refl), refl)), lift (refl, (λ e. absurd cc), refl, (refl, refl), (refl, refl), inl (refl, refl)))

pub fits_AngledName : FitsHere AngledName
unfolding AngledName Dashed
fits_AngledName = (lift (refl, refl), (fits_Dashed, lift (refl, refl), lift ((refl, refl), refl)), lift ((refl, refl), refl))

pub fits_LibraryName : FitsHere LibraryName
unfolding LibraryName AngledName Dashed
fits_LibraryName = (fits_AngledName, lift refl)

pub fits_LocatedString : FitsHere LocatedString
unfolding LocatedString
fits_LocatedString = lift (refl, refl)

pub fits_Included : FitsHere Included
unfolding Included LocatedString LibraryName AngledName Dashed
fits_Included = (lift (refl, refl), (fits_LocatedString, fits_LibraryName, lift (refl, refl)), lift ((refl, refl), refl))

pub fits_IncludedAll : FitsHere IncludedAll
unfolding IncludedAll LocatedString
fits_IncludedAll = (lift (refl, refl), (fits_LocatedString, ((lift (refl, refl), lift (refl, refl), lift ((refl, refl), refl)), lift tt, lift (refl, refl)), lift ((refl, refl), refl)), lift ((refl, refl), refl))

pub fits_Inclusion : FitsHere Inclusion
unfolding Inclusion Included LocatedString LibraryName AngledName Dashed IncludedAll
fits_Inclusion = (fits_Included, fits_IncludedAll, lift (refl, refl))

pub fits_TopKind : FitsHere TopKind
unfolding TopKind Inclusion Included LocatedString LibraryName AngledName Dashed IncludedAll Kind ObjectStatement NamedBody UseBody MaybeUse UseList UseNames OneUse Body BodyStatements MaybeBodyStatement BodyStatement BodyKind AssignStatement IgnoreStatement Common VarStatement ImportStatement IfStatement Choices FirstChoice Guarded Else ElseIf WhileStatement ForStatement LoopHead Valued ReturnStatement Slot ThrowStatement DefineOrSet Define Func Params Names SetOrEval SetTo TemplateStatement ApplyStatement ApplyName HeadedBody ApplyHeads AnyHead ConstStatement
fits_TopKind = (fits_Inclusion, fits_Kind, lift (refl, refl))

pub fits_Top : FitsHere Top
unfolding Top TopKind Inclusion Included LocatedString LibraryName AngledName Dashed IncludedAll Kind ObjectStatement NamedBody UseBody MaybeUse UseList UseNames OneUse Body BodyStatements MaybeBodyStatement BodyStatement BodyKind AssignStatement IgnoreStatement Common VarStatement ImportStatement IfStatement Choices FirstChoice Guarded Else ElseIf WhileStatement ForStatement LoopHead Valued ReturnStatement Slot ThrowStatement DefineOrSet Define Func Params Names SetOrEval SetTo TemplateStatement ApplyStatement ApplyName HeadedBody ApplyHeads AnyHead ConstStatement
fits_Top = (fits_TopKind, lift refl)

line_Top : among sorts.line (first sorts starts false Top) ≡ false
unfolding Top TopKind Inclusion Included LocatedString LibraryName AngledName Dashed IncludedAll Kind ObjectStatement NamedBody UseBody MaybeUse UseList UseNames OneUse Body BodyStatements MaybeBodyStatement BodyStatement BodyKind AssignStatement IgnoreStatement Common VarStatement ImportStatement IfStatement Choices FirstChoice Guarded Else ElseIf WhileStatement ForStatement LoopHead Valued ReturnStatement Slot ThrowStatement DefineOrSet Define Func Params Names SetOrEval SetTo TemplateStatement ApplyStatement ApplyName HeadedBody ApplyHeads AnyHead ConstStatement
line_Top = refl

pub fits_MaybeTop : FitsHere MaybeTop
unfolding MaybeTop Top TopKind Inclusion Included LocatedString LibraryName AngledName Dashed IncludedAll Kind ObjectStatement NamedBody UseBody MaybeUse UseList UseNames OneUse Body BodyStatements MaybeBodyStatement BodyStatement BodyKind AssignStatement IgnoreStatement Common VarStatement ImportStatement IfStatement Choices FirstChoice Guarded Else ElseIf WhileStatement ForStatement LoopHead Valued ReturnStatement Slot ThrowStatement DefineOrSet Define Func Params Names SetOrEval SetTo TemplateStatement ApplyStatement ApplyName HeadedBody ApplyHeads AnyHead ConstStatement
fits_MaybeTop = (fits_Top, lift tt, lift (refl, refl))

none_MaybeTop : (m : ℕ) (E : (k : Name) → List Token → Read Token (Value k)) (u : Token) (ts : List Token) → same (sorts.sort_of u) sorts.line ≡ true → (y : Turn Statement) × (read sorts starts m E MaybeTop (u ∷ ts) ≡ got y (u ∷ ts))
unfolding MaybeTop
none_MaybeTop m E u ts e = (nothing, rw (off) refl)
  where
    off : among (sorts.sort_of u) (first sorts starts false Top) ≡ false
    off = subst (λ z. among z (first sorts starts false Top) ≡ false) (sym (same_is (sorts.sort_of u) sorts.line e)) (line_Top)

pub fits_FileStatements : FitsHere FileStatements
unfolding FileStatements MaybeTop Top TopKind Inclusion Included LocatedString LibraryName AngledName Dashed IncludedAll Kind ObjectStatement NamedBody UseBody MaybeUse UseList UseNames OneUse Body BodyStatements MaybeBodyStatement BodyStatement BodyKind AssignStatement IgnoreStatement Common VarStatement ImportStatement IfStatement Choices FirstChoice Guarded Else ElseIf WhileStatement ForStatement LoopHead Valued ReturnStatement Slot ThrowStatement DefineOrSet Define Func Params Names SetOrEval SetTo TemplateStatement ApplyStatement ApplyName HeadedBody ApplyHeads AnyHead ConstStatement
fits_FileStatements = (fits_MaybeTop, (lift (refl, refl), fits_MaybeTop, lift ((refl, refl), refl)), lift (refl, (λ e. absurd cc), refl, (refl, refl), (refl, refl), inr (refl, row_lines sep MaybeTop refl (none_MaybeTop))))
