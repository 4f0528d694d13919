-- With which tokens things in a row begin.
use Rattle.std.proofs.Common.{◌≡◌, [], ◌∷◌, false, refl}
use Rattle.dsl_rules.specs.Reading.{first}
use Rattle.dsl_grammar.specs.Codes.{sorts, ident_sort, string_sort}
use Rattle.dsl_grammar.specs.Terms.{starts}
use Rattle.dsl_grammar.specs.Grammar.{AngledName, AnyHead, AnyStatement, ApplyHeads, ApplyName, ApplyStatement, AssignStatement, Body, BodyKind, BodyStatement, BodyStatements, Common, ConstStatement, Dashed, Define, DefineOrSet, Else, ForStatement, Func, Guarded, HeadedBody, IfStatement, IgnoreStatement, ImportStatement, Included, IncludedAll, Inclusion, Kind, LibraryName, LocatedString, LoopHead, MaybeBodyStatement, MaybeUse, NamedBody, Names, ObjectStatement, OneUse, Pair, Params, Prim, ReturnStatement, SetOrEval, SetTo, Slot, TemplateStatement, ThrowStatement, Top, TopKind, UseBody, UseList, UseNames, Valued, VarStatement, WhileStatement, body_sorts, statement_sorts, top_sorts, Choices, FirstChoice, ElseIf}

pub first_Pair : first sorts starts false Pair ≡ ident_sort ∷ string_sort ∷ []
unfolding Pair
first_Pair = refl

pub first_BodyStatement : first sorts starts false BodyStatement ≡ body_sorts
unfolding BodyStatement BodyKind AssignStatement IgnoreStatement Common VarStatement ImportStatement IfStatement Choices FirstChoice ElseIf Else Guarded WhileStatement ForStatement LoopHead Valued ReturnStatement Slot ThrowStatement DefineOrSet Define Func Params Names MaybeUse UseList UseNames OneUse SetOrEval SetTo
first_BodyStatement = refl

pub first_AnyStatement : first sorts starts false AnyStatement ≡ statement_sorts
unfolding AnyStatement Kind ObjectStatement NamedBody UseBody MaybeUse UseList UseNames OneUse Body BodyStatements MaybeBodyStatement BodyStatement BodyKind AssignStatement IgnoreStatement Common VarStatement ImportStatement IfStatement Choices FirstChoice ElseIf Else Guarded WhileStatement ForStatement LoopHead Valued ReturnStatement Slot ThrowStatement DefineOrSet Define Func Params Names SetOrEval SetTo TemplateStatement ApplyStatement ApplyName HeadedBody ApplyHeads AnyHead ConstStatement
first_AnyStatement = refl

pub first_Top : first sorts starts false Top ≡ top_sorts
unfolding Top TopKind Inclusion Included LocatedString LibraryName AngledName Dashed IncludedAll Kind ObjectStatement NamedBody UseBody MaybeUse UseList UseNames OneUse Body BodyStatements MaybeBodyStatement BodyStatement BodyKind AssignStatement IgnoreStatement Common VarStatement ImportStatement IfStatement Choices FirstChoice ElseIf Else Guarded WhileStatement ForStatement LoopHead Valued ReturnStatement Slot ThrowStatement DefineOrSet Define Func Params Names SetOrEval SetTo TemplateStatement ApplyStatement ApplyName HeadedBody ApplyHeads AnyHead ConstStatement
first_Top = refl
