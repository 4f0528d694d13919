-- The laws of the two names, which stand inside themselves.
use Rattle.std.proofs.Common.{◌≡◌, ◌⊎◌, List, [], ◌∷◌, ◌++◌, drop, Bool, true, false, cond, refl, sym, ◌∙◌, subst, inl, inr, arith, true≢false}
use Rattle.dsl_lexer.specs.declared.token.Token.{Token}
use Rattle.dsl_lexer.specs.declared.word.Word.TheVariants as words
use Rattle.dsl_lexer.specs.declared.sign.Sign.TheVariants as signs
use Rattle.dsl_syntax.specs.Syntax.{Expression, expression, null, no_statements}
use Rattle.dsl_rules.specs.Alphabet.{Sort, among, at, over}
use Rattle.dsl_rules.specs.Rules.{Rule as RuleOf}
use Rattle.dsl_rules.specs.Grammar.{Rules, Derives}
use Rattle.dsl_rules.specs.Reading.{first, null as null_of}
use Rattle.dsl_rules.proofs.Basics.{among_left, among_right, among_either, and_left, Opens}
use Rattle.dsl_rules.proofs.Law.{Sets, FreeAt, Quiet}
use Rattle.dsl_rules.proofs.Shape.{name_sets, sets, guarded, go, far, sure, subset}
use Rattle.dsl_grammar.specs.Codes.{sorts, word_sort, sign_sort}
use Rattle.dsl_grammar.specs.Terms.{Name, expr, block, Value, starts, Rule, nothing}
use Rattle.dsl_grammar.specs.Grammar.{Whole, Braced, production, Level, Lambda, Unary, Prim, Literal, BlockStatements, MaybeStatement, begins_define, AnyHead, AnyStatement, ApplyHeads, ApplyName, ApplyStatement, AssignStatement, Body, BodyKind, BodyStatement, BodyStatements, Common, ConstStatement, Define, DefineOrSet, Else, ForStatement, Func, Guarded, HeadedBody, IfStatement, IgnoreStatement, ImportStatement, Kind, LambdaBody, LambdaFunc, LoopHead, MaybeBodyStatement, MaybeUse, NamedBody, Names, ObjectStatement, OneUse, Params, ReturnStatement, Returned, SetOrEval, SetTo, Slot, TemplateStatement, ThrowStatement, UseBody, UseList, UseNames, Valued, VarStatement, WhileStatement, Choices, FirstChoice, ElseIf}
use Rattle.dsl_grammar.proofs.Fitting.{goes, opening, FitsHere, fits_Lambda}
use Rattle.dsl_grammar.proofs.LevelFits.{fits_Level, level_guarded, level_first, level_sure, level_null, level_far, level_goes, within, unary_firsts, unary_sures}
use Rattle.dsl_grammar.proofs.Fittings.{fits_Braced}
use Rattle.dsl_grammar.proofs.Pasts.{tells, sort_is}
use Rattle.dsl_grammar.proofs.Lambdas.{behind_open, lambda_at, alone, level_undefined}

pub fits_Whole : FitsHere Whole
unfolding Whole
fits_Whole = (fits_Lambda, fits_Level 11 (omega arith), tells)

pub fits_production : (k : Name) → FitsHere (production k)
fits_production expr = fits_Whole
fits_production block = fits_Braced

-- A sentence of each.

unfoldable pub null_token : Token
null_token = sorts.sample (word_sort words.Null)

unfoldable pub open_token : Token
open_token = sorts.sample (sign_sort signs.OpenBrace)

unfoldable pub close_token : Token
close_token = sorts.sample (sign_sort signs.CloseBrace)

null_prim : (L : Rules Token Name Value) (r : List Token) → Derives sorts L Prim (null_token ∷ r) (expression null_token.place null) r
unfolding Prim Literal null_token
null_prim L r = inl (refl, refl, refl)

null_whole : (L : Rules Token Name Value) (r : List Token) → Derives sorts L Whole (null_token ∷ r) (expression null_token.place null) r
unfolding Whole
null_whole L r = let x = alone L 11 null_token r (expression null_token.place null) r (null_prim L r) in inr (x.0, x.2, x.1)

no_block : (L : Rules Token Name Value) (r : List Token) → Derives sorts L Braced (open_token ∷ close_token ∷ r) no_statements r
unfolding Braced BlockStatements MaybeStatement open_token close_token
no_block L r = (close_token ∷ r, open_token.place, no_statements, (refl, refl, refl), (close_token ∷ r, no_statements, close_token.place, (close_token ∷ r, no_statements, [], (nothing, inr (refl, refl), refl), (refl, refl)), (refl, refl, refl), refl), refl)

-- a sentence of a rule for each name
abbrev pub Sentences : Rules Token Name Value → Type 0
Sentences X = (k : Name) (r : List Token) → (t : Token) × (w : List Token) × (a : Value k) × (sorts.sort_of t ≡ opening k) × X k (t ∷ (w ++ r)) a r

pub sentences : (L : Rules Token Name Value) → Sentences (λ k ts a rest. Derives sorts L (production k) ts a rest)
unfolding null_token open_token
sentences L expr r = (null_token, [], expression null_token.place null, refl, null_whole L r)
sentences L block r = (open_token, close_token ∷ [], no_statements, refl, no_block L r)

-- No expression begins as a definition does.

lambda_undefined : (L : Rules Token Name Value) (ts : List Token) (e : Expression) (rest : List Token) → Derives sorts L Lambda ts e rest → begins_define ts ≡ false
lambda_undefined L ts e rest d = by ts (and_left (at sorts (sign_sort signs.OpenParen ∷ []) ts) (behind_open (drop 1 ts)) (lambda_at L ts e rest d))
  where
    by : (ts : List Token) → at sorts (sign_sort signs.OpenParen ∷ []) ts ≡ true → begins_define ts ≡ false
    by [] p = absurd cc
    by (t ∷ ts) p = let m = sort_is t (sign_sort signs.OpenParen) p (word_sort words.Function ∷ []) false refl in rw m refl

pub whole_undefined : (L : Rules Token Name Value) (ts : List Token) (e : Expression) (rest : List Token) → Derives sorts L Whole ts e rest → begins_define ts ≡ false
unfolding Whole
whole_undefined L ts e rest (inl d) = lambda_undefined L ts e rest d
whole_undefined L ts e rest (inr d) = level_undefined L 11 ts d.0 rest d.1

-- What can be said of the two productions by their form.

abbrev pub of_name : Name → Sets
of_name k = name_sets sorts Value starts goes opening k

abbrev pub of_rule : {A : Type 0} → Rule A → Sets
of_rule g = sets sorts Value starts goes opening g

lambda_firsts : (e : Bool) → subset sorts Value starts goes opening (first sorts starts e Lambda) (starts expr) ≡ true
unfolding Lambda LambdaFunc Params Names LambdaBody Returned
lambda_firsts true = refl
lambda_firsts false = refl

lambda_null : (e : Bool) → null_of sorts e Lambda ≡ false
unfolding Lambda LambdaFunc Params Names LambdaBody Returned
lambda_null true = refl
lambda_null false = refl

lambda_far : far sorts Value starts goes opening Lambda ≡ false
unfolding Lambda LambdaFunc Params Names LambdaBody Returned
lambda_far = refl

lambda_goes : (e : Bool) → subset sorts Value starts goes opening (go sorts Value starts goes opening e Lambda ++ cond e [] (sign_sort signs.Arrow ∷ [])) (cond e [] (goes expr)) ≡ true
unfolding Lambda LambdaFunc Params Names LambdaBody Returned
lambda_goes true = refl
lambda_goes false = refl

lambda_guarded : guarded sorts Value starts goes opening Lambda ≡ true
unfolding Lambda LambdaFunc Params Names LambdaBody Returned
lambda_guarded = refl

block_facts : (e : Bool) → (subset sorts Value starts goes opening (first sorts starts e Braced) (starts block) ≡ true) × (null_of sorts e Braced ≡ false) × (subset sorts Value starts goes opening (go sorts Value starts goes opening e Braced) [] ≡ true)
unfolding Braced BlockStatements MaybeStatement AnyStatement Kind ObjectStatement NamedBody UseBody MaybeUse UseList UseNames OneUse Body BodyStatements MaybeBodyStatement BodyStatement BodyKind AssignStatement IgnoreStatement Common VarStatement ImportStatement IfStatement Choices FirstChoice ElseIf Else Guarded WhileStatement ForStatement LoopHead Valued ReturnStatement Slot ThrowStatement DefineOrSet Define Func Params Names SetOrEval SetTo TemplateStatement ApplyStatement ApplyName HeadedBody ApplyHeads AnyHead ConstStatement
block_facts true = (refl, refl, refl)
block_facts false = (refl, refl, refl)

block_far : (far sorts Value starts goes opening Braced ≡ false) × (guarded sorts Value starts goes opening Braced ≡ true) × (subset sorts Value starts goes opening (starts block) (sure sorts Value starts goes opening Braced) ≡ true)
unfolding Braced BlockStatements MaybeStatement AnyStatement Kind ObjectStatement NamedBody UseBody MaybeUse UseList UseNames OneUse Body BodyStatements MaybeBodyStatement BodyStatement BodyKind AssignStatement IgnoreStatement Common VarStatement ImportStatement IfStatement Choices FirstChoice ElseIf Else Guarded WhileStatement ForStatement LoopHead Valued ReturnStatement Slot ThrowStatement DefineOrSet Define Func Params Names SetOrEval SetTo TemplateStatement ApplyStatement ApplyName HeadedBody ApplyHeads AnyHead ConstStatement
block_far = (refl, refl, refl)

pub firsts_of : (k : Name) (e : Bool) (c : Sort) → among c (first sorts starts e (production k)) ≡ true → among c (starts k) ≡ true
unfolding Whole
firsts_of expr e c m = by (among_either c (first sorts starts e Lambda) (first sorts starts e (Level 11)) m)
  where
    by : (among c (first sorts starts e Lambda) ≡ true) ⊎ ((among c (first sorts starts e Lambda) ≡ false) × (among c (first sorts starts e (Level 11)) ≡ true)) → among c (starts expr) ≡ true
    by (inl m) = within (first sorts starts e Lambda) (starts expr) (lambda_firsts e) c m
    by (inr m) = within (first sorts starts e Unary) (starts expr) (unary_firsts e) c (subst (λ z. among c z ≡ true) (level_first e 11) m.1)
firsts_of block e c m = within (first sorts starts e Braced) (starts block) (block_facts e).0 c m

pub nulls_of : (k : Name) (e : Bool) → null_of sorts e (production k) ≡ false
unfolding Whole
nulls_of expr e = rw (lambda_null e, level_null e 11) refl
nulls_of block e = (block_facts e).1

pub far_of : (k : Name) → far sorts Value starts goes opening (production k) ≡ false
unfolding Whole
far_of expr = rw (lambda_far, level_far 11) refl
far_of block = block_far.0

pub guarded_of : (k : Name) → guarded sorts Value starts goes opening (production k) ≡ true
unfolding Whole
guarded_of expr = rw (lambda_guarded, level_guarded 11) refl
guarded_of block = block_far.1

pub sures_of : (k : Name) (c : Sort) → among c (starts k) ≡ true → among c (sure sorts Value starts goes opening (production k)) ≡ true
unfolding Whole
sures_of expr c m = subst (λ z. among c z ≡ true) (sym (level_sure 11)) (within (starts expr) (sure sorts Value starts goes opening Unary) unary_sures c m)
sures_of block c m = within (starts block) (sure sorts Value starts goes opening Braced) block_far.2 c m

pub goes_of : (k : Name) (e : Bool) (c : Sort) → among c (go sorts Value starts goes opening e (production k)) ≡ true → among c (cond e [] (goes k)) ≡ true
unfolding Whole
goes_of expr e c m = by (among_either c (go sorts Value starts goes opening e Lambda ++ go sorts Value starts goes opening e (Level 11)) (cond e [] (sign_sort signs.Arrow ∷ [])) m)
  where
    lam : among c (go sorts Value starts goes opening e Lambda ++ cond e [] (sign_sort signs.Arrow ∷ [])) ≡ true → among c (cond e [] (goes expr)) ≡ true
    lam m = within (go sorts Value starts goes opening e Lambda ++ cond e [] (sign_sort signs.Arrow ∷ [])) (cond e [] (goes expr)) (lambda_goes e) c m

    two : (among c (go sorts Value starts goes opening e Lambda) ≡ true) ⊎ ((among c (go sorts Value starts goes opening e Lambda) ≡ false) × (among c (go sorts Value starts goes opening e (Level 11)) ≡ true)) → among c (cond e [] (goes expr)) ≡ true
    two (inl m) = lam (among_left c (go sorts Value starts goes opening e Lambda) (cond e [] (sign_sort signs.Arrow ∷ [])) m)
    two (inr m) = level_goes e 11 c m.1

    by : (among c (go sorts Value starts goes opening e Lambda ++ go sorts Value starts goes opening e (Level 11)) ≡ true) ⊎ ((among c (go sorts Value starts goes opening e Lambda ++ go sorts Value starts goes opening e (Level 11)) ≡ false) × (among c (cond e [] (sign_sort signs.Arrow ∷ [])) ≡ true)) → among c (cond e [] (goes expr)) ≡ true
    by (inl m) = two (among_either c (go sorts Value starts goes opening e Lambda) (go sorts Value starts goes opening e (Level 11)) m)
    by (inr m) = lam (among_right c (go sorts Value starts goes opening e Lambda) (cond e [] (sign_sort signs.Arrow ∷ [])) m.1)
goes_of block true c m = within (go sorts Value starts goes opening true Braced) [] (block_facts true).2 c m
goes_of block false c m = within (go sorts Value starts goes opening false Braced) [] (block_facts false).2 c m

-- nothing that follows is one by which the production goes on
pub quiet_of : (k : Name) (ts : List Token) → Quiet sorts (of_name k).go ts → Quiet sorts (of_rule (production k)).go ts
quiet_of k ts q e = by (over sorts e ts) (q e)
  where
    by : (u : List Token) → at sorts (cond e [] (goes k)) u ≡ false → at sorts (go sorts Value starts goes opening e (production k)) u ≡ false
    by [] q = refl
    by (t ∷ u) q = of (among (sorts.sort_of t) (go sorts Value starts goes opening e (production k))) refl
      where
        of : (b : Bool) → among (sorts.sort_of t) (go sorts Value starts goes opening e (production k)) ≡ b → b ≡ false
        of true m = absurd (true≢false (sym (goes_of k e (sorts.sort_of t) m) ∙ q))
        of false m = refl

-- a front with larger sets
pub free_wider : {A : Type 0} (S S' : Sets) (R : RuleOf Token A) (ts : List Token) (a : A) (rest : List Token) → ((e : Bool) (c : Sort) → among c (S.first e) ≡ true → among c (S'.first e) ≡ true) → ((e : Bool) → S.null e ≡ false) → FreeAt sorts S R ts a rest → FreeAt sorts S' R ts a rest
free_wider S S' R ts a rest firsts solid x = (x.0, x.1, x.2, x.3, λ e. opens e (over sorts e x.0) (x.4 e))
  where
    opens : (e : Bool) (u : List Token) → Opens sorts (S.null e) (S.first e) u → Opens sorts (S'.null e) (S'.first e) u
    opens e [] o = absurd (true≢false (sym o ∙ solid e))
    opens e (t ∷ u) o = firsts e (sorts.sort_of t) o
