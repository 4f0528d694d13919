-- Productions that are written to be read from left to right, as the language's table has them.
use Rattle.std.specs.Prelude.{◌≡◌, ℕ, List, [], ◌∷◌, false, fold, Option, Some, None}
use Rattle.dsl_syntax.specs.Syntax.{at_name, at_this, at_globals, Expression, no_steps, StatementKind, eval, set, Loop, no_loop, some_loop, Arms, no_arms, Statements, no_statements, choose}
use Rattle.site_base.specs.declared.place.Place.{Place}
use Rattle.dsl_lexer.specs.declared.sign.Sign.TheVariants as signs
use Rattle.dsl_lexer.specs.declared.token.Token.{Token}
use Rattle.dsl_lexer.specs.declared.word.Word.TheVariants as words
use Rattle.dsl_rules.specs.Alphabet.{Sort}
use Rattle.dsl_rules.specs.Grammar.{empty, both, either, made, loop, always, Rules, Derives}
use Rattle.dsl_rules.specs.Rules.{Rule as RuleOf, One, Empty, Both, Made, Either}
use Rattle.dsl_grammar.specs.Codes.{sign_sort, sorts}
use Rattle.dsl_grammar.specs.Grammar.{Expr, Block, Setting, setting, SetTo, Target, target, LoopHead, Heads, heads, Guarded, names}
use Rattle.dsl_syntax.specs.Lists.{OneStep, to_member, to_index, add_member, add_index, Armed, armed, add_arm}
use Rattle.dsl_grammar.specs.Terms.{Name, Value, Rule, word, sign, IDENT, behind, before, nl}

-- both derive the same
abbrev pub Same : {A : Type 0} → RuleOf Token A → RuleOf Token A → Type 0
Same {A} R S = (tokens : List Token) (value : A) (rest : List Token) → (R tokens value rest → S tokens value rest) × (S tokens value rest → R tokens value rest)

-- Rows.

-- { rule }: any number, with their values in order
abbrev pub Many : {A : Type 0} → RuleOf Token A → RuleOf Token (List A)
Many R ts [] rest = ts ≡ rest
Many R ts (x ∷ xs) rest = (mid : List Token) × R ts x mid × Many R mid xs rest

-- one separator
abbrev pub Separator : List Sort → RuleOf Token Place
Separator seps ts p rest = One sorts seps (λ t. t.place) ts p rest

-- sep {sep} x
abbrev pub Further : {A : Type 0} → List Sort → RuleOf Token A → RuleOf Token A
Further seps X ts x rest = Both (λ _ x. x) (Separator seps) (Both (λ _ x. x) (Many (Separator seps)) X) ts x rest

-- x { sep {sep} x } {sep}
abbrev pub Things : {A : Type 0} → List Sort → RuleOf Token A → RuleOf Token (List A)
Things seps X ts xs rest = Both (λ xs _. xs) (Both (λ x xs. x ∷ xs) X (Many (Further seps X))) (Many (Separator seps)) ts xs rest

-- {sep} [ x { sep {sep} x } {sep} ], with each thing added to those before it
abbrev pub Row : {A C : Type 0} → List Sort → (C → A → C) → C → RuleOf Token A → RuleOf Token C
Row seps add none X ts c rest = Both (λ _ xs. fold add none xs) (Many (Separator seps)) (Either (Things seps X) (Empty [])) ts c rest

-- Arrays.

-- ","
abbrev pub Comma : RuleOf Token Place
Comma ts p rest = Separator (sign_sort signs.Comma ∷ []) ts p rest

-- "," x
abbrev pub Next : {A : Type 0} → RuleOf Token A → RuleOf Token A
Next X ts x rest = Both (λ _ x. x) Comma X ts x rest

-- x { "," x } [","]
abbrev pub Elements : {A : Type 0} → RuleOf Token A → RuleOf Token (List A)
Elements X ts xs rest = Both (λ xs _. xs) (Both (λ x xs. x ∷ xs) X (Many (Next X))) (Either (Made Some Comma) (Empty None)) ts xs rest

-- [ x { "," x } [","] ], with each thing added to those before it
abbrev pub Listing : {A C : Type 0} → (C → A → C) → C → RuleOf Token A → RuleOf Token C
Listing add none X ts c rest = Made (fold add none) (Either (Elements X) (Empty [])) ts c rest

-- Assignments.

-- the target with one step more
abbrev pub step_on : Target → OneStep → Target
step_on (target r ss) (to_member n) = target r (add_member ss n)
step_on (target r ss) (to_index e) = target r (add_index ss e)

-- step = "." IDENT | "[" expr "]"
unfoldable pub TableStep : Rule OneStep
TableStep =
    either (made to_member (behind (sign signs.Dot) IDENT))
    (made to_index (behind (sign signs.OpenBracket) (before Expr (sign signs.CloseBracket))))

-- with which signs steps begin
abbrev pub step_sorts : List Sort
step_sorts = sign_sort signs.Dot ∷ sign_sort signs.OpenBracket ∷ []

-- what begins a target, and {step}
abbrev pub stepping : Rule Target → Rule Target
stepping g = loop false step_sorts always step_on g TableStep

-- IDENT
abbrev pub NameBase : Rule Target
NameBase = made (λ n. target (at_name n) no_steps) IDENT

-- "this" | "globals"
abbrev pub WordBase : Rule Target
WordBase =
    either (made (λ _. target at_this no_steps) (word words.This)) (made (λ _. target at_globals no_steps) (word words.Globals))

-- target = IDENT {step} | ("this" | "globals") step {step}
unfoldable pub TableTarget : Rule Target
TableTarget = either (stepping NameBase) (stepping (both step_on WordBase TableStep))

-- what is set, to what
abbrev pub set_to : Target → Setting → StatementKind
set_to (target r ss) (setting o e) = set r ss o e

-- target setop nl expr | expr
unfoldable pub TableSetOrEval : Rule StatementKind
TableSetOrEval = either (both set_to TableTarget SetTo) (made eval Expr)

-- what a rule derives, however deep names stand inside one another
abbrev pub Derived : {A : Type 0} → Rule A → RuleOf Token A
Derived g ts a rest = (h : ℕ) × Derives sorts (names h) g ts a rest

-- The heads of apply rules.

-- "to" IDENT
unfoldable pub ToHead : Rule (List ℕ)
ToHead = behind (word words.To) IDENT

-- "for" loop
unfoldable pub ForHead : Rule Loop
ForHead = behind (word words.For) LoopHead

-- neither, one of them, or both in either order
unfoldable pub TableHeads : Rule Heads
TableHeads =
    either (empty (heads None no_loop))
    (either (made (λ t. heads (Some t) no_loop) ToHead)
    (either (made (λ l. heads None (some_loop l)) ForHead)
    (either (both (λ t l. heads (Some t) (some_loop l)) ToHead ForHead)
    (both (λ l t. heads (Some t) (some_loop l)) ForHead ToHead))))

-- The arms of an `if`.

-- "if" "(" expr ")" block
unfoldable pub FirstArm : Rule Armed
FirstArm = behind (word words.If) Guarded

-- nl "else" "if" "(" expr ")" block
unfoldable pub ElseArm : Rule Armed
ElseArm = behind nl (behind (word words.Else) (behind (word words.If) Guarded))

-- nl "else" block
unfoldable pub ElseBlock : Rule Statements
ElseBlock = behind nl (behind (word words.Else) Block)

abbrev pub add_armed : Arms → Armed → Arms
add_armed as' (armed e b) = add_arm as' e b

-- "if" "(" expr ")" block { nl "else" "if" "(" expr ")" block } [ nl "else" block ], with the arms in order, and no
-- statements if there is no `else`
abbrev pub TableIf : Rules Token Name Value → RuleOf Token StatementKind
TableIf L ts k rest =
    Both (λ arms other. choose (fold add_armed no_arms arms) other)
    (Both (λ a arms. a ∷ arms) (Derives sorts L FirstArm) (Many (Derives sorts L ElseArm)))
    (Either (Derives sorts L ElseBlock) (Empty no_statements)) ts k rest
