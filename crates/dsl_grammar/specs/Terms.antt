-- The tokens that productions name, and small forms of grammars.
use Rattle.std.specs.Prelude.{ℕ, List, [], ◌∷◌, false}
use Rattle.site_base.specs.declared.place.Place.{Place}
use Rattle.dsl_syntax.specs.Syntax.{Expression, Statements}
use Rattle.dsl_lexer.specs.declared.token.Token.{Token}
use Rattle.dsl_lexer.specs.declared.token_kind.TokenKind.{TokenKind}
use Rattle.dsl_lexer.specs.declared.token_kind.TokenKind.TheVariants as kinds
use Rattle.dsl_lexer.specs.declared.word.Word.{Word}
use Rattle.dsl_lexer.specs.declared.word.Word.TheVariants as words
use Rattle.dsl_lexer.specs.declared.sign.Sign.{Sign}
use Rattle.dsl_lexer.specs.declared.sign.Sign.TheVariants as signs
use Rattle.dsl_rules.specs.Alphabet.{Sort}
use Rattle.dsl_rules.specs.Grammar.{Grammar, one, empty, both, either, made, loop, always, pair, left, right}
use Rattle.dsl_grammar.specs.Codes.{word_sort, sign_sort, ident_sort, number_sort, string_sort, line_sort}

-- the two productions that stand inside themselves
pub data Name : Type 0 where
  expr block : Name

abbrev pub Value : Name → Type 0
Value expr = Expression
Value block = Statements

-- with which tokens they begin
abbrev pub starts : Name → List Sort
starts expr =
    word_sort words.True ∷ word_sort words.False ∷ word_sort words.Null ∷ word_sort words.This ∷ word_sort words.Globals ∷ word_sort words.Function ∷ ident_sort ∷ number_sort ∷ string_sort
    ∷ sign_sort signs.OpenParen ∷ sign_sort signs.OpenBracket ∷ sign_sort signs.OpenBrace ∷ sign_sort signs.Plus ∷ sign_sort signs.Minus ∷ sign_sort signs.Not ∷ sign_sort signs.Tilde ∷ []
starts block = sign_sort signs.OpenBrace ∷ []

-- a grammar of this language
abbrev pub Rule : Type 0 → Type 1
Rule A = Grammar Token Name Value A

abbrev pub word : Word → Rule Place
word w = one (word_sort w ∷ []) (λ t. t.place)

abbrev pub sign : Sign → Rule Place
sign s = one (sign_sort s ∷ []) (λ t. t.place)

abbrev pub kind_text : TokenKind → List ℕ
kind_text (kinds.Ident t) = t
kind_text (kinds.Str t) = t
kind_text k = []

abbrev pub text : Token → List ℕ
text t = kind_text t.kind

abbrev pub IDENT : Rule (List ℕ)
IDENT = one (ident_sort ∷ []) text

abbrev pub STRING : Rule (List ℕ)
STRING = one (string_sort ∷ []) text

-- the second's value, and the first's
abbrev pub behind : {A B : Type 0} → Rule A → Rule B → Rule B
behind g h = both (λ _ y. y) g h

abbrev pub before : {A B : Type 0} → Rule A → Rule B → Rule A
before g h = both (λ x _. x) g h

-- three, one after the other
abbrev pub three : {A B C D : Type 0} → (A → B → C → D) → Rule A → Rule B → Rule C → Rule D
three f g h i = both (λ x p. f x (left p) (right p)) g (both pair h i)

-- at most one
abbrev pub maybe : {A B : Type 0} → (A → B) → B → Rule A → Rule B
maybe f none g = either (made f g) (empty none)

-- any number of newlines
abbrev pub nl : Rule ℕ
nl = loop false (line_sort ∷ []) always (λ n _. n) (empty 0) (one (line_sort ∷ []) (λ t. t.place))

-- one or more, with commas between them
abbrev pub listed : {A C : Type 0} → (C → A → C) → C → Rule A → Rule C
listed add none g = loop false (sign_sort signs.Comma ∷ []) always add (made (add none) g) (behind (sign signs.Comma) g)

-- a thing, or none
pub data Turn (A : Type 0) : Type 0 where
  nothing : Turn A
  thing : A → Turn A

abbrev pub add_turn : {A C : Type 0} → (C → A → C) → C → Turn A → C
add_turn add c nothing = c
add_turn add c (thing x) = add c x

-- things, each of them but the first behind a separator: separators may also stand before and behind all, and several in
-- one place
abbrev pub row_of : {A C : Type 0} → List Sort → (C → A → C) → C → Rule (Turn A) → Rule C
row_of seps add none g = loop false seps always (add_turn add) (made (add_turn add none) g) (behind (one seps (λ t. t.place)) g)

-- `;` and newlines, and these and commas
abbrev pub sep : List Sort
sep = line_sort ∷ sign_sort signs.Semicolon ∷ []

abbrev pub bsep : List Sort
bsep = line_sort ∷ sign_sort signs.Semicolon ∷ sign_sort signs.Comma ∷ []
