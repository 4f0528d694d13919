-- How deep tokens stand.
use Rattle.std.specs.Prelude.{◌+◌, ◌-◌, ◌<◌, ℕ, zero, suc, List, [], ◌∷◌, Bool, true, false, cond, nat_lt, length, take, Option, Some, None, ◌⊎◌}
use Rattle.dsl_lexer.specs.declared.token.Token.{Token}
use Rattle.dsl_lexer.specs.declared.token_kind.TokenKind.{TokenKind}
use Rattle.dsl_lexer.specs.declared.token_kind.TokenKind.TheVariants as kinds
use Rattle.dsl_lexer.specs.declared.word.Word.TheVariants as words
use Rattle.dsl_lexer.specs.declared.sign.Sign.{Sign}
use Rattle.dsl_lexer.specs.declared.sign.Sign.TheVariants as signs
use Rattle.dsl_depth.specs.declared.role.Role.{Role}
use Rattle.dsl_depth.specs.declared.role.Role.TheVariants.{Opening, Closing, Counted, Separating, Plain}

-- brackets, separators, the operators of assignments, and the other signs: operators, `.` and `=>`
abbrev pub sign_role : Sign → Role
sign_role signs.OpenParen = Opening
sign_role signs.OpenBracket = Opening
sign_role signs.OpenBrace = Opening
sign_role signs.CloseParen = Closing
sign_role signs.CloseBracket = Closing
sign_role signs.CloseBrace = Closing
sign_role signs.Comma = Separating
sign_role signs.Semicolon = Separating
sign_role signs.Set = Plain
sign_role signs.AddSet = Plain
sign_role signs.SubtractSet = Plain
sign_role signs.MultiplySet = Plain
sign_role signs.DivideSet = Plain
sign_role s = Counted

-- a newline separates, unless it is joined to what stands before it
abbrev pub role : Bool → TokenKind → Role
role j (kinds.Sign s) = sign_role s
role j (kinds.Word words.In) = Counted
role true kinds.NewLine = Plain
role false kinds.NewLine = Separating
role j k = Plain

-- the sign is a binary operator or that of an assignment
abbrev pub sign_joins : Sign → Bool
sign_joins signs.OpenParen = false
sign_joins signs.OpenBracket = false
sign_joins signs.OpenBrace = false
sign_joins signs.CloseParen = false
sign_joins signs.CloseBracket = false
sign_joins signs.CloseBrace = false
sign_joins signs.Comma = false
sign_joins signs.Semicolon = false
sign_joins signs.Dot = false
sign_joins signs.Arrow = false
sign_joins signs.Not = false
sign_joins signs.Tilde = false
sign_joins s = true

abbrev pub joins : TokenKind → Bool
joins (kinds.Sign s) = sign_joins s
joins (kinds.Word words.In) = true
joins k = false

-- newlines are joined to what stands before them, after this token, whether they stood before it or not
abbrev pub joined : Bool → TokenKind → Bool
joined j kinds.NewLine = j
joined j k = joins k

-- In the language's own words.

-- no bracket is open
abbrev pub at_file_level : ℕ → Bool
at_file_level zero = true
at_file_level (suc n) = false

-- how many brackets are open behind a token, and behind tokens: a closing one takes the last open one off, if there is one
abbrev pub open_behind : Role → ℕ → ℕ
open_behind Opening n = n + 1
open_behind Closing n = n - 1
open_behind Counted n = n
open_behind Separating n = n
open_behind Plain n = n

abbrev pub open_through : ℕ → Bool → List Token → ℕ
open_through n j [] = n
open_through n j (t ∷ ts) = open_through (open_behind (role j t.kind) n) (joined j t.kind) ts

-- Of a token that stood before these: it stands at file level (`file`) or directly inside a bracket that no token of
-- these closes, and no separator of its own level is among them. `inside` brackets are open inside its level so far.
abbrev pub weighs_behind : Role → Bool → ℕ → (ℕ → Bool) → Bool
weighs_behind Opening file inside more = more (suc inside)
weighs_behind Closing file zero more = cond file (more zero) false
weighs_behind Closing file (suc inside) more = more inside
weighs_behind Separating file zero more = false
weighs_behind Separating file (suc inside) more = more (suc inside)
weighs_behind Counted file inside more = more inside
weighs_behind Plain file inside more = more inside

abbrev pub weighs : Bool → ℕ → Bool → List Token → Bool
weighs file inside j [] = true
weighs file inside j (t ∷ ts) = weighs_behind (role j t.kind) file inside (λ i. weighs file i (joined j t.kind) ts)

abbrev pub one_if : Bool → ℕ
one_if true = 1
one_if false = 0

-- one, if the token counts and weighs on the last of those after it
abbrev pub weight_of : Role → Bool → (ℕ → Bool) → ℕ
weight_of Opening file more = one_if (more 1)
weight_of Counted file more = one_if (more 0)
weight_of Closing file more = 0
weight_of Separating file more = 0
weight_of Plain file more = 0

-- how many tokens weigh on the last one of these, with so many brackets open in front of them
abbrev pub weight : ℕ → Bool → List Token → ℕ
weight n j [] = 0
weight n j (t ∷ ts) =
    weight_of (role j t.kind) (at_file_level n) (λ i. weighs (at_file_level n) i (joined j t.kind) ts)
    + weight (open_behind (role j t.kind) n) (joined j t.kind) ts

-- more than 100 brackets are open through the last of these, or more than 200 tokens weigh on it
abbrev pub IsTooDeep : List Token → Type 0
IsTooDeep front = (100 < open_through 0 false front) ⊎ (200 < weight 0 false front)

-- the front of tokens through the one of this index is too deep, and no shorter one is
pub record IsFirstDeepAt (ts : List Token) (n : ℕ) : Type 0 where
  pub within : n < length ts
  pub deep : IsTooDeep (take (suc n) ts)
  pub first : (m : ℕ) → m < n → IsTooDeep (take (suc m) ts) → ⊥

-- the first token through which they are too deep, if there is one
abbrev pub IsFirstDeep : List Token → Option ℕ → Type 0
IsFirstDeep ts (Some n) = IsFirstDeepAt ts n
IsFirstDeep ts None = (m : ℕ) → m < length ts → IsTooDeep (take (suc m) ts) → ⊥

-- In one pass.

-- how many tokens count by level outside the innermost open bracket, the innermost first, how many inside it, how many
-- in all, and if newlines are joined to what stands before them
pub data Depth : Type 0 where
  depth : List ℕ → ℕ → ℕ → Bool → Depth

abbrev pub acted : Role → Depth → Depth
acted Opening (depth outer inner whole j) = depth ((inner + 1) ∷ outer) 0 (whole + 1) j
acted Closing (depth [] inner whole j) = depth [] inner whole j
acted Closing (depth (n ∷ outer) inner whole j) = depth outer n (whole - inner) j
acted Counted (depth outer inner whole j) = depth outer (inner + 1) (whole + 1) j
acted Separating (depth outer inner whole j) = depth outer 0 (whole - inner) j
acted Plain d = d

abbrev pub joins_now : Depth → Bool
joins_now (depth outer inner whole j) = j

abbrev pub with_joined : Bool → Depth → Depth
with_joined b (depth outer inner whole j) = depth outer inner whole b

abbrev pub counted : TokenKind → Depth → Depth
counted k d = with_joined (joined (joins_now d) k) (acted (role (joins_now d) k) d)

abbrev pub is_deep : Depth → Bool
is_deep (depth outer inner whole j) = cond (nat_lt 100 (length outer)) true (nat_lt 200 whole)

abbrev pub deep_from : ℕ → Depth → List Token → Option ℕ
deep_from n d [] = None
deep_from n d (t ∷ ts) = cond (is_deep (counted t.kind d)) (Some n) (deep_from (suc n) (counted t.kind d) ts)

-- the index of the first token that stands too deep
abbrev pub deep_at : List Token → Option ℕ
deep_at ts = deep_from 0 (depth [] 0 0 false) ts
