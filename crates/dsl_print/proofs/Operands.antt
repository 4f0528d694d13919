-- The sign of an operator before an operand is the longest mark there.
use Rattle.std.proofs.Common.{◌≡◌, ℕ, List, [], ◌∷◌, ◌++◌, take, drop, Bool, true, false, cond, not, ◌&&◌, ◌==◌, codes, refl, ap, ◌∙◌, arith}
use Rattle.std.proofs.lemmas.Bool.Decides.{nat_tests}
use Rattle.std.specs.Char.{is_ascii_digit}
use Rattle.std.specs.List.{list_all}
use Rattle.std.specs.Str.{bytes_eq}
use Rattle.site_base.specs.Numbers.{number_text}
use Rattle.dsl_syntax.specs.Syntax.{Expression, expression, ExpressionKind, null, this, globals, boolean, number, string, name, array, dictionary, member, index, call, unary, binary, function_value}
use Rattle.dsl_syntax.specs.declared.un_op.UnOp.{UnOp}
use Rattle.dsl_syntax.specs.declared.un_op.UnOp.TheVariants as operator
use Rattle.dsl_tree.specs.Operators.{unary_text}
use Rattle.dsl_tree.specs.Spelling.{is_compound, in_parentheses, expr_kind_text, operand_text}
use Rattle.dsl_lexer.specs.declared.word.Word.{Word}
use Rattle.dsl_lexer.specs.declared.word.Word.TheVariants as word
use Rattle.dsl_lexer.specs.declared.sign.Sign.TheVariants as sign
use Rattle.dsl_lexer.specs.Letters.{is_name_start, is_name_byte, follows, goes_on}
use Rattle.dsl_lexer.specs.Words.{word_spelling}
use Rattle.dsl_lexer.specs.Signs.{sign_spelling}
use Rattle.dsl_lexer.specs.Marks.{mark_of}
use Rattle.dsl_lexer.specs.Tokens.{is_name}
use Rattle.dsl_lexer.proofs.Bytes.{both_first, both_second, not_true, front_is}
use Rattle.dsl_print.proofs.Good.{IsIdent, Good, GoodKind}
use Rattle.dsl_print.proofs.Amounts.{amount_digit}
use Rattle.dsl_print.proofs.Signs.{unary_sign}

-- the byte `=`
abbrev is_equals : ℕ → Bool
is_equals b = 61 == b

-- whether a text begins with `!in` that stands alone
abbrev begins_not_in : List ℕ → Bool
begins_not_in text = bytes_eq (codes "!in") (take 3 text) && not (goes_on (drop 3 text))

-- a text that begins neither with `=` nor with the word `in`
abbrev IsFront : List ℕ → Type 0
IsFront text = (follows is_equals text ≡ false) × (begins_not_in (33 ∷ text) ≡ false)

-- it doesn't go on as a sign with `=` does
other : (text : List ℕ) → follows is_equals text ≡ false → bytes_eq (61 ∷ []) (take 1 text) ≡ false
other [] h = refl
other (b ∷ bs) h = ap (λ t. t && true) h

-- `!` before such a text
not_before : (text : List ℕ) → IsFront text → mark_of (33 ∷ text) ≡ mark_of (sign_spelling sign.Not)
unfolding mark_of
not_before text f =
    ap (λ t. cond t (mark_of (sign_spelling sign.NotIn)) (cond (bytes_eq (61 ∷ []) (take 1 text) && true) (mark_of (sign_spelling sign.NotEqual)) (mark_of (sign_spelling sign.Not)))) f.1
    ∙ ap (λ t. cond (t && true) (mark_of (sign_spelling sign.NotEqual)) (mark_of (sign_spelling sign.Not))) (other text f.0)

-- `+` before such a text
plus_before : (text : List ℕ) → IsFront text → mark_of (43 ∷ text) ≡ mark_of (sign_spelling sign.Plus)
unfolding mark_of
plus_before text f = ap (λ t. cond (t && true) (mark_of (sign_spelling sign.AddSet)) (mark_of (sign_spelling sign.Plus))) (other text f.0)

-- `-` before such a text
minus_before : (text : List ℕ) → IsFront text → mark_of (45 ∷ text) ≡ mark_of (sign_spelling sign.Minus)
unfolding mark_of
minus_before text f = ap (λ t. cond (t && true) (mark_of (sign_spelling sign.SubtractSet)) (mark_of (sign_spelling sign.Minus))) (other text f.0)

-- a name that is no word isn't read as `in`
clash : (n rest tail : List ℕ) → is_name n ≡ true → ((w : Word) → n ≡ word_spelling w → ⊥) → goes_on rest ≡ false → 33 ∷ (n ++ rest) ≡ 33 ∷ 105 ∷ 110 ∷ tail → goes_on tail ≡ false → ⊥
clash [] rest tail h w g e f = cc
clash (b ∷ []) rest tail h w g e f =
    let is : rest ≡ 110 ∷ tail = cc in
    let goes : goes_on rest ≡ true = ap goes_on is in
    cc
clash (b ∷ c ∷ []) rest tail h w g e f = let is : b ∷ c ∷ [] ≡ 105 ∷ 110 ∷ [] = cc in w word.In is
clash (b ∷ c ∷ d ∷ more) rest tail h w g e f =
    let is : tail ≡ d ∷ (more ++ rest) = cc in
    let bytes : (is_name_byte d && list_all is_name_byte more) ≡ true = both_second (is_name_byte c) (is_name_byte d && list_all is_name_byte more) (both_second (is_name_start b) (is_name_byte c && (is_name_byte d && list_all is_name_byte more)) h) in
    let goes : goes_on tail ≡ true = ap goes_on is ∙ both_first (is_name_byte d) (list_all is_name_byte more) bytes in
    cc

-- so `!` before it is no `!in`
name_no_in : (n rest : List ℕ) → IsIdent n → goes_on rest ≡ false → begins_not_in (33 ∷ (n ++ rest)) ≡ false
name_no_in n rest h g = by (begins_not_in (33 ∷ (n ++ rest))) refl
  where
    by : (t : Bool) → begins_not_in (33 ∷ (n ++ rest)) ≡ t → t ≡ false
    by true e =
        let tail : List ℕ = drop 3 (33 ∷ (n ++ rest)) in
        let alone : goes_on tail ≡ false = not_true _ (both_second (bytes_eq (codes "!in") (take 3 (33 ∷ (n ++ rest)))) (not (goes_on tail)) e) in
        absurd (clash n rest tail h.0 h.1 g (front_is (codes "!in") (33 ∷ (n ++ rest)) (both_first (bytes_eq (codes "!in") (take 3 (33 ∷ (n ++ rest)))) (not (goes_on tail)) e)) alone)
    by false e = refl

-- a name doesn't begin with `=`
name_no_equals : (n rest : List ℕ) → is_name n ≡ true → follows is_equals (n ++ rest) ≡ false
name_no_equals [] rest h = absurd cc
name_no_equals (b ∷ bs) rest h = by (both_first (is_name_start b) (list_all is_name_byte bs) h)
  where
    by : is_name_start b ≡ true → (61 == b) ≡ false
    by e = grind (arith, nat_tests)

-- a name that is no word begins so
name_front : (n rest : List ℕ) → IsIdent n → goes_on rest ≡ false → IsFront (n ++ rest)
name_front n rest h g = (name_no_equals n rest h.0, name_no_in n rest h g)

-- and so does a text that begins with a digit
digit_front : (text rest : List ℕ) → follows is_ascii_digit text ≡ true → IsFront (text ++ rest)
digit_front [] rest h = absurd cc
digit_front (d ∷ ds) rest h =
    (no_equals d h, ap (λ t. (t && bytes_eq (110 ∷ []) (take 1 (ds ++ rest))) && not (goes_on (drop 1 (ds ++ rest)))) (no_letter d h))
  where
    no_equals : (d : ℕ) → is_ascii_digit d ≡ true → (61 == d) ≡ false
    no_equals d e = grind (arith, nat_tests)

    no_letter : (d : ℕ) → is_ascii_digit d ≡ true → (105 == d) ≡ false
    no_letter d e = grind (arith, nat_tests)

-- and so does each operand
kind_front : (k : ExpressionKind) (rest : List ℕ) → GoodKind k → goes_on rest ≡ false → IsFront (in_parentheses (is_compound k) (expr_kind_text k) ++ rest)
kind_front null rest h g = (refl, refl)
kind_front this rest h g = (refl, refl)
kind_front globals rest h g = (refl, refl)
kind_front (boolean true) rest h g = (refl, refl)
kind_front (boolean false) rest h g = (refl, refl)
kind_front (number z) rest h g = digit_front (number_text z) rest (amount_digit z h)
kind_front (string s) rest h g = (refl, refl)
kind_front (name n) rest h g = name_front n rest h g
kind_front (array es) rest h g = (refl, refl)
kind_front (dictionary ps) rest h g = (refl, refl)
kind_front (member e n) rest h g = (refl, refl)
kind_front (index e i) rest h g = (refl, refl)
kind_front (call e es) rest h g = (refl, refl)
kind_front (unary o e) rest h g = (refl, refl)
kind_front (binary o e d) rest h g = (refl, refl)
kind_front (function_value f) rest h g = (refl, refl)

-- whatever its place
operand_front : (e : Expression) (rest : List ℕ) → Good e → goes_on rest ≡ false → IsFront (operand_text e ++ rest)
operand_front (expression p k) rest h g = kind_front k rest h g

-- so the sign of an operator is the mark before its operand
pub unary_mark : (o : UnOp) (e : Expression) (rest : List ℕ) → Good e → goes_on rest ≡ false → mark_of (unary_text o ++ (operand_text e ++ rest)) ≡ mark_of (sign_spelling (unary_sign o))
unfolding mark_of
unary_mark operator.Not e rest h g = not_before (operand_text e ++ rest) (operand_front e rest h g)
unary_mark operator.Complement e rest h g = refl
unary_mark operator.Plus e rest h g = plus_before (operand_text e ++ rest) (operand_front e rest h g)
unary_mark operator.Minus e rest h g = minus_before (operand_text e ++ rest) (operand_front e rest h g)
