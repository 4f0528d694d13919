-- Loops over what is left: each turn takes a token at least, so there are as many turns as tokens at most.
use Rattle.std.proofs.Common.{◌≡◌, ◌≤◌, ◌<◌, ◌-◌, ℕ, suc, List, [], ◌∷◌, drop, length, Bool, true, false, cond, refl, sym, subst, arith}
use Rattle.dsl_lexer.specs.declared.sign.Sign.{Sign}
use Rattle.dsl_lexer.specs.declared.sign.Sign.TheVariants as signs
use Rattle.dsl_lexer.specs.declared.token.Token.{Token}
use Rattle.dsl_lexer.specs.declared.word.Word.{Word}
use Rattle.dsl_lexer.specs.declared.word.Word.TheVariants as words
use Rattle.dsl_rules.specs.Alphabet.{Sort, at}
use Rattle.dsl_rules.specs.Grammar.{made, one, either}
use Rattle.dsl_rules.specs.Reading.{Read, got, bad, ◌>>=◌, one_read, first}
use Rattle.dsl_rules.proofs.Shorter.{Leaves, fewer_left, one_left}
use Rattle.dsl_grammar.specs.Codes.{sorts, sign_sort, word_sort}
use Rattle.dsl_grammar.specs.Grammar.{OneTail, Tail, member_tail, index_tail, call_tail, Arguments, Expr, Else, ElseIf, Otherwise, else_block, Block, AnyHead, OneHead, head_to, head_for, LoopHead}
use Rattle.dsl_grammar.specs.Reading.{read_by}
use Rattle.dsl_grammar.specs.Terms.{Rule, behind, before, sign, word, IDENT, starts}
use Rattle.dsl_grammar.proofs.Shorter.{shorter}

-- What is left is read in some number of turns, which are no fewer than its tokens, and gives the whole.
pub record Left (Reads : ℕ → Type 0) (Bound : Type 0) (rest : List Token) : Type 0 where
  pub turns : ℕ
  pub reads : Reads turns
  pub fits : length rest ≤ turns
  pub bound : Bound

-- where a token stands, a turn is left
pub one_more : (m : ℕ) (cs : List Sort) (ts : List Token) → length ts ≤ m → at sorts cs ts ≡ true → m ≡ suc (m - 1)
one_more m cs [] le h = absurd cc
one_more m cs (t ∷ ts) le h = omega (arith, le)

-- behind the first token
pub next_shorter : (cs : List Sort) (ts us : List Token) → us ≡ drop 1 ts → at sorts cs ts ≡ true → length us < length ts
next_shorter cs [] us e h = absurd cc
next_shorter cs (t ∷ ts) us e h = let x : length us ≤ length ts = subst (λ xs. length xs ≤ length ts) (sym e) (omega arith) in omega (arith, x)

made_left : {A B : Type 0} (n : ℕ) (r : Read Token A) (f : A → B) → Leaves n r → Leaves n (r >>= λ a rest. got (f a) rest)
made_left n (got a rest) f l = l
made_left n (bad s) f l = tt

then_left : {A B : Type 0} (n : ℕ) (r : Read Token A) (f : A → List Token → Read Token B) → Leaves n r → ((a : A) (rest : List Token) → Leaves (length rest) (f a rest)) → Leaves n (r >>= f)
then_left n (got a rest) f l h = fewer_left (length rest) n (f a rest) l (h a rest)
then_left n (bad s) f l h = tt

if_left : {A : Type 0} (n : ℕ) (b : Bool) (r s : Read Token A) → Leaves n r → Leaves n s → Leaves n (cond b r s)
if_left n true r s l m = l
if_left n false r s l m = m

left : {A : Type 0} (n : ℕ) (g : Rule A) (ts : List Token) → Leaves (length ts) (read_by n g ts)
left {A} n g ts = by (read_by n g ts) refl
  where
    by : (r : Read Token A) → read_by n g ts ≡ r → Leaves (length ts) r
    by (got a rest) e = shorter n g a ts rest e
    by (bad s) e = tt

-- a token, and what stands behind it
behind_left : {A B : Type 0} (n : ℕ) (cs : List Sort) (f : Token → A) (g : Rule B) (t : Token) (ts : List Token) → Leaves (length ts) (read_by n (behind (one cs f) g) (t ∷ ts))
behind_left n cs f g t ts =
    then_left (length ts) (one_read sorts cs f (t ∷ ts)) (λ a mid. read_by n g mid >>= λ b rest. got b rest) (one_left sorts cs f t ts) (λ a mid. made_left (length mid) (read_by n g mid) (λ b. b) (left n g mid))

made_front : {A B : Type 0} (n : ℕ) (f : A → B) (g : Rule A) (t : Token) (ts : List Token) → Leaves (length ts) (read_by n g (t ∷ ts)) → Leaves (length ts) (read_by n (made f g) (t ∷ ts))
made_front n f g t ts l = made_left (length ts) (read_by n g (t ∷ ts)) f l

either_front : {A : Type 0} (n : ℕ) (g h : Rule A) (t : Token) (ts : List Token) → Leaves (length ts) (read_by n g (t ∷ ts)) → Leaves (length ts) (read_by n h (t ∷ ts)) → Leaves (length ts) (read_by n (either g h) (t ∷ ts))
either_front n g h t ts l m = if_left (length ts) (at sorts (first sorts starts false g) (t ∷ ts)) (read_by n g (t ∷ ts)) (read_by n h (t ∷ ts)) l m

-- a sign or a word, and what stands behind it
sign_front : {A B : Type 0} (n : ℕ) (s : Sign) (f : A → B) (g : Rule A) (t : Token) (ts : List Token) → Leaves (length ts) (read_by n (made f (behind (sign s) g)) (t ∷ ts))
sign_front n s f g t ts = made_front n f (behind (sign s) g) t ts (behind_left n (sign_sort s ∷ []) (λ u. u.place) g t ts)

word_front : {A B : Type 0} (n : ℕ) (w : Word) (f : A → B) (g : Rule A) (t : Token) (ts : List Token) → Leaves (length ts) (read_by n (made f (behind (word w) g)) (t ∷ ts))
word_front n w f g t ts = made_front n f (behind (word w) g) t ts (behind_left n (word_sort w ∷ []) (λ u. u.place) g t ts)

tail_left : (n : ℕ) (t : Token) (ts : List Token) → Leaves (length ts) (read_by n OneTail (t ∷ ts))
unfolding OneTail
tail_left n t ts =
    either_front n (made member_tail (behind (sign signs.Dot) IDENT)) (either (made index_tail (behind (sign signs.OpenBracket) (before Expr (sign signs.CloseBracket)))) (made call_tail (behind (sign signs.OpenParen) (before Arguments (sign signs.CloseParen))))) t ts
    (sign_front n signs.Dot member_tail IDENT t ts)
    (either_front n (made index_tail (behind (sign signs.OpenBracket) (before Expr (sign signs.CloseBracket)))) (made call_tail (behind (sign signs.OpenParen) (before Arguments (sign signs.CloseParen)))) t ts
    (sign_front n signs.OpenBracket index_tail (before Expr (sign signs.CloseBracket)) t ts)
    (sign_front n signs.OpenParen call_tail (before Arguments (sign signs.CloseParen)) t ts))

else_left : (n : ℕ) (t : Token) (ts : List Token) → Leaves (length ts) (read_by n Else (t ∷ ts))
unfolding Else
else_left n t ts = behind_left n (word_sort words.Else ∷ []) (λ u. u.place) (either ElseIf (made else_block Block)) t ts

head_left : (n : ℕ) (t : Token) (ts : List Token) → Leaves (length ts) (read_by n AnyHead (t ∷ ts))
unfolding AnyHead
head_left n t ts =
    either_front n (made head_to (behind (word words.To) IDENT)) (made head_for (behind (word words.For) LoopHead)) t ts (word_front n words.To head_to IDENT t ts) (word_front n words.For head_for LoopHead t ts)

-- behind what begins with a token that stands there
shorter_by : {A B : Type 0} (n : ℕ) (cs : List Sort) (g : Rule A) (f : A → B) (b : B) (ts rest : List Token) → ((t : Token) (us : List Token) → Leaves (length us) (read_by n g (t ∷ us))) → at sorts cs ts ≡ true → read_by n (made f g) ts ≡ got b rest → length rest < length ts
shorter_by n cs g f b [] rest l h e = absurd cc
shorter_by n cs g f b (t ∷ ts) rest l h e = let x : length rest ≤ length ts = subst (Leaves (length ts)) e (made_left (length ts) (read_by n g (t ∷ ts)) f (l t ts)) in omega (arith, x)

pub tail_shorter : {B : Type 0} (n : ℕ) (cs : List Sort) (f : Tail → B) (b : B) (ts rest : List Token) → at sorts cs ts ≡ true → read_by n (made f OneTail) ts ≡ got b rest → length rest < length ts
tail_shorter n cs f b ts rest h e = shorter_by n cs OneTail f b ts rest (tail_left n) h e

pub else_shorter : {B : Type 0} (n : ℕ) (cs : List Sort) (f : Otherwise → B) (b : B) (ts rest : List Token) → at sorts cs ts ≡ true → read_by n (made f Else) ts ≡ got b rest → length rest < length ts
else_shorter n cs f b ts rest h e = shorter_by n cs Else f b ts rest (else_left n) h e

pub head_shorter : {B : Type 0} (n : ℕ) (cs : List Sort) (f : OneHead → B) (b : B) (ts rest : List Token) → at sorts cs ts ≡ true → read_by n (made f AnyHead) ts ≡ got b rest → length rest < length ts
head_shorter n cs f b ts rest h e = shorter_by n cs AnyHead f b ts rest (head_left n) h e
