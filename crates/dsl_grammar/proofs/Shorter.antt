-- No more tokens are left than there were, wherever something is read by the grammar.
use Rattle.std.proofs.Common.{◌≡◌, ◌≤◌, ◌<◌, ◌-◌, ℕ, zero, suc, List, [], ◌∷◌, drop, length, ap, subst, arith}
use Rattle.dsl_lexer.specs.declared.token.Token.{Token}
use Rattle.dsl_rules.specs.Alphabet.{Sort, skip}
use Rattle.dsl_rules.proofs.Lines.{skip_shorter}
use Rattle.dsl_rules.specs.Reading.{Read, got, one_read, read}
use Rattle.dsl_rules.proofs.Shorter.{Leaves, one_left, read_left}
use Rattle.dsl_lexer.specs.declared.sign.Sign.{Sign}
use Rattle.dsl_lexer.specs.declared.word.Word.{Word}
use Rattle.site_base.specs.declared.place.Place.{Place}
use Rattle.dsl_grammar.specs.Codes.{sorts, sign_sort, word_sort, ident_sort}
use Rattle.dsl_grammar.specs.Grammar.{production}
use Rattle.dsl_grammar.specs.Reading.{reads, read_by}
use Rattle.dsl_grammar.specs.Terms.{Name, Value, Rule, starts, text}

name_left : (n : ℕ) (k : Name) (ts : List Token) → Leaves (length ts) (reads n k ts)
unfolding reads
name_left zero k ts = tt
name_left (suc n) k ts = read_left sorts starts (suc n) (reads n) (λ j us. name_left n j us) (production k) ts

-- behind a name
pub name_shorter : (n : ℕ) (k : Name) (a : Value k) (ts rest : List Token) → reads n k ts ≡ got a rest → length rest ≤ length ts
name_shorter n k a ts rest e = subst (Leaves (length ts)) e (name_left n k ts)

-- behind what a production reads
pub shorter : {A : Type 0} (n : ℕ) (g : Rule A) (a : A) (ts rest : List Token) → read_by n g ts ≡ got a rest → length rest ≤ length ts
shorter n g a ts rest e = subst (Leaves (length ts)) e (read_left sorts starts n (reads (n - 1)) (λ k us. name_left (n - 1) k us) g ts)

-- behind one token
pub one_shorter : {A : Type 0} (cs : List Sort) (f : Token → A) (a : A) (ts rest : List Token) → one_read sorts cs f ts ≡ got a rest → length rest < length ts
one_shorter cs f a [] rest e = absurd cc
one_shorter cs f a (t ∷ ts) rest e = let x : length rest ≤ length ts = subst (Leaves (length ts)) e (one_left sorts cs f t ts) in omega (arith, x)

pub sign_shorter : (s : Sign) (p : Place) (ts rest : List Token) → one_read sorts (sign_sort s ∷ []) (λ t. t.place) ts ≡ got p rest → length rest < length ts
sign_shorter s p ts rest e = one_shorter (sign_sort s ∷ []) (λ t. t.place) p ts rest e

pub word_shorter : (w : Word) (p : Place) (ts rest : List Token) → one_read sorts (word_sort w ∷ []) (λ t. t.place) ts ≡ got p rest → length rest < length ts
word_shorter w p ts rest e = one_shorter (word_sort w ∷ []) (λ t. t.place) p ts rest e

pub ident_shorter : (n : List ℕ) (ts rest : List Token) → one_read sorts (ident_sort ∷ []) text ts ≡ got n rest → length rest < length ts
ident_shorter n ts rest e = one_shorter (ident_sort ∷ []) text n ts rest e

-- behind the first
pub rest_shorter : (ts us : List Token) → us ≡ drop 1 ts → length us ≤ length ts
rest_shorter [] us e = omega (arith, ap length e)
rest_shorter (t ∷ ts) us e = omega (arith, ap length e)

-- behind newlines
pub lines_shorter : (ts us : List Token) → us ≡ skip sorts ts → length us ≤ length ts
lines_shorter ts us e = omega (arith, ap length e, skip_shorter sorts ts)
