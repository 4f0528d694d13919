-- Two tokens tell a definition from an expression.
use Rattle.std.proofs.Common.{◌≡◌, ◌≤◌, ℕ, List, [], ◌∷◌, ◌++◌, length, drop, Bool, true, false, cond, Option, refl, sym, subst, arith, length-append}
use Rattle.dsl_lexer.specs.declared.token.Token.{Token}
use Rattle.dsl_lexer.specs.declared.word.Word.TheVariants as words
use Rattle.dsl_syntax.specs.Syntax.{Expression, StatementKind}
use Rattle.dsl_rules.specs.Alphabet.{Sort, same, among, and, at}
use Rattle.dsl_rules.specs.Rules.{One}
use Rattle.dsl_rules.specs.Grammar.{Rules, Derives}
use Rattle.dsl_rules.specs.Reading.{read}
use Rattle.dsl_rules.proofs.Basics.{among_is, same_head, and_left}
use Rattle.dsl_rules.proofs.Law.{put}
use Rattle.dsl_rules.proofs.Shape.{Aheads}
use Rattle.dsl_grammar.specs.Codes.{sorts, word_sort, ident_sort}
use Rattle.dsl_grammar.specs.Terms.{Name, expr, block, Value, starts, Rule}
use Rattle.dsl_grammar.specs.Grammar.{Define, SetOrEval, begins_define}
use Rattle.dsl_grammar.proofs.Fitting.{goes, opening, Also}

abbrev pub AheadsHere : {A : Type 0} → List Sort → (List Token → Bool) → Rule A → Rule A → Type 1
AheadsHere cs test g h = Aheads sorts Value starts goes opening Also cs test g h

pub one_at : {A : Type 0} (cs : List Sort) (f : Token → A) (ts : List Token) (a : A) (rest : List Token) → One sorts cs f ts a rest → (at sorts cs ts ≡ true) × (drop 1 ts ≡ rest)
one_at cs f [] a rest d = absurd d
one_at cs f (t ∷ ts) a rest d = (d.0, d.2)

pub among_one : (c d : Sort) → among c (d ∷ []) ≡ true → same c d ≡ true
among_one c d e = by (same c d) e
  where
    by : (b : Bool) → cond b true false ≡ true → b ≡ true
    by true e = refl
    by false e = e

pub both_hold : (a b : Bool) → a ≡ true → b ≡ true → and a b ≡ true
both_hold true b e f = f
both_hold false b e f = e

expr_of : (L : ℕ → Rules Token Name Value) (h : ℕ) (ts : List Token) (a : StatementKind) (rest : List Token) → Derives sorts (L h) SetOrEval ts a rest → (e : Expression) × (mid : List Token) × L h expr ts e mid
unfolding SetOrEval
expr_of L h [] a rest d = absurd d.1.3
expr_of L h (t ∷ ts) a rest d = (d.1.3.1.0, d.1.0, d.1.3.1.1)

define_at : (L : ℕ → Rules Token Name Value) (h : ℕ) (ts : List Token) (a : StatementKind) (rest : List Token) → Derives sorts (L h) Define ts a rest → begins_define ts ≡ true
unfolding Define
define_at L h ts a rest d =
    let x = one_at (word_sort words.Function ∷ []) (λ t. t.place) ts d.1 d.0 d.3 in
    let y = one_at (ident_sort ∷ []) Rattle.dsl_grammar.specs.Terms.text d.0 d.4.1 d.4.0 d.4.3 in
    both_hold (at sorts (word_sort words.Function ∷ []) ts) (at sorts (ident_sort ∷ []) (drop 1 ts)) x.0 (subst (λ z. at sorts (ident_sort ∷ []) z ≡ true) (sym x.1) y.0)

-- whether `function` stands there is known from the token alone
settles : (front : List Token) (t : Token) (s s' : List Token) (b : Bool) → begins_define (front ++ t ∷ s) ≡ b → (front ≡ [] → among (sorts.sort_of t) (word_sort words.Function ∷ []) ≡ true → ⊥) → begins_define (front ++ t ∷ s') ≡ b
settles [] t s s' b is away = by (among (sorts.sort_of t) (word_sort words.Function ∷ [])) refl is
  where
    by : (c : Bool) → among (sorts.sort_of t) (word_sort words.Function ∷ []) ≡ c → and c (at sorts (ident_sort ∷ []) s) ≡ b → and (among (sorts.sort_of t) (word_sort words.Function ∷ [])) (at sorts (ident_sort ∷ []) s') ≡ b
    by true h is = absurd (away refl h)
    by false h is = rw h is
settles (x ∷ front) t s s' b is away = subst (λ z. and (among (sorts.sort_of x) (word_sort words.Function ∷ [])) z ≡ b) (same_head sorts (ident_sort ∷ []) front t s s') is

pub tells : AheadsHere [] begins_define Define SetOrEval
unfolding Define SetOrEval
tells n n' m m' L E E' env most most' lg lh = record {
  first_holds = λ h ts a rest le d. define_at L h ts a rest d;
  second_fails = λ h ts a rest le d q. let x = expr_of L h ts a rest d in env.also.undefined h ts x.0 x.1 x.2;
  begins = λ ts e. and_left (at sorts (word_sort words.Function ∷ []) ts) (at sorts (ident_sort ∷ []) (drop 1 ts)) e;
  settled = λ b front t s s' f o le le' is e. settles front t s s' b is (λ none m. stays b front t s f o none m le e);
}
  where
    starts_with : (t : Token) → among (sorts.sort_of t) (word_sort words.Function ∷ []) ≡ true → among (sorts.sort_of t) (starts expr) ≡ true
    starts_with t k = among_is (sorts.sort_of t) (word_sort words.Function) (starts expr) (among_one (sorts.sort_of t) (word_sort words.Function) k) refl

    stays_at : (b : Bool) (t : Token) (s f : List Token) (o : Option StatementKind) → among (sorts.sort_of t) (word_sort words.Function ∷ []) ≡ true → length (t ∷ s) ≤ n → cond b (read sorts starts m E Define (t ∷ s)) (read sorts starts m E SetOrEval (t ∷ s)) ≡ put o (f ++ t ∷ s) → ⊥
    stays_at true t s f o k le e = let x = lg.takes t s o (f ++ t ∷ s) le k e in omega (arith, x, length-append f (t ∷ s))
    stays_at false t s f o k le e = let x = lh.takes t s o (f ++ t ∷ s) le (starts_with t k) e in omega (arith, x, length-append f (t ∷ s))

    stays : (b : Bool) (front : List Token) (t : Token) (s f : List Token) (o : Option StatementKind) → front ≡ [] → among (sorts.sort_of t) (word_sort words.Function ∷ []) ≡ true → length (front ++ t ∷ s) ≤ n → cond b (read sorts starts m E Define (front ++ t ∷ s)) (read sorts starts m E SetOrEval (front ++ t ∷ s)) ≡ put o (f ++ t ∷ s) → ⊥
    stays b front t s f o none k le e = stays_at b t s f o k (subst (λ z. length (z ++ t ∷ s) ≤ n) none le) (subst (λ z. cond b (read sorts starts m E Define (z ++ t ∷ s)) (read sorts starts m E SetOrEval (z ++ t ∷ s)) ≡ put o (f ++ t ∷ s)) none e)
