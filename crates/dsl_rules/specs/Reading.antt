-- Reading by a grammar: the value and the tokens behind it, or the tokens from the first bad one on.
use Rattle.std.specs.Prelude.{◌≡◌, ℕ, zero, suc, List, [], ◌∷◌, ◌++◌, Bool, true, false, not, cond}
use Rattle.dsl_rules.specs.Alphabet.{Sort, Alphabet, among, without, outside, and, or, where_holds, at, over}
use Rattle.dsl_rules.specs.Rules.{may}
use Rattle.dsl_rules.specs.Grammar.{Grammar, one, empty, both, either, ahead, made, here, loop, chain, rec, rec_not, Pair, pair, always, fold_pair}

pub data Read (T A : Type 0) : Type 0 where
  got : A → List T → Read T A
  bad : List T → Read T A

infixl 10 ◌>>=◌
abbrev pub ◌>>=◌ : {T A B : Type 0} → Read T A → (A → List T → Read T B) → Read T B
(got a ts) >>= f = f a ts
(bad s) >>= f = bad s

-- what is true if no token of these sorts stands in the place of lines (`erased` false), or of other tokens alone

-- a derivation may have no token
abbrev pub null : {T N : Type 0} {V : N → Type 0} {A : Type 0} → Alphabet T → Bool → Grammar T N V A → Bool
null al erased (one cs f) = cond erased (among al.line cs) false
null al erased (empty v) = true
null al erased (both f g h) = and (null al erased g) (null al erased h)
null al erased (either g h) = or (null al erased g) (null al erased h)
null al erased (ahead cs test g h) = or (null al erased g) (null al erased h)
null al erased (made f g) = null al erased g
null al erased (here f g) = null al erased g
null al erased (loop look cs more step s g) = null al erased s
null al erased (chain cs f g o) = null al erased g
null al erased (rec k f) = false
null al erased (rec_not cs k f) = false

-- the sorts of the first token of a derivation; where `erased` is true, of the first that is no newline
abbrev pub first : {T N : Type 0} {V : N → Type 0} {A : Type 0} → Alphabet T → (N → List Sort) → Bool → Grammar T N V A → List Sort
first al F erased (one cs f) = cond erased (without al.line cs) cs
first al F erased (empty v) = []
first al F erased (both f g h) = first al F erased g ++ where_holds (null al erased g) (first al F erased h)
first al F erased (either g h) = first al F erased g ++ first al F erased h
first al F erased (ahead cs test g h) = first al F erased g ++ first al F erased h
first al F erased (made f g) = first al F erased g
first al F erased (here f g) = first al F erased g
first al F erased (loop look cs more step s g) = first al F erased s ++ where_holds (null al erased s) (where_holds (and look (not erased)) (al.line ∷ []) ++ first al F erased g)
first al F erased (chain cs f g o) = first al F erased g ++ where_holds (null al erased g) (first al F erased o ++ where_holds (null al erased o) (first al F erased g))
first al F erased (rec k f) = F k
first al F erased (rec_not cs k f) = outside cs (F k)

-- one token of these sorts
abbrev pub one_read : {T A : Type 0} → Alphabet T → List Sort → (T → A) → List T → Read T A
one_read al cs f [] = bad []
one_read al cs f (t ∷ ts) = cond (among (al.sort_of t) cs) (got (f t) ts) (bad (t ∷ ts))

abbrev pub here_read : {T A B : Type 0} → (T → A → B) → Read T A → List T → Read T B
here_read f r [] = bad []
here_read f r (t ∷ ts) = r >>= λ a rest. got (f t a) rest

abbrev pub both_read : {T A B C : Type 0} → (A → B → C) → (List T → Read T A) → (List T → Read T B) → List T → Read T C
both_read f p q ts = p ts >>= λ a mid. (q mid >>= λ b rest. got (f a b) rest)

-- turns, at most so many
abbrev pub turns : {T A C : Type 0} → Alphabet T → Bool → List Sort → (C → Sort → Bool) → (C → A → C) → (List T → Read T A) → ℕ → C → List T → Read T C
turns al look cs more step p zero c ts = got c ts
turns al look cs more step p (suc n) c ts =
    cond (may al cs (more c) (over al look ts)) (p (over al look ts) >>= λ x mid. turns al look cs more step p n (step c x) mid) (got c ts)

-- with at most n turns of each loop, and what is read by each name
abbrev pub read : {T N : Type 0} {V : N → Type 0} {A : Type 0} → Alphabet T → (N → List Sort) → ℕ → ((k : N) → List T → Read T (V k)) → Grammar T N V A → List T → Read T A
read al F n E (one cs f) ts = one_read al cs f ts
read al F n E (empty v) ts = got v ts
read al F n E (both f g h) ts = both_read f (read al F n E g) (read al F n E h) ts
read al F n E (either g h) ts = cond (at al (first al F false g) ts) (read al F n E g ts) (read al F n E h ts)
read al F n E (ahead cs test g h) ts = cond (test ts) (read al F n E g ts) (read al F n E h ts)
read al F n E (made f g) ts = read al F n E g ts >>= λ x rest. got (f x) rest
read al F n E (here f g) ts = here_read f (read al F n E g ts) ts
read al F n E (loop look cs more step s g) ts = read al F n E s ts >>= turns al look cs more step (read al F n E g) n
read al F n E (chain cs f g o) ts = read al F n E g ts >>= turns al false cs always (fold_pair f) (both_read pair (read al F n E o) (read al F n E g)) n
read al F n E (rec k f) ts = E k ts >>= λ x rest. got (f x) rest
read al F n E (rec_not cs k f) ts = cond (at al cs ts) (bad ts) (E k ts) >>= λ x rest. got (f x) rest
