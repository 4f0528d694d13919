-- Grammars, what they derive, and what can be said of them by their form alone.
use Rattle.std.specs.Prelude.{◌≡◌, ℕ, List, [], ◌∷◌, ◌++◌, Bool, true, false, not, cond}
use Rattle.dsl_rules.specs.Alphabet.{Sort, Alphabet, among, without, outside, apart, and, or, where_holds}
use Rattle.dsl_rules.specs.Rules.{Rule, One, Empty, Both, Made, Either, Here, Loop, Not}

-- a grammar of values in A, where each name stands for a rule of its own
pub data Grammar (T N : Type 0) (V : N → Type 0) : Type 0 → Type 1 where
  -- one token of these sorts
  one : {A : Type 0} → List Sort → (T → A) → Grammar T N V A
  -- nothing
  empty : {A : Type 0} → A → Grammar T N V A
  -- one after the other
  both : {A B C : Type 0} → (A → B → C) → Grammar T N V A → Grammar T N V B → Grammar T N V C
  -- one or the other
  either : {A : Type 0} → Grammar T N V A → Grammar T N V A → Grammar T N V A
  -- one or the other, which a test of the tokens tells apart; it may look at one of these behind the second
  ahead : {A : Type 0} → List Sort → (List T → Bool) → Grammar T N V A → Grammar T N V A → Grammar T N V A
  -- what is made of a value
  made : {A B : Type 0} → (A → B) → Grammar T N V A → Grammar T N V B
  -- a value with its first token
  here : {A B : Type 0} → (T → A → B) → Grammar T N V A → Grammar T N V B
  -- one, and then any number of turns, each begun by one of these sorts and as `more` allows, behind newlines if the
  -- first is true
  loop : {A C : Type 0} → Bool → List Sort → (C → Sort → Bool) → (C → A → C) → Grammar T N V C → Grammar T N V A → Grammar T N V C
  -- operands between operators
  chain : {A B : Type 0} → List Sort → (A → B → A → A) → Grammar T N V A → Grammar T N V B → Grammar T N V A
  -- what a name stands for, and the same where it doesn't begin with these
  rec : {A : Type 0} → (k : N) → (V k → A) → Grammar T N V A
  rec_not : {A : Type 0} → List Sort → (k : N) → (V k → A) → Grammar T N V A

-- what each name stands for
abbrev pub Rules : (T N : Type 0) → (N → Type 0) → Type 1
Rules T N V = (k : N) → Rule T (V k)

pub data Pair (A B : Type 0) : Type 0 where
  pair : A → B → Pair A B

abbrev pub left : {A B : Type 0} → Pair A B → A
left (pair a b) = a

abbrev pub right : {A B : Type 0} → Pair A B → B
right (pair a b) = b

abbrev pub always : {C : Type 0} → C → Sort → Bool
always c k = true

abbrev pub fold_pair : {A B : Type 0} → (A → B → A → A) → A → Pair B A → A
fold_pair f a (pair o b) = f a o b

abbrev pub Derives : {T N : Type 0} {V : N → Type 0} {A : Type 0} → Alphabet T → Rules T N V → Grammar T N V A → Rule T A
Derives al L (one cs f) ts a rest = One al cs f ts a rest
Derives al L (empty v) ts a rest = Empty v ts a rest
Derives al L (both f g h) ts a rest = Both f (Derives al L g) (Derives al L h) ts a rest
Derives al L (either g h) ts a rest = Either (Derives al L g) (Derives al L h) ts a rest
Derives al L (ahead cs test g h) ts a rest = Either (Derives al L g) (Derives al L h) ts a rest
Derives al L (made f g) ts a rest = Made f (Derives al L g) ts a rest
Derives al L (here f g) ts a rest = Here f (Derives al L g) ts a rest
Derives al L (loop look cs more step s g) ts a rest = Loop al look cs more step (Derives al L s) (Derives al L g) ts a rest
Derives al L (chain cs f g o) ts a rest = Loop al false cs always (fold_pair f) (Derives al L g) (Both pair (Derives al L o) (Derives al L g)) ts a rest
Derives al L (rec k f) ts a rest = Made f (L k) ts a rest
Derives al L (rec_not cs k f) ts a rest = Made f (Not al cs (L k)) ts a rest
