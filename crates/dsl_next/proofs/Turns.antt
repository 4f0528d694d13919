-- Turns that make what is so far into more, and productions that keep what they read.
use Rattle.std.proofs.Common.{◌≡◌, ℕ, suc, List, [], ◌∷◌, drop, Bool, true, false, refl, sym, ◌∙◌}
use Rattle.dsl_lexer.specs.declared.token.Token.{Token}
use Rattle.dsl_rules.specs.Alphabet.{Sort, at, over}
use Rattle.dsl_rules.specs.Rules.{may}
use Rattle.dsl_rules.specs.Reading.{Read, got, bad, ◌>>=◌, turns}
use Rattle.dsl_grammar.specs.Codes.{sorts}
use Rattle.dsl_rules.specs.Grammar.{made, one, always}
use Rattle.dsl_grammar.specs.Reading.{read_by}
use Rattle.dsl_grammar.specs.Terms.{Rule, behind}
use Rattle.dsl_grammar.proofs.Turns.{may_at}

-- a turn is taken, and what it makes is known
pub turned : {A C : Type 0} (m n : ℕ) (look : Bool) (cs : List Sort) (more : C → Sort → Bool) (step : C → A → C) (p : List Token → Read Token A) (c d : C) (ts mid : List Token) → m ≡ suc n → may sorts cs (more c) (over sorts look ts) ≡ true → p (over sorts look ts) >>= (λ x rest. got (step c x) rest) ≡ got d mid → turns sorts look cs more step p m c ts ≡ turns sorts look cs more step p n d mid
turned {A} {C} m n look cs more step p c d ts mid e h q = rw (e, h) (by (p (over sorts look ts)) q)
  where
    by : (r : Read Token A) → r >>= (λ x rest. got (step c x) rest) ≡ got d mid → (r >>= λ x rest. turns sorts look cs more step p n (step c x) rest) ≡ turns sorts look cs more step p n d mid
    by (got x s) q = let e : step c x ≡ d = cc in let f : s ≡ mid = cc in rw (e, f) refl
    by (bad s) q = absurd cc

-- The same with productions, as the invariants of loops use it: what is still to be read gives the whole.

-- a turn is taken
pub step_may : {A C : Type 0} (n m k : ℕ) (cs : List Sort) (more : C → Sort → Bool) (step : C → A → C) (g : Rule A) (c d : C) (ts mid : List Token) (whole : Read Token C) → m ≡ suc k → may sorts cs (more c) ts ≡ true → read_by n (made (step c) g) ts ≡ got d mid → turns sorts false cs more step (read_by n g) m c ts ≡ whole → turns sorts false cs more step (read_by n g) k d mid ≡ whole
step_may n m k cs more step g c d ts mid whole e h q w = sym (turned m k false cs more step (read_by n g) c d ts mid e h q) ∙ w

-- the same where the token alone decides
pub step_at : {A C : Type 0} (n m k : ℕ) (cs : List Sort) (step : C → A → C) (g : Rule A) (c d : C) (ts mid : List Token) (whole : Read Token C) → m ≡ suc k → at sorts cs ts ≡ true → read_by n (made (step c) g) ts ≡ got d mid → turns sorts false cs always step (read_by n g) m c ts ≡ whole → turns sorts false cs always step (read_by n g) k d mid ≡ whole
step_at n m k cs step g c d ts mid whole e h q w = step_may n m k cs always step g c d ts mid whole e (may_at cs ts ∙ h) q w

-- behind a token of these sorts
pub made_behind : {A C : Type 0} (n : ℕ) (cs : List Sort) (f : A → C) (g : Rule A) (ts : List Token) → at sorts cs ts ≡ true → read_by n (made f (behind (one cs (λ t. t.place)) g)) ts ≡ read_by n (made f g) (drop 1 ts)
made_behind n cs f g [] h = absurd cc
made_behind {A} {C} n cs f g (t ∷ ts) h = rw h (by (read_by n g ts))
  where
    by : (r : Read Token A) → ((r >>= λ y rest. got y rest) >>= λ x rest. got (f x) rest) ≡ (r >>= λ x rest. got (f x) rest)
    by (got x rest) = refl
    by (bad s) = refl

-- a turn behind a token of these sorts
pub step_behind : {A C : Type 0} (n m k : ℕ) (cs : List Sort) (step : C → A → C) (g : Rule A) (c d : C) (ts mid : List Token) (whole : Read Token C) → m ≡ suc k → at sorts cs ts ≡ true → read_by n (made (step c) g) (drop 1 ts) ≡ got d mid → turns sorts false cs always step (read_by n (behind (one cs (λ t. t.place)) g)) m c ts ≡ whole → turns sorts false cs always step (read_by n (behind (one cs (λ t. t.place)) g)) k d mid ≡ whole
step_behind n m k cs step g c d ts mid whole e h q w = step_at n m k cs step (behind (one cs (λ t. t.place)) g) c d ts mid whole e h (made_behind n cs (step c) g ts h ∙ q) w
