-- The turns of loops, as the code makes them.
use Rattle.std.proofs.Common.{◌≡◌, ℕ, zero, suc, ◌+◌, ◌-◌, List, [], ◌∷◌, drop, Bool, true, false, cond, refl, sym, ap, ◌∙◌, subst}
use Rattle.dsl_lexer.specs.declared.token.Token.{Token}
use Rattle.dsl_rules.specs.Alphabet.{Sort, at, and, over}
use Rattle.dsl_rules.specs.Rules.{may}
use Rattle.dsl_rules.specs.Grammar.{always}
use Rattle.dsl_rules.specs.Reading.{Read, got, bad, ◌>>=◌, turns, one_read}
use Rattle.dsl_grammar.specs.Codes.{sorts, line_sort}

-- a turn is taken
pub turns_on : {A C : Type 0} (m n : ℕ) (look : Bool) (cs : List Sort) (more : C → Sort → Bool) (step : C → A → C) (p : List Token → Read Token A) (c : C) (x : A) (ts mid : List Token) → m ≡ suc n → may sorts cs (more c) (over sorts look ts) ≡ true → p (over sorts look ts) ≡ got x mid → turns sorts look cs more step p m c ts ≡ turns sorts look cs more step p n (step c x) mid
turns_on m n look cs more step p c x ts mid e h q = rw (e, h, q) refl

-- a turn goes wrong
pub turns_bad : {A C : Type 0} (m n : ℕ) (look : Bool) (cs : List Sort) (more : C → Sort → Bool) (step : C → A → C) (p : List Token → Read Token A) (c : C) (ts s : List Token) → m ≡ suc n → may sorts cs (more c) (over sorts look ts) ≡ true → p (over sorts look ts) ≡ bad s → turns sorts look cs more step p m c ts ≡ bad s
turns_bad m n look cs more step p c ts s e h q = rw (e, h, q) refl

-- no turn is taken
pub turns_end : {A C : Type 0} (m : ℕ) (look : Bool) (cs : List Sort) (more : C → Sort → Bool) (step : C → A → C) (p : List Token → Read Token A) (c : C) (ts : List Token) → may sorts cs (more c) (over sorts look ts) ≡ false → turns sorts look cs more step p m c ts ≡ got c ts
turns_end zero look cs more step p c ts h = refl
turns_end (suc m) look cs more step p c ts h = rw h refl

-- where each turn may be taken, the token alone decides
pub may_at : (cs : List Sort) (ts : List Token) → may sorts cs (λ _. true) ts ≡ at sorts cs ts
may_at cs [] = refl
may_at cs (t ∷ ts) = by (at sorts cs (t ∷ ts))
  where
    by : (b : Bool) → and b true ≡ b
    by true = refl
    by false = refl

-- a newline is passed over
pub line_turn : (m n : ℕ) (ts : List Token) → m ≡ suc n → at sorts (line_sort ∷ []) ts ≡ true → turns {C = ℕ} sorts false (line_sort ∷ []) always (λ n _. n) (one_read sorts (line_sort ∷ []) (λ t. t.place)) m 0 ts ≡ turns {C = ℕ} sorts false (line_sort ∷ []) always (λ n _. n) (one_read sorts (line_sort ∷ []) (λ t. t.place)) n 0 (drop 1 ts)
line_turn m n [] e h = absurd cc
line_turn m n (t ∷ ts) e h = turns_on m n false (line_sort ∷ []) always (λ n _. n) (one_read sorts (line_sort ∷ []) (λ t. t.place)) 0 t.place (t ∷ ts) ts e (may_at (line_sort ∷ []) (t ∷ ts) ∙ h) (rw h refl)
