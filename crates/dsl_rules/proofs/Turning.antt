-- The turns of a loop, as code takes them one by one.
use Rattle.std.proofs.Common.{◌≡◌, ℕ, zero, suc, List, Bool, true, false, refl}
use Rattle.dsl_rules.specs.Alphabet.{Sort, Alphabet, over}
use Rattle.dsl_rules.specs.Rules.{may}
use Rattle.dsl_rules.specs.Reading.{Read, got, bad, turns}

-- a turn is taken
pub turns_on : {T A C : Type 0} (al : Alphabet T) (look : Bool) (cs : List Sort) (more : C → Sort → Bool) (step : C → A → C) (p : List T → Read T A) (m n : ℕ) (c : C) (x : A) (ts mid : List T)
    → m ≡ suc n → may al cs (more c) (over al look ts) ≡ true → p (over al look ts) ≡ got x mid → turns al look cs more step p m c ts ≡ turns al look cs more step p n (step c x) mid
turns_on al look cs more step p m n c x ts mid e h q = rw (e, h, q) refl

-- no turn may be taken
pub turns_end : {T A C : Type 0} (al : Alphabet T) (look : Bool) (cs : List Sort) (more : C → Sort → Bool) (step : C → A → C) (p : List T → Read T A) (m : ℕ) (c : C) (ts : List T)
    → may al cs (more c) (over al look ts) ≡ false → turns al look cs more step p m c ts ≡ got c ts
turns_end al look cs more step p zero c ts h = refl
turns_end al look cs more step p (suc m) c ts h = rw h refl

-- a turn is begun, and is none
pub turns_bad : {T A C : Type 0} (al : Alphabet T) (look : Bool) (cs : List Sort) (more : C → Sort → Bool) (step : C → A → C) (p : List T → Read T A) (m n : ℕ) (c : C) (ts s : List T)
    → m ≡ suc n → may al cs (more c) (over al look ts) ≡ true → p (over al look ts) ≡ bad s → turns al look cs more step p m c ts ≡ bad s
turns_bad al look cs more step p m n c ts s e h q = rw (e, h, q) refl
