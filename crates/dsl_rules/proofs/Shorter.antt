-- No more tokens are left than there were, wherever something is read.
use Rattle.std.proofs.Common.{◌≡◌, ◌≤◌, ℕ, zero, suc, List, [], ◌∷◌, length, Bool, true, false, cond, subst, arith}
use Rattle.dsl_rules.specs.Alphabet.{Sort, Alphabet, among, at, skip, over}
use Rattle.dsl_rules.specs.Rules.{may}
use Rattle.dsl_rules.specs.Grammar.{Grammar, one, empty, both, either, ahead, made, here, loop, chain, rec, rec_not, always, fold_pair, pair}
use Rattle.dsl_rules.proofs.Lines.{skip_shorter}
use Rattle.dsl_rules.specs.Reading.{Read, got, bad, ◌>>=◌, one_read, here_read, both_read, turns, read, first}

-- so many are left at most
abbrev pub Leaves : {T A : Type 0} → ℕ → Read T A → Type 0
Leaves most (got a rest) = length rest ≤ most
Leaves most (bad s) = Unit {0}

pub fewer_left : {T A : Type 0} (n m : ℕ) (r : Read T A) → n ≤ m → Leaves n r → Leaves m r
fewer_left n m (got a rest) le l = omega (arith, le, l)
fewer_left n m (bad s) le l = tt

then_left : {T A B : Type 0} (n : ℕ) (r : Read T A) (f : A → List T → Read T B) → Leaves n r → ((a : A) (rest : List T) → Leaves (length rest) (f a rest)) → Leaves n (r >>= f)
then_left n (got a rest) f l h = fewer_left (length rest) n (f a rest) l (h a rest)
then_left n (bad s) f l h = tt

made_left : {T A B : Type 0} (n : ℕ) (r : Read T A) (f : A → B) → Leaves n r → Leaves n (r >>= λ a rest. got (f a) rest)
made_left n (got a rest) f l = l
made_left n (bad s) f l = tt

if_left : {T A : Type 0} (n : ℕ) (b : Bool) (r s : Read T A) → Leaves n r → Leaves n s → Leaves n (cond b r s)
if_left n true r s l m = l
if_left n false r s l m = m

module _ {T : Type 0} (al : Alphabet T) where
  -- one token of these sorts is taken
  pub one_left : {A : Type 0} (cs : List Sort) (f : T → A) (t : T) (ts : List T) → Leaves (length ts) (one_read al cs f (t ∷ ts))
  one_left cs f t ts = if_left (length ts) (among (al.sort_of t) cs) (got (f t) ts) (bad (t ∷ ts)) (omega arith) tt

  one_fewer : {A : Type 0} (cs : List Sort) (f : T → A) (ts : List T) → Leaves (length ts) (one_read al cs f ts)
  one_fewer cs f [] = tt
  one_fewer cs f (t ∷ ts) = fewer_left (length ts) (length (t ∷ ts)) (one_read al cs f (t ∷ ts)) (omega arith) (one_left cs f t ts)

  here_left : {A B : Type 0} (f : T → A → B) (p : List T → Read T A) (ts : List T) → Leaves (length ts) (p ts) → Leaves (length ts) (here_read f (p ts) ts)
  here_left f p [] l = tt
  here_left f p (t ∷ ts) l = made_left (length (t ∷ ts)) (p (t ∷ ts)) (f t) l

  both_left : {A B C : Type 0} (f : A → B → C) (p : List T → Read T A) (q : List T → Read T B) → ((ts : List T) → Leaves (length ts) (p ts)) → ((ts : List T) → Leaves (length ts) (q ts)) → (ts : List T) → Leaves (length ts) (both_read f p q ts)
  both_left f p q l m ts = then_left (length ts) (p ts) (λ a mid. q mid >>= λ b rest. got (f a b) rest) (l ts) (λ a mid. made_left (length mid) (q mid) (f a) (m mid))

  over_left : (look : Bool) (ts : List T) → length (over al look ts) ≤ length ts
  over_left true ts = skip_shorter al ts
  over_left false ts = omega arith

  turns_left : {A C : Type 0} (look : Bool) (cs : List Sort) (more : C → Sort → Bool) (step : C → A → C) (p : List T → Read T A) → ((ts : List T) → Leaves (length ts) (p ts)) → (m : ℕ) (c : C) (ts : List T) → Leaves (length ts) (turns al look cs more step p m c ts)
  turns_left look cs more step p l zero c ts = omega arith
  turns_left look cs more step p l (suc m) c ts =
      if_left (length ts) (may al cs (more c) (over al look ts)) (p (over al look ts) >>= λ x mid. turns al look cs more step p m (step c x) mid) (got c ts)
      (fewer_left (length (over al look ts)) (length ts) (p (over al look ts) >>= λ x mid. turns al look cs more step p m (step c x) mid) (over_left look ts)
      (then_left (length (over al look ts)) (p (over al look ts)) (λ x mid. turns al look cs more step p m (step c x) mid) (l (over al look ts)) (λ x mid. turns_left look cs more step p l m (step c x) mid)))
      (omega arith)

  -- where each name leaves no more, no grammar does
  pub read_left : {N : Type 0} {V : N → Type 0} {A : Type 0} (F : N → List Sort) (n : ℕ) (E : (k : N) → List T → Read T (V k)) → ((k : N) (ts : List T) → Leaves (length ts) (E k ts)) → (g : Grammar T N V A) (ts : List T) → Leaves (length ts) (read al F n E g ts)
  read_left F n E names (one cs f) ts = one_fewer cs f ts
  read_left F n E names (empty v) ts = omega arith
  read_left F n E names (both f g h) ts = both_left f (read al F n E g) (read al F n E h) (read_left F n E names g) (read_left F n E names h) ts
  read_left F n E names (either g h) ts = if_left (length ts) (at al (first al F false g) ts) (read al F n E g ts) (read al F n E h ts) (read_left F n E names g ts) (read_left F n E names h ts)
  read_left F n E names (ahead cs test g h) ts = if_left (length ts) (test ts) (read al F n E g ts) (read al F n E h ts) (read_left F n E names g ts) (read_left F n E names h ts)
  read_left F n E names (made f g) ts = made_left (length ts) (read al F n E g ts) f (read_left F n E names g ts)
  read_left F n E names (here f g) ts = here_left f (read al F n E g) ts (read_left F n E names g ts)
  read_left F n E names (loop look cs more step s g) ts =
      then_left (length ts) (read al F n E s ts) (turns al look cs more step (read al F n E g) n) (read_left F n E names s ts) (λ c mid. turns_left look cs more step (read al F n E g) (read_left F n E names g) n c mid)
  read_left F n E names (chain cs f g o) ts =
      then_left (length ts) (read al F n E g ts) (turns al false cs always (fold_pair f) (both_read pair (read al F n E o) (read al F n E g)) n) (read_left F n E names g ts)
      (λ c mid. turns_left false cs always (fold_pair f) (both_read pair (read al F n E o) (read al F n E g)) (both_left pair (read al F n E o) (read al F n E g) (read_left F n E names o) (read_left F n E names g)) n c mid)
  read_left F n E names (rec k f) ts = made_left (length ts) (E k ts) f (names k ts)
  read_left F n E names (rec_not cs k f) ts = made_left (length ts) (cond (at al cs ts) (bad ts) (E k ts)) f (if_left (length ts) (at al cs ts) (bad ts) (E k ts) tt (names k ts))
