-- What holds of a rule and of reading by it.
use Rattle.std.proofs.Common.{◌≡◌, ℕ, zero, suc, ◌+◌, ◌<◌, ◌≤◌, List, [], ◌∷◌, ◌++◌, length, Bool, true, false, not, cond, Option, Some, None, option_map, refl, sym, ap, ◌∙◌, subst, inl, inr, arith, append_assoc, append-nil, length-append, true≢false}
use Rattle.std.specs.Prelude.{◌⊎◌, is_some}
use Rattle.std.proofs.lemmas.List.{append_cancel_right}
use Rattle.dsl_rules.specs.Alphabet.{Sort, same, Alphabet, among, at, skip, over}
use Rattle.dsl_rules.specs.Rules.{Rule}
use Rattle.dsl_rules.specs.Reading.{Read, got, bad, ◌>>=◌}
use Rattle.dsl_rules.proofs.Basics.{AreInner, Opens, seam}

-- what can be said of a rule by its form: the sorts of the first token (false), and of the first that is no newline
-- (true); if there may be no such token; by which tokens it may go on where it stands, or behind newlines; and if
-- it looks over newlines at its end; and the sorts of a first token that reading never stops at
pub record Sets : Type 0 where
  pub first : Bool → List Sort
  pub null : Bool → Bool
  pub go : Bool → List Sort
  pub far : Bool
  pub sure : List Sort

-- a value, or none, and the tokens from there on
abbrev pub put : {T A : Type 0} → Option A → List T → Read T A
put (Some a) l = got a l
put None l = bad l

pub bind_got : {T A B : Type 0} (r : Read T A) (f : A → List T → Read T B) (b : B) (rest : List T) → (r >>= f) ≡ got b rest → (a : A) × (mid : List T) × (r ≡ got a mid) × (f a mid ≡ got b rest)
bind_got (got a mid) f b rest e = (a, mid, refl, e)
bind_got (bad d) f b rest e = absurd cc

pub bind_bad : {T A B : Type 0} (r : Read T A) (f : A → List T → Read T B) (s : List T) → (r >>= f) ≡ bad s → (r ≡ bad s) ⊎ ((a : A) × (mid : List T) × (r ≡ got a mid) × (f a mid ≡ bad s))
bind_bad (got a mid) f s e = inr (a, mid, refl, e)
bind_bad {T} {A} {B} (bad d) f s e = inl (let same : d ≡ s = cc in ap bad same)

-- reading gave this
pub bind_put : {T A B : Type 0} (r : Read T A) (f : A → List T → Read T B) (o : Option B) (l : List T) → (r >>= f) ≡ put o l → ((r ≡ bad l) × (o ≡ None)) ⊎ ((a : A) × (mid : List T) × (r ≡ got a mid) × (f a mid ≡ put o l))
bind_put (got a mid) f o l e = inr (a, mid, refl, e)
bind_put {T} {A} {B} (bad d) f (Some b) l e = absurd cc
bind_put {T} {A} {B} (bad d) f None l e = inl ((let same : d ≡ l = cc in ap bad same), refl)

pub got_is : {T A : Type 0} (x a : A) (l m : List T) → got x l ≡ got a m → (x ≡ a) × (l ≡ m)
got_is x a l m e = (cc, cc)

pub got_bad : {T A : Type 0} (x : A) (l m : List T) → got x l ≡ bad m → ⊥
got_bad x l m e = absurd cc

pub put_got : {T A : Type 0} (x : A) (l : List T) (o : Option A) (m : List T) → got x l ≡ put o m → (o ≡ Some x) × (l ≡ m)
put_got {T} {A} x l (Some a) m e = (let q : a ≡ x = cc in ap Some q, cc)
put_got x l None m e = absurd cc

pub put_bad : {T A : Type 0} (l : List T) (o : Option A) (m : List T) → bad l ≡ put o m → (o ≡ None) × (l ≡ m)
put_bad l (Some a) m e = absurd cc
put_bad l None m e = (refl, cc)

pub read_value : {T A B : Type 0} → Read T A → (A → List T → Read T B) → Option (Read T A) → Read T B
read_value r f o = r >>= f

module _ {T : Type 0} (al : Alphabet T) where
  -- among these and the one behind them one is no newline
  abbrev pub clear : List T → T → Bool
  clear [] t = not (same (al.sort_of t) al.line)
  clear (x ∷ xs) t = cond (same (al.sort_of x) al.line) (clear xs t) true

  abbrev pub Clear : {A : Type 0} → Bool → Option A → List T → T → Type 0
  Clear far o f t = far ≡ true → is_some o ≡ true → clear f t ≡ true

  -- the value with the front that was read, which is read before anything
  abbrev pub FreeAt : {A : Type 0} → Sets → Rule T A → List T → A → List T → Type 0
  FreeAt S R ts a rest =
      (front : List T) × (ts ≡ front ++ rest) × ((r : List T) → R (front ++ r) a r) × AreInner al front × ((e : Bool) → Opens al (S.null e) (S.first e) (over al e front))

  -- the tokens before the bad one can be completed, whatever follows
  abbrev pub AliveAt : {A : Type 0} → Rule T A → List T → List T → Type 0
  AliveAt {A} R ts s = (front : List T) × (ts ≡ front ++ s) × ((r : List T) → (w : List T) × (a : A) × R (front ++ (w ++ r)) a r)

  -- nothing follows by which the rule may go on
  abbrev pub Quiet : (Bool → List Sort) → List T → Type 0
  Quiet go rest = (e : Bool) → at al (go e) (over al e rest) ≡ false

  -- of a rule at each height, of two readers with their bounds on the tokens, and of n, the height at which the first
  -- reads
  pub record Law {A : Type 0} (S : Sets) (n room room' : ℕ) (R : ℕ → Rule T A) (p p' : List T → Read T A) : Type 0 where
    pub free : (h : ℕ) (ts : List T) (a : A) (rest : List T) → R h ts a rest → FreeAt S (R h) ts a rest
    pub more : (ts : List T) (a : A) (rest : List T) → R n ts a rest → R (suc n) ts a rest
    pub full : (r : List T) → (w : List T) × (a : A) × R (suc n) (w ++ r) a r
    pub sound : (ts : List T) (a : A) (rest : List T) → p ts ≡ got a rest → R n ts a rest
    pub complete : (h : ℕ) (ts : List T) (a : A) (rest : List T) → length ts ≤ room → R h ts a rest → Quiet S.go rest → p ts ≡ got a rest
    pub alive : (ts s : List T) → length ts ≤ room → p ts ≡ bad s → AliveAt (R (suc n)) ts s
    pub local :
        (front : List T) (t : T) (s s' f : List T) (o : Option A) → length (front ++ t ∷ s) ≤ room → length (front ++ t ∷ s') ≤ room' → Clear S.far o f t → p (front ++ t ∷ s) ≡ put o (f ++ t ∷ s)
        → p' (front ++ t ∷ s') ≡ put o (f ++ t ∷ s')
    pub known : (c : Sort) → among c S.sure ≡ true → among c (S.first false) ≡ true
    pub takes : (t : T) (ts : List T) (o : Option A) (l : List T) → length (t ∷ ts) ≤ room → among (al.sort_of t) S.sure ≡ true → p (t ∷ ts) ≡ put o l → length l ≤ length ts

  abbrev pub weight : Sets → ℕ
  weight S = cond (S.null false) 0 1

  -- a front that was read is long enough
  pub weighs : (S : Sets) (front : List T) → Opens al (S.null false) (S.first false) front → weight S ≤ length front
  weighs S [] o = by (S.null false) o
    where
      by : (b : Bool) → b ≡ true → cond b 0 1 ≤ 0
      by true e = omega arith
      by false e = absurd cc
  weighs S (t ∷ ts) o = by (S.null false)
    where
      by : (b : Bool) → cond b 0 1 ≤ length (t ∷ ts)
      by true = omega arith
      by false = omega arith

  module _ {A : Type 0} (S : Sets) (n room room' : ℕ) (R : ℕ → Rule T A) (p p' : List T → Read T A) (l : Law S n room room' R p p') where
    pub shrinks : (h : ℕ) (ts : List T) (a : A) (rest : List T) → R h ts a rest → length rest + weight S ≤ length ts
    shrinks h ts a rest d =
        let x = l.free h ts a rest d in
        let w = weighs S x.0 (x.4 false) in
        omega (arith, ap length x.1, length-append x.0 rest, w)

    -- what is left is the end of what was given
    pub cut : (ts : List T) (o : Option A) (rest : List T) → length ts ≤ room → p ts ≡ put o rest → (w : List T) × (ts ≡ w ++ rest)
    cut ts (Some a) rest le e = let x = l.free n ts a rest (l.sound ts a rest e) in (x.0, x.1)
    cut ts None rest le e = let x = l.alive ts rest le e in (x.0, x.1)

    pub starts : S.null false ≡ false → (h : ℕ) (ts : List T) (a : A) (rest : List T) → R h ts a rest → at al (S.first false) ts ≡ true
    starts solid h ts a rest d = let x = l.free h ts a rest d in subst (λ l. at al (S.first false) l ≡ true) (sym x.1) (by x.0 (x.4 false))
      where
        by : (front : List T) → Opens al (S.null false) (S.first false) front → at al (S.first false) (front ++ rest) ≡ true
        by [] o = absurd (true≢false (sym o ∙ solid))
        by (t ∷ front) o = o
