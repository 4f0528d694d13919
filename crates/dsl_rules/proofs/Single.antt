-- One token, and no token.
use Rattle.std.proofs.Common.{◌≡◌, ℕ, zero, suc, ◌+◌, ◌<◌, ◌≤◌, List, [], ◌∷◌, ◌++◌, length, Bool, true, false, not, cond, Option, Some, None, refl, sym, ap, ◌∙◌, subst, inl, inr, arith, append_assoc, append-nil, length-append, true≢false}
use Rattle.std.specs.Prelude.{◌⊎◌, is_some}
use Rattle.std.proofs.lemmas.List.{append_cancel_right}
use Rattle.dsl_rules.specs.Alphabet.{Sort, same, Alphabet, among, without, at, skip, over}
use Rattle.dsl_rules.specs.Rules.{Rule, One, Empty}
use Rattle.dsl_rules.specs.Reading.{Read, got, bad, one_read}
use Rattle.dsl_rules.proofs.Basics.{AreInner, Opens, among_is, among_not, among_without, at_nothing}
use Rattle.dsl_rules.proofs.Law.{Sets, Law, FreeAt, AliveAt, Quiet, Clear, put, put_got, put_bad, got_is, got_bad}

pub swapped : {T : Type 0} (xs ys : List T) (t : T) (s s' : List T) → xs ++ t ∷ s ≡ ys ++ t ∷ s → xs ++ t ∷ s' ≡ ys ++ t ∷ s'
swapped xs ys t s s' e = ap (λ l. l ++ t ∷ s') (append_cancel_right xs ys (t ∷ s) e)

pub local_got : {T A : Type 0} (x : A) (front f : List T) (t : T) (s s' : List T) (o : Option A) → got x (front ++ t ∷ s) ≡ put o (f ++ t ∷ s) → got x (front ++ t ∷ s') ≡ put o (f ++ t ∷ s')
local_got x front f t s s' o e = let q = put_got x (front ++ t ∷ s) o (f ++ t ∷ s) e in rw q.0 (ap (got x) (swapped front f t s s' q.1))

pub local_bad : {T A : Type 0} (front f : List T) (t : T) (s s' : List T) (o : Option A) → bad (front ++ t ∷ s) ≡ put o (f ++ t ∷ s) → bad (front ++ t ∷ s') ≡ put o (f ++ t ∷ s')
local_bad front f t s s' o e = let q = put_bad (front ++ t ∷ s) o (f ++ t ∷ s) e in rw q.0 (ap bad (swapped front f t s s' q.1))

pub too_long : {T : Type 0} (l f : List T) (t : T) (s : List T) → length l ≤ length s → l ≡ f ++ t ∷ s → ⊥
too_long l f t s le e = omega (arith, ap length e, length-append f (t ∷ s))

module _ {T : Type 0} {A : Type 0} (al : Alphabet T) (cs : List Sort) (c0 : Sort) (f : T → A) (n room room' : ℕ) (e1 : among (al.sort_of (al.sample c0)) cs ≡ true) (e2 : among al.last cs ≡ false) where
  abbrev pub one_sets : Sets
  one_sets = record { first = λ e. cond e (without al.line cs) cs; null = λ e. cond e (among al.line cs) false; go = λ e. []; far = false; sure = cs }

  one_front : (ts : List T) (a : A) (rest : List T) → One al cs f ts a rest → (t : T) × (ts ≡ t ∷ rest) × (among (al.sort_of t) cs ≡ true) × (f t ≡ a)
  one_front [] a rest d = absurd d
  one_front (t ∷ ts) a rest d = (t, ap (λ l. t ∷ l) d.2, d.0, d.1)

  one_opens : (t : T) → among (al.sort_of t) cs ≡ true → (e : Bool) → Opens al (one_sets.null e) (one_sets.first e) (over al e (t ∷ []))
  one_opens t m false = m
  one_opens t m true = by (same (al.sort_of t) al.line) refl
    where
      by : (b : Bool) → same (al.sort_of t) al.line ≡ b → Opens al (among al.line cs) (without al.line cs) (cond b [] (t ∷ []))
      by true e = subst (λ z. among z cs ≡ true) (Rattle.dsl_rules.proofs.Basics.same_is (al.sort_of t) al.line e) m
      by false e = among_without (al.sort_of t) al.line cs e m

  one_free : (h : ℕ) (ts : List T) (a : A) (rest : List T) → One al cs f ts a rest → FreeAt al one_sets (One al cs f) ts a rest
  one_free h ts a rest d =
      let x = one_front ts a rest d in
      (x.0 ∷ [], x.1, λ r. (x.2, x.3, refl), (among_not (al.sort_of x.0) al.last cs e2 x.2, tt), one_opens x.0 x.2)

  one_sound : (ts : List T) (a : A) (rest : List T) → one_read al cs f ts ≡ got a rest → One al cs f ts a rest
  one_sound [] a rest e = absurd cc
  one_sound (t ∷ ts) a rest e = by (among (al.sort_of t) cs) refl e
    where
      by : (b : Bool) → among (al.sort_of t) cs ≡ b → cond b (got (f t) ts) (bad (t ∷ ts)) ≡ got a rest → One al cs f (t ∷ ts) a rest
      by true m e = let q = got_is (f t) a ts rest e in (m, q.0, q.1)
      by false m e = absurd cc

  one_complete : (ts : List T) (a : A) (rest : List T) → One al cs f ts a rest → one_read al cs f ts ≡ got a rest
  one_complete [] a rest d = absurd d
  one_complete (t ∷ ts) a rest d = rw (d.0, d.1, d.2) refl

  one_bad : (ts s : List T) → one_read al cs f ts ≡ bad s → ts ≡ s
  one_bad [] s e = cc
  one_bad (t ∷ ts) s e = by (among (al.sort_of t) cs) e
    where
      by : (b : Bool) → cond b (got (f t) ts) (bad (t ∷ ts)) ≡ bad s → t ∷ ts ≡ s
      by true e = absurd (got_bad (f t) ts s e)
      by false e = cc

  one_local : (front : List T) (t : T) (s s' l : List T) (o : Option A) → one_read al cs f (front ++ t ∷ s) ≡ put o (l ++ t ∷ s) → one_read al cs f (front ++ t ∷ s') ≡ put o (l ++ t ∷ s')
  one_local [] t s s' l o e = by (among (al.sort_of t) cs) e
    where
      by : (b : Bool) → cond b (got (f t) s) (bad (t ∷ s)) ≡ put o (l ++ t ∷ s) → cond b (got (f t) s') (bad (t ∷ s')) ≡ put o (l ++ t ∷ s')
      by true e = absurd (too_long s l t s (omega arith) (put_got (f t) s o (l ++ t ∷ s) e).1)
      by false e = local_bad [] l t s s' o e
  one_local (x ∷ front) t s s' l o e = by (among (al.sort_of x) cs) e
    where
      by : (b : Bool) → cond b (got (f x) (front ++ t ∷ s)) (bad (x ∷ (front ++ t ∷ s))) ≡ put o (l ++ t ∷ s) → cond b (got (f x) (front ++ t ∷ s')) (bad (x ∷ (front ++ t ∷ s'))) ≡ put o (l ++ t ∷ s')
      by true e = local_got (f x) front l t s s' o e
      by false e = local_bad (x ∷ front) l t s s' o e

  pub law_one : Law al one_sets n room room' (λ h. One al cs f) (one_read al cs f) (one_read al cs f)
  law_one = record {
    free = one_free;
    more = λ ts a rest d. d;
    full = λ r. (al.sample c0 ∷ [], f (al.sample c0), (e1, refl, refl));
    sound = one_sound;
    complete = λ h ts a rest le d q. one_complete ts a rest d;
    alive = λ ts s le e. ([], one_bad ts s e, λ r. (al.sample c0 ∷ [], f (al.sample c0), (e1, refl, refl)));
    local = λ front t s s' l o le le' clear e. one_local front t s s' l o e;
    takes = λ t ts o l le m e. omega (arith, ap length (put_got (f t) ts o l (subst (λ b. cond b (got (f t) ts) (bad (t ∷ ts)) ≡ put o l) m e)).1);
    known = λ c m. m;
  }

module _ {T : Type 0} {A : Type 0} (al : Alphabet T) (v : A) (n room room' : ℕ) where
  abbrev pub empty_sets : Sets
  empty_sets = record { first = λ e. []; null = λ e. true; go = λ e. []; far = false; sure = [] }

  empty_opens : (e : Bool) → Opens al true [] (over al e [])
  empty_opens true = refl
  empty_opens false = refl

  pub law_empty : Law al empty_sets n room room' (λ h. Empty v) (got v) (got v)
  law_empty = record {
    free = λ h ts a rest d. ([], d.1, λ r. (d.0, refl), tt, empty_opens);
    more = λ ts a rest d. d;
    full = λ r. ([], v, (refl, refl));
    sound = λ ts a rest e. got_is v a ts rest e;
    complete = λ h ts a rest le d q. rw (d.0, d.1) refl;
    alive = λ ts s le e. absurd (got_bad v ts s e);
    local = λ front t s s' l o le le' clear e. local_got v front l t s s' o e;
    takes = λ t ts o l le m e. absurd cc;
    known = λ c m. absurd cc;
  }
