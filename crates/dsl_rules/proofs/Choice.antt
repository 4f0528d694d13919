-- One rule or the other; what is made of a value; and rules that don't begin with some tokens.
use Rattle.std.proofs.Common.{◌≡◌, ℕ, zero, suc, ◌+◌, ◌<◌, ◌≤◌, List, [], ◌∷◌, ◌++◌, length, Bool, true, false, not, cond, Option, Some, None, option_map, refl, sym, ap, ◌∙◌, subst, inl, inr, arith, append_assoc, append-nil, length-append, true≢false}
use Rattle.std.specs.Prelude.{◌⊎◌, is_some}
use Rattle.std.proofs.lemmas.List.{append_cancel_right}
use Rattle.dsl_rules.specs.Alphabet.{Sort, same, Alphabet, among, outside, apart, and, or, where_holds, at, skip, over}
use Rattle.dsl_rules.specs.Rules.{Rule, Both, Made, Either, Here, Not}
use Rattle.dsl_rules.specs.Reading.{Read, got, bad, ◌>>=◌, here_read}
use Rattle.dsl_rules.proofs.Basics.{AreInner, Opens, opens_left, opens_right, opens_append, seam, at_none_left, at_none_right, where_none, among_left, among_right, among_either, among_outside, not_or_left, not_or_right, or_left, or_right, same_head}
use Rattle.dsl_rules.proofs.Law.{Sets, Law, FreeAt, AliveAt, Quiet, Clear, put, put_got, put_bad, got_is, got_bad, bind_got, bind_bad, bind_put, weight, shrinks, cut, starts}

-- what is among those outside
pub inside : (c : Sort) (cs xs : List Sort) → among c (outside cs xs) ≡ true → (among c xs ≡ true) × (among c cs ≡ false)
inside c cs [] e = absurd cc
inside c cs (x ∷ xs) e = by (inside c cs xs) (among x cs) refl e
  where
    of : (among c (outside cs xs) ≡ true → (among c xs ≡ true) × (among c cs ≡ false)) → among x cs ≡ false → (b : Bool) → same c x ≡ b → cond b true (among c (outside cs xs)) ≡ true → (cond b true (among c xs) ≡ true) × (among c cs ≡ false)
    of again m true s e = (refl, subst (λ z. among z cs ≡ false) (sym (Rattle.dsl_rules.proofs.Basics.same_is c x s)) m)
    of again m false s e = again e

    by : (among c (outside cs xs) ≡ true → (among c xs ≡ true) × (among c cs ≡ false)) → (b : Bool) → among x cs ≡ b → among c (cond b (outside cs xs) (x ∷ outside cs xs)) ≡ true → (cond (same c x) true (among c xs) ≡ true) × (among c cs ≡ false)
    by again true m e = let y = again e in (or_right (same c x) (among c xs) y.0, y.1)
    by again false m e = of again m (same c x) refl e

-- one or the other, by the next token
module _ {T : Type 0} (al : Alphabet T) {A : Type 0} (Sa Sb : Sets) (n room room' : ℕ) (R Q : ℕ → Rule T A) (p p' q q' : List T → Read T A) (la : Law al Sa n room room' R p p') (lb : Law al Sb n room room' Q q q') where
  abbrev pub either_sets : Sets
  either_sets = record {
    first = λ e. Sa.first e ++ Sb.first e;
    null = λ e. or (Sa.null e) (Sb.null e);
    go = λ e. (Sa.go e ++ Sb.go e) ++ cond e [] (where_holds (Sb.null false) (Sa.first false));
    far = or Sa.far Sb.far;
    sure = Sa.sure ++ outside (Sa.first false) Sb.sure;
  }

  abbrev pub R1 : ℕ → Rule T A
  R1 h ts a rest = Either (R h) (Q h) ts a rest

  pub choice_free : (h : ℕ) (ts : List T) (a : A) (rest : List T) → R1 h ts a rest → FreeAt al either_sets (R1 h) ts a rest
  choice_free h ts a rest (inl d) =
      let x = la.free h ts a rest d in
      (x.0, x.1, λ r. inl (x.2 r), x.3, λ e. opens_left al (Sa.null e) (Sb.null e) (Sa.first e) (Sb.first e) (over al e x.0) (x.4 e))
  choice_free h ts a rest (inr d) =
      let x = lb.free h ts a rest d in
      (x.0, x.1, λ r. inr (x.2 r), x.3, λ e. opens_right al (Sa.null e) (Sb.null e) (Sa.first e) (Sb.first e) (over al e x.0) (x.4 e))

  pub choice_more : (ts : List T) (a : A) (rest : List T) → R1 n ts a rest → R1 (suc n) ts a rest
  choice_more ts a rest (inl d) = inl (la.more ts a rest d)
  choice_more ts a rest (inr d) = inr (lb.more ts a rest d)

  pub quiet_left : (rest : List T) → Quiet al either_sets.go rest → Quiet al Sa.go rest
  quiet_left rest q e = at_none_left al (Sa.go e) (Sb.go e) (over al e rest) (at_none_left al (Sa.go e ++ Sb.go e) (cond e [] (where_holds (Sb.null false) (Sa.first false))) (over al e rest) (q e))

  pub quiet_right : (rest : List T) → Quiet al either_sets.go rest → Quiet al Sb.go rest
  quiet_right rest q e = at_none_right al (Sa.go e) (Sb.go e) (over al e rest) (at_none_left al (Sa.go e ++ Sb.go e) (cond e [] (where_holds (Sb.null false) (Sa.first false))) (over al e rest) (q e))

  pub clear_left : (o : Option A) (f : List T) (t : T) → Clear al (or Sa.far Sb.far) o f t → Clear al Sa.far o f t
  clear_left o f t c far is = c (or_left Sa.far Sb.far far) is

  pub clear_right : (o : Option A) (f : List T) (t : T) → Clear al (or Sa.far Sb.far) o f t → Clear al Sb.far o f t
  clear_right o f t c far is = c (or_right Sa.far Sb.far far) is

  module _ (solid : Sa.null false ≡ false) (fits : apart (Sb.first false) (Sa.first false) ≡ true) where
    abbrev chosen : List T → Read T A
    chosen ts = cond (at al (Sa.first false) ts) (p ts) (q ts)

    abbrev chosen' : List T → Read T A
    chosen' ts = cond (at al (Sa.first false) ts) (p' ts) (q' ts)

    second : (h : ℕ) (ts : List T) (a : A) (rest : List T) → Q h ts a rest → Quiet al either_sets.go rest → at al (Sa.first false) ts ≡ false
    second h ts a rest d stop =
        let x = lb.free h ts a rest d in
        subst (λ l. at al (Sa.first false) l ≡ false) (sym x.1)
        (seam al false (Sb.null false) (Sb.first false) (Sa.first false) x.0 rest (x.4 false) fits (where_none al (Sb.null false) (Sa.first false) rest (at_none_right al (Sa.go false ++ Sb.go false) (where_holds (Sb.null false) (Sa.first false)) rest (stop false))))

    either_complete : (h : ℕ) (ts : List T) (a : A) (rest : List T) → length ts ≤ room → R1 h ts a rest → Quiet al either_sets.go rest → chosen ts ≡ got a rest
    either_complete h ts a rest le (inl d) stop = rw (starts al Sa n room room' R p p' la solid h ts a rest d) (la.complete h ts a rest le d (quiet_left rest stop))
    either_complete h ts a rest le (inr d) stop = rw (second h ts a rest d stop) (lb.complete h ts a rest le d (quiet_right rest stop))

    pub law_either : Law al either_sets n room room' R1 chosen chosen'
    law_either = record {
      free = choice_free;
      more = choice_more;
      full = λ r. let x = lb.full r in (x.0, x.1, inr x.2);
      sound = λ ts a rest e. sound ts a rest (at al (Sa.first false) ts) e;
      complete = either_complete;
      alive = λ ts s le e. alive ts s le (at al (Sa.first false) ts) e;
      local = λ front t s s' f o le le' clear e. local front t s s' f o le le' clear (at al (Sa.first false) (front ++ t ∷ s)) refl e;
      known = λ c m. known c (among_either c Sa.sure (outside (Sa.first false) Sb.sure) m);
      takes = λ t ts o l le m e. takes t ts o l le (among_either (al.sort_of t) Sa.sure (outside (Sa.first false) Sb.sure) m) (among (al.sort_of t) (Sa.first false)) refl e;
    }
      where
        sound : (ts : List T) (a : A) (rest : List T) (b : Bool) → cond b (p ts) (q ts) ≡ got a rest → R1 n ts a rest
        sound ts a rest true e = inl (la.sound ts a rest e)
        sound ts a rest false e = inr (lb.sound ts a rest e)

        alive : (ts s : List T) → length ts ≤ room → (b : Bool) → cond b (p ts) (q ts) ≡ bad s → AliveAt al (R1 (suc n)) ts s
        alive ts s le true e = let x = la.alive ts s le e in (x.0, x.1, λ r. let y = x.2 r in (y.0, y.1, inl y.2))
        alive ts s le false e = let x = lb.alive ts s le e in (x.0, x.1, λ r. let y = x.2 r in (y.0, y.1, inr y.2))

        local : (front : List T) (t : T) (s s' f : List T) (o : Option A) → length (front ++ t ∷ s) ≤ room → length (front ++ t ∷ s') ≤ room' → Clear al (or Sa.far Sb.far) o f t → (b : Bool) → at al (Sa.first false) (front ++ t ∷ s) ≡ b → cond b (p (front ++ t ∷ s)) (q (front ++ t ∷ s)) ≡ put o (f ++ t ∷ s) → chosen' (front ++ t ∷ s') ≡ put o (f ++ t ∷ s')
        local front t s s' f o le le' clear true is e = rw (sym (same_head al (Sa.first false) front t s s') ∙ is) (la.local front t s s' f o le le' (clear_left o f t clear) e)
        local front t s s' f o le le' clear false is e = rw (sym (same_head al (Sa.first false) front t s s') ∙ is) (lb.local front t s s' f o le le' (clear_right o f t clear) e)

        known : (c : Sort) → ((among c Sa.sure ≡ true) ⊎ ((among c Sa.sure ≡ false) × (among c (outside (Sa.first false) Sb.sure) ≡ true))) → among c (Sa.first false ++ Sb.first false) ≡ true
        known c (inl m) = among_left c (Sa.first false) (Sb.first false) (la.known c m)
        known c (inr m) = among_right c (Sa.first false) (Sb.first false) (lb.known c (inside c (Sa.first false) Sb.sure m.1).0)

        takes : (t : T) (ts : List T) (o : Option A) (l : List T) → length (t ∷ ts) ≤ room → ((among (al.sort_of t) Sa.sure ≡ true) ⊎ ((among (al.sort_of t) Sa.sure ≡ false) × (among (al.sort_of t) (outside (Sa.first false) Sb.sure) ≡ true))) → (b : Bool) → among (al.sort_of t) (Sa.first false) ≡ b → cond (among (al.sort_of t) (Sa.first false)) (p (t ∷ ts)) (q (t ∷ ts)) ≡ put o l → length l ≤ length ts
        takes t ts o l le (inl m) true is e = la.takes t ts o l le m (subst (λ b. cond b (p (t ∷ ts)) (q (t ∷ ts)) ≡ put o l) is e)
        takes t ts o l le (inl m) false is e = absurd (true≢false (sym (la.known (al.sort_of t) m) ∙ is))
        takes t ts o l le (inr m) true is e = absurd (true≢false (sym is ∙ (inside (al.sort_of t) (Sa.first false) Sb.sure m.1).1))
        takes t ts o l le (inr m) false is e = lb.takes t ts o l le (inside (al.sort_of t) (Sa.first false) Sb.sure m.1).0 (subst (λ b. cond b (p (t ∷ ts)) (q (t ∷ ts)) ≡ put o l) is e)

-- one or the other, by a test of the tokens
module _ {T : Type 0} (al : Alphabet T) {A : Type 0} (Sa Sb : Sets) (n room room' : ℕ) (R Q : ℕ → Rule T A) (p p' q q' : List T → Read T A) (la : Law al Sa n room room' R p p') (lb : Law al Sb n room room' Q q q') (cs : List Sort) (test : List T → Bool) where
  abbrev pub ahead_sets : Sets
  ahead_sets = record {
    first = λ e. Sa.first e ++ Sb.first e;
    null = λ e. or (Sa.null e) (Sb.null e);
    go = λ e. (Sa.go e ++ Sb.go e) ++ cond e [] cs;
    far = or Sa.far Sb.far;
    sure = Sb.sure;
  }

  -- what has to hold of the test
  pub record Tells : Type 0 where
    pub first_holds : (h : ℕ) (ts : List T) (a : A) (rest : List T) → length ts ≤ room → R h ts a rest → test ts ≡ true
    pub second_fails : (h : ℕ) (ts : List T) (a : A) (rest : List T) → length ts ≤ room → Q h ts a rest → Quiet al ahead_sets.go rest → test ts ≡ false
    pub begins : (ts : List T) → test ts ≡ true → at al Sa.sure ts ≡ true
    pub settled : (b : Bool) (front : List T) (t : T) (s s' f : List T) (o : Option A) → length (front ++ t ∷ s) ≤ room → length (front ++ t ∷ s') ≤ room' → test (front ++ t ∷ s) ≡ b → cond b (p (front ++ t ∷ s)) (q (front ++ t ∷ s)) ≡ put o (f ++ t ∷ s) → test (front ++ t ∷ s') ≡ b

  pub law_ahead : Tells → Law al ahead_sets n room room' (λ h. R1 al Sa Sb n room room' R Q p p' q q' la lb h) (λ ts. cond (test ts) (p ts) (q ts)) (λ ts. cond (test ts) (p' ts) (q' ts))
  law_ahead tells = record {
    free = λ h ts a rest d. choice_free al Sa Sb n room room' R Q p p' q q' la lb h ts a rest d;
    more = choice_more al Sa Sb n room room' R Q p p' q q' la lb;
    full = λ r. let x = lb.full r in (x.0, x.1, inr x.2);
    sound = λ ts a rest e. sound ts a rest (test ts) e;
    complete = complete;
    alive = λ ts s le e. alive ts s le (test ts) e;
    local = λ front t s s' f o le le' clear e. local front t s s' f o le le' clear (test (front ++ t ∷ s)) refl e;
    known = λ c m. among_right c (Sa.first false) (Sb.first false) (lb.known c m);
    takes = λ t ts o l le m e. takes t ts o l le m (test (t ∷ ts)) refl e;
  }
    where
      sound : (ts : List T) (a : A) (rest : List T) (b : Bool) → cond b (p ts) (q ts) ≡ got a rest → Either (R n) (Q n) ts a rest
      sound ts a rest true e = inl (la.sound ts a rest e)
      sound ts a rest false e = inr (lb.sound ts a rest e)

      alive : (ts s : List T) → length ts ≤ room → (b : Bool) → cond b (p ts) (q ts) ≡ bad s → AliveAt al (λ ts a rest. Either (R (suc n)) (Q (suc n)) ts a rest) ts s
      alive ts s le true e = let x = la.alive ts s le e in (x.0, x.1, λ r. let y = x.2 r in (y.0, y.1, inl y.2))
      alive ts s le false e = let x = lb.alive ts s le e in (x.0, x.1, λ r. let y = x.2 r in (y.0, y.1, inr y.2))

      left : (rest : List T) → Quiet al ahead_sets.go rest → Quiet al Sa.go rest
      left rest q e = at_none_left al (Sa.go e) (Sb.go e) (over al e rest) (at_none_left al (Sa.go e ++ Sb.go e) (cond e [] cs) (over al e rest) (q e))

      right : (rest : List T) → Quiet al ahead_sets.go rest → Quiet al Sb.go rest
      right rest q e = at_none_right al (Sa.go e) (Sb.go e) (over al e rest) (at_none_left al (Sa.go e ++ Sb.go e) (cond e [] cs) (over al e rest) (q e))

      complete : (h : ℕ) (ts : List T) (a : A) (rest : List T) → length ts ≤ room → Either (R h) (Q h) ts a rest → Quiet al ahead_sets.go rest → cond (test ts) (p ts) (q ts) ≡ got a rest
      complete h ts a rest le (inl d) stop = rw (tells.first_holds h ts a rest le d) (la.complete h ts a rest le d (left rest stop))
      complete h ts a rest le (inr d) stop = rw (tells.second_fails h ts a rest le d stop) (lb.complete h ts a rest le d (right rest stop))

      local : (front : List T) (t : T) (s s' f : List T) (o : Option A) → length (front ++ t ∷ s) ≤ room → length (front ++ t ∷ s') ≤ room' → Clear al (or Sa.far Sb.far) o f t → (b : Bool) → test (front ++ t ∷ s) ≡ b → cond b (p (front ++ t ∷ s)) (q (front ++ t ∷ s)) ≡ put o (f ++ t ∷ s) → cond (test (front ++ t ∷ s')) (p' (front ++ t ∷ s')) (q' (front ++ t ∷ s')) ≡ put o (f ++ t ∷ s')
      local front t s s' f o le le' clear true is e = rw (tells.settled true front t s s' f o le le' is e) (la.local front t s s' f o le le' (λ far some. clear (or_left Sa.far Sb.far far) some) e)
      local front t s s' f o le le' clear false is e = rw (tells.settled false front t s s' f o le le' is e) (lb.local front t s s' f o le le' (λ far some. clear (or_right Sa.far Sb.far far) some) e)

      takes : (t : T) (ts : List T) (o : Option A) (l : List T) → length (t ∷ ts) ≤ room → among (al.sort_of t) Sb.sure ≡ true → (b : Bool) → test (t ∷ ts) ≡ b → cond (test (t ∷ ts)) (p (t ∷ ts)) (q (t ∷ ts)) ≡ put o l → length l ≤ length ts
      takes t ts o l le m true is e = la.takes t ts o l le (tells.begins (t ∷ ts) is) (subst (λ b. cond b (p (t ∷ ts)) (q (t ∷ ts)) ≡ put o l) is e)
      takes t ts o l le m false is e = lb.takes t ts o l le m (subst (λ b. cond b (p (t ∷ ts)) (q (t ∷ ts)) ≡ put o l) is e)

-- what is made of a value
module _ {T : Type 0} (al : Alphabet T) {A B : Type 0} (f : A → B) (S : Sets) (n room room' : ℕ) (R : ℕ → Rule T A) (p p' : List T → Read T A) (l : Law al S n room room' R p p') where
  abbrev made_by : (List T → Read T A) → List T → Read T B
  made_by p ts = p ts >>= λ x rest. got (f x) rest

  pub made_put : (r : Read T A) (o : Option B) (k : List T) → (r >>= λ x rest. got (f x) rest) ≡ put o k → (i : Option A) × (r ≡ put i k) × (o ≡ option_map f i)
  made_put (got x rest) o k e = let q = put_got (f x) rest o k e in (Some x, ap (got x) q.1, q.0)
  made_put (bad s) o k e = let q = put_bad s o k e in (None, ap bad q.1, q.0)

  made_back : (r : Read T A) (i : Option A) (k : List T) → r ≡ put i k → (r >>= λ x rest. got (f x) rest) ≡ put (option_map f i) k
  made_back r (Some x) k e = rw e refl
  made_back r None k e = rw e refl

  is_some_of : (i : Option A) (o : Option B) → o ≡ option_map f i → is_some i ≡ true → is_some o ≡ true
  is_some_of (Some x) o e is = rw e refl
  is_some_of None o e is = absurd cc

  pub law_made : Law al S n room room' (λ h. Made f (R h)) (made_by p) (made_by p')
  law_made = record {
    free = λ h ts b rest d. let x = l.free h ts d.0 rest d.1 in (x.0, x.1, λ r. (d.0, x.2 r, d.2), x.3, x.4);
    more = λ ts b rest d. (d.0, l.more ts d.0 rest d.1, d.2);
    full = λ r. let x = l.full r in (x.0, f x.1, (x.1, x.2, refl));
    sound = λ ts b rest e.
        let x = bind_got (p ts) (λ x rest. got (f x) rest) b rest e in
        let q = got_is (f x.0) b x.1 rest x.3 in
        (x.0, l.sound ts x.0 rest (x.2 ∙ ap (got x.0) q.1), q.0);
    complete = λ h ts b rest le d q. rw (l.complete h ts d.0 rest le d.1 q) (ap (λ z. got z rest) d.2);
    alive = λ ts s le e.
        let m = made_put (p ts) None s e in
        let x = l.alive ts s le (none m.0 m.1 (sym m.2)) in
        (x.0, x.1, λ r. let y = x.2 r in (y.0, f y.1, (y.1, y.2, refl)));
    local = λ front t s s' g o le le' clear e.
        let m = made_put (p (front ++ t ∷ s)) o (g ++ t ∷ s) e in
        let x = l.local front t s s' g m.0 le le' (λ far is. clear far (is_some_of m.0 o m.2 is)) m.1 in
        subst (λ z. made_by p' (front ++ t ∷ s') ≡ put z (g ++ t ∷ s')) (sym m.2) (made_back (p' (front ++ t ∷ s')) m.0 (g ++ t ∷ s') x);
    takes = λ t ts o k le m e. let x = made_put (p (t ∷ ts)) o k e in l.takes t ts x.0 k le m x.1;
    known = l.known;
  }
    where
      none : {s : List T} {ts : List T} (i : Option A) → p ts ≡ put i s → option_map f i ≡ None → p ts ≡ bad s
      none (Some x) e z = absurd cc
      none None e z = e

-- what doesn't begin with some tokens
module _ {T : Type 0} (al : Alphabet T) {A : Type 0} (cs : List Sort) (S : Sets) (n room room' : ℕ) (R : ℕ → Rule T A) (p p' : List T → Read T A) (l : Law al S n room room' R p p') (solid : S.null false ≡ false) (full : (r : List T) → (w : List T) × (a : A) × Not al cs (R (suc n)) (w ++ r) a r) (firsts : (e : Bool) → S.first e ≡ S.first false) (nulls : S.null true ≡ false) (noline : among al.line (S.first false) ≡ false) where
  abbrev pub not_sets : Sets
  not_sets = record { first = λ e. outside cs (S.first false); null = λ e. false; go = S.go; far = S.far; sure = outside cs S.sure }

  abbrev unless : (List T → Read T A) → List T → Read T A
  unless p ts = cond (at al cs ts) (bad ts) (p ts)

  not_opens : (front rest : List T) → at al cs (front ++ rest) ≡ false → Opens al (S.null false) (S.first false) front → (e : Bool) → Opens al false (outside cs (S.first false)) (over al e front)
  not_opens [] rest m o e = absurd (true≢false (sym o ∙ solid))
  not_opens (t ∷ front) rest m o false = among_outside (al.sort_of t) cs (S.first false) m o
  not_opens (t ∷ front) rest m o true = by (same (al.sort_of t) al.line) refl
    where
      by : (b : Bool) → same (al.sort_of t) al.line ≡ b → Opens al false (outside cs (S.first false)) (cond b (skip al front) (t ∷ front))
      by true e = absurd (true≢false (sym (subst (λ z. among z (S.first false) ≡ true) (Rattle.dsl_rules.proofs.Basics.same_is (al.sort_of t) al.line e) o) ∙ noline))
      by false e = among_outside (al.sort_of t) cs (S.first false) m o

  not_again : (front rest r : List T) → at al cs (front ++ rest) ≡ false → Opens al (S.null false) (S.first false) front → at al cs (front ++ r) ≡ false
  not_again [] rest r m o = absurd (true≢false (sym o ∙ solid))
  not_again (t ∷ front) rest r m o = m

  pub law_not : Law al not_sets n room room' (λ h. Not al cs (R h)) (unless p) (unless p')
  law_not = record {
    free = λ h ts a rest d.
        let x = l.free h ts a rest d.1 in
        let m = subst (λ z. at al cs z ≡ false) x.1 d.0 in
        (x.0, x.1, λ r. (not_again x.0 rest r m (x.4 false), x.2 r), x.3, not_opens x.0 rest m (x.4 false));
    more = λ ts a rest d. (d.0, l.more ts a rest d.1);
    full = full;
    sound = λ ts a rest e. sound ts a rest (at al cs ts) refl e;
    complete = λ h ts a rest le d q. rw d.0 (l.complete h ts a rest le d.1 q);
    alive = λ ts s le e. alive ts s le (at al cs ts) refl e;
    local = λ front t s s' f o le le' clear e. local front t s s' f o le le' clear (at al cs (front ++ t ∷ s)) refl e;
    takes = λ t ts o k le m e. takes t ts o k le m (among (al.sort_of t) cs) refl e;
    known = λ c m. let x = inside c cs S.sure m in among_outside c cs (S.first false) x.1 (l.known c x.0);
  }
    where
      sound : (ts : List T) (a : A) (rest : List T) (b : Bool) → at al cs ts ≡ b → cond b (bad ts) (p ts) ≡ got a rest → Not al cs (R n) ts a rest
      sound ts a rest true m e = absurd cc
      sound ts a rest false m e = (m, l.sound ts a rest e)

      head_of : (front s : List T) (r w : List T) → at al cs (front ++ s) ≡ false → (front ≡ [] → ⊥) → at al cs (front ++ (w ++ r)) ≡ false
      head_of [] s r w m z = absurd (z refl)
      head_of (t ∷ front) s r w m z = m

      alive : (ts s : List T) → length ts ≤ room → (b : Bool) → at al cs ts ≡ b → cond b (bad ts) (p ts) ≡ bad s → AliveAt al (Not al cs (R (suc n))) ts s
      alive ts s le true m e = ([], cc, full)
      alive ts s le false m e = let x = l.alive ts s le e in by x.0 x.1 x.2 (subst (λ z. at al cs z ≡ false) x.1 m)
        where
          by : (front : List T) → ts ≡ front ++ s → ((r : List T) → (w : List T) × (a : A) × R (suc n) (front ++ (w ++ r)) a r) → at al cs (front ++ s) ≡ false → AliveAt al (Not al cs (R (suc n))) ts s
          by [] e y m = ([], e, full)
          by (t ∷ front) e y m = (t ∷ front, e, λ r. let z = y r in (z.0, z.1, (m, z.2)))

      local : (front : List T) (t : T) (s s' f : List T) (o : Option A) → length (front ++ t ∷ s) ≤ room → length (front ++ t ∷ s') ≤ room' → Clear al S.far o f t → (b : Bool) → at al cs (front ++ t ∷ s) ≡ b → cond b (bad (front ++ t ∷ s)) (p (front ++ t ∷ s)) ≡ put o (f ++ t ∷ s) → unless p' (front ++ t ∷ s') ≡ put o (f ++ t ∷ s')
      local front t s s' f o le le' clear true is e = rw (sym (same_head al cs front t s s') ∙ is) (Rattle.dsl_rules.proofs.Single.local_bad front f t s s' o e)
      local front t s s' f o le le' clear false is e = rw (sym (same_head al cs front t s s') ∙ is) (l.local front t s s' f o le le' clear e)

      takes : (t : T) (ts : List T) (o : Option A) (k : List T) → length (t ∷ ts) ≤ room → among (al.sort_of t) (outside cs S.sure) ≡ true → (b : Bool) → among (al.sort_of t) cs ≡ b → cond (among (al.sort_of t) cs) (bad (t ∷ ts)) (p (t ∷ ts)) ≡ put o k → length k ≤ length ts
      takes t ts o k le m true is e = absurd (true≢false (sym is ∙ (inside (al.sort_of t) cs S.sure m).1))
      takes t ts o k le m false is e = l.takes t ts o k le (inside (al.sort_of t) cs S.sure m).0 (subst (λ b. cond b (bad (t ∷ ts)) (p (t ∷ ts)) ≡ put o k) is e)

-- a value with its first token
module _ {T : Type 0} (al : Alphabet T) {A B : Type 0} (f : T → A → B) (S : Sets) (n room room' : ℕ) (R : ℕ → Rule T A) (p p' : List T → Read T A) (l : Law al S n room room' R p p') (solid : S.null false ≡ false) where
  abbrev with_first : (List T → Read T A) → List T → Read T B
  with_first p ts = here_read f (p ts) ts

  -- a derivation, with the first token
  here_of : (h : ℕ) (t : T) (ts : List T) (a : A) (rest : List T) (b : B) → R h (t ∷ ts) a rest → f t a ≡ b → FreeAt al S (λ ts a rest. Here f (R h) ts a rest) (t ∷ ts) b rest
  here_of h t ts a rest b d e = let x = l.free h (t ∷ ts) a rest d in by x.0 x.1 x.2 x.3 x.4
    where
      by : (front : List T) → t ∷ ts ≡ front ++ rest → ((r : List T) → R h (front ++ r) a r) → AreInner al front → ((e : Bool) → Opens al (S.null e) (S.first e) (over al e front)) → FreeAt al S (λ ts a rest. Here f (R h) ts a rest) (t ∷ ts) b rest
      by [] eq again i o = absurd (true≢false (sym (o false) ∙ solid))
      by (u ∷ front) eq again i o = (u ∷ front, eq, λ r. (a, again r, (let same : t ≡ u = cc in ap (λ z. f z a) (sym same) ∙ e)), i, o)

  here_free : (h : ℕ) (ts : List T) (b : B) (rest : List T) → Here f (R h) ts b rest → FreeAt al S (λ ts a rest. Here f (R h) ts a rest) ts b rest
  here_free h [] b rest d = absurd d
  here_free h (t ∷ ts) b rest d = here_of h t ts d.0 rest b d.1 d.2

  here_more : (ts : List T) (b : B) (rest : List T) → Here f (R n) ts b rest → Here f (R (suc n)) ts b rest
  here_more [] b rest d = absurd d
  here_more (t ∷ ts) b rest d = (d.0, l.more (t ∷ ts) d.0 rest d.1, d.2)

  -- a derivation at some front
  here_at : (ts : List T) (a : A) (rest : List T) → R (suc n) ts a rest → (b : B) × Here f (R (suc n)) ts b rest
  here_at [] a rest d =
      let x = l.free (suc n) [] a rest d in
      absurd (by x.0 x.1 (x.4 false))
    where
      by : (front : List T) → [] ≡ front ++ rest → Opens al (S.null false) (S.first false) front → ⊥
      by [] e o = true≢false (sym o ∙ solid)
      by (u ∷ front) e o = cc
  here_at (t ∷ ts) a rest d = (f t a, (a, d, refl))

  here_sound : (ts : List T) (b : B) (rest : List T) → with_first p ts ≡ got b rest → Here f (R n) ts b rest
  here_sound [] b rest e = absurd cc
  here_sound (t ∷ ts) b rest e =
      let x = bind_got (p (t ∷ ts)) (λ a rest. got (f t a) rest) b rest e in
      let q = got_is (f t x.0) b x.1 rest x.3 in
      (x.0, l.sound (t ∷ ts) x.0 rest (x.2 ∙ ap (got x.0) q.1), q.0)

  here_complete : (h : ℕ) (ts : List T) (b : B) (rest : List T) → length ts ≤ room → Here f (R h) ts b rest → Quiet al S.go rest → with_first p ts ≡ got b rest
  here_complete h [] b rest le d q = absurd d
  here_complete h (t ∷ ts) b rest le d q = rw (l.complete h (t ∷ ts) d.0 rest le d.1 q) (ap (λ z. got z rest) d.2)

  here_alive : (ts s : List T) → length ts ≤ room → with_first p ts ≡ bad s → AliveAt al (λ ts a rest. Here f (R (suc n)) ts a rest) ts s
  here_alive [] s le e = ([], cc, λ r. let x = l.full r in let y = here_at (x.0 ++ r) x.1 r x.2 in (x.0, y.0, y.1))
  here_alive (t ∷ ts) s le e =
      let m = made_put al (f t) S n room room' R p p' l (p (t ∷ ts)) None s e in
      let x = l.alive (t ∷ ts) s le (none m.0 m.1 (sym m.2)) in
      (x.0, x.1, λ r. let y = x.2 r in let z = here_at (x.0 ++ (y.0 ++ r)) y.1 r y.2 in (y.0, z.0, z.1))
    where
      none : (i : Option A) → p (t ∷ ts) ≡ put i s → option_map (f t) i ≡ None → p (t ∷ ts) ≡ bad s
      none (Some x) e z = absurd cc
      none None e z = e

  here_back : (t : T) (r : Read T A) (i : Option A) (k : List T) → r ≡ put i k → (r >>= λ x rest. got (f t x) rest) ≡ put (option_map (f t) i) k
  here_back t r (Some x) k e = rw e refl
  here_back t r None k e = rw e refl

  here_some : (t : T) (i : Option A) (o : Option B) → o ≡ option_map (f t) i → is_some i ≡ true → is_some o ≡ true
  here_some t (Some x) o e is = rw e refl
  here_some t None o e is = absurd cc

  here_local : (front : List T) (t : T) (s s' g : List T) (o : Option B) → length (front ++ t ∷ s) ≤ room → length (front ++ t ∷ s') ≤ room' → Clear al S.far o g t → with_first p (front ++ t ∷ s) ≡ put o (g ++ t ∷ s) → with_first p' (front ++ t ∷ s') ≡ put o (g ++ t ∷ s')
  here_local [] t s s' g o le le' clear e =
      let m = made_put al (f t) S n room room' R p p' l (p (t ∷ s)) o (g ++ t ∷ s) e in
      let x = l.local [] t s s' g m.0 le le' (λ far is. clear far (here_some t m.0 o m.2 is)) m.1 in
      subst (λ z. with_first p' (t ∷ s') ≡ put z (g ++ t ∷ s')) (sym m.2) (here_back t (p' (t ∷ s')) m.0 (g ++ t ∷ s') x)
  here_local (u ∷ front) t s s' g o le le' clear e =
      let m = made_put al (f u) S n room room' R p p' l (p (u ∷ (front ++ t ∷ s))) o (g ++ t ∷ s) e in
      let x = l.local (u ∷ front) t s s' g m.0 le le' (λ far is. clear far (here_some u m.0 o m.2 is)) m.1 in
      subst (λ z. with_first p' (u ∷ (front ++ t ∷ s')) ≡ put z (g ++ t ∷ s')) (sym m.2) (here_back u (p' (u ∷ (front ++ t ∷ s'))) m.0 (g ++ t ∷ s') x)

  pub law_here : Law al S n room room' (λ h ts a rest. Here f (R h) ts a rest) (with_first p) (with_first p')
  law_here = record {
    free = here_free;
    more = here_more;
    full = λ r. let x = l.full r in let y = here_at (x.0 ++ r) x.1 r x.2 in (x.0, y.0, y.1);
    sound = here_sound;
    complete = here_complete;
    alive = here_alive;
    local = here_local;
    takes = λ t ts o k le m e. let x = made_put al (f t) S n room room' R p p' l (p (t ∷ ts)) o k e in l.takes t ts x.0 k le m x.1;
    known = l.known;
  }
