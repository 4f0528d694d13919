-- One rule after the other.
use Rattle.std.proofs.Common.{◌≡◌, ℕ, zero, suc, ◌+◌, ◌<◌, ◌≤◌, List, [], ◌∷◌, ◌++◌, length, Bool, true, false, not, cond, Option, Some, None, option_map, refl, sym, ap, ◌∙◌, subst, inl, inr, arith, append_assoc, append-nil, length-append, true≢false}
use Rattle.std.specs.Prelude.{◌⊎◌, is_some}
use Rattle.std.proofs.lemmas.List.{append_cancel_right}
use Rattle.dsl_rules.specs.Alphabet.{Sort, same, Alphabet, among, apart, and, where_holds, at, skip, over}
use Rattle.dsl_rules.specs.Rules.{Rule, Both}
use Rattle.dsl_rules.specs.Reading.{Read, got, bad, ◌>>=◌, both_read}
use Rattle.dsl_rules.proofs.Basics.{AreInner, inner_append, Opens, opens_append, seam, at_none_left, at_none_right, where_none, among_either, among_left, and_left, and_right}
use Rattle.dsl_rules.proofs.Law.{Sets, Law, FreeAt, AliveAt, Quiet, Clear, put, put_got, put_bad, got_is, got_bad, bind_got, bind_bad, bind_put, weight, shrinks, cut}

module _ {T : Type 0} {A B C : Type 0} (f : A → B → C) (p : List T → Read T A) (q : List T → Read T B) where
  -- how reading one after the other ends
  pub both_put : (ts : List T) (o : Option C) (l : List T) → both_read f p q ts ≡ put o l → ((p ts ≡ bad l) × (o ≡ None)) ⊎ ((a : A) × (mid : List T) × (k : Option B) × (p ts ≡ got a mid) × (q mid ≡ put k l) × (o ≡ option_map (f a) k))
  both_put ts o l e = of (bind_put (p ts) (λ a mid. (q mid >>= λ b rest. got (f a b) rest)) o l e)
    where
      again : (a : A) (mid : List T) → p ts ≡ got a mid → ((q mid ≡ bad l) × (o ≡ None)) ⊎ ((b : B) × (rest : List T) × (q mid ≡ got b rest) × (got (f a b) rest ≡ put o l)) → ((p ts ≡ bad l) × (o ≡ None)) ⊎ ((a : A) × (mid : List T) × (k : Option B) × (p ts ≡ got a mid) × (q mid ≡ put k l) × (o ≡ option_map (f a) k))
      again a mid h (inl x) = inr (a, mid, None, h, x.0, x.1)
      again a mid h (inr x) = let g = put_got (f a x.0) x.1 o l x.3 in inr (a, mid, Some x.0, h, x.2 ∙ ap (got x.0) g.1, g.0)

      of : ((p ts ≡ bad l) × (o ≡ None)) ⊎ ((a : A) × (mid : List T) × (p ts ≡ got a mid) × ((q mid >>= λ b rest. got (f a b) rest) ≡ put o l)) → ((p ts ≡ bad l) × (o ≡ None)) ⊎ ((a : A) × (mid : List T) × (k : Option B) × (p ts ≡ got a mid) × (q mid ≡ put k l) × (o ≡ option_map (f a) k))
      of (inl x) = inl x
      of (inr x) = again x.0 x.1 x.2 (bind_put (q x.1) (λ b rest. got (f x.0 b) rest) o l x.3)

  pub both_back : (ts : List T) (a : A) (mid : List T) (k : Option B) (l : List T) → p ts ≡ got a mid → q mid ≡ put k l → both_read f p q ts ≡ put (option_map (f a) k) l
  both_back ts a mid (Some b) l e h = rw (e, h) refl
  both_back ts a mid None l e h = rw (e, h) refl

  pub both_none : (ts l : List T) → p ts ≡ bad l → both_read f p q ts ≡ bad l
  both_none ts l e = rw e refl

module _ {T : Type 0} (al : Alphabet T) {A B C : Type 0} (f : A → B → C) (Sa Sb : Sets) (n ra ra' rb rb' room room' : ℕ) (R : ℕ → Rule T A) (Q : ℕ → Rule T B) (p p' : List T → Read T A) (q q' : List T → Read T B)
    (la : Law al Sa n ra ra' R p p') (lb : Law al Sb n rb rb' Q q q') (fits : (e : Bool) → apart (Sb.first e) (Sa.go e) ≡ true) (near : Sa.far ≡ false)
    (r1 : room ≤ ra) (r2 : room ≤ rb + weight al Sa) (r1' : room' ≤ ra') (r2' : room' ≤ rb' + weight al Sa) where
  abbrev pub both_sets : Sets
  both_sets = record {
    first = λ e. Sa.first e ++ where_holds (Sa.null e) (Sb.first e);
    null = λ e. and (Sa.null e) (Sb.null e);
    go = λ e. Sb.go e ++ where_holds (Sb.null e) (Sa.go e);
    far = Sb.far;
    sure = where_holds (not (Sa.null false)) Sa.sure;
  }

  abbrev R2 : ℕ → Rule T C
  R2 h ts c rest = Both f (R h) (Q h) ts c rest

  both_free : (h : ℕ) (ts : List T) (c : C) (rest : List T) → R2 h ts c rest → FreeAt al both_sets (R2 h) ts c rest
  both_free h ts c rest d =
      let a = la.free h ts d.1 d.0 d.3 in
      let b = lb.free h d.0 d.2 rest d.4 in
      (a.0 ++ b.0, a.1 ∙ ap (λ l. a.0 ++ l) b.1 ∙ sym (append_assoc a.0 b.0 rest), λ r. (b.0 ++ r, d.1, d.2, rw (append_assoc a.0 b.0 r) (a.2 (b.0 ++ r)), b.2 r, d.5), inner_append al a.0 b.0 a.3 b.3, λ e. opens_append al e (Sa.null e) (Sb.null e) (Sa.first e) (Sb.first e) a.0 b.0 (a.4 e) (b.4 e))

  both_sound : (ts : List T) (c : C) (rest : List T) → both_read f p q ts ≡ got c rest → R2 n ts c rest
  both_sound ts c rest e =
      let a = bind_got (p ts) (λ a mid. (q mid >>= λ b rest. got (f a b) rest)) c rest e in
      let b = bind_got (q a.1) (λ b rest. got (f a.0 b) rest) c rest a.3 in
      let g = got_is (f a.0 b.0) c b.1 rest b.3 in
      (a.1, a.0, b.0, la.sound ts a.0 a.1 a.2, subst (λ l. Q n a.1 b.0 l) g.1 (lb.sound a.1 b.0 b.1 b.2), g.0)

  -- behind the first the second begins
  between : (h : ℕ) (mid : List T) (b : B) (rest : List T) → Q h mid b rest → Quiet al both_sets.go rest → Quiet al Sa.go mid
  between h mid b rest d stop e =
      let x = lb.free h mid b rest d in
      subst (λ l. at al (Sa.go e) (over al e l) ≡ false) (sym x.1)
      (seam al e (Sb.null e) (Sb.first e) (Sa.go e) x.0 rest (x.4 e) (fits e) (where_none al (Sb.null e) (Sa.go e) (over al e rest) (at_none_right al (Sb.go e) (where_holds (Sb.null e) (Sa.go e)) (over al e rest) (stop e))))

  both_complete : (h : ℕ) (ts : List T) (c : C) (rest : List T) → length ts ≤ room → R2 h ts c rest → Quiet al both_sets.go rest → both_read f p q ts ≡ got c rest
  both_complete h ts c rest le d stop =
      let a = la.complete h ts d.1 d.0 (omega arith) d.3 (between h d.0 d.2 rest d.4 stop) in
      let less = shrinks al Sa n ra ra' R p p' la h ts d.1 d.0 d.3 in
      let b = lb.complete h d.0 d.2 rest (omega arith) d.4 (λ e. at_none_left al (Sb.go e) (where_holds (Sb.null e) (Sa.go e)) (over al e rest) (stop e)) in
      rw (a, b) (ap (λ z. got z rest) d.5)

  both_alive : (ts s : List T) → length ts ≤ room → both_read f p q ts ≡ bad s → AliveAt al (R2 (suc n)) ts s
  both_alive ts s le e = of None (both_put f p q ts None s e) refl
    where
      next : (a : A) (mid : List T) (k : Option B) → p ts ≡ got a mid → q mid ≡ put k s → option_map (f a) k ≡ None → AliveAt al (R2 (suc n)) ts s
      next a mid (Some b) e g z = absurd cc
      next a mid None e g z =
          let d = la.sound ts a mid e in
          let less = shrinks al Sa n ra ra' R p p' la n ts a mid d in
          let x = la.free (suc n) ts a mid (la.more ts a mid d) in
          let y = lb.alive mid s (omega arith) g in (
            x.0 ++ y.0,
            x.1 ∙ ap (λ l. x.0 ++ l) y.1 ∙ sym (append_assoc x.0 y.0 s),
            λ l.
                let z = y.2 l in
                (z.0, f a z.1, (y.0 ++ (z.0 ++ l), a, z.1, rw (append_assoc x.0 y.0 (z.0 ++ l)) (x.2 (y.0 ++ (z.0 ++ l))), z.2, refl)),
          )

      of : (o : Option C) → ((p ts ≡ bad s) × (o ≡ None)) ⊎ ((a : A) × (mid : List T) × (k : Option B) × (p ts ≡ got a mid) × (q mid ≡ put k s) × (o ≡ option_map (f a) k)) → o ≡ None → AliveAt al (R2 (suc n)) ts s
      of o (inl h) z =
          let a = la.alive ts s (omega arith) h.0 in (
            a.0,
            a.1,
            λ l.
                let y = lb.full l in
                let x = a.2 (y.0 ++ l) in
                (x.0 ++ y.0, f x.1 y.1, (y.0 ++ l, x.1, y.1, rw (append_assoc x.0 y.0 l) x.2, y.2, refl)),
          )
      of o (inr h) z = next h.0 h.1 h.2 h.3 h.4 (sym h.5 ∙ z)

  both_local :
      (front : List T) (t : T) (s s' l : List T) (o : Option C) → length (front ++ t ∷ s) ≤ room → length (front ++ t ∷ s') ≤ room' → Clear al Sb.far o l t → both_read f p q (front ++ t ∷ s) ≡ put o (l ++ t ∷ s)
      → both_read f p' q' (front ++ t ∷ s') ≡ put o (l ++ t ∷ s')
  both_local front t s s' l o le le' clear e = of (both_put f p q (front ++ t ∷ s) o (l ++ t ∷ s) e)
    where
      next : (a : A) (mid : List T) (k : Option B) → p (front ++ t ∷ s) ≡ got a mid → q mid ≡ put k (l ++ t ∷ s) → o ≡ option_map (f a) k → both_read f p' q' (front ++ t ∷ s') ≡ put o (l ++ t ∷ s')
      next a mid k ea eb eo =
          let d = la.sound (front ++ t ∷ s) a mid ea in
          let less = shrinks al Sa n ra ra' R p p' la n (front ++ t ∷ s) a mid d in
          let y = cut al Sb n rb rb' Q q q' lb mid k (l ++ t ∷ s) (omega arith) eb in
          let z = la.free n (front ++ t ∷ s) a mid d in
          let m : mid ≡ (y.0 ++ l) ++ t ∷ s = y.1 ∙ sym (append_assoc y.0 l (t ∷ s)) in
          let parts : front ≡ z.0 ++ (y.0 ++ l) = append_cancel_right front (z.0 ++ (y.0 ++ l)) (t ∷ s) (z.1 ∙ ap (λ l. z.0 ++ l) m ∙ sym (append_assoc z.0 (y.0 ++ l) (t ∷ s))) in
          let heavy = Rattle.dsl_rules.proofs.Law.weighs al Sa z.0 (z.4 false) in
          let a' = la.local front t s s' (y.0 ++ l) (Some a) (omega arith) (omega arith) (λ far is. absurd (true≢false (sym far ∙ near))) (ea ∙ ap (got a) m) in
          let b' = lb.local (y.0 ++ l) t s s' l k (omega (arith, ap length m)) (omega (arith, ap length parts, length-append z.0 (y.0 ++ l), length-append front (t ∷ s'), length-append (y.0 ++ l) (t ∷ s'))) (λ far is. clear far (some a k is eo)) (subst (λ x. q x ≡ put k (l ++ t ∷ s)) m eb) in
          subst (λ x. both_read f p' q' (front ++ t ∷ s') ≡ put x (l ++ t ∷ s')) (sym eo) (both_back f p' q' (front ++ t ∷ s') a ((y.0 ++ l) ++ t ∷ s') k (l ++ t ∷ s') a' b')
        where
          some : (a : A) (k : Option B) → is_some k ≡ true → o ≡ option_map (f a) k → is_some o ≡ true
          some a (Some b) is e = rw e refl
          some a None is e = absurd cc

      of : ((p (front ++ t ∷ s) ≡ bad (l ++ t ∷ s)) × (o ≡ None)) ⊎ ((a : A) × (mid : List T) × (k : Option B) × (p (front ++ t ∷ s) ≡ got a mid) × (q mid ≡ put k (l ++ t ∷ s)) × (o ≡ option_map (f a) k)) → both_read f p' q' (front ++ t ∷ s') ≡ put o (l ++ t ∷ s')
      of (inl x) =
          let a' = la.local front t s s' l None (omega arith) (omega arith) (λ far is. absurd cc) x.0 in
          rw (a', x.1) refl
      of (inr x) = next x.0 x.1 x.2 x.3 x.4 x.5

  holds : (b : Bool) (c : Sort) (cs : List Sort) → among c (where_holds b cs) ≡ true → among c cs ≡ true
  holds true c cs m = m
  holds false c cs m = absurd cc

  both_takes : (t : T) (ts : List T) (o : Option C) (l : List T) → length (t ∷ ts) ≤ room → among (al.sort_of t) both_sets.sure ≡ true → both_read f p q (t ∷ ts) ≡ put o l → length l ≤ length ts
  both_takes t ts o l le m e = of (both_put f p q (t ∷ ts) o l e) (holds (not (Sa.null false)) (al.sort_of t) Sa.sure m)
    where
      of : ((p (t ∷ ts) ≡ bad l) × (o ≡ None)) ⊎ ((a : A) × (mid : List T) × (k : Option B) × (p (t ∷ ts) ≡ got a mid) × (q mid ≡ put k l) × (o ≡ option_map (f a) k)) → among (al.sort_of t) Sa.sure ≡ true → length l ≤ length ts
      of (inl x) y = la.takes t ts None l (omega arith) y x.0
      of (inr x) y =
          let u = la.takes t ts (Some x.0) x.1 (omega arith) y x.3 in
          let d = la.sound (t ∷ ts) x.0 x.1 x.3 in
          let less = shrinks al Sa n ra ra' R p p' la n (t ∷ ts) x.0 x.1 d in
          let w = cut al Sb n rb rb' Q q q' lb x.1 x.2 l (omega arith) x.4 in
          omega (arith, ap length w.1, length-append w.0 l, u)

  pub law_both : Law al both_sets n room room' R2 (both_read f p q) (both_read f p' q')
  law_both = record {
    free = both_free;
    more = λ ts c rest d. (d.0, d.1, d.2, la.more ts d.1 d.0 d.3, lb.more d.0 d.2 rest d.4, d.5);
    full = λ r.
        let b = lb.full r in
        let a = la.full (b.0 ++ r) in
        (a.0 ++ b.0, f a.1 b.1, (b.0 ++ r, a.1, b.1, rw (append_assoc a.0 b.0 r) a.2, b.2, refl));
    sound = both_sound;
    complete = both_complete;
    alive = both_alive;
    local = both_local;
    takes = both_takes;
    known = λ c m. among_left c (Sa.first false) (where_holds (Sa.null false) (Sb.first false)) (la.known c (holds (not (Sa.null false)) c Sa.sure m));
  }
