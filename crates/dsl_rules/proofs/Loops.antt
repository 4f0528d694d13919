-- The law of one thing and then turns.
use Rattle.std.proofs.Common.{◌≡◌, ℕ, zero, suc, ◌+◌, ◌<◌, ◌≤◌, List, [], ◌∷◌, ◌++◌, length, Bool, true, false, not, cond, Option, Some, None, refl, sym, ap, ◌∙◌, subst, inl, inr, arith, append_assoc, append-nil, length-append, true≢false}
use Rattle.std.specs.Prelude.{◌⊎◌, is_some}
use Rattle.std.proofs.lemmas.List.{append_cancel_right}
use Rattle.dsl_rules.specs.Alphabet.{Sort, same, Alphabet, among, apart, and, where_holds, at, skip, over}
use Rattle.dsl_rules.specs.Rules.{Rule, may, Turns, Loop}
use Rattle.dsl_rules.specs.Reading.{Read, got, bad, ◌>>=◌, turns}
use Rattle.dsl_rules.proofs.Basics.{AreInner, inner_append, Opens, opens_append, at_none_left, at_none_right, among_left}
use Rattle.dsl_rules.proofs.Law.{Sets, Law, FreeAt, AliveAt, Quiet, Clear, clear, put, put_got, got_is, got_bad, bind_got, bind_bad, bind_put, weight, shrinks, cut}
use Rattle.dsl_rules.proofs.Repeat.{Looks, turn_first, turns_free, turns_up, turns_quiet, turns_shorter, turns_sound, turns_complete, turns_alive, turns_cut}
use Rattle.dsl_rules.proofs.Locals.{TakesLines, plain_local, looking_local}

module _ {T : Type 0} (al : Alphabet T) {A C : Type 0} (look : Bool) (cs : List Sort) (more : C → Sort → Bool) (step : C → A → C) (Ss S : Sets) (n rs rs' ri ri' room room' m m' : ℕ) (Q : ℕ → Rule T C) (R : ℕ → Rule T A) (q q' : List T → Read T C) (p p' : List T → Read T A)
    (ls : Law al Ss n rs rs' Q q q') (l : Law al S n ri ri' R p p') (solid : S.null false ≡ false) (looks : Looks al S n ri ri' R p p' l solid look) (inside : (c : Sort) → among c cs ≡ true → among c S.sure ≡ true)
    (fits : (e : Bool) → apart (turn_first al look S e) (S.go e) ≡ true) (fits_seed : (e : Bool) → apart (turn_first al look S e) (Ss.go e) ≡ true)
    (near : ((Ss.far ≡ false) × (S.far ≡ false)) ⊎ ((look ≡ false) × TakesLines al S n ri ri' R p p' l solid cs more step inside))
    (r1 : room ≤ rs) (r2 : room ≤ ri + weight al Ss) (r1' : room' ≤ rs') (r2' : room' ≤ ri' + weight al Ss) (f1 : ri ≤ m) (f1' : ri' ≤ m') where
  abbrev pub loop_sets : Sets
  loop_sets = record {
    first = λ e. Ss.first e ++ where_holds (Ss.null e) (turn_first al look S e);
    null = Ss.null;
    go = λ e. (Ss.go e ++ S.go e) ++ cond look (where_holds e cs) (cond e [] cs);
    far = look;
    sure = where_holds (not (Ss.null false)) Ss.sure;
  }

  abbrev pub LR : ℕ → Rule T C
  LR h ts d rest = Loop al look cs more step (Q h) (R h) ts d rest

  abbrev pub loop_read : List T → Read T C
  loop_read ts = q ts >>= turns al look cs more step p m

  abbrev pub loop_read' : List T → Read T C
  loop_read' ts = q' ts >>= turns al look cs more step p' m'

  and_true : (b : Bool) → and b true ≡ b
  and_true true = refl
  and_true false = refl

  loop_free : (h : ℕ) (ts : List T) (d : C) (rest : List T) → LR h ts d rest → FreeAt al loop_sets (LR h) ts d rest
  loop_free h ts d rest x =
      let a = ls.free h ts x.1 x.0 x.3 in
      let g = turns_free al S n ri ri' R p p' l solid look cs more step looks h x.2 x.1 x.0 d rest x.4 in
      (a.0 ++ g.0, a.1 ∙ ap (λ k. a.0 ++ k) g.1 ∙ sym (append_assoc a.0 g.0 rest), λ r. (g.0 ++ r, x.1, x.2, rw (append_assoc a.0 g.0 r) (a.2 (g.0 ++ r)), g.2 r), inner_append al a.0 g.0 a.3 g.3, λ e. subst (λ b. Opens al b (loop_sets.first e) (over al e (a.0 ++ g.0))) (and_true (Ss.null e)) (opens_append al e (Ss.null e) true (Ss.first e) (turn_first al look S e) a.0 g.0 (a.4 e) (g.4 e)))

  quiet_seed : (rest : List T) → Quiet al loop_sets.go rest → Quiet al Ss.go rest
  quiet_seed rest z e = at_none_left al (Ss.go e) (S.go e) (over al e rest) (at_none_left al (Ss.go e ++ S.go e) (cond look (where_holds e cs) (cond e [] cs)) (over al e rest) (z e))

  quiet_turn : (rest : List T) → Quiet al loop_sets.go rest → Quiet al S.go rest
  quiet_turn rest z e = at_none_right al (Ss.go e) (S.go e) (over al e rest) (at_none_left al (Ss.go e ++ S.go e) (cond look (where_holds e cs) (cond e [] cs)) (over al e rest) (z e))

  quiet_stop : (rest : List T) → Quiet al loop_sets.go rest → at al cs (over al look rest) ≡ false
  quiet_stop rest z = by look (λ e. at_none_right al (Ss.go e ++ S.go e) (cond look (where_holds e cs) (cond e [] cs)) (over al e rest) (z e))
    where
      by : (b : Bool) → ((e : Bool) → at al (cond b (where_holds e cs) (cond e [] cs)) (over al e rest) ≡ false) → at al cs (over al b rest) ≡ false
      by true z = z true
      by false z = z false

  loop_complete : (h : ℕ) (ts : List T) (d : C) (rest : List T) → length ts ≤ room → LR h ts d rest → Quiet al loop_sets.go rest → loop_read ts ≡ got d rest
  loop_complete h ts d rest le x z =
      let a = ls.complete h ts x.1 x.0 (omega arith) x.3 (λ e. turns_quiet al S n ri ri' R p p' l solid look cs more step looks (Ss.go e) e (fits_seed e) h x.2 x.1 x.0 d rest x.4 (quiet_seed rest z e)) in
      let less = shrinks al Ss n rs rs' Q q q' ls h ts x.1 x.0 x.3 in
      let b = turns_complete al S n ri ri' R p p' l solid look cs more step looks fits h m x.2 x.1 x.0 d rest (omega (arith, less)) (omega (arith, less)) x.4 (quiet_turn rest z) (quiet_stop rest z) in
      rw a b

  loop_sound : (ts : List T) (d : C) (rest : List T) → loop_read ts ≡ got d rest → LR n ts d rest
  loop_sound ts d rest e =
      let a = bind_got (q ts) (turns al look cs more step p m) d rest e in
      let b = turns_sound al S n ri ri' R p p' l solid look cs more step looks m a.0 a.1 d rest a.3 in
      (a.1, a.0, b.0, ls.sound ts a.0 a.1 a.2, b.1)

  loop_alive : (ts s : List T) → length ts ≤ room → loop_read ts ≡ bad s → AliveAt al (LR (suc n)) ts s
  loop_alive ts s le e = of (bind_bad (q ts) (turns al look cs more step p m) s e)
    where
      of : (q ts ≡ bad s) ⊎ ((c : C) × (mid : List T) × (q ts ≡ got c mid) × (turns al look cs more step p m c mid ≡ bad s)) → AliveAt al (LR (suc n)) ts s
      of (inl b) = let y = ls.alive ts s (omega arith) b in (y.0, y.1, λ r. let z = y.2 r in (z.0, z.1, (r, z.1, [], z.2, (refl, refl))))
      of (inr x) =
          let d = ls.sound ts x.0 x.1 x.2 in
          let less = shrinks al Ss n rs rs' Q q q' ls n ts x.0 x.1 d in
          let a = ls.free (suc n) ts x.0 x.1 (ls.more ts x.0 x.1 d) in
          let g = turns_alive al S n ri ri' R p p' l solid look cs more step looks inside m x.0 x.1 s (omega (arith, less)) x.3 in (
            a.0 ++ g.0,
            a.1 ∙ ap (λ k. a.0 ++ k) g.1 ∙ sym (append_assoc a.0 g.0 s),
            λ r.
                let z = g.2 r in
                (z.0, z.2, (g.0 ++ (z.0 ++ r), x.0, z.1, rw (append_assoc a.0 g.0 (z.0 ++ r)) (a.2 (g.0 ++ (z.0 ++ r))), z.3)),
          )

  -- turns in the two readers
  turns_local : (c : C) (front : List T) (t : T) (s s' f : List T) (o : Option C) → length (front ++ t ∷ s) ≤ ri → length (front ++ t ∷ s') ≤ ri' → Clear al look o f t → turns al look cs more step p m c (front ++ t ∷ s) ≡ put o (f ++ t ∷ s) → turns al look cs more step p' m' c (front ++ t ∷ s') ≡ put o (f ++ t ∷ s')
  turns_local c front t s s' f o le le' clear e = by look refl looks near clear e
    where
      by : (b : Bool) → look ≡ b → Looks al S n ri ri' R p p' l solid b → ((Ss.far ≡ false) × (S.far ≡ false)) ⊎ ((look ≡ false) × TakesLines al S n ri ri' R p p' l solid cs more step inside) → Clear al b o f t → turns al b cs more step p m c (front ++ t ∷ s) ≡ put o (f ++ t ∷ s) → turns al b cs more step p' m' c (front ++ t ∷ s') ≡ put o (f ++ t ∷ s')
      by true is looks (inl near) clear e = looking_local al S n ri ri' R p p' l solid cs more step inside looks near.1 m m' c front t s s' f o (omega arith) le (omega arith) le' (clear refl) e
      by true is looks (inr k) clear e = absurd (true≢false (sym is ∙ k.0))
      by false is looks (inl near) clear e = plain_local al S n ri ri' R p p' l solid cs more step inside (inl near.1) m m' c front t s s' f o (omega arith) le (omega arith) le' e
      by false is looks (inr k) clear e = plain_local al S n ri ri' R p p' l solid cs more step inside (inr k.1) m m' c front t s s' f o (omega arith) le (omega arith) le' e

  -- the seed, where turns that end before the token follow
  seed_local : (front : List T) (t : T) (s s' f : List T) (c : C) (o : Option C) (k : List T) → length (front ++ t ∷ s) ≤ rs → length (front ++ t ∷ s') ≤ rs' → length (f ++ t ∷ s) ≤ ri → q (front ++ t ∷ s) ≡ got c (f ++ t ∷ s) → turns al look cs more step p m c (f ++ t ∷ s) ≡ put o (k ++ t ∷ s) → q' (front ++ t ∷ s') ≡ got c (f ++ t ∷ s')
  seed_local front t s s' f c o k le le' li e go = by near
    where
      by : ((Ss.far ≡ false) × (S.far ≡ false)) ⊎ ((look ≡ false) × TakesLines al S n ri ri' R p p' l solid cs more step inside) → q' (front ++ t ∷ s') ≡ got c (f ++ t ∷ s')
      by (inl near) = ls.local front t s s' f (Some c) le le' (λ far is. absurd (true≢false (sym far ∙ near.0))) e
      by (inr tk) = ls.local front t s s' f (Some c) le le' (λ far is. holds (clear al f t) refl) e
        where
          holds : (b : Bool) → clear al f t ≡ b → clear al f t ≡ true
          holds true h = h
          holds false h = absurd (let w = Rattle.dsl_rules.proofs.Locals.passes al S n ri ri' R p p' l solid cs more step inside tk.1 m c f t s o (k ++ t ∷ s) h (omega arith) li (subst (λ b. turns al b cs more step p m c (f ++ t ∷ s) ≡ put o (k ++ t ∷ s)) tk.0 go) in omega (arith, w, length-append k (t ∷ s)))

  loop_local : (front : List T) (t : T) (s s' f : List T) (o : Option C) → length (front ++ t ∷ s) ≤ room → length (front ++ t ∷ s') ≤ room' → Clear al look o f t → loop_read (front ++ t ∷ s) ≡ put o (f ++ t ∷ s) → loop_read' (front ++ t ∷ s') ≡ put o (f ++ t ∷ s')
  loop_local front t s s' f o le le' clear e = of (bind_put (q (front ++ t ∷ s)) (turns al look cs more step p m) o (f ++ t ∷ s) e)
    where
      of : ((q (front ++ t ∷ s) ≡ bad (f ++ t ∷ s)) × (o ≡ None)) ⊎ ((c : C) × (mid : List T) × (q (front ++ t ∷ s) ≡ got c mid) × (turns al look cs more step p m c mid ≡ put o (f ++ t ∷ s))) → loop_read' (front ++ t ∷ s') ≡ put o (f ++ t ∷ s')
      of (inl b) = let y = ls.local front t s s' f None (omega arith) (omega arith) (λ far is. absurd cc) b.0 in rw (y, b.1) refl
      of (inr x) =
          let d = ls.sound (front ++ t ∷ s) x.0 x.1 x.2 in
          let z = ls.free n (front ++ t ∷ s) x.0 x.1 d in
          let heavy = shrinks al Ss n rs rs' Q q q' ls n (front ++ t ∷ s) x.0 x.1 d in
          let own = Rattle.dsl_rules.proofs.Law.weighs al Ss z.0 (z.4 false) in
          let w = turns_cut al S n ri ri' R p p' l solid look cs more step looks inside m x.0 x.1 o (f ++ t ∷ s) (omega (arith, heavy)) x.3 in
          let eq : x.1 ≡ (w.0 ++ f) ++ t ∷ s = w.1 ∙ sym (append_assoc w.0 f (t ∷ s)) in
          let parts : front ≡ z.0 ++ (w.0 ++ f) = append_cancel_right front (z.0 ++ (w.0 ++ f)) (t ∷ s) (z.1 ∙ ap (λ k. z.0 ++ k) eq ∙ sym (append_assoc z.0 (w.0 ++ f) (t ∷ s))) in
          let lp = ap length parts in
          let lz = length-append z.0 (w.0 ++ f) in
          let lg = length-append (w.0 ++ f) (t ∷ s) in
          let lg' = length-append (w.0 ++ f) (t ∷ s') in
          let lf = length-append front (t ∷ s) in
          let lf' = length-append front (t ∷ s') in
          let le1 = ap length eq in
          let go = subst (λ k. turns al look cs more step p m x.0 k ≡ put o (f ++ t ∷ s)) eq x.3 in
          let a = seed_local front t s s' (w.0 ++ f) x.0 o f (omega arith) (omega arith) (omega (arith, heavy, le1)) (x.2 ∙ ap (got x.0) eq) go in
          let b = turns_local x.0 (w.0 ++ f) t s s' f o (omega (arith, heavy, le1)) (omega (arith, own, lp, lz, lg, lg', lf, lf')) clear go in
          rw a b

  loop_takes : (t : T) (ts : List T) (o : Option C) (k : List T) → length (t ∷ ts) ≤ room → among (al.sort_of t) (where_holds (not (Ss.null false)) Ss.sure) ≡ true → loop_read (t ∷ ts) ≡ put o k → length k ≤ length ts
  loop_takes t ts o k le sure e = of (bind_put (q (t ∷ ts)) (turns al look cs more step p m) o k e)
    where
      held : (b : Bool) → among (al.sort_of t) (where_holds b Ss.sure) ≡ true → among (al.sort_of t) Ss.sure ≡ true
      held true m = m
      held false m = absurd cc

      of : ((q (t ∷ ts) ≡ bad k) × (o ≡ None)) ⊎ ((c : C) × (mid : List T) × (q (t ∷ ts) ≡ got c mid) × (turns al look cs more step p m c mid ≡ put o k)) → length k ≤ length ts
      of (inl x) = ls.takes t ts None k (omega arith) (held (not (Ss.null false)) sure) x.0
      of (inr x) =
          let u = ls.takes t ts (Some x.0) x.1 (omega arith) (held (not (Ss.null false)) sure) x.2 in
          let d = ls.sound (t ∷ ts) x.0 x.1 x.2 in
          let less = shrinks al Ss n rs rs' Q q q' ls n (t ∷ ts) x.0 x.1 d in
          let w = turns_cut al S n ri ri' R p p' l solid look cs more step looks inside m x.0 x.1 o k (omega (arith, less)) x.3 in
          omega (arith, u, ap length w.1, length-append w.0 k)

  pub law_loop : Law al loop_sets n room room' LR loop_read loop_read'
  law_loop = record {
    free = loop_free;
    more = λ ts d rest x. (x.0, x.1, x.2, ls.more ts x.1 x.0 x.3, turns_up al S n ri ri' R p p' l solid look cs more step looks x.2 x.1 x.0 d rest x.4);
    full = λ r. let x = ls.full r in (x.0, x.1, (r, x.1, [], x.2, (refl, refl)));
    sound = loop_sound;
    complete = loop_complete;
    alive = loop_alive;
    local = loop_local;
    known = λ c k. among_left c (Ss.first false) (where_holds (Ss.null false) (turn_first al look S false)) (ls.known c (held c (not (Ss.null false)) k));
    takes = loop_takes;
  }
    where
      held : (c : Sort) (b : Bool) → among c (where_holds b Ss.sure) ≡ true → among c Ss.sure ≡ true
      held c true k = k
      held c false k = absurd cc
