-- One thing, and then turns.
use Rattle.std.proofs.Common.{◌≡◌, ℕ, zero, suc, ◌+◌, ◌<◌, ◌≤◌, List, [], ◌∷◌, ◌++◌, length, Bool, true, false, not, cond, Option, Some, None, refl, sym, ap, ◌∙◌, subst, inl, inr, arith, append_assoc, append-nil, length-append, true≢false}
use Rattle.std.specs.Prelude.{◌⊎◌, is_some}
use Rattle.std.proofs.lemmas.List.{append_cancel_right}
use Rattle.dsl_rules.specs.Alphabet.{Sort, same, Alphabet, among, apart, and, or, where_holds, at, skip, over}
use Rattle.dsl_rules.specs.Rules.{Rule, may, Turns, Loop}
use Rattle.dsl_rules.specs.Reading.{Read, got, bad, ◌>>=◌, turns}
use Rattle.dsl_rules.proofs.Basics.{AreInner, inner_append, Opens, opens_append, seam, at_none_left, at_none_right, where_none, among_left, among_right, among_either, same_head, and_left}
use Rattle.dsl_rules.proofs.Law.{Sets, Law, FreeAt, AliveAt, Quiet, Clear, clear, put, put_got, put_bad, got_is, got_bad, bind_got, bind_bad, bind_put, weight, weighs, shrinks, cut}
use Rattle.dsl_rules.proofs.Lines.{AreLines, lines_of, skip_lines, inner_lines, skip_stays, skip_twice, skip_shorter, skip_clear, skip_past, unclear_first, unclear_last}
use Rattle.dsl_rules.proofs.Single.{local_got, local_bad}

-- the sorts with which a turn begins, its newlines included
abbrev pub turn_first : {T : Type 0} → Alphabet T → Bool → Sets → Bool → List Sort
turn_first al look S e = where_holds (and look (not e)) (al.line ∷ []) ++ S.first e

module _ {T : Type 0} (al : Alphabet T) {A : Type 0} (S : Sets) (n ri ri' : ℕ) (R : ℕ → Rule T A) (p p' : List T → Read T A) (l : Law al S n ri ri' R p p') (solid : S.null false ≡ false) where
  -- looking over newlines, a turn doesn't begin with one
  abbrev pub Looks : Bool → Type 0
  Looks look = look ≡ true → (among al.line (S.first false) ≡ false) × (same al.line al.last ≡ false)

  -- the tokens that a turn takes
  abbrev TurnAt : Bool → ℕ → List T → A → List T → Type 0
  TurnAt look h ts x mid =
      (front : List T) × (u : T) × (own : List T) × (ts ≡ front ++ mid) × ((r : List T) → over al look (front ++ r) ≡ u ∷ (own ++ r)) × ((r : List T) → R h (u ∷ (own ++ r)) x r) × AreInner al front
      × ((e : Bool) → Opens al (S.null e) (turn_first al look S e) (over al e front)) × (1 ≤ length front)

  turn_plain : (h : ℕ) (ts : List T) (x : A) (mid : List T) → R h ts x mid → TurnAt false h ts x mid
  turn_plain h ts x mid d = let y = l.free h ts x mid d in by y.0 y.1 y.2 y.3 y.4
    where
      by : (front : List T) → ts ≡ front ++ mid → ((r : List T) → R h (front ++ r) x r) → AreInner al front → ((e : Bool) → Opens al (S.null e) (S.first e) (over al e front)) → TurnAt false h ts x mid
      by [] e again i o = absurd (true≢false (sym (o false) ∙ solid))
      by (u ∷ own) e again i o = (u ∷ own, u, own, e, λ r. refl, again, i, o, omega arith)

  turn_looking : Looks true → (h : ℕ) (ts : List T) (x : A) (mid : List T) → R h (skip al ts) x mid → TurnAt true h ts x mid
  turn_looking looks h ts x mid d =
      let y = l.free h (skip al ts) x mid d in
      let z = lines_of al ts in
      by y.0 y.1 y.2 y.3 y.4 z.0 z.1 z.2
    where
      stays : (u : T) (own r : List T) → among (al.sort_of u) (S.first false) ≡ true → skip al (u ∷ (own ++ r)) ≡ u ∷ (own ++ r)
      stays u own r m = skip_stays al (S.first false) (looks refl).0 (u ∷ (own ++ r)) m

      opens : (lines : List T) → AreLines al lines → (u : T) (own : List T) → among (al.sort_of u) (S.first false) ≡ true → ((e : Bool) → Opens al (S.null e) (S.first e) (over al e (u ∷ own))) → (e : Bool) → Opens al (S.null e) (turn_first al true S e) (over al e (lines ++ u ∷ own))
      opens lines h u own m o true = subst (Opens al (S.null true) (S.first true)) (sym (skip_lines al lines (u ∷ own) h)) (o true)
      opens [] h u own m o false = among_right (al.sort_of u) (al.line ∷ []) (S.first false) m
      opens (t ∷ lines) h u own m o false = rw h.0 refl

      by : (front : List T) → skip al ts ≡ front ++ mid → ((r : List T) → R h (front ++ r) x r) → AreInner al front → ((e : Bool) → Opens al (S.null e) (S.first e) (over al e front)) → (lines : List T) → ts ≡ lines ++ skip al ts → AreLines al lines → TurnAt true h ts x mid
      by [] e again i o lines eq al' = absurd (true≢false (sym (o false) ∙ solid))
      by (u ∷ own) e again i o lines eq al' =
          (lines ++ u ∷ own, u, own, eq ∙ ap (λ z. lines ++ z) e ∙ sym (append_assoc lines (u ∷ own) mid), λ r. ap (skip al) (append_assoc lines (u ∷ own) r) ∙ skip_lines al lines (u ∷ (own ++ r)) al' ∙ stays u own r (o false), again, inner_append al lines (u ∷ own) (inner_lines al (looks refl).1 lines al') i, opens lines al' u own (o false) o, omega (arith, length-append lines (u ∷ own)))

  pub turn_front : (look : Bool) → Looks look → (h : ℕ) (ts : List T) (x : A) (mid : List T) → R h (over al look ts) x mid → TurnAt look h ts x mid
  turn_front true looks h ts x mid d = turn_looking looks h ts x mid d
  turn_front false looks h ts x mid d = turn_plain h ts x mid d

  module _ {C : Type 0} (look : Bool) (cs : List Sort) (more : C → Sort → Bool) (step : C → A → C) (looks : Looks look) where
    abbrev Ts : ℕ → List A → C → Rule T C
    Ts h xs c ts d rest = Turns al look cs more step (R h) xs c ts d rest

    opens_weak : (nl : Bool) (b : Bool) (fs : List Sort) (u : List T) → Opens al nl (fs ++ where_holds b fs) u → Opens al true fs u
    opens_weak nl b fs [] o = refl
    opens_weak nl b fs (t ∷ u) o = by (among_either (al.sort_of t) fs (where_holds b fs) o)
      where
        held : (b : Bool) → among (al.sort_of t) (where_holds b fs) ≡ true → among (al.sort_of t) fs ≡ true
        held true m = m
        held false m = absurd cc

        by : ((among (al.sort_of t) fs ≡ true) ⊎ ((among (al.sort_of t) fs ≡ false) × (among (al.sort_of t) (where_holds b fs) ≡ true))) → among (al.sort_of t) fs ≡ true
        by (inl m) = m
        by (inr m) = held b m.1

    opens_none : (e : Bool) (fs : List Sort) → Opens al true fs (over al e [])
    opens_none true fs = refl
    opens_none false fs = refl

    -- one turn more in front
    turn_more : (h : ℕ) (x : A) (xs : List A) (c d : C) (ts mid : List T) (t : TurnAt look h ts x mid) → may al cs (more c) (over al look ts) ≡ true → (b r : List T) → Ts h xs (step c x) (b ++ r) d r → Ts h (x ∷ xs) c ((t.0 ++ b) ++ r) d r
    turn_more h x xs c d ts mid t m b r ds =
        let at_front : over al look ((t.0 ++ b) ++ r) ≡ t.1 ∷ (t.2 ++ (b ++ r)) = ap (over al look) (append_assoc t.0 b r) ∙ t.4 (b ++ r) in
        let now : may al cs (more c) (t.1 ∷ (t.2 ++ mid)) ≡ true = subst (λ z. may al cs (more c) z ≡ true) (ap (over al look) t.3 ∙ t.4 mid) m in
        (b ++ r, subst (λ z. may al cs (more c) z ≡ true) (sym at_front) now, subst (λ z. R h z x (b ++ r)) (sym at_front) (t.5 (b ++ r)), ds)

    pub turns_free : (h : ℕ) (xs : List A) (c : C) (ts : List T) (d : C) (rest : List T) → Ts h xs c ts d rest → (front : List T) × (ts ≡ front ++ rest) × ((r : List T) → Ts h xs c (front ++ r) d r) × AreInner al front × ((e : Bool) → Opens al true (turn_first al look S e) (over al e front))
    turns_free h [] c ts d rest ds = ([], ds.1, λ r. (ds.0, refl), tt, λ e. opens_none e (turn_first al look S e))
    turns_free h (x ∷ xs) c ts d rest ds =
        let t = turn_front look looks h ts x ds.0 ds.2 in
        let g = turns_free h xs (step c x) ds.0 d rest ds.3 in
        (t.0 ++ g.0, t.3 ∙ ap (λ z. t.0 ++ z) g.1 ∙ sym (append_assoc t.0 g.0 rest), λ r. turn_more h x xs c d ts ds.0 t ds.1 g.0 r (g.2 r), inner_append al t.0 g.0 t.6 g.3, λ e. opens_weak (and (S.null e) true) (S.null e) (turn_first al look S e) (over al e (t.0 ++ g.0)) (opens_append al e (S.null e) true (turn_first al look S e) (turn_first al look S e) t.0 g.0 (t.7 e) (g.4 e)))

    pub turns_up : (xs : List A) (c : C) (ts : List T) (d : C) (rest : List T) → Ts n xs c ts d rest → Ts (suc n) xs c ts d rest
    turns_up [] c ts d rest ds = ds
    turns_up (x ∷ xs) c ts d rest ds = (ds.0, ds.1, l.more (over al look ts) x ds.0 ds.2, turns_up xs (step c x) ds.0 d rest ds.3)

    -- turns go on by none of these
    pub turns_quiet : (G : List Sort) (e : Bool) → apart (turn_first al look S e) G ≡ true → (h : ℕ) (xs : List A) (c : C) (ts : List T) (d : C) (rest : List T) → Ts h xs c ts d rest → at al G (over al e rest) ≡ false → at al G (over al e ts) ≡ false
    turns_quiet G e fits h xs c ts d rest ds q =
        let g = turns_free h xs c ts d rest ds in
        subst (λ z. at al G (over al e z) ≡ false) (sym g.1) (seam al e true (turn_first al look S e) G g.0 rest (g.4 e) fits (λ _. q))

    pub turns_shorter : (h : ℕ) (xs : List A) (c : C) (ts : List T) (d : C) (rest : List T) → Ts h xs c ts d rest → length rest ≤ length ts
    turns_shorter h xs c ts d rest ds = let g = turns_free h xs c ts d rest ds in omega (arith, ap length g.1, length-append g.0 rest)

    pub turns_sound : (m : ℕ) (c : C) (ts : List T) (d : C) (rest : List T) → turns al look cs more step p m c ts ≡ got d rest → (xs : List A) × Ts n xs c ts d rest
    turns_sound zero c ts d rest e = ([], got_is c d ts rest e)
    turns_sound (suc m) c ts d rest e = by (λ x mid. turns_sound m (step c x) mid d rest) (may al cs (more c) (over al look ts)) refl e
      where
        by : ((x : A) (mid : List T) → turns al look cs more step p m (step c x) mid ≡ got d rest → (xs : List A) × Ts n xs (step c x) mid d rest) → (b : Bool) → may al cs (more c) (over al look ts) ≡ b → cond b (p (over al look ts) >>= λ x mid. turns al look cs more step p m (step c x) mid) (got c ts) ≡ got d rest → (xs : List A) × Ts n xs c ts d rest
        by again false h e = ([], got_is c d ts rest e)
        by again true h e =
            let a = bind_got (p (over al look ts)) (λ x mid. turns al look cs more step p m (step c x) mid) d rest e in
            let b = again a.0 a.1 a.3 in
            (a.0 ∷ b.0, (a.1, h, l.sound (over al look ts) a.0 a.1 a.2, b.1))

    over_shorter : (ts : List T) → length (over al look ts) ≤ length ts
    over_shorter ts = by look
      where
        by : (b : Bool) → length (over al b ts) ≤ length ts
        by true = skip_shorter al ts
        by false = omega arith

    may_not : (g : Sort → Bool) (ts : List T) → at al cs ts ≡ false → may al cs g ts ≡ false
    may_not g [] m = refl
    may_not g (t ∷ ts) m = rw m refl

    pub turns_complete : ((e : Bool) → apart (turn_first al look S e) (S.go e) ≡ true) → (h m : ℕ) (xs : List A) (c : C) (ts : List T) (d : C) (rest : List T) → length ts ≤ m → length ts ≤ ri → Ts h xs c ts d rest → Quiet al S.go rest → at al cs (over al look rest) ≡ false → turns al look cs more step p m c ts ≡ got d rest
    turns_complete fits h zero [] c ts d rest lm le ds q stop = rw (ds.0, ds.1) refl
    turns_complete fits h (suc m) [] c ts d rest lm le ds q stop =
        let off : may al cs (more c) (over al look ts) ≡ false = subst (λ z. may al cs (more c) (over al look z) ≡ false) (sym ds.1) (may_not (more c) (over al look rest) stop) in
        rw (off, ds.0, ds.1) refl
    turns_complete fits h zero (x ∷ xs) c ts d rest lm le ds q stop =
        let t = turn_front look looks h ts x ds.0 ds.2 in
        absurd (omega (arith, ap length t.3, length-append t.0 ds.0, t.8))
    turns_complete fits h (suc m) (x ∷ xs) c ts d rest lm le ds q stop =
        let t = turn_front look looks h ts x ds.0 ds.2 in
        let o = over_shorter ts in
        let a = l.complete h (over al look ts) x ds.0 (omega (arith, o)) ds.2 (λ e. turns_quiet (S.go e) e (fits e) h xs (step c x) ds.0 d rest ds.3 (q e)) in
        let b = turns_complete fits h m xs (step c x) ds.0 d rest (omega (arith, ap length t.3, length-append t.0 ds.0, t.8)) (omega (arith, ap length t.3, length-append t.0 ds.0, t.8)) ds.3 q stop in
        rw (ds.1, a) b

    module _ (inside : (c : Sort) → among c cs ≡ true → among c S.sure ≡ true) where
      at_sure : (g : Sort → Bool) (ts : List T) → may al cs g ts ≡ true → (u : T) × (us : List T) × (ts ≡ u ∷ us) × (among (al.sort_of u) S.sure ≡ true)
      at_sure g [] m = absurd cc
      at_sure g (t ∷ ts) m = (t, ts, refl, inside (al.sort_of t) (and_left (among (al.sort_of t) cs) (g (al.sort_of t)) m))

      abbrev pub LiveAt : C → List T → List T → Type 0
      LiveAt c ts s = (front : List T) × (ts ≡ front ++ s) × ((r : List T) → (w : List T) × (xs : List A) × (d : C) × Ts (suc n) xs c (front ++ (w ++ r)) d r)

      -- the front of an item that was begun, with the newlines before it
      begun_front : (lk : Bool) → Looks lk → (ts : List T) (u : T) (us own s : List T) → over al lk ts ≡ u ∷ us → among (al.sort_of u) (S.first false) ≡ true → u ∷ us ≡ (u ∷ own) ++ s → (front : List T) × (ts ≡ front ++ s) × ((r : List T) → over al lk (front ++ r) ≡ u ∷ (own ++ r))
      begun_front false lks ts u us own s e m q = (u ∷ own, e ∙ q, λ r. refl)
      begun_front true lks ts u us own s e m q =
          let z = lines_of al ts in
          (z.0 ++ u ∷ own, z.1 ∙ ap (λ k. z.0 ++ k) (e ∙ q) ∙ sym (append_assoc z.0 (u ∷ own) s), λ r. ap (skip al) (append_assoc z.0 (u ∷ own) r) ∙ skip_lines al z.0 (u ∷ (own ++ r)) z.2 ∙ skip_stays al (S.first false) (lks refl).0 (u ∷ (own ++ r)) m)

      pub turns_alive : (m : ℕ) (c : C) (ts s : List T) → length ts ≤ ri → turns al look cs more step p m c ts ≡ bad s → LiveAt c ts s
      turns_alive zero c ts s le e = absurd cc
      turns_alive (suc m) c ts s le e = by (λ x mid. turns_alive m (step c x) mid s) (may al cs (more c) (over al look ts)) refl e
        where
          begun : (u : T) (us : List T) → over al look ts ≡ u ∷ us → among (al.sort_of u) S.sure ≡ true → may al cs (more c) (u ∷ us) ≡ true → p (u ∷ us) ≡ bad s → LiveAt c ts s
          begun u us e sure m b = let y = l.alive (u ∷ us) s (let o = over_shorter ts in omega (arith, o, ap length e)) b in of y.0 y.1 y.2
            where
              of : (front : List T) → u ∷ us ≡ front ++ s → ((r : List T) → (w : List T) × (a : A) × R (suc n) (front ++ (w ++ r)) a r) → LiveAt c ts s
              of [] q y = absurd (let k = l.takes u us None s (let o = over_shorter ts in omega (arith, o, ap length e)) sure b in omega (arith, k, ap length q))
              of (v ∷ own) q y =
                  let same : u ≡ v = cc in
                  let q' : u ∷ us ≡ (u ∷ own) ++ s = q ∙ ap (λ z. z ∷ (own ++ s)) (sym same) in
                  let g = begun_front look looks ts u us own s e (l.known (al.sort_of u) sure) q' in (
                    g.0,
                    g.1,
                    λ r.
                        let z = y r in
                        let eq = g.2 (z.0 ++ r) in
                        (z.0, z.1 ∷ [], step c z.1, (r, subst (λ k. may al cs (more c) k ≡ true) (sym eq) m, subst (λ k. R (suc n) k z.1 r) (sym eq) (subst (λ k. R (suc n) (k ∷ (own ++ (z.0 ++ r))) z.1 r) (sym same) z.2), (refl, refl))),
                  )

          by : ((x : A) (mid : List T) → length mid ≤ ri → turns al look cs more step p m (step c x) mid ≡ bad s → LiveAt (step c x) mid s) → (b : Bool) → may al cs (more c) (over al look ts) ≡ b → cond b (p (over al look ts) >>= λ x mid. turns al look cs more step p m (step c x) mid) (got c ts) ≡ bad s → LiveAt c ts s
          by again false h e = absurd cc
          by again true h e = of (bind_bad (p (over al look ts)) (λ x mid. turns al look cs more step p m (step c x) mid) s e)
            where
              of : (p (over al look ts) ≡ bad s) ⊎ ((x : A) × (mid : List T) × (p (over al look ts) ≡ got x mid) × (turns al look cs more step p m (step c x) mid ≡ bad s)) → LiveAt c ts s
              of (inl b) = let z = at_sure (more c) (over al look ts) h in begun z.0 z.1 z.2 z.3 (subst (λ k. may al cs (more c) k ≡ true) z.2 h) (subst (λ k. p k ≡ bad s) z.2 b)
              of (inr y) =
                  let d = l.sound (over al look ts) y.0 y.1 y.2 in
                  let t = turn_front look looks (suc n) ts y.0 y.1 (l.more (over al look ts) y.0 y.1 d) in
                  let g = again y.0 y.1 (omega (arith, ap length t.3, length-append t.0 y.1)) y.3 in (
                    t.0 ++ g.0,
                    t.3 ∙ ap (λ z. t.0 ++ z) g.1 ∙ sym (append_assoc t.0 g.0 s),
                    λ r.
                        let z = g.2 r in
                        let ds = turn_more (suc n) y.0 z.1 c z.2 ts y.1 t h (g.0 ++ z.0) r (rw (append_assoc g.0 z.0 r) z.3) in
                        (z.0, y.0 ∷ z.1, z.2, subst (λ k. Ts (suc n) (y.0 ∷ z.1) c k z.2 r) (ap (λ k. k ++ r) (sym (append_assoc t.0 g.0 z.0)) ∙ append_assoc (t.0 ++ g.0) z.0 r) ds),
                  )

      pub turns_cut : (m : ℕ) (c : C) (ts : List T) (o : Option C) (k : List T) → length ts ≤ ri → turns al look cs more step p m c ts ≡ put o k → (w : List T) × (ts ≡ w ++ k)
      turns_cut m c ts (Some d) k le e = let x = turns_sound m c ts d k e in let g = turns_free n x.0 c ts d k x.1 in (g.0, g.1)
      turns_cut m c ts None k le e = let g = turns_alive m c ts k le e in (g.0, g.1)
