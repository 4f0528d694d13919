-- Turns look no further than the first token that they don't take.
use Rattle.std.proofs.Common.{◌≡◌, ℕ, zero, suc, ◌+◌, ◌<◌, ◌≤◌, List, [], ◌∷◌, ◌++◌, length, Bool, true, false, not, cond, Option, Some, None, refl, sym, ap, ◌∙◌, subst, inl, inr, arith, append_assoc, append-nil, length-append, true≢false}
use Rattle.std.specs.Prelude.{◌⊎◌, is_some}
use Rattle.std.proofs.lemmas.List.{append_cancel_right}
use Rattle.dsl_rules.specs.Alphabet.{Sort, same, Alphabet, among, and, at, skip, over}
use Rattle.dsl_rules.specs.Rules.{Rule, may}
use Rattle.dsl_rules.specs.Reading.{Read, got, bad, ◌>>=◌, turns}
use Rattle.dsl_rules.proofs.Basics.{same_is, among_is}
use Rattle.dsl_rules.proofs.Law.{Sets, Law, Clear, clear, put, put_got, got_is, bind_put, weight, shrinks, cut}
use Rattle.dsl_rules.proofs.Lines.{skip_shorter, skip_clear, skip_past, unclear_first, unclear_last}
use Rattle.dsl_rules.proofs.Single.{local_got, too_long}
use Rattle.dsl_rules.proofs.Repeat.{Looks, turns_cut}

module _ {T : Type 0} (al : Alphabet T) {A : Type 0} (S : Sets) (n ri ri' : ℕ) (R : ℕ → Rule T A) (p p' : List T → Read T A) (l : Law al S n ri ri' R p p') (solid : S.null false ≡ false) {C : Type 0} (cs : List Sort) (more : C → Sort → Bool) (step : C → A → C) (inside : (c : Sort) → among c cs ≡ true → among c S.sure ≡ true) where
  -- a newline is a turn by itself where another stands behind it
  abbrev pub TakesLines : Type 0
  TakesLines = (among al.line cs ≡ true) × ((c : C) → more c al.line ≡ true) × ((t u : T) (ts : List T) → same (al.sort_of t) al.line ≡ true → same (al.sort_of u) al.line ≡ true → (y : A) × (p (t ∷ u ∷ ts) ≡ got y (u ∷ ts)))

  plain : Looks al S n ri ri' R p p' l solid false
  plain e = absurd cc

  abbrev run : Bool → ℕ → C → List T → Read T C
  run look m c ts = turns al look cs more step p m c ts

  abbrev run' : Bool → ℕ → C → List T → Read T C
  run' look m c ts = turns al look cs more step p' m c ts

  line_may : TakesLines → (c : C) (t : T) (ts : List T) → same (al.sort_of t) al.line ≡ true → may al cs (more c) (t ∷ ts) ≡ true
  line_may k c t ts e =
      let q = same_is (al.sort_of t) al.line e in
      subst (λ z. and (among z cs) (more c z) ≡ true) (sym q) (rw (k.0, k.1 c) refl)

  -- the first of newlines
  next_line : (f : List T) (t : T) (s : List T) → clear al f t ≡ false → (u : T) × (us : List T) × (f ++ t ∷ s ≡ u ∷ us) × (same (al.sort_of u) al.line ≡ true)
  next_line [] t s un = (t, s, refl, unclear_last al t un)
  next_line (x ∷ f) t s un = (x, f ++ t ∷ s, refl, (unclear_first al x f t un).0)

  -- newlines are taken, and the token behind them if it is one
  pub passes : TakesLines → (m : ℕ) (c : C) (f : List T) (t : T) (s : List T) (o : Option C) (k : List T) → clear al f t ≡ false → length (f ++ t ∷ s) ≤ m → length (f ++ t ∷ s) ≤ ri → run false m c (f ++ t ∷ s) ≡ put o k → length k ≤ length s
  passes tk zero c f t s o k un lm le e = absurd (omega (arith, length-append f (t ∷ s)))
  passes tk (suc m) c [] t s o k un lm le e =
      let is = unclear_last al t un in
      let e' : (p (t ∷ s) >>= λ x mid. run false m (step c x) mid) ≡ put o k = subst (λ b. cond b (p (t ∷ s) >>= λ x mid. run false m (step c x) mid) (got c (t ∷ s)) ≡ put o k) (line_may tk c t s is) e in
      of (inside (al.sort_of t) (among_is (al.sort_of t) al.line cs is tk.0)) (bind_put (p (t ∷ s)) (λ x mid. run false m (step c x) mid) o k e')
    where
      of : among (al.sort_of t) S.sure ≡ true → ((p (t ∷ s) ≡ bad k) × (o ≡ None)) ⊎ ((x : A) × (mid : List T) × (p (t ∷ s) ≡ got x mid) × (run false m (step c x) mid ≡ put o k)) → length k ≤ length s
      of sure (inl y) = l.takes t s None k le sure y.0
      of sure (inr y) =
          let u = l.takes t s (Some y.0) y.1 le sure y.2 in
          let w = turns_cut al S n ri ri' R p p' l solid false cs more step plain inside m (step c y.0) y.1 o k (omega (arith, u)) y.3 in
          omega (arith, u, ap length w.1, length-append w.0 k)
  passes tk (suc m) c (x ∷ f) t s o k un lm le e =
      let is = unclear_first al x f t un in
      let h = next_line f t s is.1 in
      let y = tk.2 x h.0 h.1 is.0 h.3 in
      let e' : run false m (step c y.0) (h.0 ∷ h.1) ≡ put o k = subst (λ z. (z >>= λ x mid. run false m (step c x) mid) ≡ put o k) y.1 (subst (λ z. (p (x ∷ z) >>= λ x mid. run false m (step c x) mid) ≡ put o k) h.2 (subst (λ b. cond b (p (x ∷ (f ++ t ∷ s)) >>= λ x mid. run false m (step c x) mid) (got c (x ∷ (f ++ t ∷ s))) ≡ put o k) (line_may tk c x (f ++ t ∷ s) is.0) e)) in
      passes tk m (step c y.0) f t s o k is.1 (omega arith) (omega arith) (subst (λ z. run false m (step c y.0) z ≡ put o k) (sym h.2) e')

  -- behind what was read before, the front goes on
  pub item_local : (S.far ≡ false) ⊎ TakesLines → (m : ℕ) (c : C) (front : List T) (t : T) (s s' : List T) (x : A) (mid f : List T) (o : Option C) → length (front ++ t ∷ s) ≤ ri → length (front ++ t ∷ s') ≤ ri' → length mid ≤ m → length mid ≤ ri → mid ≡ f ++ t ∷ s → p (front ++ t ∷ s) ≡ got x mid → (k : List T) → run false m c mid ≡ put o (k ++ t ∷ s) → p' (front ++ t ∷ s') ≡ got x (f ++ t ∷ s')
  item_local near m c front t s s' x mid f o le le' lm li eq e k go = by near
    where
      holds : (b : Bool) → clear al f t ≡ b → TakesLines → clear al f t ≡ true
      holds true h tk = h
      holds false h tk = absurd (let q = passes tk m c f t s o (k ++ t ∷ s) h (omega (arith, ap length eq)) (omega (arith, ap length eq)) (subst (λ z. run false m c z ≡ put o (k ++ t ∷ s)) eq go) in omega (arith, q, length-append k (t ∷ s)))

      by : (S.far ≡ false) ⊎ TakesLines → p' (front ++ t ∷ s') ≡ got x (f ++ t ∷ s')
      by (inl near) = l.local front t s s' f (Some x) le le' (λ far is. absurd (true≢false (sym far ∙ near))) (e ∙ ap (got x) eq)
      by (inr tk) = l.local front t s s' f (Some x) le le' (λ far is. holds (clear al f t) refl tk) (e ∙ ap (got x) eq)

  same_may : (g : Sort → Bool) (front : List T) (t : T) (s s' : List T) → may al cs g (front ++ t ∷ s) ≡ may al cs g (front ++ t ∷ s')
  same_may g [] t s s' = refl
  same_may g (x ∷ front) t s s' = refl

  weighs_one : weight al S ≡ 1
  weighs_one = by (S.null false) solid
    where
      by : (b : Bool) → b ≡ false → ◌≡◌ {A = ℕ} (cond b 0 1) 1
      by true e = absurd cc
      by false e = refl

  -- how a turn ends
  abbrev Step : Bool → ℕ → C → List T → Option C → List T → Type 0
  Step look m c from o k = ((p from ≡ bad k) × (o ≡ None)) ⊎ ((x : A) × (mid : List T) × (p from ≡ got x mid) × (run look m (step c x) mid ≡ put o k))

  on_bad : (look : Bool) (m : ℕ) (c : C) (from : List T) (o : Option C) (k : List T) → p' from ≡ bad k → o ≡ None → (p' from >>= λ x mid. run' look m (step c x) mid) ≡ put o k
  on_bad look m c from o k e z = rw (e, z) refl

  pub plain_local : (S.far ≡ false) ⊎ TakesLines → (m m' : ℕ) (c : C) (front : List T) (t : T) (s s' f : List T) (o : Option C) → length (front ++ t ∷ s) ≤ m → length (front ++ t ∷ s) ≤ ri → length (front ++ t ∷ s') ≤ m' → length (front ++ t ∷ s') ≤ ri' → run false m c (front ++ t ∷ s) ≡ put o (f ++ t ∷ s) → run' false m' c (front ++ t ∷ s') ≡ put o (f ++ t ∷ s')
  plain_local near zero m' c front t s s' f o lm le lm' le' e = absurd (omega (arith, length-append front (t ∷ s)))
  plain_local near (suc m) zero c front t s s' f o lm le lm' le' e = absurd (omega (arith, length-append front (t ∷ s')))
  plain_local near (suc m) (suc m') c front t s s' f o lm le lm' le' e = by (λ x g. plain_local near m m' (step c x) g t s s' f o) (may al cs (more c) (front ++ t ∷ s)) refl e
    where
      taken : ((x : A) (g : List T) → length (g ++ t ∷ s) ≤ m → length (g ++ t ∷ s) ≤ ri → length (g ++ t ∷ s') ≤ m' → length (g ++ t ∷ s') ≤ ri' → run false m (step c x) (g ++ t ∷ s) ≡ put o (f ++ t ∷ s) → run' false m' (step c x) (g ++ t ∷ s') ≡ put o (f ++ t ∷ s')) → Step false m c (front ++ t ∷ s) o (f ++ t ∷ s) → (p' (front ++ t ∷ s') >>= λ x mid. run' false m' (step c x) mid) ≡ put o (f ++ t ∷ s')
      taken again (inl y) = on_bad false m' c (front ++ t ∷ s') o (f ++ t ∷ s') (l.local front t s s' f None le le' (λ far is. absurd cc) y.0) y.1
      taken again (inr y) =
          let d = l.sound (front ++ t ∷ s) y.0 y.1 y.2 in
          let z = l.free n (front ++ t ∷ s) y.0 y.1 d in
          let heavy = shrinks al S n ri ri' R p p' l n (front ++ t ∷ s) y.0 y.1 d in
          let one : weight al S ≡ 1 = weighs_one in
          let w = turns_cut al S n ri ri' R p p' l solid false cs more step plain inside m (step c y.0) y.1 o (f ++ t ∷ s) (omega (arith, heavy)) y.3 in
          let g = w.0 ++ f in
          let eq : y.1 ≡ (w.0 ++ f) ++ t ∷ s = w.1 ∙ sym (append_assoc w.0 f (t ∷ s)) in
          let parts : front ≡ z.0 ++ (w.0 ++ f) = append_cancel_right front (z.0 ++ (w.0 ++ f)) (t ∷ s) (z.1 ∙ ap (λ k. z.0 ++ k) eq ∙ sym (append_assoc z.0 (w.0 ++ f) (t ∷ s))) in
          let a = item_local near m (step c y.0) front t s s' y.0 y.1 (w.0 ++ f) o le le' (omega (arith, heavy, one)) (omega (arith, heavy)) eq y.2 f y.3 in
          let lg = length-append (w.0 ++ f) (t ∷ s) in
          let lg' = length-append (w.0 ++ f) (t ∷ s') in
          let lf = length-append front (t ∷ s) in
          let lf' = length-append front (t ∷ s') in
          let le1 = ap length eq in
          let b = again y.0 (w.0 ++ f) (omega (arith, heavy, one, le1)) (omega (arith, heavy, le1)) (omega (arith, heavy, one, le1, lg, lg', lf, lf')) (omega (arith, heavy, one, le1, lg, lg', lf, lf')) (subst (λ k. run false m (step c y.0) k ≡ put o (f ++ t ∷ s)) eq y.3) in
          rw a b

      by : ((x : A) (g : List T) → length (g ++ t ∷ s) ≤ m → length (g ++ t ∷ s) ≤ ri → length (g ++ t ∷ s') ≤ m' → length (g ++ t ∷ s') ≤ ri' → run false m (step c x) (g ++ t ∷ s) ≡ put o (f ++ t ∷ s) → run' false m' (step c x) (g ++ t ∷ s') ≡ put o (f ++ t ∷ s')) → (b : Bool) → may al cs (more c) (front ++ t ∷ s) ≡ b → cond b (p (front ++ t ∷ s) >>= λ x mid. run false m (step c x) mid) (got c (front ++ t ∷ s)) ≡ put o (f ++ t ∷ s) → run' false (suc m') c (front ++ t ∷ s') ≡ put o (f ++ t ∷ s')
      by again false h e = rw (sym (same_may (more c) front t s s') ∙ h) (local_got c front f t s s' o e)
      by again true h e = rw (sym (same_may (more c) front t s s') ∙ h) (taken again (bind_put (p (front ++ t ∷ s)) (λ x mid. run false m (step c x) mid) o (f ++ t ∷ s) e))

  module _ (looks : Looks al S n ri ri' R p p' l solid true) (near : S.far ≡ false) where
    -- nothing that stood before the token is left
    all_past : (m : ℕ) (c : C) (s f : List T) (t : T) (o : Option C) → length s ≤ ri → Step true m c (skip al s) o (f ++ t ∷ s) → ⊥
    all_past m c s f t o le (inl y) =
        let sh = skip_shorter al s in
        let w = cut al S n ri ri' R p p' l (skip al s) None (f ++ t ∷ s) (omega (arith, sh)) y.0 in
        omega (arith, sh, ap length w.1, length-append w.0 (f ++ t ∷ s), length-append f (t ∷ s))
    all_past m c s f t o le (inr y) =
        let sh = skip_shorter al s in
        let w = cut al S n ri ri' R p p' l (skip al s) (Some y.0) y.1 (omega (arith, sh)) y.2 in
        let lw = length-append w.0 y.1 in
        let lw1 = ap length w.1 in
        let v = turns_cut al S n ri ri' R p p' l solid true cs more step looks inside m (step c y.0) y.1 o (f ++ t ∷ s) (omega (arith, sh, lw, lw1)) y.3 in
        omega (arith, sh, lw, lw1, ap length v.1, length-append v.0 (f ++ t ∷ s), length-append f (t ∷ s))

    pub looking_local : (m m' : ℕ) (c : C) (front : List T) (t : T) (s s' f : List T) (o : Option C) → length (front ++ t ∷ s) ≤ m → length (front ++ t ∷ s) ≤ ri → length (front ++ t ∷ s') ≤ m' → length (front ++ t ∷ s') ≤ ri' → (is_some o ≡ true → clear al f t ≡ true) → run true m c (front ++ t ∷ s) ≡ put o (f ++ t ∷ s) → run' true m' c (front ++ t ∷ s') ≡ put o (f ++ t ∷ s')
    looking_local zero m' c front t s s' f o lm le lm' le' cl e = absurd (omega (arith, length-append front (t ∷ s)))
    looking_local (suc m) zero c front t s s' f o lm le lm' le' cl e = absurd (omega (arith, length-append front (t ∷ s')))
    looking_local (suc m) (suc m') c front t s s' f o lm le lm' le' cl e = by (λ x g i1 i2 i3 i4 e. looking_local m m' (step c x) g t s s' f o i1 i2 i3 i4 cl e) (clear al front t) refl
      where
        taken : ((x : A) (g : List T) → length (g ++ t ∷ s) ≤ m → length (g ++ t ∷ s) ≤ ri → length (g ++ t ∷ s') ≤ m' → length (g ++ t ∷ s') ≤ ri' → run true m (step c x) (g ++ t ∷ s) ≡ put o (f ++ t ∷ s) → run' true m' (step c x) (g ++ t ∷ s') ≡ put o (f ++ t ∷ s')) → (g0 : List T) → length g0 ≤ length front → Step true m c (g0 ++ t ∷ s) o (f ++ t ∷ s) → (p' (g0 ++ t ∷ s') >>= λ x mid. run' true m' (step c x) mid) ≡ put o (f ++ t ∷ s')
        taken again g0 lg0 (inl y) =
            let lf = length-append front (t ∷ s) in
            let lf' = length-append front (t ∷ s') in
            let lh = length-append g0 (t ∷ s) in
            let lh' = length-append g0 (t ∷ s') in
            on_bad true m' c (g0 ++ t ∷ s') o (f ++ t ∷ s') (l.local g0 t s s' f None (omega (arith, lf, lh)) (omega (arith, lf', lh')) (λ far is. absurd cc) y.0) y.1
        taken again g0 lg0 (inr y) =
            let lf = length-append front (t ∷ s) in
            let lf' = length-append front (t ∷ s') in
            let lh = length-append g0 (t ∷ s) in
            let lh' = length-append g0 (t ∷ s') in
            let d = l.sound (g0 ++ t ∷ s) y.0 y.1 y.2 in
            let z = l.free n (g0 ++ t ∷ s) y.0 y.1 d in
            let heavy = shrinks al S n ri ri' R p p' l n (g0 ++ t ∷ s) y.0 y.1 d in
            let one : weight al S ≡ 1 = weighs_one in
            let w = turns_cut al S n ri ri' R p p' l solid true cs more step looks inside m (step c y.0) y.1 o (f ++ t ∷ s) (omega (arith, heavy, lf, lh)) y.3 in
            let eq : y.1 ≡ (w.0 ++ f) ++ t ∷ s = w.1 ∙ sym (append_assoc w.0 f (t ∷ s)) in
            let parts : g0 ≡ z.0 ++ (w.0 ++ f) = append_cancel_right g0 (z.0 ++ (w.0 ++ f)) (t ∷ s) (z.1 ∙ ap (λ k. z.0 ++ k) eq ∙ sym (append_assoc z.0 (w.0 ++ f) (t ∷ s))) in
            let a = l.local g0 t s s' (w.0 ++ f) (Some y.0) (omega (arith, lf, lh)) (omega (arith, lf', lh')) (λ far is. absurd (true≢false (sym far ∙ near))) (y.2 ∙ ap (got y.0) eq) in
            let lg = length-append (w.0 ++ f) (t ∷ s) in
            let lg' = length-append (w.0 ++ f) (t ∷ s') in
            let le1 = ap length eq in
            let b = again y.0 (w.0 ++ f) (omega (arith, heavy, one, le1, lf, lh)) (omega (arith, heavy, le1, lf, lh)) (omega (arith, heavy, one, le1, lg, lg', lf, lf', lh, lh')) (omega (arith, heavy, one, le1, lg, lg', lf, lf', lh, lh')) (subst (λ k. run true m (step c y.0) k ≡ put o (f ++ t ∷ s)) eq y.3) in
            rw a b

        near_by : ((x : A) (g : List T) → length (g ++ t ∷ s) ≤ m → length (g ++ t ∷ s) ≤ ri → length (g ++ t ∷ s') ≤ m' → length (g ++ t ∷ s') ≤ ri' → run true m (step c x) (g ++ t ∷ s) ≡ put o (f ++ t ∷ s) → run' true m' (step c x) (g ++ t ∷ s') ≡ put o (f ++ t ∷ s')) → (g0 : List T) → length g0 ≤ length front → (b : Bool) → may al cs (more c) (g0 ++ t ∷ s) ≡ b → cond b (p (g0 ++ t ∷ s) >>= λ x mid. run true m (step c x) mid) (got c (front ++ t ∷ s)) ≡ put o (f ++ t ∷ s) → cond (may al cs (more c) (g0 ++ t ∷ s')) (p' (g0 ++ t ∷ s') >>= λ x mid. run' true m' (step c x) mid) (got c (front ++ t ∷ s')) ≡ put o (f ++ t ∷ s')
        near_by again g0 lg0 false h e = rw (sym (same_may (more c) g0 t s s') ∙ h) (local_got c front f t s s' o e)
        near_by again g0 lg0 true h e = rw (sym (same_may (more c) g0 t s s') ∙ h) (taken again g0 lg0 (bind_put (p (g0 ++ t ∷ s)) (λ x mid. run true m (step c x) mid) o (f ++ t ∷ s) e))

        far_off : (b : Bool) → clear al front t ≡ false → cond b (p (skip al s) >>= λ x mid. run true m (step c x) mid) (got c (front ++ t ∷ s)) ≡ put o (f ++ t ∷ s) → ⊥
        far_off false h e =
            let q = put_got c (front ++ t ∷ s) o (f ++ t ∷ s) e in
            let same : front ≡ f = append_cancel_right front f (t ∷ s) q.1 in
            let is : is_some o ≡ true = rw q.0 refl in
            true≢false (sym (subst (λ z. clear al z t ≡ true) (sym same) (cl is)) ∙ h)
        far_off true h e = all_past m c s f t o (let lf = length-append front (t ∷ s) in omega (arith, lf)) (bind_put (p (skip al s)) (λ x mid. run true m (step c x) mid) o (f ++ t ∷ s) e)

        by : ((x : A) (g : List T) → length (g ++ t ∷ s) ≤ m → length (g ++ t ∷ s) ≤ ri → length (g ++ t ∷ s') ≤ m' → length (g ++ t ∷ s') ≤ ri' → run true m (step c x) (g ++ t ∷ s) ≡ put o (f ++ t ∷ s) → run' true m' (step c x) (g ++ t ∷ s') ≡ put o (f ++ t ∷ s')) → (b : Bool) → clear al front t ≡ b → run' true (suc m') c (front ++ t ∷ s') ≡ put o (f ++ t ∷ s')
        by again true h =
            let g = skip_clear al front t h in
            let e1 : cond (may al cs (more c) (g.0 ++ t ∷ s)) (p (g.0 ++ t ∷ s) >>= λ x mid. run true m (step c x) mid) (got c (front ++ t ∷ s)) ≡ put o (f ++ t ∷ s) = subst (λ z. cond (may al cs (more c) z) (p z >>= λ x mid. run true m (step c x) mid) (got c (front ++ t ∷ s)) ≡ put o (f ++ t ∷ s)) (g.1 s) e in
            subst (λ z. cond (may al cs (more c) z) (p' z >>= λ x mid. run' true m' (step c x) mid) (got c (front ++ t ∷ s')) ≡ put o (f ++ t ∷ s')) (sym (g.1 s')) (near_by again g.0 g.2 (may al cs (more c) (g.0 ++ t ∷ s)) refl e1)
        by again false h =
            let e1 : cond (may al cs (more c) (skip al s)) (p (skip al s) >>= λ x mid. run true m (step c x) mid) (got c (front ++ t ∷ s)) ≡ put o (f ++ t ∷ s) = subst (λ z. cond (may al cs (more c) z) (p z >>= λ x mid. run true m (step c x) mid) (got c (front ++ t ∷ s)) ≡ put o (f ++ t ∷ s)) (skip_past al front t s h) e in
            absurd (far_off (may al cs (more c) (skip al s)) h e1)
