-- Tokens behind newlines.
use Rattle.std.proofs.Common.{◌≡◌, ℕ, zero, suc, ◌+◌, ◌<◌, ◌≤◌, List, [], ◌∷◌, ◌++◌, length, Bool, true, false, not, cond, refl, sym, ap, ◌∙◌, subst, inl, inr, arith, append_assoc, append-nil, length-append, true≢false}
use Rattle.std.specs.Prelude.{◌⊎◌}
use Rattle.dsl_rules.specs.Alphabet.{Sort, same, Alphabet, among, at, skip, over}
use Rattle.dsl_rules.proofs.Basics.{AreInner, Opens, same_is}
use Rattle.dsl_rules.proofs.Law.{clear}

module _ {T : Type 0} (al : Alphabet T) where
  -- newlines alone
  abbrev pub AreLines : List T → Type 0
  AreLines [] = Unit {0}
  AreLines (t ∷ ts) = (same (al.sort_of t) al.line ≡ true) × AreLines ts

  -- the newlines that stand first
  pub lines_of : (ts : List T) → (l : List T) × (ts ≡ l ++ skip al ts) × AreLines l
  lines_of [] = ([], refl, tt)
  lines_of (t ∷ ts) = by (lines_of ts) (same (al.sort_of t) al.line) refl
    where
      by : ((l : List T) × (ts ≡ l ++ skip al ts) × AreLines l) → (b : Bool) → same (al.sort_of t) al.line ≡ b → (l : List T) × (t ∷ ts ≡ l ++ cond b (skip al ts) (t ∷ ts)) × AreLines l
      by again true e = (t ∷ again.0, ap (λ l. t ∷ l) again.1, (e, again.2))
      by again false e = ([], refl, tt)

  pub skip_lines : (l ts : List T) → AreLines l → skip al (l ++ ts) ≡ skip al ts
  skip_lines [] ts h = refl
  skip_lines (t ∷ l) ts h = rw h.0 (skip_lines l ts h.1)

  pub inner_lines : same al.line al.last ≡ false → (l : List T) → AreLines l → AreInner al l
  inner_lines apart [] h = tt
  inner_lines apart (t ∷ l) h = (subst (λ z. same z al.last ≡ false) (sym (same_is (al.sort_of t) al.line h.0)) apart, inner_lines apart l h.1)

  -- no newline stands first
  pub skip_stays : (cs : List Sort) → among al.line cs ≡ false → (ts : List T) → at al cs ts ≡ true → skip al ts ≡ ts
  skip_stays cs away [] e = refl
  skip_stays cs away (t ∷ ts) e = by (same (al.sort_of t) al.line) refl
    where
      by : (b : Bool) → same (al.sort_of t) al.line ≡ b → cond b (skip al ts) (t ∷ ts) ≡ t ∷ ts
      by true h = absurd (true≢false (sym (subst (λ z. among z cs ≡ true) (same_is (al.sort_of t) al.line h) e) ∙ away))
      by false h = refl

  pub skip_twice : (ts : List T) → skip al (skip al ts) ≡ skip al ts
  skip_twice [] = refl
  skip_twice (t ∷ ts) = by (skip_twice ts) (same (al.sort_of t) al.line) refl
    where
      by : skip al (skip al ts) ≡ skip al ts → (b : Bool) → same (al.sort_of t) al.line ≡ b → skip al (cond b (skip al ts) (t ∷ ts)) ≡ cond b (skip al ts) (t ∷ ts)
      by again true h = again
      by again false h = rw h refl

  pub skip_shorter : (ts : List T) → length (skip al ts) ≤ length ts
  skip_shorter ts = let x = lines_of ts in omega (arith, ap length x.1, length-append x.0 (skip al ts))

  -- where a token that is no newline stands in the front, behind it or at its end, the rest plays no part
  pub skip_clear : (front : List T) (t : T) → clear al front t ≡ true → (g : List T) × ((s : List T) → skip al (front ++ t ∷ s) ≡ g ++ t ∷ s) × (length g ≤ length front)
  skip_clear [] t c = ([], λ s. by (same (al.sort_of t) al.line) c, omega arith)
    where
      by : {s : List T} (b : Bool) → not b ≡ true → cond b (skip al s) (t ∷ s) ≡ t ∷ s
      by true c = absurd cc
      by false c = refl
  skip_clear (x ∷ front) t c = by (skip_clear front t) (same (al.sort_of x) al.line) c
    where
      by : (clear al front t ≡ true → (g : List T) × ((s : List T) → skip al (front ++ t ∷ s) ≡ g ++ t ∷ s) × (length g ≤ length front)) → (b : Bool) → cond b (clear al front t) true ≡ true → (g : List T) × ((s : List T) → cond b (skip al (front ++ t ∷ s)) (x ∷ (front ++ t ∷ s)) ≡ g ++ t ∷ s) × (length g ≤ length (x ∷ front))
      by again true c = let y = again c in (y.0, y.1, omega (arith, y.2))
      by again false c = (x ∷ front, λ s. refl, omega arith)

  -- else all through the token are newlines
  pub skip_past : (front : List T) (t : T) (s : List T) → clear al front t ≡ false → skip al (front ++ t ∷ s) ≡ skip al s
  skip_past [] t s c = by (same (al.sort_of t) al.line) c
    where
      by : (b : Bool) → not b ≡ false → cond b (skip al s) (t ∷ s) ≡ skip al s
      by true c = refl
      by false c = absurd cc
  skip_past (x ∷ front) t s c = by (skip_past front t s) (same (al.sort_of x) al.line) c
    where
      by : (clear al front t ≡ false → skip al (front ++ t ∷ s) ≡ skip al s) → (b : Bool) → cond b (clear al front t) true ≡ false → cond b (skip al (front ++ t ∷ s)) (x ∷ (front ++ t ∷ s)) ≡ skip al s
      by again true c = again c
      by again false c = absurd cc

  -- newlines through the token, one by one
  pub unclear_first : (x : T) (front : List T) (t : T) → clear al (x ∷ front) t ≡ false → (same (al.sort_of x) al.line ≡ true) × (clear al front t ≡ false)
  unclear_first x front t c = by (same (al.sort_of x) al.line) c
    where
      by : (b : Bool) → cond b (clear al front t) true ≡ false → (b ≡ true) × (clear al front t ≡ false)
      by true c = (refl, c)
      by false c = absurd cc

  pub unclear_last : (t : T) → clear al [] t ≡ false → same (al.sort_of t) al.line ≡ true
  unclear_last t c = by (same (al.sort_of t) al.line) c
    where
      by : (b : Bool) → not b ≡ false → b ≡ true
      by true c = refl
      by false c = absurd cc
