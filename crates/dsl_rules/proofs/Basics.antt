-- Sets of sorts, and tokens behind newlines.
use Rattle.std.proofs.Common.{◌≡◌, ℕ, zero, suc, ◌+◌, ◌<◌, ◌≤◌, List, [], ◌∷◌, ◌++◌, length, Bool, true, false, not, cond, nat_eq, Option, Some, None, option_map, refl, sym, ap, ◌∙◌, subst, inl, inr, arith, append_assoc, append-nil, length-append, true≢false}
use Rattle.std.specs.Prelude.{◌⊎◌}
use Rattle.std.proofs.lemmas.Bool.Decides.{nat_tests}
use Rattle.dsl_rules.specs.Alphabet.{Sort, sort, same, Alphabet, among, without, outside, apart, and, or, where_holds, at, skip, over}

pub same_is : (a b : Sort) → same a b ≡ true → a ≡ b
same_is (sort a b) (sort c d) e = let x = left_of a c b d e in let y = right_of a c b d e in ap (λ z. sort z b) x ∙ ap (sort c) y
  where
    left_of : (a c b d : ℕ) → cond (nat_eq a c) (nat_eq b d) false ≡ true → a ≡ c
    left_of a c b d e = grind (arith, nat_tests)

    right_of : (a c b d : ℕ) → cond (nat_eq a c) (nat_eq b d) false ≡ true → b ≡ d
    right_of a c b d e = grind (arith, nat_tests)

pub among_is : (a b : Sort) (cs : List Sort) → same a b ≡ true → among b cs ≡ true → among a cs ≡ true
among_is a b cs e m = subst (λ c. among c cs ≡ true) (sym (same_is a b e)) m

pub among_not : (a b : Sort) (cs : List Sort) → among b cs ≡ false → among a cs ≡ true → same a b ≡ false
among_not a b cs n m = by (same a b) refl
  where
    by : (x : Bool) → same a b ≡ x → x ≡ false
    by true e = absurd (true≢false (sym m ∙ subst (λ c. among c cs ≡ false) (sym (same_is a b e)) n))
    by false e = refl

pub among_left : (c : Sort) (xs ys : List Sort) → among c xs ≡ true → among c (xs ++ ys) ≡ true
among_left c [] ys e = absurd cc
among_left c (x ∷ xs) ys e = by (among_left c xs ys) (same c x) e
  where
    by : (among c xs ≡ true → among c (xs ++ ys) ≡ true) → (b : Bool) → cond b true (among c xs) ≡ true → cond b true (among c (xs ++ ys)) ≡ true
    by again true e = refl
    by again false e = again e

pub among_right : (c : Sort) (xs ys : List Sort) → among c ys ≡ true → among c (xs ++ ys) ≡ true
among_right c [] ys e = e
among_right c (x ∷ xs) ys e = by (among_right c xs ys e) (same c x)
  where
    by : among c (xs ++ ys) ≡ true → (b : Bool) → cond b true (among c (xs ++ ys)) ≡ true
    by again true = refl
    by again false = again

pub none_left : (c : Sort) (xs ys : List Sort) → among c (xs ++ ys) ≡ false → among c xs ≡ false
none_left c [] ys e = refl
none_left c (x ∷ xs) ys e = by (none_left c xs ys) (same c x) e
  where
    by : (among c (xs ++ ys) ≡ false → among c xs ≡ false) → (b : Bool) → cond b true (among c (xs ++ ys)) ≡ false → cond b true (among c xs) ≡ false
    by again true e = absurd cc
    by again false e = again e

pub none_right : (c : Sort) (xs ys : List Sort) → among c (xs ++ ys) ≡ false → among c ys ≡ false
none_right c [] ys e = e
none_right c (x ∷ xs) ys e = by (none_right c xs ys) (same c x) e
  where
    by : (among c (xs ++ ys) ≡ false → among c ys ≡ false) → (b : Bool) → cond b true (among c (xs ++ ys)) ≡ false → among c ys ≡ false
    by again true e = absurd cc
    by again false e = again e

-- it is among the first or among the second
pub among_either : (c : Sort) (xs ys : List Sort) → among c (xs ++ ys) ≡ true → (among c xs ≡ true) ⊎ ((among c xs ≡ false) × (among c ys ≡ true))
among_either c [] ys e = inr (refl, e)
among_either c (x ∷ xs) ys e = by (among_either c xs ys) (same c x) e
  where
    by : (among c (xs ++ ys) ≡ true → (among c xs ≡ true) ⊎ ((among c xs ≡ false) × (among c ys ≡ true))) → (b : Bool) → cond b true (among c (xs ++ ys)) ≡ true → (cond b true (among c xs) ≡ true) ⊎ ((cond b true (among c xs) ≡ false) × (among c ys ≡ true))
    by again true e = inl refl
    by again false e = again e

pub apart_not : (c : Sort) (cs ds : List Sort) → apart cs ds ≡ true → among c cs ≡ true → among c ds ≡ false
apart_not c [] ds a e = absurd cc
apart_not c (x ∷ xs) ds a e = by (apart_not c xs ds) (among x ds) refl (same c x) refl a e
  where
    by : (apart xs ds ≡ true → among c xs ≡ true → among c ds ≡ false) → (d : Bool) → among x ds ≡ d → (b : Bool) → same c x ≡ b → cond d false (apart xs ds) ≡ true → cond b true (among c xs) ≡ true → among c ds ≡ false
    by again true m b s a e = absurd cc
    by again false m true s a e = subst (λ z. among z ds ≡ false) (sym (same_is c x s)) m
    by again false m false s a e = again a e

pub among_without : (c x : Sort) (cs : List Sort) → same c x ≡ false → among c cs ≡ true → among c (without x cs) ≡ true
among_without c x [] n e = e
among_without c x (y ∷ ys) n e = by (among_without c x ys n) (same y x) refl (same c y) refl e
  where
    by : (among c ys ≡ true → among c (without x ys) ≡ true) → (d : Bool) → same y x ≡ d → (b : Bool) → same c y ≡ b → cond b true (among c ys) ≡ true → among c (cond d (without x ys) (y ∷ without x ys)) ≡ true
    by again true s true t e = absurd (true≢false (sym (subst (λ z. same z x ≡ true) (sym (same_is c y t)) s) ∙ n))
    by again true s false t e = again e
    by again false s true t e = rw t refl
    by again false s false t e = rw t (again e)

pub among_outside : (c : Sort) (ns cs : List Sort) → among c ns ≡ false → among c cs ≡ true → among c (outside ns cs) ≡ true
among_outside c ns [] n e = e
among_outside c ns (y ∷ ys) n e = by (among_outside c ns ys n) (among y ns) refl (same c y) refl e
  where
    by : (among c ys ≡ true → among c (outside ns ys) ≡ true) → (d : Bool) → among y ns ≡ d → (b : Bool) → same c y ≡ b → cond b true (among c ys) ≡ true → among c (cond d (outside ns ys) (y ∷ outside ns ys)) ≡ true
    by again true s true t e = absurd (true≢false (sym (subst (λ z. among z ns ≡ true) (sym (same_is c y t)) s) ∙ n))
    by again true s false t e = again e
    by again false s true t e = rw t refl
    by again false s false t e = rw t (again e)

pub or_left : (a b : Bool) → a ≡ true → or a b ≡ true
or_left true b e = refl
or_left false b e = absurd cc

pub or_right : (a b : Bool) → b ≡ true → or a b ≡ true
or_right true b e = refl
or_right false b e = e

pub not_or_left : (a b : Bool) → or a b ≡ false → a ≡ false
not_or_left true b e = e
not_or_left false b e = refl

pub not_or_right : (a b : Bool) → or a b ≡ false → b ≡ false
not_or_right true b e = absurd cc
not_or_right false b e = e

pub both_true : (a b : Bool) → a ≡ true → b ≡ true → and a b ≡ true
both_true true b e f = f
both_true false b e f = e

pub and_left : (a b : Bool) → and a b ≡ true → a ≡ true
and_left true b e = refl
and_left false b e = e

pub and_right : (a b : Bool) → and a b ≡ true → b ≡ true
and_right true b e = e
and_right false b e = absurd cc

pub not_and_left : (b : Bool) → and false b ≡ false
not_and_left b = refl

module _ {T : Type 0} (al : Alphabet T) where
  pub at_none_left : (xs ys : List Sort) (ts : List T) → at al (xs ++ ys) ts ≡ false → at al xs ts ≡ false
  at_none_left xs ys [] e = refl
  at_none_left xs ys (t ∷ ts) e = none_left (al.sort_of t) xs ys e

  pub at_none_right : (xs ys : List Sort) (ts : List T) → at al (xs ++ ys) ts ≡ false → at al ys ts ≡ false
  at_none_right xs ys [] e = refl
  at_none_right xs ys (t ∷ ts) e = none_right (al.sort_of t) xs ys e

  pub at_nothing : (ts : List T) → at al [] ts ≡ false
  at_nothing [] = refl
  at_nothing (t ∷ ts) = refl

  -- no last token is among them
  abbrev pub AreInner : List T → Type 0
  AreInner [] = Unit {0}
  AreInner (t ∷ ts) = (same (al.sort_of t) al.last ≡ false) × AreInner ts

  pub inner_append : (xs ys : List T) → AreInner xs → AreInner ys → AreInner (xs ++ ys)
  inner_append [] ys h k = k
  inner_append (x ∷ xs) ys h k = (h.0, inner_append xs ys h.1 k)

  -- where nothing stands, or a token of these
  abbrev pub Opens : Bool → List Sort → List T → Type 0
  Opens nothing cs [] = nothing ≡ true
  Opens nothing cs (t ∷ ts) = among (al.sort_of t) cs ≡ true

  abbrev pub put_before : List T → List T → List T → List T
  put_before [] v ys = v
  put_before (x ∷ xs) v ys = x ∷ (xs ++ ys)

  pub skip_append : (xs ys : List T) → skip al (xs ++ ys) ≡ put_before (skip al xs) (skip al ys) ys
  skip_append [] ys = refl
  skip_append (x ∷ xs) ys = by (skip_append xs ys) (same (al.sort_of x) al.line)
    where
      by : skip al (xs ++ ys) ≡ put_before (skip al xs) (skip al ys) ys → (b : Bool) → cond b (skip al (xs ++ ys)) (x ∷ (xs ++ ys)) ≡ put_before (cond b (skip al xs) (x ∷ xs)) (skip al ys) ys
      by again true = again
      by again false = refl

  pub over_append : (e : Bool) (xs ys : List T) → over al e (xs ++ ys) ≡ put_before (over al e xs) (over al e ys) ys
  over_append true xs ys = skip_append xs ys
  over_append false [] ys = refl
  over_append false (x ∷ xs) ys = refl

  pub opens_append : (e n m : Bool) (fs gs : List Sort) (xs ys : List T) → Opens n fs (over al e xs) → Opens m gs (over al e ys) → Opens (and n m) (fs ++ where_holds n gs) (over al e (xs ++ ys))
  opens_append e n m fs gs xs ys o q = subst (Opens (and n m) (fs ++ where_holds n gs)) (sym (over_append e xs ys)) (by (over al e xs) (over al e ys) o q)
    where
      next : (n : Bool) (v : List T) → n ≡ true → Opens m gs v → Opens (and n m) (fs ++ where_holds n gs) v
      next true [] e q = q
      next true (t ∷ v) e q = among_right (al.sort_of t) fs gs q
      next false v e q = absurd cc

      by : (u v : List T) → Opens n fs u → Opens m gs v → Opens (and n m) (fs ++ where_holds n gs) (put_before u v ys)
      by [] v o q = next n v o q
      by (t ∷ u) v o q = among_left (al.sort_of t) fs (where_holds n gs) o

  -- behind what opens otherwise none of these stands
  pub seam : (e n : Bool) (fs gs : List Sort) (xs rest : List T) → Opens n fs (over al e xs) → apart fs gs ≡ true → (n ≡ true → at al gs (over al e rest) ≡ false) → at al gs (over al e (xs ++ rest)) ≡ false
  seam e n fs gs xs rest o a q = subst (λ l. at al gs l ≡ false) (sym (over_append e xs rest)) (by (over al e xs) o)
    where
      by : (u : List T) → Opens n fs u → at al gs (put_before u (over al e rest) rest) ≡ false
      by [] o = q o
      by (t ∷ u) o = apart_not (al.sort_of t) fs gs a o

  pub opens_left : (n m : Bool) (fs gs : List Sort) (u : List T) → Opens n fs u → Opens (or n m) (fs ++ gs) u
  opens_left n m fs gs [] o = or_left n m o
  opens_left n m fs gs (t ∷ u) o = among_left (al.sort_of t) fs gs o

  pub opens_right : (n m : Bool) (fs gs : List Sort) (u : List T) → Opens m gs u → Opens (or n m) (fs ++ gs) u
  opens_right n m fs gs [] o = or_right n m o
  opens_right n m fs gs (t ∷ u) o = among_right (al.sort_of t) fs gs o

  pub same_head : (cs : List Sort) (front : List T) (t : T) (s s' : List T) → at al cs (front ++ t ∷ s) ≡ at al cs (front ++ t ∷ s')
  same_head cs [] t s s' = refl
  same_head cs (x ∷ front) t s s' = refl

  pub where_none : (b : Bool) (cs : List Sort) (ts : List T) → at al (where_holds b cs) ts ≡ false → b ≡ true → at al cs ts ≡ false
  where_none true cs ts e h = e
  where_none false cs ts e h = absurd cc
