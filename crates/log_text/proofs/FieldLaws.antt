-- Fields of lines, both ways.
use Rattle.std.proofs.Common.{◌≡◌, ℕ, ◌^◌, ◌<◌, ◌≤◌, nat_le, Bool, true, false, cond, List, [], ◌∷◌, ◌++◌, length, drop, get_or, refl, sym, ap, ◌∙◌, subst, arith, inl, inr, Option, Some, None}
use Rattle.std.proofs.lemmas.Bool.{cases_lt}
use Rattle.std.proofs.lemmas.Bool.Decides.{nat_tests}
use Rattle.std.proofs.lemmas.List.Elements.{All-from_recursion}
use Rattle.std.proofs.lemmas.Option.{slice_get_within, get_or_from_slice_get, slice_get-get_or}
use Rattle.std.proofs.lemmas.Str.{IsUtf8-from_is_utf8, is_utf8-from_IsUtf8}
use Rattle.std.specs.Fmt.{decimal}
use Rattle.std.specs.List.{AllByRecursion, slice_get}
use Rattle.std.specs.Str.{IsUtf8, is_utf8}
use Rattle.site_base.specs.Quoted.{quoted}
use Rattle.site_model.proofs.Places.{place_is}
use Rattle.site_model.specs.Names.{place_of, IsPlaceOf}
use Rattle.site_model.specs.Sound.{AreDistinct}
use Rattle.site_text.proofs.BodyLaws.{quoted_sound, quoted_complete}
use Rattle.site_text.proofs.DecimalLaws.{IsStop}
use Rattle.site_text.proofs.ScriptLineLaws.{begins_is}
use Rattle.site_text.proofs.WholeLaws.{whole_sound, whole_complete}
use Rattle.site_text.specs.Entries.{name_text}
use Rattle.site_text.specs.ScriptReading.{Read, got, bad, quoted_at, begins}
use Rattle.site_text.specs.Wholes.{whole_at}
use Rattle.log_text.specs.Fronts.{Front, ◌>>=◌, front_of, behind, flag_at, spelled_at, number_at, at_most, bounded_at, as_text, text_at, with_rest, placed, name_at}

-- the value of a step that gave one
pub bind_some : {A B : Type 0} (r : Option A) (f : A → Option B) (y : B) → (r >>= f) ≡ Some y → (x : A) × (r ≡ Some x) × (f x ≡ Some y)
bind_some (Some x) f y e = (x, refl, e)
bind_some None f y e = absurd cc

-- the same, with what follows from it
pub bind_then : {A B P : Type 0} (r : Option A) (f : A → Option B) (y : B) → ((x : A) → r ≡ Some x → f x ≡ Some y → P) → (r >>= f) ≡ Some y → P
bind_then (Some x) f y k e = k x refl e
bind_then None f y k e = absurd cc

abbrev pub done : {A : Type 0} → A → Option A
done x = Some x

pub some_is : {A : Type 0} (x y : A) → done x ≡ done y → x ≡ y
some_is x y e = cc

-- a choice by a word that stands first
pub word_or : {A P : Type 0} (word bs : List ℕ) (a b : Option A) (y : A) → (bs ≡ word ++ drop (length word) bs → a ≡ Some y → P) → (b ≡ Some y → P) → cond (begins word bs) a b ≡ Some y → P
word_or {A = A} {P = P} word bs a b y first other e = by (begins word bs) refl e
  where
    by : (t : Bool) → begins word bs ≡ t → cond t a b ≡ Some y → P
    by true front e = first (begins_is word bs front) e
    by false miss e = other e

pub behind_sound : (word bs rest : List ℕ) → behind word bs ≡ Some rest → bs ≡ word ++ rest
behind_sound word bs rest e = word_or word bs (Some (drop (length word) bs)) None rest (λ front h. let is : drop (length word) bs ≡ rest = cc in front ∙ ap (λ xs. word ++ xs) is) (λ h. absurd cc) e

pub flag_sound : (this that bs : List ℕ) (y : Bool × List ℕ) → flag_at this that bs ≡ Some y → bs ≡ cond y.0 this that ++ y.1
flag_sound this that bs y e =
    word_or this bs (Some (true, drop (length this) bs)) (cond (begins that bs) (Some (false, drop (length that) bs)) None) y
    (λ front h. subst (λ z. bs ≡ cond z.0 this that ++ z.1) (some_is (true, drop (length this) bs) y h) front)
    (λ h.
    word_or that bs (Some (false, drop (length that) bs)) None y
    (λ front h. subst (λ z. bs ≡ cond z.0 this that ++ z.1) (some_is (false, drop (length that) bs) y h) front)
    (λ h. absurd cc) h)
    e

pub spelled_sound : {A : Type 0} (text : A → List ℕ) (xs : List A) (bs : List ℕ) (y : A × List ℕ) → spelled_at text xs bs ≡ Some y → bs ≡ text y.0 ++ y.1
spelled_sound text [] bs y e = absurd cc
spelled_sound text (x ∷ xs) bs y e =
    word_or (text x) bs (Some (x, drop (length (text x)) bs)) (spelled_at text xs bs) y
    (λ front h. subst (λ z. bs ≡ text z.0 ++ z.1) (some_is (x, drop (length (text x)) bs) y h) front)
    (λ h. spelled_sound text xs bs y h)
    e

-- numbers
pub number_sound : (bs : List ℕ) (y : ℕ × List ℕ) → number_at bs ≡ Some y → (bs ≡ decimal y.0 ++ y.1) × (y.0 < 2 ^ 64)
number_sound bs y e = by (whole_at bs) refl e
  where
    by : (r : Read ℕ) → whole_at bs ≡ r → front_of r ≡ Some y → (bs ≡ decimal y.0 ++ y.1) × (y.0 < 2 ^ 64)
    by bad h e = absurd cc
    by (got n rest) h e = subst (λ z. (bs ≡ decimal z.0 ++ z.1) × (z.0 < 2 ^ 64)) (some_is (n, rest) y e) (whole_sound bs rest n h)

pub number_complete : (n : ℕ) (rest : List ℕ) → n < 2 ^ 64 → IsStop rest → number_at (decimal n ++ rest) ≡ Some (n, rest)
number_complete n rest small stop = ap front_of (whole_complete n rest small stop)

low_is : (a b : ℕ) → nat_le a b ≡ true → a ≤ b
low_is a b e = grind (arith, nat_tests)

low_test : (a b : ℕ) → a ≤ b → nat_le a b ≡ true
low_test a b h = grind (arith, nat_tests)

pub bounded_sound : (most : ℕ) (bs : List ℕ) (y : ℕ × List ℕ) → bounded_at most bs ≡ Some y → (bs ≡ decimal y.0 ++ y.1) × (y.0 ≤ most)
unfolding bounded_at
bounded_sound most bs y e =
    let a = bind_some (number_at bs) (at_most most) y e in
    by a.0 a.1 (nat_le a.0.0 most) refl a.2
  where
    by : (x : ℕ × List ℕ) → number_at bs ≡ Some x → (t : Bool) → nat_le x.0 most ≡ t → cond t (Some x) None ≡ Some y → (bs ≡ decimal y.0 ++ y.1) × (y.0 ≤ most)
    by x h true low e = subst (λ z. (bs ≡ decimal z.0 ++ z.1) × (z.0 ≤ most)) (some_is x y e) ((number_sound bs x h).0, low_is x.0 most low)
    by x h false low e = absurd cc

pub bounded_complete : (most n : ℕ) (rest : List ℕ) → most < 2 ^ 64 → n ≤ most → IsStop rest → bounded_at most (decimal n ++ rest) ≡ Some (n, rest)
unfolding bounded_at
bounded_complete most n rest high low stop =
    ap (λ r. r >>= at_most most) (number_complete n rest (omega arith) stop) ∙ ap (λ t. cond t (Some (n, rest)) None) (low_test n most low)

-- quoted texts
pub text_sound : (bs : List ℕ) (y : List ℕ × List ℕ) → text_at bs ≡ Some y → (bs ≡ quoted y.0 ++ y.1) × IsUtf8 y.0
unfolding text_at
text_sound bs y e = by (quoted_at bs) refl e
  where
    tested : (t rest : List ℕ) → quoted_at bs ≡ got t rest → (u : Bool) → is_utf8 t ≡ u → cond u (Some (t, rest)) None ≡ Some y → (bs ≡ quoted y.0 ++ y.1) × IsUtf8 y.0
    tested t rest h true u e = subst (λ z. (bs ≡ quoted z.0 ++ z.1) × IsUtf8 z.0) (some_is (t, rest) y e) (quoted_sound bs t rest h, IsUtf8-from_is_utf8 t u)
    tested t rest h false u e = absurd cc

    by : (r : Read (List ℕ)) → quoted_at bs ≡ r → (front_of r >>= as_text) ≡ Some y → (bs ≡ quoted y.0 ++ y.1) × IsUtf8 y.0
    by bad h e = absurd cc
    by (got t rest) h e = tested t rest h (is_utf8 t) refl e

pub text_complete : (t rest : List ℕ) → IsUtf8 t → text_at (quoted t ++ rest) ≡ Some (t, rest)
unfolding text_at
text_complete t rest u = ap (λ r. front_of r >>= as_text) (quoted_complete t rest) ∙ ap (λ b. cond b (Some (t, rest)) None) (is_utf8-from_IsUtf8 t u)

-- what a conversion of the spelled bytes tells
pub text_found : (bs t rest u : List ℕ) {v : List ℕ} → quoted_at bs ≡ got t rest → v ≡ t → IsUtf8 v → u ≡ t → text_at bs ≡ Some (u, rest)
unfolding text_at
text_found bs t rest u h same utf8 is =
    ap (λ r. front_of r >>= as_text) h
    ∙ (ap (λ b. cond b (Some (t, rest)) None) (is_utf8-from_IsUtf8 t (subst IsUtf8 same utf8)) ∙ ap (λ w. Some (w, rest)) (sym is))

pub no_text : (bs t rest : List ℕ) {v : List ℕ} → quoted_at bs ≡ got t rest → v ≡ t → (IsUtf8 v → ⊥) → text_at bs ≡ None
unfolding text_at
no_text bs t rest h same none = ap (λ r. front_of r >>= as_text) h ∙ by (is_utf8 t) refl
  where
    by : (b : Bool) → is_utf8 t ≡ b → cond {A = Front (List ℕ)} b (Some (t, rest)) None ≡ None
    by true e = absurd (none (subst IsUtf8 (sym same) (IsUtf8-from_is_utf8 t e)))
    by false e = refl

-- names
place_sound : (names : List (List ℕ)) (name : List ℕ) (k : ℕ) → place_of name names ≡ Some k → (k < length names) × (get_or names k [] ≡ name)
place_sound names name k e =
    let here : slice_get names k ≡ Some name = subst (IsPlaceOf name names) e (place_is name names) in
    (slice_get_within names k name here, get_or_from_slice_get names k name [] here)

pub name_sound : (names : List (List ℕ)) (bs : List ℕ) (y : ℕ × List ℕ) → name_at names bs ≡ Some y → (bs ≡ name_text names y.0 ++ y.1) × (y.0 < length names)
unfolding name_at
name_sound names bs y e =
    let a = bind_some (text_at bs) (placed names) y e in
    by a.0 (text_sound bs a.0 a.1).0 (place_of a.0.0 names) refl a.2
  where
    by : (t : List ℕ × List ℕ) → bs ≡ quoted t.0 ++ t.1 → (r : Option ℕ) → place_of t.0 names ≡ r → with_rest t.1 r ≡ Some y → (bs ≡ name_text names y.0 ++ y.1) × (y.0 < length names)
    by t whole None h e = absurd cc
    by t whole (Some k) h e =
        let found = place_sound names t.0 k h in
        subst (λ z. (bs ≡ name_text names z.0 ++ z.1) × (z.0 < length names)) (some_is (k, t.1) y e) (whole ∙ ap (λ n. quoted n ++ t.1) (sym found.1), found.0)

-- what stands at a place of a list stands there alone, where no two are the same
place_found : (ns : List (List ℕ)) (k : ℕ) → AreDistinct ns → k < length ns → place_of (get_or ns k []) ns ≡ Some k
place_found ns k apart inside = by (place_of name ns) refl (place_is name ns)
  where
    name : List ℕ
    name = get_or ns k []

    at : slice_get ns k ≡ Some name
    at = slice_get-get_or ns k [] inside

    here : (d : List ℕ) → get_or ns k d ≡ name
    here d = get_or_from_slice_get ns k name d at

    same : (j : ℕ) → slice_get ns j ≡ Some name → j ≡ k
    same j there = elim (cases_lt j k) [
      | inl lt ↦ absurd (apart j k name lt inside (get_or_from_slice_get ns j name name there ∙ sym (here name)))
      | inr le ↦ elim (cases_lt k j) [
        | inl gt ↦ absurd (apart k j name gt (slice_get_within ns j name there) (here name ∙ sym (get_or_from_slice_get ns j name name there)))
        | inr ge ↦ omega arith
      ]
    ]

    by : (r : Option ℕ) → place_of name ns ≡ r → IsPlaceOf name ns r → place_of name ns ≡ Some k
    by None e lacks = absurd (lacks (k, inside, here name))
    by (Some j) e there = e ∙ ap Some (same j there)

pub name_complete : (names : List (List ℕ)) (k : ℕ) (rest : List ℕ) → AreDistinct names → AllByRecursion IsUtf8 names → k < length names → name_at names (name_text names k ++ rest) ≡ Some (k, rest)
unfolding name_at
name_complete names k rest apart texts inside =
    ap (λ r. r >>= placed names) (text_complete (get_or names k []) rest (All-from_recursion IsUtf8 names texts k [] inside))
    ∙ ap (with_rest rest) (place_found names k apart inside)
