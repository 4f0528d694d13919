-- How a pattern goes along a text.
use Rattle.std.proofs.Common.{◌≡◌, ℕ, zero, suc, ◌+◌, ◌<◌, ◌==◌, Bool, true, false, cond, List, [], ◌∷◌, ◌++◌, length, drop, refl, sym, ap, subst, ◌∙◌, arith, append_assoc, length-append}
use Rattle.std.proofs.lemmas.Bool.{false≢true}
use Rattle.std.proofs.lemmas.List.{drop-drop}
use Rattle.std.specs.List.{AllByRecursion}
use Rattle.wildcards.specs.Wildcards.{stands_for, one_then, any_then, part_then, describes, is_nothing, IsAlong}

pub along_none : (ps cs : List ℕ) → IsAlong ps cs ps cs
along_none ps cs = record { passed = []; front = []; parts_are = refl; rest_is = refl; as_many = refl; single = tt; same = refl }

-- nothing is left of both
pub both_end : (P T ps cs : List ℕ) → IsAlong P T ps cs → ps ≡ [] → cs ≡ [] → describes P T ≡ true
both_end P T ps cs h ep et = h.same ∙ ap (λ x. describes x cs) ep ∙ ap is_nothing et

-- something is left of the text alone
pub text_left : (P T ps cs more : List ℕ) (c : ℕ) → IsAlong P T ps cs → ps ≡ [] → cs ≡ c ∷ more → describes P T ≡ false
text_left P T ps cs more c h ep et = h.same ∙ ap (λ x. describes x cs) ep ∙ ap is_nothing et

part_at : (p c : ℕ) (f : List ℕ → Bool) (cs : List ℕ) → (p == 42) ≡ false → part_then p f (c ∷ cs) ≡ cond (stands_for p c) (f cs) false
part_at p c f cs e = ap (λ b. cond b (any_then f (c ∷ cs)) (one_then p f (c ∷ cs))) e

part_nothing : (p : ℕ) (f : List ℕ → Bool) → (p == 42) ≡ false → part_then p f [] ≡ false
part_nothing p f e = ap (λ b. cond b (any_then f []) false) e

-- the text has ended before a part
pub pattern_left : (P T ps cs more : List ℕ) (p : ℕ) → IsAlong P T ps cs → ps ≡ p ∷ more → (p == 42) ≡ false → cs ≡ [] → describes P T ≡ false
pattern_left P T ps cs more p h ep s et = h.same ∙ ap (λ x. describes x cs) ep ∙ ap (λ x. part_then p (describes more) x) et ∙ part_nothing p (describes more) s

-- a part doesn't stand for the character
pub other_char : (P T ps cs more others : List ℕ) (p c : ℕ) → IsAlong P T ps cs → ps ≡ p ∷ more → (p == 42) ≡ false → cs ≡ c ∷ others → stands_for p c ≡ false → describes P T ≡ false
other_char P T ps cs more others p c h ep s et o =
    h.same ∙ ap (λ x. describes x cs) ep ∙ ap (λ x. part_then p (describes more) x) et ∙ part_at p c (describes more) others s ∙ ap (λ b. cond b (describes more others) false) o

all_push : (xs : List ℕ) (x : ℕ) → AllByRecursion (λ p. (p == 42) ≡ false) xs → (x == 42) ≡ false → AllByRecursion (λ p. (p == 42) ≡ false) (xs ++ x ∷ [])
all_push [] x a e = (e, tt)
all_push (y ∷ ys) x a e = (a.0, all_push ys x a.1 e)

-- one part and one character more
pub along_more : (P T ps cs more others : List ℕ) (p c : ℕ) → IsAlong P T ps cs → ps ≡ p ∷ more → (p == 42) ≡ false → cs ≡ c ∷ others → stands_for p c ≡ true → IsAlong P T more others
along_more P T ps cs more others p c h ep s et o = record {
  passed = h.passed ++ p ∷ [];
  front = h.front ++ c ∷ [];
  parts_are = h.parts_are ∙ ap (λ x. h.passed ++ x) ep ∙ sym (append_assoc h.passed (p ∷ []) more);
  rest_is = h.rest_is ∙ ap (λ x. h.front ++ x) et ∙ sym (append_assoc h.front (c ∷ []) others);
  as_many = omega (arith, h.as_many, length-append h.passed (p ∷ []), length-append h.front (c ∷ []));
  single = all_push h.passed p h.single s;
  same = h.same ∙ ap (λ x. describes x cs) ep ∙ ap (λ x. part_then p (describes more) x) et ∙ part_at p c (describes more) others s ∙ ap (λ b. cond b (describes more others) false) o;
}

-- the next part is a `*`
pub along_star : (P T ps cs more : List ℕ) (p : ℕ) → IsAlong P T ps cs → ps ≡ p ∷ more → p ≡ 42 → IsAlong P T (42 ∷ more) cs
along_star P T ps cs more p h ep e = subst (λ x. IsAlong P T x cs) (ep ∙ ap (λ q. q ∷ more) e) h

-- some rest passes where the whole does
any_whole : (f : List ℕ → Bool) (cs : List ℕ) → f cs ≡ true → any_then f cs ≡ true
any_whole f [] e = e
any_whole f (c ∷ cs) e = ap (λ b. cond b true (any_then f cs)) e

any_later : (f : List ℕ → Bool) (c : ℕ) (cs : List ℕ) → any_then f cs ≡ true → any_then f (c ∷ cs) ≡ true
any_later f c cs e = by (f (c ∷ cs))
  where
    by : (b : Bool) → cond b true (any_then f cs) ≡ true
    by true = refl
    by false = e

-- or where a rest of it does
any_drop : (f : List ℕ → Bool) (n : ℕ) (cs : List ℕ) → any_then f (drop n cs) ≡ true → any_then f cs ≡ true
any_drop f zero cs e = e
any_drop f (suc n) [] e = e
any_drop f (suc n) (c ∷ cs) e = any_later f c cs (any_drop f n cs e)

-- so many single parts take so many characters
taken : (passed more cs : List ℕ) → AllByRecursion (λ p. (p == 42) ≡ false) passed → describes (passed ++ 42 ∷ more) cs ≡ true → any_then (describes more) (drop (length passed) cs) ≡ true
taken [] more cs a e = e
taken (p ∷ ps) more [] a e = absurd (false≢true (sym (part_nothing p (describes (ps ++ 42 ∷ more)) a.0) ∙ e))
taken (p ∷ ps) more (c ∷ cs) a e = taken ps more cs a.1 (by (stands_for p c) (sym (part_at p c (describes (ps ++ 42 ∷ more)) cs a.0) ∙ e))
  where
    by : (b : Bool) → cond b (describes (ps ++ 42 ∷ more) cs) false ≡ true → describes (ps ++ 42 ∷ more) cs ≡ true
    by true h = h
    by false h = absurd (false≢true h)

drop_one : (n c : ℕ) (cs : List ℕ) → drop 1 (drop n (c ∷ cs)) ≡ drop n cs
drop_one n c cs = let e : n + 1 ≡ suc n = omega arith in drop-drop 1 n (c ∷ cs) ∙ ap (λ k. drop k (c ∷ cs)) e

-- where they stand further on, the next `*` takes what lies between
taken_later : (passed more cs : List ℕ) → AllByRecursion (λ p. (p == 42) ≡ false) passed → any_then (describes (passed ++ 42 ∷ more)) cs ≡ true → any_then (describes more) (drop (length passed) cs) ≡ true
taken_later passed more [] a e = taken passed more [] a e
taken_later passed more (c ∷ cs) a e = by (describes (passed ++ 42 ∷ more) (c ∷ cs)) refl e (λ h. taken_later passed more cs a h)
  where
    by : (b : Bool) → describes (passed ++ 42 ∷ more) (c ∷ cs) ≡ b → cond b true (any_then (describes (passed ++ 42 ∷ more)) cs) ≡ true
        → (any_then (describes (passed ++ 42 ∷ more)) cs ≡ true → any_then (describes more) (drop (length passed) cs) ≡ true) → any_then (describes more) (drop (length passed) (c ∷ cs)) ≡ true
    by true h e later = taken passed more (c ∷ cs) a h
    by false h e later = any_drop (describes more) 1 (drop (length passed) (c ∷ cs)) (subst (λ x. any_then (describes more) x ≡ true) (sym (drop_one (length passed) c cs)) (later e))

same_tests : (a b : Bool) → (a ≡ true → b ≡ true) → (b ≡ true → a ≡ true) → a ≡ b
same_tests true b f g = sym (f refl)
same_tests false true f g = g refl
same_tests false false f g = refl

drop_front : (xs ys : List ℕ) → drop (length xs) (xs ++ ys) ≡ ys
drop_front [] ys = refl
drop_front (x ∷ xs) ys = drop_front xs ys

-- what the first `*` was found to describe is enough
pub greedy : (P T more rest : List ℕ) → IsAlong P T (42 ∷ more) rest → any_then (describes more) rest ≡ any_then (describes P) T
greedy P T more rest h = same_tests _ _ (λ e. any_whole (describes P) T (h.same ∙ e)) (λ e.
    let cut : drop (length h.passed) T ≡ rest = ap (λ n. drop n T) h.as_many ∙ ap (λ x. drop (length h.front) x) h.rest_is ∙ drop_front h.front rest in
    let found : any_then (describes more) (drop (length h.passed) T) ≡ true = taken_later h.passed more T h.single (subst (λ x. any_then (describes x) T ≡ true) h.parts_are e) in
    subst (λ x. any_then (describes more) x ≡ true) cut found)

-- and less is left
pub star_smaller : (P T more rest : List ℕ) → IsAlong P T (42 ∷ more) rest → length rest + length more < length T + length P
star_smaller P T more rest h = omega (arith, ap length h.parts_are, ap length h.rest_is, length-append h.passed (42 ∷ more), length-append h.front rest)

pub whole_passes : (f : List ℕ → Bool) (cs : List ℕ) (b : Bool) → f cs ≡ true → any_then f cs ≡ b → true ≡ b
whole_passes f cs b h e = sym (any_whole f cs h) ∙ e

pub rest_passes : (f : List ℕ → Bool) (cs others : List ℕ) (c : ℕ) → f cs ≡ false → cs ≡ c ∷ others → any_then f others ≡ any_then f cs
rest_passes f cs others c h e =
    let here : f (c ∷ others) ≡ false = subst (λ x. f x ≡ false) e h in
    sym (ap (λ b. cond b true (any_then f others)) here) ∙ sym (ap (any_then f) e)

pub no_rest : (f : List ℕ → Bool) (cs : List ℕ) → f cs ≡ false → cs ≡ [] → any_then f cs ≡ false
no_rest f cs h e = ap (any_then f) e ∙ subst (λ x. f x ≡ false) e h
