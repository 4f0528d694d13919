-- Parts of texts.
use Rattle.std.proofs.Common.{◌≡◌, ◌≢◌, ◌↔◌, ℕ, zero, suc, ◌-◌, ◌<◌, ◌≤◌, ◌==◌, ◌&&◌, ◌||◌, Bool, true, false, cond, List, [], ◌∷◌, ◌++◌, length, take, drop, None, refl, sym, ap, subst, ◌∙◌, arith, append_assoc, append-nil}
use Rattle.std.proofs.lemmas.Bool.{false≢true}
use Rattle.std.proofs.lemmas.Bool.Decides.{nat_tests}
use Rattle.std.specs.Str.Iter.{HasSubslice}
use Rattle.std.specs.Str.Pattern.{FindsText, LacksTextAt, SplitsAroundMatch}
use Rattle.dsl_lib.specs.Texts.{begins_with, has_part, replaced_behind}

same_byte : (b p : ℕ) (t : Bool) → ((b == p) && t) ≡ true → (b ≡ p) × (t ≡ true)
same_byte b p true h = (grind (arith, nat_tests), refl)
same_byte b p false h = by (b == p) h
  where
    by : (x : Bool) → (x && false) ≡ true → (b ≡ p) × (false ≡ true)
    by true h = absurd (false≢true h)
    by false h = absurd (false≢true h)

eqb_same : (b : ℕ) → (b == b) ≡ true
eqb_same b = grind (arith, nat_tests)

pub begins_front : (part rest : List ℕ) → begins_with (part ++ rest) part ≡ true
begins_front [] rest = refl
begins_front (p ∷ ps) rest = ap (λ x. x && begins_with (ps ++ rest) ps) (eqb_same p) ∙ begins_front ps rest

pub begins_is : (bs part : List ℕ) → begins_with bs part ≡ true → (rest : List ℕ) × (bs ≡ part ++ rest)
begins_is bs [] h = (bs, refl)
begins_is [] (p ∷ ps) h = absurd (false≢true h)
begins_is (b ∷ bs) (p ∷ ps) h =
    let both : (b ≡ p) × (begins_with bs ps ≡ true) = same_byte b p (begins_with bs ps) h in
    let more : (rest : List ℕ) × (bs ≡ ps ++ rest) = begins_is bs ps both.1 in
    (more.0, ap (λ x. x ∷ bs) both.0 ∙ ap (λ x. p ∷ x) more.1)

-- it doesn't begin with a part that doesn't stand there
begins_not : (bs part : List ℕ) → ((rest : List ℕ) → bs ≢ part ++ rest) → begins_with bs part ≡ false
begins_not bs part h = by (begins_with bs part) refl
  where
    by : (t : Bool) → begins_with bs part ≡ t → t ≡ false
    by true e = let found : (rest : List ℕ) × (bs ≡ part ++ rest) = begins_is bs part e in absurd (h found.0 found.1)
    by false e = refl

or_right : (a b : Bool) → b ≡ true → (a || b) ≡ true
or_right true b h = refl
or_right false b h = h

or_left : (a b : Bool) → a ≡ true → (a || b) ≡ true
or_left true b h = refl
or_left false b h = absurd (false≢true h)

has_here : (t part : List ℕ) → begins_with t part ≡ true → has_part t part ≡ true
has_here [] part h = h
has_here (b ∷ bs) part h = or_left _ (has_part bs part) h

has_behind : (front part rest : List ℕ) → has_part (front ++ (part ++ rest)) part ≡ true
has_behind [] part rest = has_here (part ++ rest) part (begins_front part rest)
has_behind (x ∷ xs) part rest = or_right (begins_with (x ∷ (xs ++ (part ++ rest))) part) _ (has_behind xs part rest)

has_sub : (t part : List ℕ) → has_part t part ≡ true → HasSubslice t part
has_sub [] part h = let found : (rest : List ℕ) × ([] ≡ part ++ rest) = begins_is [] part h in ([], found.0, found.1)
has_sub (b ∷ bs) part h = by (begins_with (b ∷ bs) part) refl h (λ e. has_sub bs part e)
  where
    by : (test : Bool) → begins_with (b ∷ bs) part ≡ test → (test || has_part bs part) ≡ true → (has_part bs part ≡ true → HasSubslice bs part) → HasSubslice (b ∷ bs) part
    by true e h later = let found : (rest : List ℕ) × (b ∷ bs ≡ part ++ rest) = begins_is (b ∷ bs) part e in ([], found.0, found.1)
    by false e h later = let found : HasSubslice bs part = later h in (b ∷ found.0, found.1, ap (λ x. b ∷ x) found.2)

has_of_sub : (t part : List ℕ) → HasSubslice t part → has_part t part ≡ true
has_of_sub t part h = subst (λ x. has_part x part ≡ true) (sym h.2) (has_behind h.0 part h.1)

pub has_part_is : (r : Bool) (t part : List ℕ) → (r ≡ true) ↔ HasSubslice t part → r ≡ has_part t part
has_part_is r t part h = by r (has_part t part) refl refl
  where
    by : (x y : Bool) → r ≡ x → has_part t part ≡ y → x ≡ y
    by true y e f = sym (has_of_sub t part (h.0 e)) ∙ f
    by false true e f = sym e ∙ h.1 (has_sub t part f)
    by false false e f = refl

-- what is passed where no part stands
pub replaced_past : (part by s : List ℕ) (i : ℕ) → ((k : ℕ) → k < i → LacksTextAt part s k) → i ≤ length s → replaced_behind part by 0 s ≡ take i s ++ replaced_behind part by 0 (drop i s)
replaced_past part by s zero lacks h = refl
replaced_past part by [] (suc i) lacks h = absurd (omega (arith, h))
replaced_past part by (b ∷ bs) (suc i) lacks h =
    ap (λ t. cond t (by ++ replaced_behind part by (length part - 1) bs) (b ∷ replaced_behind part by 0 bs)) (begins_not (b ∷ bs) part (lacks 0 (omega arith)))
    ∙ ap (λ x. b ∷ x) (replaced_past part by bs i (λ k l. lacks (suc k) (omega (arith, l))) (omega (arith, h)))

passed : (part by front rest : List ℕ) → replaced_behind part by (length front) (front ++ rest) ≡ replaced_behind part by 0 rest
passed part by [] rest = refl
passed part by (x ∷ xs) rest = passed part by xs rest

-- where it stands, the other text comes in its place
pub replaced_here : (part by rest : List ℕ) → 0 < length part → replaced_behind part by 0 (part ++ rest) ≡ by ++ replaced_behind part by 0 rest
replaced_here [] by rest h = absurd (omega (arith, h))
replaced_here (p ∷ ps) by rest h =
    let fewer : length (p ∷ ps) - 1 ≡ length ps = omega arith in
    ap (λ t. cond t (by ++ replaced_behind (p ∷ ps) by (length (p ∷ ps) - 1) (ps ++ rest)) (p ∷ replaced_behind (p ∷ ps) by 0 (ps ++ rest))) (begins_front (p ∷ ps) rest)
    ∙ ap (λ n. by ++ replaced_behind (p ∷ ps) by n (ps ++ rest)) fewer
    ∙ ap (λ x. by ++ x) (passed (p ∷ ps) by ps rest)

-- up to the first part and past it
pub replaced_step : (part by s front back : List ℕ) → 0 < length part → SplitsAroundMatch (FindsText part) s front back → front ++ (by ++ replaced_behind part by 0 back) ≡ replaced_behind part by 0 s
replaced_step part by s front back some (i, j, finds, ef, eb, le, lf, lb) =
    sym (replaced_past part by s i finds.0 (omega (arith, le, lb))
    ∙ ap (λ x. x ++ replaced_behind part by 0 (drop i s)) (sym ef)
    ∙ ap (λ x. front ++ replaced_behind part by 0 x) (finds.1.split ∙ ap (λ x. part ++ x) (sym eb))
    ∙ ap (λ x. front ++ x) (replaced_here part by back some))

drop_all : (s : List ℕ) → drop (length s) s ≡ []
drop_all [] = refl
drop_all (x ∷ xs) = drop_all xs

take_all : (s : List ℕ) → take (length s) s ≡ s
take_all [] = refl
take_all (x ∷ xs) = ap (λ y. x ∷ y) (take_all xs)

-- where there is no part, nothing changes
pub replaced_none : (part by s : List ℕ) → 0 < length part → FindsText part s None → replaced_behind part by 0 s ≡ s
replaced_none part by s some lacks =
    replaced_past part by s (length s) (λ k l. lacks k (omega (arith, l))) (omega arith)
    ∙ ap (λ x. take (length s) s ++ replaced_behind part by 0 x) (drop_all s) ∙ append-nil (take (length s) s) ∙ take_all s

pub pushed_twice : (o o1 o2 front by rest y z : List ℕ) → o1 ≡ o ++ front → o2 ≡ o1 ++ by → front ++ (by ++ rest) ≡ y → o ++ y ≡ z → o2 ++ rest ≡ z
pushed_twice o o1 o2 front by rest y z e1 e2 ey ez =
    ap (λ x. x ++ rest) (e2 ∙ ap (λ x. x ++ by) e1) ∙ append_assoc (o ++ front) by rest ∙ append_assoc o front (by ++ rest) ∙ ap (λ x. o ++ x) ey ∙ ez
