-- Texts between quotes, both ways.
use Rattle.std.proofs.Common.{◌≡◌, ℕ, zero, suc, ◌<◌, ◌≤◌, ◌==◌, Bool, true, false, cond, List, [], ◌∷◌, ◌++◌, length, take, drop, get_or, ◌+◌, refl, sym, ap, ◌∙◌, subst, append_assoc, arith}
use Rattle.std.proofs.lemmas.Bool.Decides.{nat_tests}
use Rattle.std.specs.List.{flat_map, prefix_len}
use Rattle.site_base.specs.Quoted.{escaped, quoted}
use Rattle.site_text.specs.Lines.{stands_as_it_is}
use Rattle.site_text.specs.ScriptReading.{Read, got, bad, unit_at, with_front, body_step, body_within, body_of, quoted_at}
use Rattle.site_text.proofs.UnitLaws.{unit_sound, unit_complete, unit_shorter, FirstOf, first_of}

-- more than enough steps are enough
pub body_enough : (m n : ℕ) (bs : List ℕ) → length bs ≤ m → length bs ≤ n → body_within m bs ≡ body_within n bs
body_enough m n [] l k = refl
body_enough zero n (b ∷ bs) l k = absurd (omega arith)
body_enough (suc m) zero (b ∷ bs) l k = absurd (omega arith)
body_enough (suc m) (suc n) (b ∷ bs) l k = ap (λ r. cond (b == 34) (got [] bs) r) (by (λ rest p q. body_enough m n rest p q) (unit_at (b ∷ bs)) refl)
  where
    by : ((rest : List ℕ) → length rest ≤ m → length rest ≤ n → body_within m rest ≡ body_within n rest) → (r : Read ℕ) → unit_at (b ∷ bs) ≡ r → body_step (body_within m) r ≡ body_step (body_within n) r
    by again bad e = refl
    by again (got c rest) e =
        let short : length rest < length (b ∷ bs) = unit_shorter (b ∷ bs) rest c e in
        ap (with_front (c ∷ [])) (again rest (omega arith) (omega arith))

-- one step
pub body_more : (b : ℕ) (bs rest : List ℕ) (c : ℕ) → (b == 34) ≡ false → unit_at (b ∷ bs) ≡ got c rest → body_of (b ∷ bs) ≡ with_front (c ∷ []) (body_of rest)
body_more b bs rest c miss e =
    let short : length rest < length (b ∷ bs) = unit_shorter (b ∷ bs) rest c e in
    ap (λ t. cond t (got [] bs) (body_step (body_within (length bs)) (unit_at (b ∷ bs)))) miss
    ∙ (ap (body_step (body_within (length bs))) e
    ∙ ap (with_front (c ∷ [])) (body_enough (length bs) (length rest) rest (omega arith) (omega arith)))

pub body_bad : (b : ℕ) (bs : List ℕ) → (b == 34) ≡ false → unit_at (b ∷ bs) ≡ bad → body_of (b ∷ bs) ≡ bad
body_bad b bs miss e =
    ap (λ t. cond t (got [] bs) (body_step (body_within (length bs)) (unit_at (b ∷ bs)))) miss ∙ ap (body_step (body_within (length bs))) e

fronts : (xs ys : List ℕ) (r : Read (List ℕ)) → with_front xs (with_front ys r) ≡ with_front (xs ++ ys) r
fronts xs ys bad = refl
fronts xs ys (got text rest) = ap (λ t. got t rest) (sym (append_assoc xs ys text))

-- what the loop keeps
pub reads_after : (text : List ℕ) (b : ℕ) (bs behind : List ℕ) (c : ℕ) (whole : Read (List ℕ)) → (b == 34) ≡ false → unit_at (b ∷ bs) ≡ got c behind
    → with_front text (body_of (b ∷ bs)) ≡ whole → with_front (text ++ c ∷ []) (body_of behind) ≡ whole
reads_after text b bs behind c whole miss e h =
    sym (fronts text (c ∷ []) (body_of behind)) ∙ (ap (with_front text) (sym (body_more b bs behind c miss e)) ∙ h)

pub reads_next : (text rest behind : List ℕ) (c : ℕ) (whole : Read (List ℕ)) → (get_or rest 0 0 ≡ 34 → ⊥) → unit_at rest ≡ got c behind
    → with_front text (body_of rest) ≡ whole → with_front (text ++ c ∷ []) (body_of behind) ≡ whole
unfolding unit_at
reads_next text [] behind c whole other e h = cc
reads_next text (b ∷ bs) behind c whole other e h =
    let miss : (b == 34) ≡ false = grind (arith, nat_tests) in
    reads_after text b bs behind c whole miss e h

-- what is read between quotes is spelled so
same : (a b : ℕ) → (a == b) ≡ true → a ≡ b
same a b e = grind (arith, nat_tests)

abbrev inside : List ℕ → List ℕ
inside text = flat_map escaped text ++ 34 ∷ []

inside_more : (c : ℕ) (text rest : List ℕ) → inside (c ∷ text) ++ rest ≡ escaped c ++ (inside text ++ rest)
inside_more c text rest =
    ap (λ w. w ++ rest) (append_assoc (escaped c) (flat_map escaped text) (34 ∷ [])) ∙ append_assoc (escaped c) (inside text) rest

body_sound : (most : ℕ) (bs text rest : List ℕ) → body_within most bs ≡ got text rest → bs ≡ inside text ++ rest
body_sound most [] text rest e = cc
body_sound zero (b ∷ bs) text rest e = cc
body_sound (suc most) (b ∷ bs) text rest e = by (λ xs t r h. body_sound most xs t r h) (b == 34) refl (unit_at (b ∷ bs)) refl e
  where
    joined : ((xs t r : List ℕ) → body_within most xs ≡ got t r → xs ≡ inside t ++ r) → (c : ℕ) (behind : List ℕ) → unit_at (b ∷ bs) ≡ got c behind → (r : Read (List ℕ)) → body_within most behind ≡ r
        → with_front (c ∷ []) r ≡ got text rest → b ∷ bs ≡ inside text ++ rest
    joined again c behind u bad h e = cc
    joined again c behind u (got t r) h e =
        let is : c ∷ t ≡ text = cc in
        let same_rest : r ≡ rest = cc in
        unit_sound (b ∷ bs) behind c u
        ∙ (ap (λ xs. escaped c ++ xs) (again behind t r h)
        ∙ (sym (inside_more c t r) ∙ (ap (λ t. inside t ++ r) is ∙ ap (λ r. inside text ++ r) same_rest)))

    by : ((xs t r : List ℕ) → body_within most xs ≡ got t r → xs ≡ inside t ++ r) → (q : Bool) → (b == 34) ≡ q → (u : Read ℕ) → unit_at (b ∷ bs) ≡ u
        → cond q (got [] bs) (body_step (body_within most) u) ≡ got text rest → b ∷ bs ≡ inside text ++ rest
    by again true hit u h e =
        let none : [] ≡ text = cc in
        let same_rest : bs ≡ rest = cc in
        ap (λ x. x ∷ bs) (same b 34 hit) ∙ (ap (λ r. 34 ∷ r) same_rest ∙ ap (λ t. inside t ++ rest) none)
    by again false miss bad h e = cc
    by again false miss (got c behind) h e = joined again c behind h (body_within most behind) refl e

body_complete : (text rest : List ℕ) → body_of (inside text ++ rest) ≡ got text rest
body_complete [] rest = refl
body_complete (c ∷ text) rest =
    let f : FirstOf c = first_of c in
    let more : List ℕ = inside text ++ rest in
    let spelled : inside (c ∷ text) ++ rest ≡ f.first ∷ (f.rest ++ more) = inside_more c text rest ∙ ap (λ w. w ++ more) f.is in
    let unit : unit_at (f.first ∷ (f.rest ++ more)) ≡ got c more = ap (λ w. unit_at (w ++ more)) (sym f.is) ∙ unit_complete c more in
    ap body_of spelled ∙ (body_more f.first (f.rest ++ more) more c f.no_quote unit ∙ ap (with_front (c ∷ [])) (body_complete text rest))

-- quoted texts
quoted_front : (text rest : List ℕ) → quoted text ++ rest ≡ 34 ∷ (inside text ++ rest)
quoted_front text rest = refl

pub quoted_sound : (bs text rest : List ℕ) → quoted_at bs ≡ got text rest → bs ≡ quoted text ++ rest
unfolding quoted_at
quoted_sound [] text rest e = cc
quoted_sound (b ∷ bs) text rest e = by (b == 34) refl e
  where
    by : (t : Bool) → (b == 34) ≡ t → cond t (body_of bs) bad ≡ got text rest → b ∷ bs ≡ quoted text ++ rest
    by true hit e = ap (λ x. x ∷ bs) (same b 34 hit) ∙ (ap (λ xs. 34 ∷ xs) (body_sound (length bs) bs text rest e) ∙ sym (quoted_front text rest))
    by false miss e = cc

pub quoted_complete : (text rest : List ℕ) → quoted_at (quoted text ++ rest) ≡ got text rest
unfolding quoted_at
quoted_complete text rest = ap quoted_at (quoted_front text rest) ∙ body_complete text rest

-- bytes in front that stand for themselves
unit_as_it_is : (b : ℕ) (bs : List ℕ) → stands_as_it_is b ≡ true → unit_at (b ∷ bs) ≡ got b bs
unfolding unit_at
unit_as_it_is b bs e = grind (arith, nat_tests)

no_quote : (b : ℕ) → stands_as_it_is b ≡ true → (b == 34) ≡ false
no_quote b e = grind (arith, nat_tests)

no_front : (r : Read (List ℕ)) → with_front [] r ≡ r
no_front bad = refl
no_front (got text rest) = refl

pub reads_front : (bs : List ℕ) → with_front (take (prefix_len stands_as_it_is bs) bs) (body_of (drop (prefix_len stands_as_it_is bs) bs)) ≡ body_of bs
reads_front [] = refl
reads_front (b ∷ bs) = by (reads_front bs) (stands_as_it_is b) refl
  where
    more : ℕ
    more = prefix_len stands_as_it_is bs

    Reads : ℕ → Type 0
    Reads n = with_front (take n (b ∷ bs)) (body_of (drop n (b ∷ bs))) ≡ body_of (b ∷ bs)

    next : suc more ≡ 1 + more
    next = omega arith

    by : with_front (take more bs) (body_of (drop more bs)) ≡ body_of bs → (t : Bool) → stands_as_it_is b ≡ t → Reads (cond t (1 + more) 0)
    by again true e =
        subst Reads next
        (sym (fronts (b ∷ []) (take more bs) (body_of (drop more bs)))
        ∙ (ap (with_front (b ∷ [])) again ∙ sym (body_more b bs bs b (no_quote b e) (unit_as_it_is b bs e))))
    by again false e = no_front (body_of (b ∷ bs))
