-- Bytes between quotes, both ways.
use Rattle.std.proofs.Common.{◌≡◌, ℕ, ◌+◌, ◌/◌, ◌%◌, ◌<◌, ◌≤◌, ◌==◌, ◌&&◌, nat_le, Bool, true, false, cond, List, [], ◌∷◌, ◌++◌, length, refl, sym, ap, ◌∙◌, subst, arith, Option, Some, None}
use Rattle.std.proofs.lemmas.Bool.Decides.{nat_tests}
use Rattle.std.proofs.lemmas.List.{length-append}
use Rattle.site_base.specs.Quoted.{escaped, octal}
use Rattle.site_text.specs.ScriptReading.{got, bad, is_plain, is_octal, is_written_in_octal, octal_sum, octal_byte, with_rest, octal_at, escape_at, unit_at}

same : (a b : ℕ) → (a == b) ≡ true → a ≡ b
same a b e = grind (arith, nat_tests)

-- A byte that is written by its octal digits.
octal_text : (b : ℕ) → is_written_in_octal b ≡ true → escaped b ≡ octal b
octal_text b e = grind (arith, nat_tests)

octal_low : (b : ℕ) → is_written_in_octal b ≡ true → b < 128
octal_low b e = grind (arith, nat_tests)

both : (a b : Bool) → (a && b) ≡ true → (a ≡ true) × (b ≡ true)
both true b e = (refl, e)
both false b e = cc

in_octal : (x : ℕ) → is_octal x ≡ true → (48 ≤ x) × (x ≤ 55)
in_octal x e = (grind (arith, nat_tests), grind (arith, nat_tests))

octal_test : (x : ℕ) → 48 ≤ x → x ≤ 55 → is_octal x ≡ true
octal_test x l h = grind (arith, nat_tests)

first_test : (x : ℕ) → x ≤ 49 → nat_le x 49 ≡ true
first_test x h = grind (arith, nat_tests)

four : (a b c d : Bool) → a ≡ true → b ≡ true → c ≡ true → d ≡ true → (a && (b && (c && d))) ≡ true
four a b c d e f g h = ap (λ t. t && (b && (c && d))) e ∙ (ap (λ t. t && (c && d)) f ∙ (ap (λ t. t && d) g ∙ h))

sum_back : (b : ℕ) → b < 128 → octal_sum (48 + b / 64) (48 + b / 8 % 8) (48 + b % 8) ≡ b
sum_back b h = omega arith

octal_found : (b : ℕ) → is_written_in_octal b ≡ true → octal_byte (48 + b / 64) (48 + b / 8 % 8) (48 + b % 8) ≡ Some b
octal_found b e =
    let low : b < 128 = octal_low b e in
    let x : ℕ = 48 + b / 64 in
    let y : ℕ = 48 + b / 8 % 8 in
    let z : ℕ = 48 + b % 8 in
    let tests : (is_octal x && (is_octal y && (is_octal z && nat_le x 49))) ≡ true =
    four (is_octal x) (is_octal y) (is_octal z) (nat_le x 49) (octal_test x (omega arith) (omega arith)) (octal_test y (omega arith) (omega arith)) (octal_test z (omega arith) (omega arith)) (first_test x (omega arith)) in
    ap (λ t. cond t (cond (is_written_in_octal (octal_sum x y z)) (Some (octal_sum x y z)) None) None) tests
    ∙ (ap (λ v. cond (is_written_in_octal v) (Some v) None) (sum_back b low) ∙ ap (λ t. cond t (Some b) None) e)

octal_digits : (x y z c : ℕ) → (48 ≤ x) × (x ≤ 49) → (48 ≤ y) × (y ≤ 55) → (48 ≤ z) × (z ≤ 55) → octal_sum x y z ≡ c → octal c ≡ 92 ∷ x ∷ y ∷ z ∷ []
octal_digits x y z c hx hy hz e =
    let one : 48 + c / 64 ≡ x = omega arith in
    let two : 48 + c / 8 % 8 ≡ y = omega arith in
    let three : 48 + c % 8 ≡ z = omega arith in
    ap (λ d. 92 ∷ d ∷ (48 + c / 8 % 8) ∷ (48 + c % 8) ∷ []) one
    ∙ (ap (λ d. 92 ∷ x ∷ d ∷ (48 + c % 8) ∷ []) two ∙ ap (λ d. 92 ∷ x ∷ y ∷ d ∷ []) three)

octal_spelled : (x y z c : ℕ) → octal_byte x y z ≡ Some c → escaped c ≡ 92 ∷ x ∷ y ∷ z ∷ []
octal_spelled x y z c e = by (is_octal x && (is_octal y && (is_octal z && nat_le x 49))) refl (is_written_in_octal (octal_sum x y z)) refl e
  where
    by : (t : Bool) → (is_octal x && (is_octal y && (is_octal z && nat_le x 49))) ≡ t → (s : Bool) → is_written_in_octal (octal_sum x y z) ≡ s → cond t (cond s (Some (octal_sum x y z)) None) None ≡ Some c → escaped c ≡ 92 ∷ x ∷ y ∷ z ∷ []
    by true tests true written e =
        let is : octal_sum x y z ≡ c = cc in
        let hx = both (is_octal x) (is_octal y && (is_octal z && nat_le x 49)) tests in
        let hy = both (is_octal y) (is_octal z && nat_le x 49) hx.1 in
        let hz = both (is_octal z) (nat_le x 49) hy.1 in
        let low : x ≤ 49 = grind (arith, nat_tests, hz.1) in
        octal_text c (subst (λ v. is_written_in_octal v ≡ true) is written)
        ∙ octal_digits x y z c ((in_octal x hx.0).0, low) (in_octal y hy.0) (in_octal z hz.0) is
    by true tests false written e = cc
    by false tests s written e = cc

-- What is read is spelled so.
octal_sound : (bs rest : List ℕ) (c : ℕ) → octal_at bs ≡ got c rest → 92 ∷ bs ≡ escaped c ++ rest
octal_sound [] rest c e = cc
octal_sound (x ∷ []) rest c e = cc
octal_sound (x ∷ y ∷ []) rest c e = cc
octal_sound (x ∷ y ∷ z ∷ more) rest c e = by (octal_byte x y z) refl e
  where
    by : (r : Option ℕ) → octal_byte x y z ≡ r → with_rest more r ≡ got c rest → 92 ∷ x ∷ y ∷ z ∷ more ≡ escaped c ++ rest
    by None h e = cc
    by (Some b) h e =
        let is : b ≡ c = cc in
        let behind : more ≡ rest = cc in
        ap (λ xs. 92 ∷ x ∷ y ∷ z ∷ xs) behind ∙ ap (λ w. w ++ rest) (sym (octal_spelled x y z c (h ∙ ap Some is)))

-- an escape of one letter
letter : (e value : ℕ) (bs rest : List ℕ) (c : ℕ) → escaped value ≡ 92 ∷ e ∷ [] → got value bs ≡ got c rest → 92 ∷ e ∷ bs ≡ escaped c ++ rest
letter e value bs rest c spelled h =
    let is : value ≡ c = cc in
    let behind : bs ≡ rest = cc in
    ap (λ xs. 92 ∷ e ∷ xs) behind ∙ ap (λ w. w ++ rest) (sym spelled ∙ ap escaped is)

escape_sound : (bs rest : List ℕ) (c : ℕ) → escape_at bs ≡ got c rest → 92 ∷ bs ≡ escaped c ++ rest
unfolding escape_at
escape_sound [] rest c e = cc
escape_sound (x ∷ bs) rest c e = by (x == 34) (x == 92) (x == 110) (x == 116) (x == 114) refl refl refl refl refl e
  where
    told : (value : ℕ) (b : ℕ) → (x == b) ≡ true → escaped value ≡ 92 ∷ b ∷ [] → got value bs ≡ got c rest → 92 ∷ x ∷ bs ≡ escaped c ++ rest
    told value b hit spelled h = ap (λ y. 92 ∷ y ∷ bs) (same x b hit) ∙ letter b value bs rest c spelled h

    by : (p q r s t : Bool) → (x == 34) ≡ p → (x == 92) ≡ q → (x == 110) ≡ r → (x == 116) ≡ s → (x == 114) ≡ t
        → cond p (got 34 bs) (cond q (got 92 bs) (cond r (got 10 bs) (cond s (got 9 bs) (cond t (got 13 bs) (octal_at (x ∷ bs)))))) ≡ got c rest → 92 ∷ x ∷ bs ≡ escaped c ++ rest
    by true q r s t hp hq hr hs ht e = told 34 34 hp refl e
    by false true r s t hp hq hr hs ht e = told 92 92 hq refl e
    by false false true s t hp hq hr hs ht e = told 10 110 hr refl e
    by false false false true t hp hq hr hs ht e = told 9 116 hs refl e
    by false false false false true hp hq hr hs ht e = told 13 114 ht refl e
    by false false false false false hp hq hr hs ht e = octal_sound (x ∷ bs) rest c e

plain_text : (b : ℕ) → (b == 92) ≡ false → is_plain b ≡ true → escaped b ≡ b ∷ []
plain_text b e h = grind (arith, nat_tests)

pub unit_sound : (bs rest : List ℕ) (c : ℕ) → unit_at bs ≡ got c rest → bs ≡ escaped c ++ rest
unfolding unit_at
unit_sound [] rest c e = cc
unit_sound (b ∷ bs) rest c e = by (b == 92) refl (is_plain b) refl e
  where
    by : (t : Bool) → (b == 92) ≡ t → (s : Bool) → is_plain b ≡ s → cond t (escape_at bs) (cond s (got b bs) bad) ≡ got c rest → b ∷ bs ≡ escaped c ++ rest
    by true hit s h e = ap (λ x. x ∷ bs) (same b 92 hit) ∙ escape_sound bs rest c e
    by false miss true h e =
        let is : b ≡ c = cc in
        let behind : bs ≡ rest = cc in
        ap (λ xs. b ∷ xs) behind ∙ ap (λ w. w ++ rest) (sym (plain_text b miss h) ∙ ap escaped is)
    by false miss false h e = cc

-- And what is spelled so is read.
as_value : (b v : ℕ) (rest : List ℕ) → (b == v) ≡ true → unit_at (escaped v ++ rest) ≡ got v rest → unit_at (escaped b ++ rest) ≡ got b rest
as_value b v rest hit h = subst (λ x. unit_at (escaped x ++ rest) ≡ got x rest) (sym (same b v hit)) h

escape_octal : (x y z b : ℕ) (rest : List ℕ) → (48 ≤ x) × (x ≤ 55) → octal_byte x y z ≡ Some b → escape_at (x ∷ y ∷ z ∷ rest) ≡ got b rest
unfolding escape_at
escape_octal x y z b rest h e =
    let p : (x == 34) ≡ false = grind (arith, nat_tests) in
    let q : (x == 92) ≡ false = grind (arith, nat_tests) in
    let r : (x == 110) ≡ false = grind (arith, nat_tests) in
    let s : (x == 116) ≡ false = grind (arith, nat_tests) in
    let t : (x == 114) ≡ false = grind (arith, nat_tests) in
    let more : List ℕ = y ∷ z ∷ rest in
    ap (λ v. cond v (got 34 more) (cond (x == 92) (got 92 more) (cond (x == 110) (got 10 more) (cond (x == 116) (got 9 more) (cond (x == 114) (got 13 more) (octal_at (x ∷ more))))))) p
    ∙ (ap (λ v. cond v (got 92 more) (cond (x == 110) (got 10 more) (cond (x == 116) (got 9 more) (cond (x == 114) (got 13 more) (octal_at (x ∷ more)))))) q
    ∙ (ap (λ v. cond v (got 10 more) (cond (x == 116) (got 9 more) (cond (x == 114) (got 13 more) (octal_at (x ∷ more))))) r
    ∙ (ap (λ v. cond v (got 9 more) (cond (x == 114) (got 13 more) (octal_at (x ∷ more)))) s
    ∙ (ap (λ v. cond v (got 13 more) (octal_at (x ∷ more))) t ∙ ap (with_rest rest) e))))

unit_octal : (b : ℕ) (rest : List ℕ) → is_written_in_octal b ≡ true → unit_at (escaped b ++ rest) ≡ got b rest
unfolding unit_at
unit_octal b rest e =
    let low : b < 128 = octal_low b e in
    ap (λ w. unit_at (w ++ rest)) (octal_text b e)
    ∙ escape_octal (48 + b / 64) (48 + b / 8 % 8) (48 + b % 8) b rest (omega arith, omega arith) (octal_found b e)

unit_plain : (b : ℕ) (rest : List ℕ) → (b == 92) ≡ false → is_plain b ≡ true → unit_at (escaped b ++ rest) ≡ got b rest
unfolding unit_at
unit_plain b rest miss h =
    ap (λ w. unit_at (w ++ rest)) (plain_text b miss h)
    ∙ (ap (λ t. cond t (escape_at rest) (cond (is_plain b) (got b rest) bad)) miss ∙ ap (λ t. cond t (got b rest) bad) h)

other_plain : (b : ℕ) → (b == 34) ≡ false → (b == 92) ≡ false → (b == 10) ≡ false → (b == 9) ≡ false → (b == 13) ≡ false → is_written_in_octal b ≡ false → is_plain b ≡ true
other_plain b p q r s t w = grind (arith, nat_tests)

pub unit_complete : (b : ℕ) (rest : List ℕ) → unit_at (escaped b ++ rest) ≡ got b rest
unfolding unit_at escape_at
unit_complete b rest = by (b == 34) (b == 92) (b == 10) (b == 9) (b == 13) (is_written_in_octal b) refl refl refl refl refl refl
  where
    by : (p q r s t w : Bool) → (b == 34) ≡ p → (b == 92) ≡ q → (b == 10) ≡ r → (b == 9) ≡ s → (b == 13) ≡ t → is_written_in_octal b ≡ w → unit_at (escaped b ++ rest) ≡ got b rest
    by true q r s t w hp hq hr hs ht hw = as_value b 34 rest hp refl
    by false true r s t w hp hq hr hs ht hw = as_value b 92 rest hq refl
    by false false true s t w hp hq hr hs ht hw = as_value b 10 rest hr refl
    by false false false true t w hp hq hr hs ht hw = as_value b 9 rest hs refl
    by false false false false true w hp hq hr hs ht hw = as_value b 13 rest ht refl
    by false false false false false true hp hq hr hs ht hw = unit_octal b rest hw
    by false false false false false false hp hq hr hs ht hw = unit_plain b rest hq (other_plain b hp hq hr hs ht hw)

-- no byte is spelled with a quote first
pub record FirstOf (b : ℕ) : Type 0 where
  pub first : ℕ
  pub rest : List ℕ
  pub is : escaped b ≡ first ∷ rest
  pub no_quote : (first == 34) ≡ false

pub first_of : (b : ℕ) → FirstOf b
first_of b = by (b == 34) (b == 92) (b == 10) (b == 9) (b == 13) (is_written_in_octal b) refl refl refl refl refl refl
  where
    value : (v : ℕ) → (b == v) ≡ true → FirstOf v → FirstOf b
    value v hit f = subst FirstOf (sym (same b v hit)) f

    by : (p q r s t w : Bool) → (b == 34) ≡ p → (b == 92) ≡ q → (b == 10) ≡ r → (b == 9) ≡ s → (b == 13) ≡ t → is_written_in_octal b ≡ w → FirstOf b
    by true q r s t w hp hq hr hs ht hw = value 34 hp (record { first = 92; rest = 34 ∷ []; is = refl; no_quote = refl })
    by false true r s t w hp hq hr hs ht hw = value 92 hq (record { first = 92; rest = 92 ∷ []; is = refl; no_quote = refl })
    by false false true s t w hp hq hr hs ht hw = value 10 hr (record { first = 92; rest = 110 ∷ []; is = refl; no_quote = refl })
    by false false false true t w hp hq hr hs ht hw = value 9 hs (record { first = 92; rest = 116 ∷ []; is = refl; no_quote = refl })
    by false false false false true w hp hq hr hs ht hw = value 13 ht (record { first = 92; rest = 114 ∷ []; is = refl; no_quote = refl })
    by false false false false false true hp hq hr hs ht hw = record { first = 92; rest = (48 + b / 64) ∷ (48 + b / 8 % 8) ∷ (48 + b % 8) ∷ []; is = octal_text b hw; no_quote = refl }
    by false false false false false false hp hq hr hs ht hw = record { first = b; rest = []; is = plain_text b hq (other_plain b hp hq hr hs ht hw); no_quote = hp }

pub unit_shorter : (bs rest : List ℕ) (c : ℕ) → unit_at bs ≡ got c rest → length rest < length bs
unit_shorter bs rest c e =
    let f : FirstOf c = first_of c in
    omega (arith, ap length (unit_sound bs rest c e), length-append (escaped c) rest, ap length f.is)
