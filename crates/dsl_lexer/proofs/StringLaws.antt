-- What a string stands for, both ways.
use Rattle.std.proofs.Common.{◌≡◌, ℕ, suc, ◌+◌, ◌*◌, ◌-◌, ◌<◌, List, [], ◌∷◌, ◌++◌, length, Bool, true, false, cond, not, ◌&&◌, ◌==◌, nat_lt, Option, Some, None, refl, sym, ap, ◌∙◌, subst, arith}
use Rattle.std.proofs.lemmas.Bool.Decides.{nat_tests}
use Rattle.dsl_lexer.specs.Letters.{is_octal, escape_value}
use Rattle.dsl_lexer.specs.declared.unit.Unit.TheVariants as unit
use Rattle.dsl_lexer.specs.Strings.{octal_byte, octal_third, octal_second, octal_of, escape_step, escape_of, unit_of}
use Rattle.dsl_lexer.specs.Tokens.{is_plain, IsOctal, Way, plain, escape, octal, IsWritten}
use Rattle.dsl_lexer.proofs.Bytes.{both_first, both_second, not_true}

-- a front that is written so
pub record UnitFront (bs : List ℕ) (b n : ℕ) : Type 0 where
  pub way : Way
  pub text : List ℕ
  pub rest : List ℕ
  pub whole : bs ≡ text ++ rest
  pub size : length text ≡ n
  pub is : IsWritten way text rest b

record OctalFront (bs : List ℕ) (b n : ℕ) : Type 0 where
  digits : List ℕ
  rest : List ℕ
  whole : bs ≡ digits ++ rest
  size : suc (length digits) ≡ n
  is : IsOctal digits rest b

third_sound : (x y : ℕ) (cs : List ℕ) (b n : ℕ) → is_octal x ≡ true → is_octal y ≡ true → octal_third ((x - 48) * 8 + (y - 48)) cs ≡ unit.Byte b n → OctalFront (x ∷ y ∷ cs) b n
third_sound x y [] b n hx hy e =
    let v : b ≡ (x - 48) * 8 + (y - 48) = cc in
    record { digits = x ∷ y ∷ []; rest = []; whole = refl; size = cc; is = (hx, hy, v, refl) }
third_sound x y (z ∷ cs) b n hx hy e = by (is_octal z) refl e
  where
    ascii : is_octal z ≡ true → (t : Bool) → nat_lt (((x - 48) * 8 + (y - 48)) * 8 + (z - 48)) 128 ≡ t → cond t (unit.Byte (((x - 48) * 8 + (y - 48)) * 8 + (z - 48)) 4) unit.Bad ≡ unit.Byte b n → OctalFront (x ∷ y ∷ z ∷ cs) b n
    ascii hz true lt e =
        let v : b ≡ ((x - 48) * 8 + (y - 48)) * 8 + (z - 48) = cc in
        let small : ((x - 48) * 8 + (y - 48)) * 8 + (z - 48) < 128 = grind (arith, nat_tests) in
        record { digits = x ∷ y ∷ z ∷ []; rest = cs; whole = refl; size = cc; is = (hx, hy, hz, v, subst (λ k. k < 128) (sym v) small) }
    ascii hz false lt e = cc

    by : (t : Bool) → is_octal z ≡ t → cond t (octal_byte (((x - 48) * 8 + (y - 48)) * 8 + (z - 48))) (unit.Byte ((x - 48) * 8 + (y - 48)) 3) ≡ unit.Byte b n → OctalFront (x ∷ y ∷ z ∷ cs) b n
    by true hz e = ascii hz (nat_lt (((x - 48) * 8 + (y - 48)) * 8 + (z - 48)) 128) refl e
    by false hz e =
        let v : b ≡ (x - 48) * 8 + (y - 48) = cc in
        record { digits = x ∷ y ∷ []; rest = z ∷ cs; whole = refl; size = cc; is = (hx, hy, v, hz) }

second_sound : (x : ℕ) (bs : List ℕ) (b n : ℕ) → is_octal x ≡ true → octal_second (x - 48) bs ≡ unit.Byte b n → OctalFront (x ∷ bs) b n
second_sound x [] b n hx e =
    let v : b ≡ x - 48 = cc in
    record { digits = x ∷ []; rest = []; whole = refl; size = cc; is = (hx, v, refl) }
second_sound x (y ∷ bs) b n hx e = by (is_octal y) refl e
  where
    by : (t : Bool) → is_octal y ≡ t → cond t (octal_third ((x - 48) * 8 + (y - 48)) bs) (unit.Byte (x - 48) 2) ≡ unit.Byte b n → OctalFront (x ∷ y ∷ bs) b n
    by true hy e = third_sound x y bs b n hx hy e
    by false hy e =
        let v : b ≡ x - 48 = cc in
        record { digits = x ∷ []; rest = y ∷ bs; whole = refl; size = cc; is = (hx, v, hy) }

octal_sound : (bs : List ℕ) (b n : ℕ) → octal_of bs ≡ unit.Byte b n → OctalFront bs b n
unfolding octal_of
octal_sound [] b n e = cc
octal_sound (x ∷ bs) b n e = by (is_octal x) refl e
  where
    by : (t : Bool) → is_octal x ≡ t → cond t (octal_second (x - 48) bs) unit.Bad ≡ unit.Byte b n → OctalFront (x ∷ bs) b n
    by true hx e = second_sound x bs b n hx e
    by false hx e = cc

octal_unit : (bs : List ℕ) (b n : ℕ) → OctalFront bs b n → UnitFront (92 ∷ bs) b n
octal_unit bs b n h = record { way = octal h.digits; text = 92 ∷ h.digits; rest = h.rest; whole = ap (λ xs. 92 ∷ xs) h.whole; size = h.size; is = (refl, h.is) }

escape_sound : (bs : List ℕ) (b n : ℕ) → escape_of bs ≡ unit.Byte b n → UnitFront (92 ∷ bs) b n
unfolding escape_of
escape_sound [] b n e = octal_unit [] b n (octal_sound [] b n e)
escape_sound (x ∷ bs) b n e = by (escape_value x) refl e
  where
    by : (o : Option ℕ) → escape_value x ≡ o → escape_step o (x ∷ bs) ≡ unit.Byte b n → UnitFront (92 ∷ x ∷ bs) b n
    by None h e = octal_unit (x ∷ bs) b n (octal_sound (x ∷ bs) b n e)
    by (Some v) h e =
        let same : v ≡ b = cc in
        record { way = escape x; text = 92 ∷ x ∷ []; rest = bs; whole = refl; size = cc; is = (refl, h ∙ ap Some same) }

pub unit_sound : (bs : List ℕ) (b n : ℕ) → unit_of bs ≡ unit.Byte b n → UnitFront bs b n
unfolding unit_of
unit_sound [] b n e = cc
unit_sound (x ∷ bs) b n e = by (x == 10) (x == 34) (x == 92) refl refl refl e
  where
    by : (p q r : Bool) → (x == 10) ≡ p → (x == 34) ≡ q → (x == 92) ≡ r → cond p unit.Bad (cond q unit.Quote (cond r (escape_of bs) (unit.Byte x 1))) ≡ unit.Byte b n → UnitFront (x ∷ bs) b n
    by true q r hp hq hr e = cc
    by false true r hp hq hr e = cc
    by false false true hp hq hr e =
        let is : 92 ≡ x = grind (arith, nat_tests) in
        subst (λ y. UnitFront (y ∷ bs) b n) is (escape_sound bs b n e)
    by false false false hp hq hr e =
        let same : x ≡ b = cc in
        record { way = plain; text = x ∷ []; rest = bs; whole = refl; size = cc; is = (ap (λ y. y ∷ []) same, subst (λ y. is_plain y ≡ true) same (ap (λ t. not t && not (x == 34) && not (x == 92)) hp ∙ (ap (λ t. not t && not (x == 92)) hq ∙ ap not hr))) }

octal_no_escape : (x : ℕ) → is_octal x ≡ true → escape_value x ≡ None
octal_no_escape x h = grind (arith, nat_tests)

-- three digits are followed by anything, fewer by no other digit
octal_complete : (digits rest : List ℕ) (b : ℕ) → IsOctal digits rest b → escape_of (digits ++ rest) ≡ unit.Byte b (suc (length digits))
unfolding octal_of escape_of
octal_complete [] rest b h = absurd h
octal_complete (x ∷ []) [] b h =
    ap (λ o. escape_step o (x ∷ [])) (octal_no_escape x h.0) ∙ (ap (λ t. cond t (unit.Byte (x - 48) 2) unit.Bad) h.0 ∙ ap (λ v. unit.Byte v 2) (sym h.1))
octal_complete (x ∷ []) (r ∷ rest) b h =
    ap (λ o. escape_step o (x ∷ r ∷ rest)) (octal_no_escape x h.0) ∙ (ap (λ t. cond t (octal_second (x - 48) (r ∷ rest)) unit.Bad) h.0
    ∙ (ap (λ t. cond t (octal_third ((x - 48) * 8 + (r - 48)) rest) (unit.Byte (x - 48) 2)) h.2 ∙ ap (λ v. unit.Byte v 2) (sym h.1)))
octal_complete (x ∷ y ∷ []) [] b h =
    ap (λ o. escape_step o (x ∷ y ∷ [])) (octal_no_escape x h.0) ∙ (ap (λ t. cond t (octal_second (x - 48) (y ∷ [])) unit.Bad) h.0
    ∙ (ap (λ t. cond t (octal_third ((x - 48) * 8 + (y - 48)) []) (unit.Byte (x - 48) 2)) h.1 ∙ ap (λ v. unit.Byte v 3) (sym h.2)))
octal_complete (x ∷ y ∷ []) (r ∷ rest) b h =
    ap (λ o. escape_step o (x ∷ y ∷ r ∷ rest)) (octal_no_escape x h.0) ∙ (ap (λ t. cond t (octal_second (x - 48) (y ∷ r ∷ rest)) unit.Bad) h.0
    ∙ (ap (λ t. cond t (octal_third ((x - 48) * 8 + (y - 48)) (r ∷ rest)) (unit.Byte (x - 48) 2)) h.1
    ∙ (ap (λ t. cond t (octal_byte (((x - 48) * 8 + (y - 48)) * 8 + (r - 48))) (unit.Byte ((x - 48) * 8 + (y - 48)) 3)) h.3 ∙ ap (λ v. unit.Byte v 3) (sym h.2))))
octal_complete (x ∷ y ∷ z ∷ []) rest b h =
    let small : nat_lt (((x - 48) * 8 + (y - 48)) * 8 + (z - 48)) 128 ≡ true = ltb_of (((x - 48) * 8 + (y - 48)) * 8 + (z - 48)) b h.3 h.4 in
    ap (λ o. escape_step o (x ∷ y ∷ z ∷ rest)) (octal_no_escape x h.0) ∙ (ap (λ t. cond t (octal_second (x - 48) (y ∷ z ∷ rest)) unit.Bad) h.0
    ∙ (ap (λ t. cond t (octal_third ((x - 48) * 8 + (y - 48)) (z ∷ rest)) (unit.Byte (x - 48) 2)) h.1
    ∙ (ap (λ t. cond t (octal_byte (((x - 48) * 8 + (y - 48)) * 8 + (z - 48))) (unit.Byte ((x - 48) * 8 + (y - 48)) 3)) h.2
    ∙ (ap (λ t. cond t (unit.Byte (((x - 48) * 8 + (y - 48)) * 8 + (z - 48)) 4) unit.Bad) small ∙ ap (λ v. unit.Byte v 4) (sym h.3)))))
  where
    ltb_of : (n b : ℕ) → b ≡ n → b < 128 → nat_lt n 128 ≡ true
    ltb_of n b e l = grind (arith, nat_tests)
octal_complete (x ∷ y ∷ z ∷ w ∷ more) rest b h = absurd h

pub unit_complete : (way : Way) (text rest : List ℕ) (b : ℕ) → IsWritten way text rest b → unit_of (text ++ rest) ≡ unit.Byte b (length text)
unfolding unit_of escape_of
unit_complete plain text rest b h =
    subst (λ t. unit_of (t ++ rest) ≡ unit.Byte b (length t)) (sym h.0)
    (ap (λ t. cond t unit.Bad (cond (b == 34) unit.Quote (cond (b == 92) (escape_of rest) (unit.Byte b 1)))) (not_true _ (both_first (not (b == 10)) (not (b == 34)) (both_first (not (b == 10) && not (b == 34)) (not (b == 92)) h.1)))
    ∙ (ap (λ t. cond t unit.Quote (cond (b == 92) (escape_of rest) (unit.Byte b 1))) (not_true _ (both_second (not (b == 10)) (not (b == 34)) (both_first (not (b == 10) && not (b == 34)) (not (b == 92)) h.1)))
    ∙ ap (λ t. cond t (escape_of rest) (unit.Byte b 1)) (not_true _ (both_second (not (b == 10) && not (b == 34)) (not (b == 92)) h.1))))
unit_complete (escape e) text rest b h =
    subst (λ t. unit_of (t ++ rest) ≡ unit.Byte b (length t)) (sym h.0) (ap (λ o. escape_step o (e ∷ rest)) h.1)
unit_complete (octal digits) text rest b h =
    subst (λ t. unit_of (t ++ rest) ≡ unit.Byte b (length t)) (sym h.0) (octal_complete digits rest b h.1)

-- an escape is no closing quote
byte_no_quote : (v : ℕ) (t : Bool) → cond t (unit.Byte v 4) unit.Bad ≡ unit.Quote → ⊥
byte_no_quote v true e = cc
byte_no_quote v false e = cc

third_no_quote : (v : ℕ) (cs : List ℕ) → octal_third v cs ≡ unit.Quote → ⊥
third_no_quote v [] e = cc
third_no_quote v (z ∷ cs) e = by (is_octal z) e
  where
    by : (t : Bool) → cond t (octal_byte (v * 8 + (z - 48))) (unit.Byte v 3) ≡ unit.Quote → ⊥
    by true e = byte_no_quote (v * 8 + (z - 48)) (nat_lt (v * 8 + (z - 48)) 128) e
    by false e = cc

second_no_quote : (v : ℕ) (bs : List ℕ) → octal_second v bs ≡ unit.Quote → ⊥
second_no_quote v [] e = cc
second_no_quote v (y ∷ bs) e = by (is_octal y) e
  where
    by : (t : Bool) → cond t (octal_third (v * 8 + (y - 48)) bs) (unit.Byte v 2) ≡ unit.Quote → ⊥
    by true e = third_no_quote (v * 8 + (y - 48)) bs e
    by false e = cc

octal_no_quote : (bs : List ℕ) → octal_of bs ≡ unit.Quote → ⊥
unfolding octal_of
octal_no_quote [] e = cc
octal_no_quote (x ∷ bs) e = by (is_octal x) e
  where
    by : (t : Bool) → cond t (octal_second (x - 48) bs) unit.Bad ≡ unit.Quote → ⊥
    by true e = second_no_quote (x - 48) bs e
    by false e = cc

pub no_quote : (bs : List ℕ) → escape_of bs ≡ unit.Quote → ⊥
unfolding escape_of
no_quote [] e = octal_no_quote [] e
no_quote (x ∷ bs) e = by (escape_value x) e
  where
    by : (o : Option ℕ) → escape_step o (x ∷ bs) ≡ unit.Quote → ⊥
    by None e = octal_no_quote (x ∷ bs) e
    by (Some v) e = cc
