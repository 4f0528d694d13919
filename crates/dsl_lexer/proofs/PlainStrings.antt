-- Strings without escapes.
use Rattle.std.proofs.Common.{◌≡◌, ℕ, zero, suc, ◌+◌, ◌==◌, ◌&&◌, not, cond, ◌≤◌, List, [], ◌∷◌, length, take, drop, Bool, true, false, refl, ap, sym, subst, ◌∙◌, arith}
use Rattle.std.proofs.lemmas.Bool.{eqb-true}
use Rattle.std.specs.List.{prefix_len}
use Rattle.dsl_lexer.specs.declared.unit.Unit.TheVariants as unit
use Rattle.dsl_lexer.specs.Letters.{follows}
use Rattle.dsl_lexer.specs.Tokens.{is_plain}
use Rattle.dsl_lexer.specs.Strings.{closed, is_quote, unit_of, body_within, body_of, behind_front}
use Rattle.dsl_lexer.specs.Steps.{text_step, string_step}

-- a byte that stands for itself, and the quote
plain_unit : (b : ℕ) (bs : List ℕ) → is_plain b ≡ true → unit_of (b ∷ bs) ≡ unit.Byte b 1
unfolding unit_of
plain_unit b bs h = by (b == 10) (b == 34) (b == 92) refl refl refl h
  where
    by : (x y z : Bool) → (b == 10) ≡ x → (b == 34) ≡ y → (b == 92) ≡ z → (not x && not y && not z) ≡ true → unit_of (b ∷ bs) ≡ unit.Byte b 1
    by true y z p q r h = absurd cc
    by false true z p q r h = absurd cc
    by false false true p q r h = absurd cc
    by false false false p q r h = rw (p, q, r) refl

quote_unit : (b : ℕ) (bs : List ℕ) → is_quote b ≡ true → unit_of (b ∷ bs) ≡ unit.Quote
unfolding unit_of
quote_unit b bs h = let e : b ≡ 34 = eqb-true b 34 h in rw e refl

plain_body : (m : ℕ) (bytes : List ℕ) → length bytes ≤ m → follows is_quote (drop (prefix_len is_plain bytes) bytes) ≡ true → body_within m bytes ≡ closed (take (prefix_len is_plain bytes) bytes) (prefix_len is_plain bytes + 1)
plain_body m [] le h = absurd cc
plain_body zero (b ∷ bs) le h = absurd (omega (arith, le))
plain_body (suc m) (b ∷ bs) le h = by (λ q. plain_body m bs (omega (arith, le)) q) (is_plain b) refl h
  where
    Body_is : ℕ → Type 0
    Body_is n = body_within (suc m) (b ∷ bs) ≡ closed (take n (b ∷ bs)) (n + 1)

    by : (follows is_quote (drop (prefix_len is_plain bs) bs) ≡ true → body_within m bs ≡ closed (take (prefix_len is_plain bs) bs) (prefix_len is_plain bs + 1)) → (p : Bool) → is_plain b ≡ p
        → follows is_quote (drop (cond p (1 + prefix_len is_plain bs) 0) (b ∷ bs)) ≡ true → Body_is (cond p (1 + prefix_len is_plain bs) 0)
    by below true e q =
        let k = prefix_len is_plain bs in
        let one : 1 + prefix_len is_plain bs ≡ suc (prefix_len is_plain bs) = omega arith in
        let count : 1 + (prefix_len is_plain bs + 1) ≡ suc (prefix_len is_plain bs) + 1 = omega arith in
        let after = subst (λ n. follows is_quote (drop n (b ∷ bs)) ≡ true) one q in
        subst Body_is (sym one) (rw (plain_unit b bs e) (ap (behind_front (b ∷ []) 1) (below after) ∙ ap (closed (b ∷ take k bs)) count))
    by below false e q = rw (quote_unit b bs q) refl

-- it stands for its bytes
pub plain_string : (bytes text rest : List ℕ) (n : ℕ) → n ≡ prefix_len is_plain bytes → text ≡ take n bytes → rest ≡ drop n bytes → follows is_quote rest ≡ true → text_step (2 + n) text ≡ string_step (body_of bytes)
plain_string bytes text rest n e f g h =
    let read = plain_body (length bytes) bytes (omega arith) (rw (sym e, sym g) h) in
    let count : 2 + n ≡ 1 + (n + 1) = omega arith in
    ap (λ k. text_step k text) count ∙ (ap (λ t. text_step (1 + (n + 1)) t) f ∙ (rw e (sym (ap string_step read))))
