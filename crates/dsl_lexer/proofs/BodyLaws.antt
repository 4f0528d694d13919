-- A string behind its opening quote, both ways.
use Rattle.std.proofs.Common.{◌≡◌, ℕ, zero, suc, ◌+◌, ◌<◌, ◌≤◌, List, [], ◌∷◌, ◌++◌, length, drop, Bool, true, false, cond, ◌==◌, refl, sym, ap, ◌∙◌, subst, append_assoc, arith}
use Rattle.std.proofs.lemmas.List.{length-append}
use Rattle.std.proofs.lemmas.Bool.Decides.{nat_tests}
use Rattle.dsl_lexer.specs.Letters.{follows, is_octal}
use Rattle.dsl_lexer.specs.declared.unit.Unit.{Unit as Written}
use Rattle.dsl_lexer.specs.declared.unit.Unit.TheVariants as unit
use Rattle.dsl_lexer.specs.Strings.{escape_of, unit_of, Body, closed, broken, behind_front, body_step, body_within}
use Rattle.dsl_lexer.specs.Tokens.{IsOctal, Way, plain, escape, octal, IsWritten, IsInside}
use Rattle.dsl_lexer.proofs.Bytes.{drop_front}
use Rattle.dsl_lexer.proofs.StringLaws.{UnitFront, unit_sound, unit_complete, no_quote}

follows_front : (p : ℕ → Bool) (xs ys : List ℕ) → 0 < length xs → follows p (xs ++ ys) ≡ follows p xs
follows_front p [] ys h = absurd (omega arith)
follows_front p (x ∷ xs) ys h = refl

same_octal : (digits r s : List ℕ) (b : ℕ) → follows is_octal r ≡ follows is_octal s → IsOctal digits r b → IsOctal digits s b
same_octal [] r s b e h = h
same_octal (x ∷ []) r s b e h = (h.0, h.1, sym e ∙ h.2)
same_octal (x ∷ y ∷ []) r s b e h = (h.0, h.1, h.2, sym e ∙ h.3)
same_octal (x ∷ y ∷ z ∷ []) r s b e h = h
same_octal (x ∷ y ∷ z ∷ w ∷ more) r s b e h = h

-- of what follows only the first byte counts
same_written : (way : Way) (text r s : List ℕ) (b : ℕ) → follows is_octal r ≡ follows is_octal s → IsWritten way text r b → IsWritten way text s b
same_written plain text r s b e h = h
same_written (escape x) text r s b e h = h
same_written (octal digits) text r s b e h = (h.0, same_octal digits r s b e h.1)

octal_some : (digits rest : List ℕ) (b : ℕ) → IsOctal digits rest b → 0 < length digits
octal_some [] rest b h = absurd h
octal_some (x ∷ digits) rest b h = omega arith

written_some : (way : Way) (text rest : List ℕ) (b : ℕ) → IsWritten way text rest b → 0 < length text
written_some plain text rest b h = omega (arith, ap length h.0)
written_some (escape x) text rest b h = omega (arith, ap length h.0)
written_some (octal digits) text rest b h = omega (arith, ap length h.0)

inside_some : (text value : List ℕ) → IsInside text value → 0 < length text
inside_some text [] h = omega (arith, ap length h)
inside_some text (b ∷ value) h = omega (arith, ap length h.3, length-append h.1 h.2, written_some h.0 h.1 h.2 b h.4)

pub record BodyFront (bs value : List ℕ) (n : ℕ) : Type 0 where
  pub text : List ℕ
  pub rest : List ℕ
  pub whole : bs ≡ text ++ rest
  pub size : length text ≡ n
  pub is : IsInside text value

quote_unit : (bs : List ℕ) → unit_of bs ≡ unit.Quote → (rest : List ℕ) × (bs ≡ 34 ∷ rest)
unfolding unit_of
quote_unit [] e = absurd cc
quote_unit (x ∷ bs) e = by (x == 10) (x == 34) (x == 92) refl refl refl e
  where
    by : (p q r : Bool) → (x == 10) ≡ p → (x == 34) ≡ q → (x == 92) ≡ r → cond p unit.Bad (cond q unit.Quote (cond r (escape_of bs) (unit.Byte x 1))) ≡ unit.Quote → (rest : List ℕ) × (x ∷ bs ≡ 34 ∷ rest)
    by true q r hp hq hr e = absurd cc
    by false true r hp hq hr e = let is : x ≡ 34 = grind (arith, nat_tests) in (bs, ap (λ y. y ∷ bs) is)
    by false false true hp hq hr e = absurd (no_quote bs e)
    by false false false hp hq hr e = absurd cc

pub body_sound : (most : ℕ) (bs value : List ℕ) (n : ℕ) → body_within most bs ≡ closed value n → BodyFront bs value n
body_sound zero bs value n e = cc
body_sound (suc most) bs value n e = by (λ xs v m h. body_sound most xs v m h) (unit_of bs) refl e
  where
    joined : (b k : ℕ) → UnitFront bs b k → (r : Body) → body_within most (drop k bs) ≡ r → ((xs v : List ℕ) (m : ℕ) → body_within most xs ≡ closed v m → BodyFront xs v m) → behind_front (b ∷ []) k r ≡ closed value n → BodyFront bs value n
    joined b k u broken h again e = cc
    joined b k u (closed v m) h again e =
        let behind : drop k bs ≡ u.rest = ap (drop k) u.whole ∙ drop_front u.text u.rest k u.size in
        let f = again (drop k bs) v m h in
        let same : b ∷ v ≡ value = cc in
        let size : k + m ≡ n = cc in
        let inner : u.rest ≡ f.text ++ f.rest = sym behind ∙ f.whole in
        let sure : 0 < length f.text = inside_some f.text v f.is in
        let first : follows is_octal u.rest ≡ follows is_octal f.text = ap (follows is_octal) inner ∙ follows_front is_octal f.text f.rest sure in
        record {
          text = u.text ++ f.text;
          rest = f.rest;
          whole = u.whole ∙ (ap (λ xs. u.text ++ xs) inner ∙ sym (append_assoc u.text f.text f.rest));
          size = omega (arith, length-append u.text f.text, u.size, f.size, size);
          is = subst (IsInside (u.text ++ f.text)) same (u.way, u.text, f.text, refl, same_written u.way u.text u.rest f.text b first u.is, f.is);
        }

    by : ((xs v : List ℕ) (m : ℕ) → body_within most xs ≡ closed v m → BodyFront xs v m) → (u : Written) → unit_of bs ≡ u → body_step (body_within most) bs u ≡ closed value n → BodyFront bs value n
    by again (unit.Byte b k) h e = joined b k (unit_sound bs b k h) (body_within most (drop k bs)) refl again e
    by again unit.Quote h e =
        let q = quote_unit bs h in
        let none : [] ≡ value = cc in
        record { text = 34 ∷ []; rest = q.0; whole = q.1; size = cc; is = subst (IsInside (34 ∷ [])) none refl }
    by again unit.Bad h e = cc

pub body_complete : (value text rest : List ℕ) (most : ℕ) → length text ≤ most → IsInside text value → body_within most (text ++ rest) ≡ closed value (length text)
unfolding unit_of
body_complete value text rest zero l h = absurd (omega (arith, inside_some text value h))
body_complete [] text rest (suc most) l h = subst (λ t. body_within (suc most) (t ++ rest) ≡ closed [] (length t)) (sym h) refl
body_complete (b ∷ value) text rest (suc most) l h =
    let whole : text ++ rest ≡ h.1 ++ (h.2 ++ rest) = ap (λ xs. xs ++ rest) h.3 ∙ append_assoc h.1 h.2 rest in
    let sure : 0 < length h.2 = inside_some h.2 value h.5 in
    let first : follows is_octal h.2 ≡ follows is_octal (h.2 ++ rest) = sym (follows_front is_octal h.2 rest sure) in
    let u : unit_of (h.1 ++ (h.2 ++ rest)) ≡ unit.Byte b (length h.1) = unit_complete h.0 h.1 (h.2 ++ rest) b (same_written h.0 h.1 h.2 (h.2 ++ rest) b first h.4) in
    let size : length h.1 + length h.2 ≡ length text = omega (arith, length-append h.1 h.2, ap length h.3) in
    let some : 0 < length h.1 = written_some h.0 h.1 h.2 b h.4 in
    let few : length h.2 ≤ most = omega arith in
    ap (body_within (suc most)) whole
    ∙ (ap (body_step (body_within most) (h.1 ++ (h.2 ++ rest))) u
    ∙ (ap (λ xs. behind_front (b ∷ []) (length h.1) (body_within most xs)) (drop_front h.1 (h.2 ++ rest) (length h.1) refl)
    ∙ (ap (behind_front (b ∷ []) (length h.1)) (body_complete value h.2 rest most few h.5)
    ∙ ap (closed (b ∷ value)) size)))
