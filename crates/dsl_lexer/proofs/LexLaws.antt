-- Reading a text gives just its tokens, or just the place where none begins.
use Rattle.std.proofs.Common.{◌≡◌, ℕ, zero, suc, ◌<◌, ◌≤◌, List, [], ◌∷◌, ◌++◌, length, take, drop, Bool, refl, sym, ap, ◌∙◌, subst, arith}
use Rattle.std.proofs.lemmas.List.{length-append}
use Rattle.site_base.specs.declared.place.Place.{Place}
use Rattle.dsl_lexer.specs.Brackets.{keeps, opened}
use Rattle.dsl_lexer.specs.Places.{place_behind}
use Rattle.dsl_lexer.specs.declared.sign.Sign.{Sign}
use Rattle.dsl_lexer.specs.declared.token.Token.{Token}
use Rattle.dsl_lexer.specs.declared.token_kind.TokenKind.{TokenKind}
use Rattle.dsl_lexer.specs.declared.stepping.Step.{Step}
use Rattle.dsl_lexer.specs.declared.stepping.Step.TheVariants as step
use Rattle.dsl_lexer.specs.Steps.{step_at}
use Rattle.dsl_lexer.specs.Lexing.{Lexed, all, bad, with_front, lex_step, lexed_within, lexed}
use Rattle.dsl_lexer.specs.Tokens.{Gap, IsGap, IsToken, Lexes, ends, passes, takes, IsStuck, StopsAt, stuck, passes_on, takes_on, token}
use Rattle.dsl_lexer.proofs.Bytes.{take_front, drop_front}
use Rattle.dsl_lexer.proofs.StepLaws.{GapFront, TokenFront, Tells, step_tells}
use Rattle.dsl_lexer.proofs.StepReads.{gap_reads, token_reads}

-- what the result of reading claims
abbrev Claims : Place → List Sign → List ℕ → Lexed → Type 0
Claims p brackets bs (all ts) = Lexes p brackets bs ts
Claims p brackets bs (bad q) = StopsAt p brackets bs q

passes_claims : (p : Place) (brackets : List Sign) (bs text rest : List ℕ) (gap : Gap) (r : Lexed) → bs ≡ text ++ rest → IsGap (keeps brackets) gap text rest → Claims (place_behind text p) brackets rest r → Claims p brackets bs r
passes_claims p brackets bs text rest gap (all ts) e g h = passes gap text rest e g h
passes_claims p brackets bs text rest gap (bad q) e g h = passes_on gap text rest e g h

takes_claims : (p : Place) (brackets : List Sign) (bs text rest : List ℕ) (k : TokenKind) (r : Lexed) → bs ≡ text ++ rest → IsToken (keeps brackets) k text rest → Claims (place_behind text p) (opened k brackets) rest r → Claims p brackets bs (with_front (token p k ∷ []) r)
takes_claims p brackets bs text rest k (all ts) e g h = takes k text rest e g h
takes_claims p brackets bs text rest k (bad q) e g h = takes_on k text rest e g h

stuck_at : (keeps : Bool) (bs : List ℕ) → step_at keeps bs ≡ step.Fault → IsStuck keeps bs
stuck_at keeps bs e = record {
  no_gap = λ gap text rest is g. (let found : step_at keeps bs ≡ step.Passed (length text) = ap (step_at keeps) is ∙ gap_reads keeps gap text rest g in absurd cc);
  no_token = λ k text rest is g. (let found : step_at keeps bs ≡ step.Taken (length text) k = ap (step_at keeps) is ∙ token_reads keeps k text rest g in absurd cc);
}

pub claimed : (most : ℕ) (p : Place) (brackets : List Sign) (bs : List ℕ) → length bs ≤ most → Claims p brackets bs (lexed_within most p brackets bs)
claimed zero p brackets [] l = ends
claimed (suc most) p brackets [] l = ends
claimed zero p brackets (b ∷ bs) l = absurd (omega arith)
claimed (suc most) p brackets (b ∷ bs) l = by (λ q inner xs few. claimed most q inner xs few) (step_at (keeps brackets) (b ∷ bs)) refl (step_tells (keeps brackets) (b ∷ bs))
  where
    by : ((q : Place) (inner : List Sign) (xs : List ℕ) → length xs ≤ most → Claims q inner xs (lexed_within most q inner xs)) → (s : Step) → step_at (keeps brackets) (b ∷ bs) ≡ s → Tells (keeps brackets) (b ∷ bs) (step_at (keeps brackets) (b ∷ bs))
        → Claims p brackets (b ∷ bs) (lex_step (lexed_within most) p brackets (b ∷ bs) s)
    by again (step.Passed n) e t =
        let f : GapFront (keeps brackets) (b ∷ bs) n = subst (Tells (keeps brackets) (b ∷ bs)) e t in
        let front : take n (b ∷ bs) ≡ f.text = ap (take n) f.whole ∙ take_front f.text f.rest n f.size in
        let behind : drop n (b ∷ bs) ≡ f.rest = ap (drop n) f.whole ∙ drop_front f.text f.rest n f.size in
        let few : length f.rest ≤ most = omega (arith, ap length f.whole, length-append f.text f.rest, f.size, f.some) in
        subst (λ x. Claims p brackets (b ∷ bs) (lexed_within most (place_behind x p) brackets (drop n (b ∷ bs)))) (sym front)
        (subst (λ x. Claims p brackets (b ∷ bs) (lexed_within most (place_behind f.text p) brackets x)) (sym behind)
        (passes_claims p brackets (b ∷ bs) f.text f.rest f.gap (lexed_within most (place_behind f.text p) brackets f.rest) f.whole f.is (again (place_behind f.text p) brackets f.rest few)))
    by again (step.Taken n k) e t =
        let f : TokenFront (keeps brackets) k (b ∷ bs) n = subst (Tells (keeps brackets) (b ∷ bs)) e t in
        let front : take n (b ∷ bs) ≡ f.text = ap (take n) f.whole ∙ take_front f.text f.rest n f.size in
        let behind : drop n (b ∷ bs) ≡ f.rest = ap (drop n) f.whole ∙ drop_front f.text f.rest n f.size in
        let few : length f.rest ≤ most = omega (arith, ap length f.whole, length-append f.text f.rest, f.size, f.some) in
        subst (λ x. Claims p brackets (b ∷ bs) (with_front (token p k ∷ []) (lexed_within most (place_behind x p) (opened k brackets) (drop n (b ∷ bs))))) (sym front)
        (subst (λ x. Claims p brackets (b ∷ bs) (with_front (token p k ∷ []) (lexed_within most (place_behind f.text p) (opened k brackets) x))) (sym behind)
        (takes_claims p brackets (b ∷ bs) f.text f.rest k (lexed_within most (place_behind f.text p) (opened k brackets) f.rest) f.whole f.is (again (place_behind f.text p) (opened k brackets) f.rest few)))
    by again step.Fault e t = stuck (stuck_at (keeps brackets) (b ∷ bs) e)

-- a step that is known, where the bound is enough
stepped : (most : ℕ) (p : Place) (brackets : List Sign) (text rest : List ℕ) (s : Step) → step_at (keeps brackets) (text ++ rest) ≡ s → 0 < length text → lexed_within (suc most) p brackets (text ++ rest) ≡ lex_step (lexed_within most) p brackets (text ++ rest) s
stepped most p brackets [] rest s e some = absurd (omega arith)
stepped most p brackets (b ∷ bs) rest s e some = ap (lex_step (lexed_within most) p brackets ((b ∷ bs) ++ rest)) e

some_passed : (keeps : Bool) (text rest : List ℕ) → step_at keeps (text ++ rest) ≡ step.Passed (length text) → 0 < length text
some_passed keeps text rest e = let f : GapFront keeps (text ++ rest) (length text) = subst (Tells keeps (text ++ rest)) e (step_tells keeps (text ++ rest)) in f.some

some_taken : (keeps : Bool) (k : TokenKind) (text rest : List ℕ) → step_at keeps (text ++ rest) ≡ step.Taken (length text) k → 0 < length text
some_taken keeps k text rest e = let f : TokenFront keeps k (text ++ rest) (length text) = subst (Tells keeps (text ++ rest)) e (step_tells keeps (text ++ rest)) in f.some

passed_on : (most : ℕ) (p : Place) (brackets : List Sign) (bs text rest : List ℕ) (gap : Gap) (r : Lexed) → bs ≡ text ++ rest → IsGap (keeps brackets) gap text rest → length bs ≤ most
    → ((m : ℕ) → length rest ≤ m → lexed_within m (place_behind text p) brackets rest ≡ r) → lexed_within most p brackets bs ≡ r
passed_on most p brackets bs text rest gap r e g l again = by most (subst (λ xs. length xs ≤ most) e l)
  where
    by : (m : ℕ) → length (text ++ rest) ≤ m → lexed_within m p brackets bs ≡ r
    by m few =
        let s = gap_reads (keeps brackets) gap text rest g in
        let some = some_passed (keeps brackets) text rest s in
        from m few some s
      where
        from : (m : ℕ) → length (text ++ rest) ≤ m → 0 < length text → step_at (keeps brackets) (text ++ rest) ≡ step.Passed (length text) → lexed_within m p brackets bs ≡ r
        from zero few some s = absurd (omega (arith, length-append text rest))
        from (suc m) few some s =
            ap (lexed_within (suc m) p brackets) e ∙ (stepped m p brackets text rest (step.Passed (length text)) s some
            ∙ (ap (λ x. lexed_within m (place_behind x p) brackets (drop (length text) (text ++ rest))) (take_front text rest (length text) refl)
            ∙ (ap (lexed_within m (place_behind text p) brackets) (drop_front text rest (length text) refl) ∙ again m (omega (arith, length-append text rest)))))

taken_on : (most : ℕ) (p : Place) (brackets : List Sign) (bs text rest : List ℕ) (k : TokenKind) (r : Lexed) → bs ≡ text ++ rest → IsToken (keeps brackets) k text rest → length bs ≤ most
    → ((m : ℕ) → length rest ≤ m → lexed_within m (place_behind text p) (opened k brackets) rest ≡ r) → lexed_within most p brackets bs ≡ with_front (token p k ∷ []) r
taken_on most p brackets bs text rest k r e g l again = by most (subst (λ xs. length xs ≤ most) e l)
  where
    by : (m : ℕ) → length (text ++ rest) ≤ m → lexed_within m p brackets bs ≡ with_front (token p k ∷ []) r
    by m few =
        let s = token_reads (keeps brackets) k text rest g in
        let some = some_taken (keeps brackets) k text rest s in
        from m few some s
      where
        from : (m : ℕ) → length (text ++ rest) ≤ m → 0 < length text → step_at (keeps brackets) (text ++ rest) ≡ step.Taken (length text) k → lexed_within m p brackets bs ≡ with_front (token p k ∷ []) r
        from zero few some s = absurd (omega (arith, length-append text rest))
        from (suc m) few some s =
            ap (lexed_within (suc m) p brackets) e ∙ (stepped m p brackets text rest (step.Taken (length text) k) s some
            ∙ (ap (λ x. with_front (token p k ∷ []) (lexed_within m (place_behind x p) (opened k brackets) (drop (length text) (text ++ rest)))) (take_front text rest (length text) refl)
            ∙ (ap (λ x. with_front (token p k ∷ []) (lexed_within m (place_behind text p) (opened k brackets) x)) (drop_front text rest (length text) refl)
            ∙ ap (with_front (token p k ∷ [])) (again m (omega (arith, length-append text rest))))))

pub lexes_reads : (p : Place) (brackets : List Sign) (bs : List ℕ) (ts : List Token) → Lexes p brackets bs ts → (most : ℕ) → length bs ≤ most → lexed_within most p brackets bs ≡ all ts
lexes_reads p brackets _ _ ends zero l = refl
lexes_reads p brackets _ _ ends (suc most) l = refl
lexes_reads p brackets bs ts (passes gap text rest e g h) most l =
    passed_on most p brackets bs text rest gap (all ts) e g l (λ m few. lexes_reads (place_behind text p) brackets rest ts h m few)
lexes_reads p brackets bs _ (takes {ts = ts} k text rest e g h) most l =
    taken_on most p brackets bs text rest k (all ts) e g l (λ m few. lexes_reads (place_behind text p) (opened k brackets) rest ts h m few)

-- where a byte begins nothing, no step leads on
stuck_step : (keeps : Bool) (bs : List ℕ) → IsStuck keeps bs → step_at keeps bs ≡ step.Fault
stuck_step keeps bs h = by (step_at keeps bs) refl (step_tells keeps bs)
  where
    by : (s : Step) → step_at keeps bs ≡ s → Tells keeps bs (step_at keeps bs) → s ≡ step.Fault
    by (step.Passed n) e t = let f : GapFront keeps bs n = subst (Tells keeps bs) e t in absurd (h.no_gap f.gap f.text f.rest f.whole f.is)
    by (step.Taken n k) e t = let f : TokenFront keeps k bs n = subst (Tells keeps bs) e t in absurd (h.no_token k f.text f.rest f.whole f.is)
    by step.Fault e t = refl

pub stops_reads : (p : Place) (brackets : List Sign) (bs : List ℕ) (q : Place) → StopsAt p brackets bs q → (most : ℕ) → length bs ≤ most → lexed_within most p brackets bs ≡ bad q
stops_reads p brackets (b ∷ bs) _ (stuck h) zero l = absurd (omega arith)
stops_reads p brackets (b ∷ bs) _ (stuck h) (suc most) l = ap (lex_step (lexed_within most) p brackets (b ∷ bs)) (stuck_step (keeps brackets) (b ∷ bs) h)
stops_reads p brackets bs q (passes_on gap text rest e g h) most l =
    passed_on most p brackets bs text rest gap (bad q) e g l (λ m few. stops_reads (place_behind text p) brackets rest q h m few)
stops_reads p brackets bs q (takes_on k text rest e g h) most l =
    taken_on most p brackets bs text rest k (bad q) e g l (λ m few. stops_reads (place_behind text p) (opened k brackets) rest q h m few)

pub lexed_claims : (p : Place) (bs : List ℕ) (ts : List Token) → lexed p bs ≡ all ts → Lexes p [] bs ts
lexed_claims p bs ts e = subst (Claims p [] bs) e (claimed (length bs) p [] bs (omega arith))

pub bad_claims : (p : Place) (bs : List ℕ) (q : Place) → lexed p bs ≡ bad q → StopsAt p [] bs q
bad_claims p bs q e = subst (Claims p [] bs) e (claimed (length bs) p [] bs (omega arith))

pub token_some : (keeps : Bool) (k : TokenKind) (text rest : List ℕ) → IsToken keeps k text rest → 0 < length text
token_some keeps k text rest g = some_taken keeps k text rest (token_reads keeps k text rest g)
