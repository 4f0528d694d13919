-- Reading a text token by token.
use Rattle.std.proofs.Common.{◌≡◌, ℕ, zero, suc, ◌<◌, ◌≤◌, List, [], ◌∷◌, ◌++◌, length, take, drop, refl, sym, ap, subst, ◌∙◌, append_assoc, arith}
use Rattle.std.proofs.lemmas.List.{length-drop}
use Rattle.site_base.specs.declared.place.Place.{Place}
use Rattle.dsl_lexer.specs.Tokens.{token}
use Rattle.dsl_lexer.specs.Brackets.{keeps, opened}
use Rattle.dsl_lexer.specs.Places.{place_behind}
use Rattle.dsl_lexer.specs.declared.sign.Sign.{Sign}
use Rattle.dsl_lexer.specs.declared.token.Token.{Token}
use Rattle.dsl_lexer.specs.declared.token_kind.TokenKind.{TokenKind}
use Rattle.dsl_lexer.specs.declared.token_kind.TokenKind.TheVariants as kind
use Rattle.dsl_lexer.specs.declared.stepping.Step.TheVariants as step
use Rattle.dsl_lexer.specs.Steps.{step_at}
use Rattle.dsl_lexer.specs.Lexing.{Lexed, all, bad, with_front, lex_step, lexed_within, lexed}

pub joined : (f g : List Token) (r : Lexed) → with_front f (with_front g r) ≡ with_front (f ++ g) r
joined f g (all ts) = ap all (sym (append_assoc f g ts))
joined f g (bad p) = refl

-- what is read so far, and what is left with a bound that is enough
pub record Reads (front : List Token) (p : Place) (brackets : List Sign) (rest : List ℕ) (whole : Lexed) : Type 0 where
  pub most : ℕ
  pub enough : length rest ≤ most
  pub reads : with_front front (lexed_within most p brackets rest) ≡ whole

-- the first step of what is left
record Turn (front : List Token) (p : Place) (brackets : List Sign) (rest : List ℕ) (whole : Lexed) : Type 0 where
  most : ℕ
  enough : length rest ≤ suc most
  reads : with_front front (lex_step (lexed_within most) p brackets rest (step_at (keeps brackets) rest)) ≡ whole

turn : (front : List Token) (p : Place) (brackets : List Sign) (rest : List ℕ) (whole : Lexed) → 0 < length rest → Reads front p brackets rest whole → Turn front p brackets rest whole
turn front p brackets [] whole some h = absurd (omega arith)
turn front p brackets (b ∷ bs) whole some h = by h.most h.enough h.reads
  where
    by : (m : ℕ) → length (b ∷ bs) ≤ m → with_front front (lexed_within m p brackets (b ∷ bs)) ≡ whole → Turn front p brackets (b ∷ bs) whole
    by zero l e = absurd (omega arith)
    by (suc m) l e = record { most = m; enough = l; reads = e }

pub passes_on : (front : List Token) (p : Place) (brackets : List Sign) (rest : List ℕ) (whole : Lexed) (n : ℕ) → 0 < length rest → 0 < n → step.Passed n ≡ step_at (keeps brackets) rest → Reads front p brackets rest whole
    → Reads front (place_behind (take n rest) p) brackets (drop n rest) whole
passes_on front p brackets rest whole n some few u h =
    let t = turn front p brackets rest whole some h in
    record {
      most = t.most;
      enough = omega (arith, length-drop n rest, t.enough);
      reads = ap (λ x. with_front front (lex_step (lexed_within t.most) p brackets rest x)) u ∙ t.reads;
    }

pub takes_on : (front : List Token) (p : Place) (brackets : List Sign) (rest : List ℕ) (whole : Lexed) (n : ℕ) (k : TokenKind) → 0 < length rest → 0 < n → step.Taken n k ≡ step_at (keeps brackets) rest → Reads front p brackets rest whole
    → Reads (front ++ token p k ∷ []) (place_behind (take n rest) p) (opened k brackets) (drop n rest) whole
takes_on front p brackets rest whole n k some few u h =
    let t = turn front p brackets rest whole some h in
    record {
      most = t.most;
      enough = omega (arith, length-drop n rest, t.enough);
      reads = sym (joined front (token p k ∷ []) (lexed_within t.most (place_behind (take n rest) p) (opened k brackets) (drop n rest))) ∙ (ap (λ x. with_front front (lex_step (lexed_within t.most) p brackets rest x)) u ∙ t.reads);
    }

pub faults : (front : List Token) (p : Place) (brackets : List Sign) (rest : List ℕ) (whole : Lexed) → 0 < length rest → step.Fault ≡ step_at (keeps brackets) rest → Reads front p brackets rest whole → whole ≡ bad p
faults front p brackets rest whole some u h =
    let t = turn front p brackets rest whole some h in
    sym t.reads ∙ ap (λ x. with_front front (lex_step (lexed_within t.most) p brackets rest x)) (sym u)

pub ends : (front : List Token) (p : Place) (brackets : List Sign) (rest : List ℕ) (whole : Lexed) → length rest ≡ 0 → Reads front p brackets rest whole → whole ≡ all (front ++ token p kind.End ∷ [])
ends front p brackets [] whole none h = by h.most h.reads
  where
    by : (m : ℕ) → with_front front (lexed_within m p brackets []) ≡ whole → whole ≡ all (front ++ token p kind.End ∷ [])
    by zero e = sym e
    by (suc m) e = sym e
ends front p brackets (b ∷ bs) whole none h = absurd (omega arith)

pub begins : (front : List Token) (p : Place) (brackets : List Sign) (bytes : List ℕ) → front ≡ [] → brackets ≡ [] → Reads front p brackets bytes (lexed p bytes)
begins front p brackets bytes ef eb =
    subst (λ x. Reads x p brackets bytes (lexed p bytes)) (sym ef) (subst (λ x. Reads [] p x bytes (lexed p bytes)) (sym eb) (record { most = length bytes; enough = omega arith; reads = none (lexed p bytes) }))
  where
    none : (r : Lexed) → with_front [] r ≡ r
    none (all ts) = refl
    none (bad q) = refl

pub passes_after : (front : List Token) (p q : Place) (brackets : List Sign) (rest text behind : List ℕ) (whole : Lexed) (n : ℕ) → 0 < length rest → 0 < n → step.Passed n ≡ step_at (keeps brackets) rest
    → q ≡ place_behind text p → text ≡ take n rest → behind ≡ drop n rest → Reads front p brackets rest whole → Reads front q brackets behind whole
passes_after front p q brackets rest text behind whole n some few u eq et eb h =
    subst (λ x. Reads front x brackets behind whole) (sym (eq ∙ ap (λ x. place_behind x p) et)) (subst (λ x. Reads front (place_behind (take n rest) p) brackets x whole) (sym eb) (passes_on front p brackets rest whole n some few u h))

pub takes_after : (front next : List Token) (p q : Place) (brackets inner : List Sign) (rest text behind : List ℕ) (whole : Lexed) (n : ℕ) (k : TokenKind) → 0 < length rest → 0 < n → step.Taken n k ≡ step_at (keeps brackets) rest
    → next ≡ front ++ token p k ∷ [] → q ≡ place_behind text p → text ≡ take n rest → inner ≡ opened k brackets → behind ≡ drop n rest → Reads front p brackets rest whole → Reads next q inner behind whole
takes_after front next p q brackets inner rest text behind whole n k some few u en eq et ei eb h =
    subst (λ x. Reads x q inner behind whole) (sym en) (subst (λ x. Reads (front ++ token p k ∷ []) x inner behind whole) (sym (eq ∙ ap (λ x. place_behind x p) et))
    (subst (λ x. Reads (front ++ token p k ∷ []) (place_behind (take n rest) p) x behind whole) (sym ei) (subst (λ x. Reads (front ++ token p k ∷ []) (place_behind (take n rest) p) (opened k brackets) x whole) (sym eb)
    (takes_on front p brackets rest whole n k some few u h))))
