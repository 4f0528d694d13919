-- Reading a string character by character.
use Rattle.std.proofs.Common.{◌≡◌, ℕ, zero, suc, ◌+◌, ◌-◌, ◌<◌, ◌≤◌, List, [], ◌∷◌, ◌++◌, length, drop, refl, sym, ap, subst, ◌∙◌, append_assoc, append-nil, add_assoc, arith}
use Rattle.std.proofs.lemmas.List.{length-drop}
use Rattle.dsl_lexer.specs.declared.unit.Unit.TheVariants as unit
use Rattle.dsl_lexer.specs.Strings.{Body, closed, broken, unit_of, body_within, body_step, behind_front}
use Rattle.dsl_lexer.specs.Steps.{text_step, string_step}

pub body_nil : (most : ℕ) → body_within most [] ≡ broken
unfolding unit_of
body_nil zero = refl
body_nil (suc most) = refl

pub joined : (f g : List ℕ) (n m : ℕ) (r : Body) → behind_front f n (behind_front g m r) ≡ behind_front (f ++ g) (n + m) r
joined f g n m (closed t k) = ap (λ x. closed x (n + (m + k))) (sym (append_assoc f g t)) ∙ ap (closed ((f ++ g) ++ t)) (sym (add_assoc n m k))
joined f g n m broken = refl

-- what is read so far, and what is left with a bound that is enough
pub record Reads (front rest : List ℕ) (n : ℕ) (whole : Body) : Type 0 where
  pub most : ℕ
  pub enough : length rest ≤ most
  pub reads : behind_front front n (body_within most rest) ≡ whole

-- the first character of what is left
pub record Turn (front rest : List ℕ) (n : ℕ) (whole : Body) : Type 0 where
  pub most : ℕ
  pub enough : length rest ≤ suc most
  pub reads : behind_front front n (body_step (body_within most) rest (unit_of rest)) ≡ whole

pub turn : (front rest : List ℕ) (n : ℕ) (whole : Body) → 0 < length rest → Reads front rest n whole → Turn front rest n whole
turn front rest n whole some h = by h.most h.enough h.reads
  where
    by : (m : ℕ) → length rest ≤ m → behind_front front n (body_within m rest) ≡ whole → Turn front rest n whole
    by zero l e = absurd (omega arith)
    by (suc m) l e = record { most = m; enough = l; reads = e }

pub reads_on : (front rest : List ℕ) (n : ℕ) (whole : Body) (b k : ℕ) → 0 < length rest → 0 < k → k ≤ length rest → unit.Byte b k ≡ unit_of rest → Reads front rest n whole → Reads (front ++ b ∷ []) (drop k rest) (n + k) whole
reads_on front rest n whole b k some few within u h =
    let t = turn front rest n whole some h in
    record {
      most = t.most;
      enough = omega (arith, length-drop k rest, t.enough);
      reads = sym (joined front (b ∷ []) n k (body_within t.most (drop k rest))) ∙ (ap (λ x. behind_front front n (body_step (body_within t.most) rest x)) u ∙ t.reads);
    }

pub reads_quote : (front rest : List ℕ) (n : ℕ) (whole : Body) → 0 < length rest → unit.Quote ≡ unit_of rest → Reads front rest n whole → whole ≡ closed (front ++ []) (n + 1)
reads_quote front rest n whole some u h =
    let t = turn front rest n whole some h in
    sym t.reads ∙ ap (λ x. behind_front front n (body_step (body_within t.most) rest x)) (sym u)

pub reads_bad : (front rest : List ℕ) (n : ℕ) (whole : Body) → 0 < length rest → unit.Bad ≡ unit_of rest → Reads front rest n whole → whole ≡ broken
reads_bad front rest n whole some u h =
    let t = turn front rest n whole some h in
    sym t.reads ∙ ap (λ x. behind_front front n (body_step (body_within t.most) rest x)) (sym u)

pub reads_nothing : (front rest : List ℕ) (n : ℕ) (whole : Body) → length rest ≡ 0 → Reads front rest n whole → whole ≡ broken
reads_nothing front [] n whole none h = sym h.reads ∙ ap (behind_front front n) (body_nil h.most)
reads_nothing front (b ∷ bs) n whole none h = absurd (omega arith)

-- the same, where the number of bytes read is the difference of two lengths
pub reads_after : (front next rest behind : List ℕ) (all : ℕ) (whole : Body) (b k : ℕ) → length rest ≤ all → 0 < length rest → 0 < k → k ≤ length rest → unit.Byte b k ≡ unit_of rest → next ≡ front ++ b ∷ [] → behind ≡ drop k rest
    → Reads front rest (all - length rest) whole → (length behind ≤ all) × Reads next behind (all - length behind) whole
reads_after front next rest behind all whole b k most some few within u en eb h =
    let len : (all - length rest) + k ≡ all - length (drop k rest) = omega (arith, length-drop k rest) in
    let short : length behind ≤ all = omega (arith, ap length eb, length-drop k rest) in (
      short,
      subst (λ x. Reads x behind (all - length behind) whole) (sym en) (subst (λ x. Reads (front ++ b ∷ []) x (all - length x) whole) (sym eb)
          (subst (λ n. Reads (front ++ b ∷ []) (drop k rest) n whole) len (reads_on front rest (all - length rest) whole b k some few within u h))),
    )

pub quote_step : (front text rest : List ℕ) (all len : ℕ) (whole : Body) → 0 < length rest → unit.Quote ≡ unit_of rest → text ≡ front → len ≡ all - length rest → Reads front rest (all - length rest) whole → text_step (2 + len) text ≡ string_step whole
quote_step front text rest all len whole some u et el h =
    let n : 2 + len ≡ 1 + ((all - length rest) + 1) = omega arith in
    let t : text ≡ front ++ [] = et ∙ sym (append-nil front) in
    ap (λ k. text_step k text) n ∙ (ap (λ x. text_step (1 + ((all - length rest) + 1)) x) t ∙ ap string_step (sym (reads_quote front rest (all - length rest) whole some u h)))
