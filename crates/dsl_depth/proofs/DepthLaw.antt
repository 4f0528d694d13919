-- What the count of tokens in one pass says in the language's own words, both ways.
use Rattle.std.proofs.Common.{◌≡◌, ℕ, zero, suc, ◌+◌, ◌<◌, ◌⊎◌, List, [], ◌∷◌, Bool, true, false, cond, nat_lt, length, take, Option, Some, None, inl, inr, refl, sym, ap, subst, ◌∙◌, arith, ltb-true, ltb-false}
use Rattle.dsl_lexer.specs.declared.token.Token.{Token}
use Rattle.dsl_depth.specs.declared.role.Role.{Role}
use Rattle.dsl_depth.specs.declared.role.Role.TheVariants.{Opening, Closing, Counted, Separating, Plain}
use Rattle.dsl_depth.specs.Depth.{role, joined, at_file_level, open_behind, open_through, weighs_behind, weighs, one_if, weight_of, weight, IsTooDeep, IsFirstDeep, Depth, depth, acted, with_joined, counted, is_deep, deep_from, deep_at}

-- The parts of a count.

abbrev outer_of : Depth → List ℕ
outer_of (depth outer inner whole j) = outer

abbrev whole_of : Depth → ℕ
whole_of (depth outer inner whole j) = whole

abbrev after : Depth → List Token → Depth
after d [] = d
after d (t ∷ ts) = after (counted t.kind d) ts

-- The whole is the sum.

abbrev total : List ℕ → ℕ
total [] = 0
total (n ∷ ns) = n + total ns

abbrev IsTotal : Depth → Type 0
IsTotal (depth outer inner whole j) = whole ≡ inner + total outer

total_stays : (r : Role) (d : Depth) → IsTotal d → IsTotal (acted r d)
total_stays Opening (depth outer inner whole j) h = omega arith
total_stays Closing (depth [] inner whole j) h = h
total_stays Closing (depth (n ∷ outer) inner whole j) h = omega arith
total_stays Counted (depth outer inner whole j) h = omega arith
total_stays Separating (depth outer inner whole j) h = omega arith
total_stays Plain (depth outer inner whole j) h = h

-- What is left of the counts, the innermost first, where those of a level stay as `keeps` says by the brackets inside it.

abbrev kept : Bool → ℕ → ℕ
kept true n = n
kept false n = 0

kept_none : (b : Bool) → kept b 0 ≡ 0
kept_none true = refl
kept_none false = refl

kept_more : (b : Bool) (n : ℕ) → kept b (n + 1) ≡ kept b n + one_if b
kept_more true n = refl
kept_more false n = refl

abbrev left : (Bool → ℕ → Bool) → List ℕ → ℕ → ℕ
left keeps [] i = 0
left keeps (n ∷ ns) i = kept (keeps (at_file_level (length ns)) i) n + left keeps ns (suc i)

abbrev left_of : (Bool → ℕ → Bool) → Depth → ℕ
left_of keeps (depth outer inner whole j) = left keeps (inner ∷ outer) 0

left_later : (keeps : Bool → ℕ → Bool) (ns : List ℕ) (i : ℕ) → left (λ f k. keeps f (suc k)) ns i ≡ left keeps ns (suc i)
left_later keeps [] i = refl
left_later keeps (n ∷ ns) i = ap (λ k. kept (keeps (at_file_level (length ns)) (suc i)) n + k) (left_later keeps ns (suc i))

all_left : (ns : List ℕ) (i : ℕ) → left (λ f k. true) ns i ≡ total ns
all_left [] i = refl
all_left (n ∷ ns) i = ap (λ k. n + k) (all_left ns (suc i))

-- One token.

opened : (r : Role) (d : Depth) → length (outer_of (acted r d)) ≡ open_behind r (length (outer_of d))
opened Opening (depth outer inner whole j) = omega arith
opened Closing (depth [] inner whole j) = refl
opened Closing (depth (n ∷ outer) inner whole j) = omega arith
opened Counted (depth outer inner whole j) = refl
opened Separating (depth outer inner whole j) = refl
opened Plain (depth outer inner whole j) = refl

abbrev keeping : Role → (Bool → ℕ → Bool) → Bool → ℕ → Bool
keeping r keeps f i = weighs_behind r f i (keeps f)

weighed : (r : Role) (keeps : Bool → ℕ → Bool) (d : Depth)
    → left_of (keeping r keeps) d + weight_of r (at_file_level (length (outer_of d))) (keeps (at_file_level (length (outer_of d)))) ≡ left_of keeps (acted r d)
weighed Opening keeps (depth outer inner whole j) =
    omega (arith, left_later keeps outer 1, kept_more (keeps (at_file_level (length outer)) 1) inner, kept_none (keeps false 0))
weighed Closing keeps (depth [] inner whole j) = omega arith
weighed Closing keeps (depth (n ∷ outer) inner whole j) = omega (arith, left_later (keeping Closing keeps) (n ∷ outer) 0)
weighed Counted keeps (depth outer inner whole j) = omega (arith, kept_more (keeps (at_file_level (length outer)) 0) inner)
weighed Separating keeps (depth outer inner whole j) =
    omega (arith, left_later keeps outer 0, left_later (keeping Separating keeps) outer 0, kept_none (keeps (at_file_level (length outer)) 0))
weighed Plain keeps (depth outer inner whole j) = omega arith

-- Tokens.

record Tells (ts : List Token) (b : Bool) (d : Depth) : Type 0 where
  open' : length (outer_of (after (with_joined b d) ts)) ≡ open_through (length (outer_of d)) b ts
  weight' : whole_of (after (with_joined b d) ts) ≡ left_of (λ f i. weighs f i b ts) d + weight (length (outer_of d)) b ts

tells : (ts : List Token) (b : Bool) (d : Depth) → IsTotal d → Tells ts b d
tells [] b (depth outer inner whole j) h = record { open' = refl; weight' = omega (arith, all_left outer 1) }
tells (t ∷ ts) b (depth outer inner whole j) h =
    told_on (tells ts (joined b t.kind) (acted (role b t.kind) (depth outer inner whole b)) (total_stays (role b t.kind) (depth outer inner whole b) h))
  where
    told_on : Tells ts (joined b t.kind) (acted (role b t.kind) (depth outer inner whole b)) → Tells (t ∷ ts) b (depth outer inner whole j)
    told_on more =
        let opens = opened (role b t.kind) (depth outer inner whole b) in
        let weighs_on = weighed (role b t.kind) (λ f i. weighs f i (joined b t.kind) ts) (depth outer inner whole b) in
        record {
          open' = more.open' ∙ ap (λ n. open_through n (joined b t.kind) ts) opens;
          weight' = omega (arith, more.weight', ap (λ n. weight n (joined b t.kind) ts) opens, weighs_on);
        }

-- A front is too deep where its count is.

abbrev start : Depth
start = depth [] 0 0 false

limits : (d : Depth) → is_deep d ≡ cond (nat_lt 100 (length (outer_of d))) true (nat_lt 200 (whole_of d))
limits (depth outer inner whole j) = refl

above : (m w : ℕ) → cond (nat_lt 100 m) true (nat_lt 200 w) ≡ true → (100 < m) ⊎ (200 < w)
above m w e = by (nat_lt 100 m) refl e
  where
    by : (b : Bool) → nat_lt 100 m ≡ b → cond b true (nat_lt 200 w) ≡ true → (100 < m) ⊎ (200 < w)
    by true is e = inl (ltb-true 100 m is)
    by false is e = inr (ltb-true 200 w e)

within : (m w : ℕ) → cond (nat_lt 100 m) true (nat_lt 200 w) ≡ false → (100 < m) ⊎ (200 < w) → ⊥
within m w e deep = by (nat_lt 100 m) refl e deep
  where
    by : (b : Bool) → nat_lt 100 m ≡ b → cond b true (nat_lt 200 w) ≡ false → (100 < m) ⊎ (200 < w) → ⊥
    by true is e d = cc
    by false is e (inl d) = omega (arith, ltb-false 100 m is)
    by false is e (inr d) = omega (arith, ltb-false 200 w e)

front_is : (front : List Token) → is_deep (after start front) ≡ cond (nat_lt 100 (open_through 0 false front)) true (nat_lt 200 (weight 0 false front))
front_is front =
    let all = tells front false start refl in
    let whole : whole_of (after start front) ≡ weight 0 false front = omega (arith, all.weight', kept_none (weighs true 0 false front)) in
    limits (after start front) ∙ (ap (λ m. cond (nat_lt 100 m) true (nat_lt 200 (whole_of (after start front)))) all.open' ∙ ap (λ w. cond (nat_lt 100 (open_through 0 false front)) true (nat_lt 200 w)) whole)

too_deep : (front : List Token) → is_deep (after start front) ≡ true → IsTooDeep front
too_deep front e = above (open_through 0 false front) (weight 0 false front) (sym (front_is front) ∙ e)

not_too_deep : (front : List Token) → is_deep (after start front) ≡ false → IsTooDeep front → ⊥
not_too_deep front e = within (open_through 0 false front) (weight 0 false front) (sym (front_is front) ∙ e)

-- The first one.

abbrev First : (ℕ → Bool) → ℕ → Option ℕ → Type 0
First deep size (Some n) = (n < size) × (deep n ≡ true) × ((m : ℕ) → m < n → deep m ≡ false)
First deep size None = (m : ℕ) → m < size → deep m ≡ false

abbrev one_later : Option ℕ → Option ℕ
one_later None = None
one_later (Some n) = Some (suc n)

first_here : (deep : ℕ → Bool) (size : ℕ) → deep 0 ≡ true → First deep (suc size) (Some 0)
first_here deep size is = (omega arith, is, λ m lt. absurd (omega arith))

first_later : (deep : ℕ → Bool) (size : ℕ) (o : Option ℕ) → deep 0 ≡ false → First (λ m. deep (suc m)) size o → First deep (suc size) (one_later o)
first_later deep size None not_here h = below
  where
    below : (m : ℕ) → m < suc size → deep m ≡ false
    below zero lt = not_here
    below (suc m) lt = h m (omega arith)
first_later deep size (Some n) not_here h = (omega (arith, h.0), h.1, below)
  where
    below : (m : ℕ) → m < suc n → deep m ≡ false
    below zero lt = not_here
    below (suc m) lt = h.2 m (omega arith)

from_later : (k : ℕ) (d : Depth) (ts : List Token) → deep_from (suc k) d ts ≡ one_later (deep_from k d ts)
from_later k d [] = refl
from_later k d (t ∷ ts) = by (from_later (suc k) (counted t.kind d) ts) (is_deep (counted t.kind d))
  where
    by : deep_from (suc (suc k)) (counted t.kind d) ts ≡ one_later (deep_from (suc k) (counted t.kind d) ts) → (b : Bool) → cond b (Some (suc k)) (deep_from (suc (suc k)) (counted t.kind d) ts) ≡ one_later (cond b (Some k) (deep_from (suc k) (counted t.kind d) ts))
    by more true = refl
    by more false = more

finds : (d : Depth) (ts : List Token) → First (λ m. is_deep (after d (take (suc m) ts))) (length ts) (deep_from 0 d ts)
finds d [] = λ m lt. absurd (omega arith)
finds d (t ∷ ts) = by (finds (counted t.kind d) ts) (is_deep (counted t.kind d)) refl
  where
    by : First (λ m. is_deep (after (counted t.kind d) (take (suc m) ts))) (length ts) (deep_from 0 (counted t.kind d) ts)
        → (b : Bool) → is_deep (counted t.kind d) ≡ b → First (λ m. is_deep (after d (take (suc m) (t ∷ ts)))) (suc (length ts)) (cond b (Some 0) (deep_from 1 (counted t.kind d) ts))
    by more true is = first_here (λ m. is_deep (after d (take (suc m) (t ∷ ts)))) (length ts) is
    by more false is =
        subst
        (λ o. First (λ m. is_deep (after d (take (suc m) (t ∷ ts)))) (suc (length ts)) o)
        (sym (from_later 0 (counted t.kind d) ts))
        (first_later (λ m. is_deep (after d (take (suc m) (t ∷ ts)))) (length ts) (deep_from 0 (counted t.kind d) ts) is more)

told : (ts : List Token) (o : Option ℕ) → First (λ m. is_deep (after start (take (suc m) ts))) (length ts) o → IsFirstDeep ts o
told ts None h = λ m lt. not_too_deep (take (suc m) ts) (h m lt)
told ts (Some n) h = record {
  within = h.0;
  deep = too_deep (take (suc n) ts) h.1;
  first = λ m lt. not_too_deep (take (suc m) ts) (h.2 m lt);
}

-- the answer in one pass is the first token through which they are too deep
pub deep_at_first : (ts : List Token) → IsFirstDeep ts (deep_at ts)
deep_at_first ts = told ts (deep_at ts) (finds start ts)

pub found_first : (ts : List Token) (o : Option ℕ) → o ≡ deep_at ts → IsFirstDeep ts o
found_first ts o e = subst (IsFirstDeep ts) (sym e) (deep_at_first ts)

-- there is one such answer at most
pub one_first : (ts : List Token) (o p : Option ℕ) → IsFirstDeep ts o → IsFirstDeep ts p → o ≡ p
one_first ts None None h k = refl
one_first ts None (Some m) h k = absurd (h m k.within k.deep)
one_first ts (Some n) None h k = absurd (k n h.within h.deep)
one_first ts (Some n) (Some m) h k =
    let not_before : n < m → ⊥ = λ lt. k.first n lt h.deep in
    let not_behind : m < n → ⊥ = λ lt. h.first m lt k.deep in
    let same : n ≡ m = omega arith in
    ap Some same

-- such an answer is that in one pass
pub first_deep_at : (ts : List Token) (o : Option ℕ) → IsFirstDeep ts o → deep_at ts ≡ o
first_deep_at ts o h = one_first ts (deep_at ts) o (deep_at_first ts) h
