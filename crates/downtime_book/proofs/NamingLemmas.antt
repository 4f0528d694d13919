-- Which downtime is named: along a permutation, past what isn't in effect, and in the rule's own words.
use Rattle.std.proofs.Common.{◌≡◌, ℕ, suc, ◌<◌, ◌≤◌, ◌⊎◌, inl, inr, Bool, true, false, ◌&&◌, cond, Option, Some, None, MatchOption, List, [], ◌∷◌, ◌++◌, map, filter, IsPermutation, refl, sym, ap, ap₂, ◌∙◌, subst, arith}
use Rattle.std.specs.List.{All, Any, cons_option, filter_map, fold, reduce}
use Rattle.std.specs.Option.{IsSomeAnd}
use Rattle.std.proofs.lemmas.Bool.{true≢false}
use Rattle.std.proofs.lemmas.Bool.Decides.{nat_tests}
use Rattle.std.proofs.lemmas.List.Elements.{All-nil, All-cons, All-weaker, filter-append}
use Rattle.downtime_book.specs.declared.downtime.Downtime.{Downtime}
use Rattle.downtime_book.specs.declared.rank.Rank.{Rank}
use Rattle.downtime_book.specs.Downtime.{is_in_effect, is_triggered_by, triggered_at, after_result}
use Rattle.downtime_book.specs.Contents.{together}
use Rattle.downtime_book.specs.Firsts.{first_of}
use Rattle.downtime_book.specs.Naming.{rank_of, goes_first, lesser, least, number_of, named, Precedes, Names}
use Rattle.downtime_book.proofs.Lists.{along_permutation}

-- ---- ranks
Rank-same : (a b : Rank) → a.start ≡ b.start → a.number ≡ b.number → a ≡ b
Rank-same a b e f = let make : ℕ → ℕ → Rank = λ s n. record { start = s; number = n } in ap₂ make e f

-- a is before b, in numbers
abbrev pub Before : Rank → Rank → Type 0
Before a b = (a.start < b.start) ⊎ ((a.start ≡ b.start) × (a.number ≤ b.number))

Before-from : (a b : Rank) → goes_first a b ≡ true → Before a b
Before-from a b h = grind (arith, nat_tests)

goes_first-from : (a b : Rank) → Before a b → goes_first a b ≡ true
goes_first-from a b h = grind (arith, nat_tests)

Before-other : (a b : Rank) → goes_first a b ≡ false → Before b a
Before-other a b h = grind (arith, nat_tests)

Before-refl : (a : Rank) → Before a a
Before-refl a = inr (refl, omega arith)

Before-trans : (a b c : Rank) → Before a b → Before b c → Before a c
Before-trans a b c (inl p) (inl q) = inl (omega arith)
Before-trans a b c (inl p) (inr q) = inl (omega (arith, q.0))
Before-trans a b c (inr p) (inl q) = inl (omega (arith, p.0))
Before-trans a b c (inr p) (inr q) = inr (p.0 ∙ q.0, omega (arith, p.1, q.1))

pub Before-total : (a b : Rank) → Before a b ⊎ Before b a
Before-total a b = elim (goes_first a b) as (λ t. goes_first a b ≡ t → Before a b ⊎ Before b a) [ true ↦ λ e. inl (Before-from a b e) | false ↦ λ e. inr (Before-other a b e) ] refl

Before-both : (a b : Rank) → Before a b → Before b a → a ≡ b
Before-both a b (inl p) (inl q) = absurd (omega arith)
Before-both a b (inl p) (inr q) = absurd (omega (arith, q.0))
Before-both a b (inr p) (inl q) = absurd (omega (arith, p.0))
Before-both a b (inr p) (inr q) = Rank-same a b p.0 (omega (arith, p.1, q.1))

pub lesser-here : (a b : Rank) → Before a b → lesser a (Some b) ≡ a
lesser-here a b h = ap (λ t. cond t a b) (goes_first-from a b h)

pub lesser-there : (a b : Rank) → Before b a → lesser a (Some b) ≡ b
lesser-there a b h =
    elim (goes_first a b) as (λ t. goes_first a b ≡ t → cond t a b ≡ b) [ true ↦ λ e. Before-both a b (Before-from a b e) h | false ↦ λ e. refl ] refl

-- ---- three ranks: neither their order nor how they are grouped matters
turn_before : (a b c : Rank) → Before a b → lesser a (Some (lesser b (Some c))) ≡ lesser b (Some (lesser a (Some c)))
turn_before a b c h =
    elim (Before-total b c) [
      | inl k ↦
          let l = ap (λ z. lesser a (Some z)) (lesser-here b c k) ∙ lesser-here a b h in
          let r = ap (λ z. lesser b (Some z)) (lesser-here a c (Before-trans a b c h k)) ∙ lesser-there b a h in
          l ∙ sym r
      | inr k ↦
          let l = ap (λ z. lesser a (Some z)) (lesser-there b c k) in
          elim (Before-total a c) [
            | inl j ↦ l ∙ lesser-here a c j ∙ sym (ap (λ z. lesser b (Some z)) (lesser-here a c j) ∙ lesser-there b a h)
            | inr j ↦ l ∙ lesser-there a c j ∙ sym (ap (λ z. lesser b (Some z)) (lesser-there a c j) ∙ lesser-there b c k)
          ]
    ]

lesser_turn : (a b : Rank) (o : Option Rank) → lesser a (Some (lesser b o)) ≡ lesser b (Some (lesser a o))
lesser_turn a b None = elim (Before-total a b) [ inl h ↦ lesser-here a b h ∙ sym (lesser-there b a h) | inr h ↦ lesser-there a b h ∙ sym (lesser-here b a h) ]
lesser_turn a b (Some c) = elim (Before-total a b) [ inl h ↦ turn_before a b c h | inr h ↦ sym (turn_before b a c h) ]

pub lesser_group : (a b : Rank) (o : Option Rank) → lesser (lesser a (Some b)) o ≡ lesser a (Some (lesser b o))
lesser_group a b None = refl
lesser_group a b (Some c) =
    elim (Before-total a b) [
      | inl h ↦
          let l = ap (λ z. lesser z (Some c)) (lesser-here a b h) in
          elim (Before-total b c) [
            | inl k ↦ l ∙ lesser-here a c (Before-trans a b c h k) ∙ sym (ap (λ z. lesser a (Some z)) (lesser-here b c k) ∙ lesser-here a b h)
            | inr k ↦ l ∙ sym (ap (λ z. lesser a (Some z)) (lesser-there b c k))
          ]
      | inr h ↦
          let l = ap (λ z. lesser z (Some c)) (lesser-there a b h) in
          elim (Before-total b c) [
            | inl k ↦ l ∙ lesser-here b c k ∙ sym (ap (λ z. lesser a (Some z)) (lesser-here b c k) ∙ lesser-there a b h)
            | inr k ↦ l ∙ lesser-there b c k ∙ sym (ap (λ z. lesser a (Some z)) (lesser-there b c k) ∙ lesser-there a c (Before-trans c b a k h))
          ]
    ]

-- ---- the least rank
module _ (m : ℕ) where
  skip : (x : Downtime) (xs ys : List Downtime) → least m xs ≡ least m ys → least m (x ∷ xs) ≡ least m (x ∷ ys)
  skip x xs ys h = ap (λ o. cond (is_in_effect m x) (Some (lesser (rank_of x) o)) o) h

  turn : (x y : Downtime) (xs : List Downtime) → least m (x ∷ y ∷ xs) ≡ least m (y ∷ x ∷ xs)
  turn x y xs =
      let a = rank_of x in
      let b = rank_of y in
      let o = least m xs in
      let both : (p q : Bool) → cond p (Some (lesser a (cond q (Some (lesser b o)) o))) (cond q (Some (lesser b o)) o) ≡ cond q (Some (lesser b (cond p (Some (lesser a o)) o))) (cond p (Some (lesser a o)) o) =
      λ p q. elim p as (λ p. cond p (Some (lesser a (cond q (Some (lesser b o)) o))) (cond q (Some (lesser b o)) o) ≡ cond q (Some (lesser b (cond p (Some (lesser a o)) o))) (cond p (Some (lesser a o)) o)) [
        | true ↦ elim q as (λ q. Some (lesser a (cond q (Some (lesser b o)) o)) ≡ cond q (Some (lesser b (Some (lesser a o)))) (Some (lesser a o)))
            [ true ↦ ap (λ z. Some z) (lesser_turn a b o) | false ↦ refl ]
        | false ↦ elim q as (λ q. cond q (Some (lesser b o)) o ≡ cond q (Some (lesser b o)) o) [ true ↦ refl | false ↦ refl ]
      ] in
      both (is_in_effect m x) (is_in_effect m y)

  pub least-permutation : (xs ys : List Downtime) → IsPermutation xs ys → least m xs ≡ least m ys
  least-permutation = along_permutation (λ xs ys. least m xs ≡ least m ys) (λ xs. refl) skip turn (λ xs ys zs p q. p ∙ q)

  -- what isn't in effect once f was applied can be left out
  pub least_within : (f : Downtime → Downtime) (q : Downtime → Bool) → ((x : Downtime) → q x ≡ false → is_in_effect m (f x) ≡ false) → (xs : List Downtime) → least m (map f (filter q xs)) ≡ least m (map f xs)
  least_within f q h [] = refl
  least_within f q h (x ∷ xs) =
      let by : (b : Bool) → q x ≡ b → least m (map f (cond b (x ∷ filter q xs) (filter q xs))) ≡ least m (map f (x ∷ xs)) =
      λ b. elim b as (λ b. q x ≡ b → least m (map f (cond b (x ∷ filter q xs) (filter q xs))) ≡ least m (map f (x ∷ xs))) [
        | true ↦ λ e. skip (f x) (map f (filter q xs)) (map f xs) (least_within f q h xs)
        | false ↦ λ e. least_within f q h xs ∙ sym (ap (λ b. cond b (Some (lesser (rank_of (f x)) (least m (map f xs)))) (least m (map f xs))) (h x e))
      ] in
      by (q x) refl

pub rank_of-after_result : (m : ℕ) (p : Bool) (d : Downtime) → rank_of (after_result m p d) ≡ rank_of d
rank_of-after_result m p d =
    let e : Downtime = record d { kind = triggered_at m d.kind } in
    elim (p && is_triggered_by m d) as (λ b. rank_of (cond b e d) ≡ rank_of d) [ true ↦ refl | false ↦ refl ]

-- ---- the least rank of two lists, and of many
-- the lesser of two ranks, where there are such
abbrev lesser_of : Option Rank → Option Rank → Option Rank
lesser_of None o = o
lesser_of (Some r) o = Some (lesser r o)

lesser_of_both : (r : Rank) (o q : Option Rank) → lesser r (lesser_of o q) ≡ lesser (lesser r o) q
lesser_of_both r None q = refl
lesser_of_both r (Some s) q = sym (lesser_group r s q)

first_of-append : (t : Downtime → Bool) (xs ys : List Downtime) → first_of t (xs ++ ys) ≡ lesser_of (first_of t xs) (first_of t ys)
first_of-append t [] ys = refl
first_of-append t (x ∷ xs) ys =
    let r = rank_of x in
    let o = first_of t xs in
    let q = first_of t ys in
    ap (λ (z : Option Rank). cond (t x) (Some (lesser r z)) z) (first_of-append t xs ys) ∙ elim (t x) as (λ b. cond b (Some (lesser r (lesser_of o q))) (lesser_of o q) ≡ lesser_of (cond b (Some (lesser r o)) o) q)
    [ true ↦ ap (λ (z : Rank). Some z) (lesser_of_both r o q) | false ↦ refl ]

module _ (pick : Rank → Rank → Rank) (picks : (a b : Rank) → pick a b ≡ lesser a (Some b)) (t q : Downtime → Bool) where
  abbrev of_run : List Downtime → Option Rank
  of_run run = first_of t (filter q run)

  of_runs : (run : List Downtime) (runs : List (List Downtime)) → of_run (together (run ∷ runs)) ≡ lesser_of (of_run run) (of_run (together runs))
  of_runs run runs =
      ap (first_of t) (filter-append q run (together runs)) ∙ first_of-append t (filter q run) (filter q (together runs))

  fold-found : (r : Rank) (runs : List (List Downtime)) → fold pick r (filter_map of_run runs) ≡ lesser r (of_run (together runs))
  fold-found r [] = refl
  fold-found r (run ∷ runs) = by (of_run run) (λ z. fold-found z runs) ∙ ap (lesser r) (sym (of_runs run runs))
    where
      by : (o : Option Rank) → ((z : Rank) → fold pick z (filter_map of_run runs) ≡ lesser z (of_run (together runs))) → fold pick r (cons_option o (filter_map of_run runs)) ≡ lesser r (lesser_of o (of_run (together runs)))
      by None more = more r
      by (Some s) more =
          ap (λ (z : Rank). fold pick z (filter_map of_run runs)) (picks r s) ∙ more (lesser r (Some s)) ∙ lesser_group r s (of_run (together runs))

  -- the first of the firsts of all lists is that of them together
  pub reduce-found : (runs : List (List Downtime)) → reduce pick (filter_map of_run runs) ≡ of_run (together runs)
  reduce-found [] = refl
  reduce-found (run ∷ runs) = by (of_run run) (reduce-found runs) ∙ sym (of_runs run runs)
    where
      by : (o : Option Rank) → reduce pick (filter_map of_run runs) ≡ of_run (together runs) → reduce pick (cons_option o (filter_map of_run runs)) ≡ lesser_of o (of_run (together runs))
      by None more = more
      by (Some s) more = ap (λ (z : Rank). Some z) (fold-found s runs)

-- the number of the rank, if there is one
pub number_given : (o : Option Rank) (r : Option ℕ) (post : Rank → ℕ → Type 0) → MatchOption o (r ≡ None) (λ x. IsSomeAnd r (post x)) → ((x : Rank) (n : ℕ) → post x n → n ≡ x.number) → r ≡ number_of o
number_given None r post h given = h
number_given (Some x) None post h given = absurd h
number_given (Some x) (Some n) post h given = ap (λ (k : ℕ). Some k) (given x n h)

-- ---- in the rule's own words
module _ (m : ℕ) where
  Any-head : (P : Downtime → Type 0) (x : Downtime) (xs : List Downtime) → P x → Any P (x ∷ xs)
  Any-head P x xs p = (0, x, omega arith, refl, p)

  Any-tail : (P : Downtime → Type 0) (x : Downtime) (xs : List Downtime) → Any P xs → Any P (x ∷ xs)
  Any-tail P x xs h = (suc h.0, h.1, omega (arith, h.2), h.3, h.4)

  abbrev IsOut : Downtime → Type 0
  IsOut d = is_in_effect m d ≡ false

  -- d is in effect and has the rank r
  abbrev Holds : Rank → Downtime → Type 0
  Holds r d = (rank_of d ≡ r) × (is_in_effect m d ≡ true)

  -- if e is in effect, r is before its rank
  abbrev Bounds : Rank → Downtime → Type 0
  Bounds r e = is_in_effect m e ≡ true → Before r (rank_of e)

  abbrev IsLeast : List Downtime → Option Rank → Type 0
  IsLeast ds o = MatchOption o (All IsOut ds) (λ r. Any (Holds r) ds × All (Bounds r) ds)

  more_out : (d : Downtime) (ds : List Downtime) (o : Option Rank) → IsOut d → IsLeast ds o → IsLeast (d ∷ ds) o
  more_out d ds None e h = All-cons IsOut d ds e h
  more_out d ds (Some r) e h =
      (Any-tail (Holds r) d ds h.0, All-cons (Bounds r) d ds (λ t. absurd (true≢false (sym t ∙ e))) h.1)

  more_in : (d : Downtime) (ds : List Downtime) (o : Option Rank) → is_in_effect m d ≡ true → IsLeast ds o → IsLeast (d ∷ ds) (Some (lesser (rank_of d) o))
  more_in d ds None e h =
      let r = rank_of d in
      (Any-head (Holds r) d ds (refl, e), All-cons (Bounds r) d ds (λ t. Before-refl r) (All-weaker IsOut (Bounds r) (λ x n t. absurd (true≢false (sym t ∙ n))) ds h))
  more_in d ds (Some s) e h =
      let r = rank_of d in
      let P : Rank → Type 0 = λ r. Any (Holds r) (d ∷ ds) × All (Bounds r) (d ∷ ds) in
      elim (Before-total r s) [
        | inl k ↦ subst P (sym (lesser-here r s k))
            (Any-head (Holds r) d ds (refl, e), All-cons (Bounds r) d ds (λ t. Before-refl r) (All-weaker (Bounds s) (Bounds r) (λ x b t. Before-trans r s (rank_of x) k (b t)) ds h.1))
        | inr k ↦ subst P (sym (lesser-there r s k)) (Any-tail (Holds s) d ds h.0, All-cons (Bounds s) d ds (λ t. k) h.1)
      ]

  least_is : (ds : List Downtime) → IsLeast ds (least m ds)
  least_is [] = All-nil IsOut
  least_is (d ∷ ds) =
      let o = least m ds in
      elim (is_in_effect m d) as (λ b. is_in_effect m d ≡ b → IsLeast (d ∷ ds) (cond b (Some (lesser (rank_of d) o)) o))
      [ true ↦ λ e. more_in d ds o e (least_is ds) | false ↦ λ e. more_out d ds o e (least_is ds) ] refl

  Names-from : (ds : List Downtime) (o : Option Rank) → IsLeast ds o → Names m ds (number_of o)
  Names-from ds None h = h
  Names-from ds (Some r) h =
      let d = h.0.1 in
      let e : rank_of d ≡ r = h.0.4.0 in
      let after : Downtime → Type 0 = λ x. is_in_effect m x ≡ true → Precedes d x in
      let weaker : (x : Downtime) → Bounds r x → after x = λ x b t. subst (λ (z : Rank). Before z (rank_of x)) (sym e) (b t) in
      (h.0.0, d, h.0.2, h.0.3, (ap (λ (z : Rank). z.number) e, h.0.4.1, All-weaker (Bounds r) after weaker ds h.1))

  pub Names-named : (ds : List Downtime) → Names m ds (named m ds)
  Names-named ds = Names-from ds (least m ds) (least_is ds)
