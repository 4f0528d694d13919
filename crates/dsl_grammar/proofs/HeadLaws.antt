-- The heads of an apply rule, read from left to right, are at most one of each in either order.
use Rattle.std.proofs.Common.{◌≡◌, ◌⊎◌, ℕ, List, [], ◌∷◌, Bool, true, false, not, cond, Option, Some, None, is_some, refl, sym, ap, ◌∙◌, subst, inl, inr}
use Rattle.site_base.specs.declared.place.Place.{Place}
use Rattle.dsl_syntax.specs.Syntax.{Loop, MaybeLoop, no_loop, some_loop}
use Rattle.dsl_lexer.specs.declared.token.Token.{Token}
use Rattle.dsl_lexer.specs.declared.word.Word.TheVariants as words
use Rattle.dsl_rules.specs.Alphabet.{Sort, and, same, among, at}
use Rattle.dsl_rules.specs.Rules.{Turns, may}
use Rattle.dsl_rules.specs.Grammar.{Rules, Derives}
use Rattle.dsl_grammar.specs.Codes.{sorts, word_sort}
use Rattle.dsl_grammar.specs.Terms.{Name, Value, word}
use Rattle.dsl_grammar.specs.Grammar.{names, LoopHead, Heads, heads, OneHead, head_to, head_for, has_no_loop, may_head, add_head, AnyHead, ApplyHeads}
use Rattle.dsl_grammar.specs.Table.{Same, ToHead, ForHead, TableHeads}
use Rattle.dsl_grammar.proofs.Defining.{one_at}
use Rattle.dsl_grammar.proofs.Pasts.{sort_is}

abbrev head_words : List Sort
head_words = word_sort words.To ∷ word_sort words.For ∷ []

abbrev to_word : List Sort
to_word = word_sort words.To ∷ []

abbrev for_word : List Sort
for_word = word_sort words.For ∷ []

-- Which head may stand next.

refused : (b : Bool) → and b false ≡ true → ⊥
refused true e = cc
refused false e = cc

-- behind a `to` no other
no_second_to : (t : List ℕ) (l : MaybeLoop) (ts : List Token) → may sorts head_words (may_head (heads (Some t) l)) ts ≡ true → at sorts to_word ts ≡ true → ⊥
no_second_to t l [] h m = cc
no_second_to t l (x ∷ ts) h m = by (same (sorts.sort_of x) (word_sort words.To)) h m
  where
    by : (b : Bool) → and (cond b true (among (sorts.sort_of x) for_word)) (cond b false (has_no_loop l)) ≡ true → cond b true false ≡ true → ⊥
    by true h m = cc
    by false h m = cc

-- behind a `for` no other
no_second_for : (o : Option (List ℕ)) (l : Loop) (ts : List Token) → may sorts head_words (may_head (heads o (some_loop l))) ts ≡ true → at sorts for_word ts ≡ true → ⊥
no_second_for o l [] h m = cc
no_second_for o l (x ∷ ts) h m = by (same (sorts.sort_of x) (word_sort words.To)) (same_to x m) h
  where
    same_to : (x : Token) → among (sorts.sort_of x) for_word ≡ true → same (sorts.sort_of x) (word_sort words.To) ≡ false
    same_to x m = not_to (sort_is x (word_sort words.For) m to_word false refl)
      where
        not_to : among (sorts.sort_of x) to_word ≡ false → same (sorts.sort_of x) (word_sort words.To) ≡ false
        not_to = by_case (same (sorts.sort_of x) (word_sort words.To))
          where
            by_case : (b : Bool) → cond b true false ≡ false → b ≡ false
            by_case true e = cc
            by_case false e = refl

    by : (b : Bool) → b ≡ false → and (cond b true (among (sorts.sort_of x) for_word)) (cond b (not (is_some o)) false) ≡ true → ⊥
    by true e h = absurd cc
    by false e h = refused (among (sorts.sort_of x) for_word) h

-- a first `to`, and a first `for`
to_may : (l : MaybeLoop) (ts : List Token) → at sorts to_word ts ≡ true → may sorts head_words (may_head (heads None l)) ts ≡ true
to_may l [] m = absurd cc
to_may l (x ∷ ts) m = by (same (sorts.sort_of x) (word_sort words.To)) m
  where
    by : (b : Bool) → cond b true false ≡ true → and (cond b true (among (sorts.sort_of x) for_word)) (cond b true (has_no_loop l)) ≡ true
    by true e = refl
    by false e = absurd cc

for_may : (o : Option (List ℕ)) (ts : List Token) → at sorts for_word ts ≡ true → may sorts head_words (may_head (heads o no_loop)) ts ≡ true
for_may o [] m = absurd cc
for_may o (x ∷ ts) m = by (same (sorts.sort_of x) (word_sort words.To)) (sort_is x (word_sort words.For) m to_word false refl) m
  where
    by : (b : Bool) → cond b true false ≡ false → among (sorts.sort_of x) for_word ≡ true → and (cond b true (among (sorts.sort_of x) for_word)) (cond b (not (is_some o)) true) ≡ true
    by true e m = absurd cc
    by false e m = rw m refl

module _ (L : Rules Token Name Value) where
  abbrev Rest : List OneHead → Heads → List Token → Heads → List Token → Type 0
  Rest xs c ts d rest = Turns sorts false head_words may_head add_head (Derives sorts L AnyHead) xs c ts d rest

  to_at : (ts : List Token) (t : List ℕ) (rest : List Token) → Derives sorts L ToHead ts t rest → at sorts to_word ts ≡ true
  unfolding ToHead
  to_at ts t rest (m, p, t', s, i, e) = (one_at to_word (λ t. t.place) ts p m s).0

  for_at : (ts : List Token) (l : Loop) (rest : List Token) → Derives sorts L ForHead ts l rest → at sorts for_word ts ≡ true
  unfolding ForHead
  for_at ts l rest (m, p, l', s, i, e) = (one_at for_word (λ t. t.place) ts p m s).0

  -- a head is one of the two
  abbrev Either_head : List Token → OneHead → List Token → Type 0
  Either_head ts x rest = ((t : List ℕ) × Derives sorts L ToHead ts t rest × (head_to t ≡ x)) ⊎ ((l : Loop) × Derives sorts L ForHead ts l rest × (head_for l ≡ x))

  one_head : (ts : List Token) (x : OneHead) (rest : List Token) → Derives sorts L AnyHead ts x rest → Either_head ts x rest
  unfolding AnyHead ToHead ForHead
  one_head ts x rest d = d

  any_head : (ts : List Token) (x : OneHead) (rest : List Token) → Either_head ts x rest → Derives sorts L AnyHead ts x rest
  unfolding AnyHead ToHead ForHead
  any_head ts x rest d = d

  -- behind both nothing follows
  behind_both : (xs : List OneHead) (t : List ℕ) (l : Loop) (ts : List Token) (d : Heads) (rest : List Token) → Rest xs (heads (Some t) (some_loop l)) ts d rest → (heads (Some t) (some_loop l) ≡ d) × (ts ≡ rest)
  behind_both [] t l ts d rest r = r
  behind_both (x ∷ xs) t l ts d rest (m, h, a, more) = by (one_head ts x m a)
    where
      by : Either_head ts x m → (heads (Some t) (some_loop l) ≡ d) × (ts ≡ rest)
      by (inl (u, q, e)) = absurd (no_second_to t (some_loop l) ts h (to_at ts u m q))
      by (inr (k, q, e)) = absurd (no_second_for (Some t) l ts h (for_at ts k m q))

  -- behind a `to`
  abbrev BehindTo : List ℕ → List Token → Heads → List Token → Type 0
  BehindTo t ts d rest = ((heads (Some t) no_loop ≡ d) × (ts ≡ rest)) ⊎ ((l : Loop) × Derives sorts L ForHead ts l rest × (heads (Some t) (some_loop l) ≡ d))

  behind_to : (xs : List OneHead) (t : List ℕ) (ts : List Token) (d : Heads) (rest : List Token) → Rest xs (heads (Some t) no_loop) ts d rest → BehindTo t ts d rest
  behind_to [] t ts d rest r = inl r
  behind_to (x ∷ xs) t ts d rest (m, h, a, more) = by (one_head ts x m a)
    where
      by : Either_head ts x m → BehindTo t ts d rest
      by (inl (u, q, e)) = absurd (no_second_to t no_loop ts h (to_at ts u m q))
      by (inr (k, q, e)) = let w = behind_both xs t k m d rest (subst (λ z. Rest xs (add_head (heads (Some t) no_loop) z) m d rest) (sym e) more) in inr (k, subst (λ z. Derives sorts L ForHead ts k z) w.1 q, w.0)

  -- behind a `for`
  abbrev BehindFor : Loop → List Token → Heads → List Token → Type 0
  BehindFor l ts d rest = ((heads None (some_loop l) ≡ d) × (ts ≡ rest)) ⊎ ((t : List ℕ) × Derives sorts L ToHead ts t rest × (heads (Some t) (some_loop l) ≡ d))

  behind_for : (xs : List OneHead) (l : Loop) (ts : List Token) (d : Heads) (rest : List Token) → Rest xs (heads None (some_loop l)) ts d rest → BehindFor l ts d rest
  behind_for [] l ts d rest r = inl r
  behind_for (x ∷ xs) l ts d rest (m, h, a, more) = by (one_head ts x m a)
    where
      by : Either_head ts x m → BehindFor l ts d rest
      by (inl (u, q, e)) = let w = behind_both xs u l m d rest (subst (λ z. Rest xs (add_head (heads None (some_loop l)) z) m d rest) (sym e) more) in inr (u, subst (λ z. Derives sorts L ToHead ts u z) w.1 q, w.0)
      by (inr (k, q, e)) = absurd (no_second_for None l ts h (for_at ts k m q))

  -- the table's
  abbrev Tabled : List Token → Heads → List Token → Type 0
  Tabled ts d rest = Derives sorts L TableHeads ts d rest

  from_to : (ts m : List Token) (t : List ℕ) (d : Heads) (rest : List Token) → Derives sorts L ToHead ts t m → BehindTo t m d rest → Tabled ts d rest
  unfolding TableHeads
  from_to ts m t d rest q (inl (e, r)) = inr (inl (t, subst (λ z. Derives sorts L ToHead ts t z) r q, e))
  from_to ts m t d rest q (inr (l, p, e)) = inr (inr (inr (inl (m, t, l, q, p, e))))

  from_for : (ts m : List Token) (l : Loop) (d : Heads) (rest : List Token) → Derives sorts L ForHead ts l m → BehindFor l m d rest → Tabled ts d rest
  unfolding TableHeads
  from_for ts m l d rest q (inl (e, r)) = inr (inr (inl (l, subst (λ z. Derives sorts L ForHead ts l z) r q, e)))
  from_for ts m l d rest q (inr (t, p, e)) = inr (inr (inr (inr (m, l, t, q, p, e))))

  from_none : (ts : List Token) (d : Heads) (rest : List Token) → heads None no_loop ≡ d → ts ≡ rest → Tabled ts d rest
  unfolding TableHeads
  from_none ts d rest e r = inl (e, r)

  tabled : (xs : List OneHead) (ts : List Token) (d : Heads) (rest : List Token) → Rest xs (heads None no_loop) ts d rest → Tabled ts d rest
  tabled [] ts d rest r = from_none ts d rest r.0 r.1
  tabled (x ∷ xs) ts d rest (m, h, a, more) = by (one_head ts x m a)
    where
      by : Either_head ts x m → Tabled ts d rest
      by (inl (u, q, e)) = from_to ts m u d rest q (behind_to xs u m d rest (subst (λ z. Rest xs (add_head (heads None no_loop) z) m d rest) (sym e) more))
      by (inr (k, q, e)) = from_for ts m k d rest q (behind_for xs k m d rest (subst (λ z. Rest xs (add_head (heads None no_loop) z) m d rest) (sym e) more))

  -- And back.

  abbrev Turned : Heads → List Token → Heads → List Token → Type 0
  Turned c ts d rest = (xs : List OneHead) × Rest xs c ts d rest

  to_turn : (l : MaybeLoop) (ts m : List Token) (t : List ℕ) (d : Heads) (rest : List Token) → Derives sorts L ToHead ts t m → Turned (heads (Some t) l) m d rest → Turned (heads None l) ts d rest
  to_turn l ts m t d rest q w = (head_to t ∷ w.0, (m, to_may l ts (to_at ts t m q), any_head ts (head_to t) m (inl (t, q, refl)), w.1))

  for_turn : (o : Option (List ℕ)) (ts m : List Token) (l : Loop) (d : Heads) (rest : List Token) → Derives sorts L ForHead ts l m → Turned (heads o (some_loop l)) m d rest → Turned (heads o no_loop) ts d rest
  for_turn o ts m l d rest q w = (head_for l ∷ w.0, (m, for_may o ts (for_at ts l m q), any_head ts (head_for l) m (inr (l, q, refl)), w.1))

  turned : (ts : List Token) (d : Heads) (rest : List Token) → Tabled ts d rest → Turned (heads None no_loop) ts d rest
  unfolding TableHeads
  turned ts d rest (inl (e, r)) = ([], (e, r))
  turned ts d rest (inr (inl (t, q, e))) = to_turn no_loop ts rest t d rest q ([], (e, refl))
  turned ts d rest (inr (inr (inl (l, q, e)))) = for_turn None ts rest l d rest q ([], (e, refl))
  turned ts d rest (inr (inr (inr (inl (m, t, l, q, p, e))))) = to_turn no_loop ts m t d rest q (for_turn (Some t) m rest l d rest p ([], (e, refl)))
  turned ts d rest (inr (inr (inr (inr (m, l, t, q, p, e))))) = for_turn None ts m l d rest q (to_turn (some_loop l) m rest t d rest p ([], (e, refl)))

  heads_there : (ts : List Token) (d : Heads) (rest : List Token) → Derives sorts L ApplyHeads ts d rest → Tabled ts d rest
  unfolding ApplyHeads
  heads_there ts d rest (m, c, xs, (e, r), more) = tabled xs ts d rest (subst (λ z. Rest xs (heads None no_loop) z d rest) (sym r) (subst (λ z. Rest xs z m d rest) (sym e) more))

  heads_back : (ts : List Token) (d : Heads) (rest : List Token) → Tabled ts d rest → Derives sorts L ApplyHeads ts d rest
  unfolding ApplyHeads
  heads_back ts d rest t = let w = turned ts d rest t in (ts, heads None no_loop, w.0, (refl, refl), w.1)

pub heads_are : (h : ℕ) → Same (Derives sorts (names h) ApplyHeads) (Derives sorts (names h) TableHeads)
heads_are h ts d rest = ((λ x. heads_there (names h) ts d rest x), (λ x. heads_back (names h) ts d rest x))
