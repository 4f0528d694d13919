-- Acts that are given to callers one after another.
use Rattle.std.proofs.Common.{◌≡◌, ◌≢◌, ◌<◌, ◌≤◌, ◌+◌, ◌%◌, ℕ, zero, suc, List, [], ◌∷◌, ◌++◌, length, map, filter, set, get_or, nat_eq, cond, Bool, true, false, refl, sym, ap, ◌∙◌, subst, arith, append_assoc, eq-eqb, eqb-true, true≢false, length-set}
use Rattle.std.proofs.lemmas.List.{append-nil}
use Rattle.run_meaning.specs.Dealing.{Taken, dealt, dealt_to, goes_to, lines_to}
use Rattle.run_meaning.specs.Turns.{Asked, from_on, of_index}

-- One list among others.

set_here : (ls : List (List Asked)) (k : ℕ) (as' : List Asked) → k < length ls → of_index k (set ls k as') ≡ as'
set_here [] k as' h = absurd (omega (arith, h))
set_here (l ∷ ls) zero as' h = refl
set_here (l ∷ ls) (suc k) as' h = set_here ls k as' (omega (arith, h))

set_elsewhere : (ls : List (List Asked)) (j k : ℕ) (as' : List Asked) → j ≢ k → of_index j (set ls k as') ≡ of_index j ls
set_elsewhere [] j k as' h = refl
set_elsewhere (l ∷ ls) zero zero as' h = absurd (h refl)
set_elsewhere (l ∷ ls) zero (suc k) as' h = refl
set_elsewhere (l ∷ ls) (suc j) zero as' h = refl
set_elsewhere (l ∷ ls) (suc j) (suc k) as' h = set_elsewhere ls j k as' (λ e. h (ap suc e))

-- lists are the same where each of them is
pub same_lists : (first n : ℕ) (f : ℕ → List Asked) (ls : List (List Asked)) → length ls ≡ n → ((k : ℕ) → k < n → of_index k ls ≡ f (first + k)) → ls ≡ map f (from_on first n)
same_lists first zero f [] many each = refl
same_lists first zero f (l ∷ ls) many each = absurd (omega (arith, many))
same_lists first (suc n) f [] many each = absurd (omega (arith, many))
same_lists first (suc n) f (l ∷ ls) many each =
    let here : first + 0 ≡ first = omega arith in
    ap (λ (x : List Asked). x ∷ ls) (each 0 (omega arith) ∙ ap f here)
    ∙ ap (λ (xs : List (List Asked)). f first ∷ xs)
    (same_lists (suc first) n f ls (omega (arith, many)) (λ k h. let next : first + suc k ≡ suc first + k = omega arith in each (suc k) (omega (arith, h)) ∙ ap f next))

-- one list more
pub one_list_more : (first n : ℕ) (f : ℕ → List Asked) → map f (from_on first (suc n)) ≡ map f (from_on first n) ++ f (first + n) ∷ []
one_list_more first zero f = let e : first ≡ first + 0 = omega arith in ap (λ k. f k ∷ []) e
one_list_more first (suc n) f =
    let e : suc first + n ≡ first + suc n = omega arith in
    ap (λ (xs : List (List Asked)). f first ∷ xs) (one_list_more (suc first) n f ∙ ap (λ k. map f (from_on (suc first) n) ++ f k ∷ []) e)

-- an empty list more, behind the first
pub next_list : (lines : List Asked) (callers : ℕ) (lists more : List (List Asked)) → 1 ≤ callers → more ≡ lists ++ [] ∷ [] → lists ≡ map (λ k. lines_to k lines) (from_on 0 callers) → more ≡ map (λ k. lines_to k lines) (from_on 0 (callers + 1))
next_list lines zero lists more some is so_far = absurd (omega (arith, some))
next_list lines (suc n) lists more some is so_far =
    let f : ℕ → List Asked = λ k. lines_to k lines in
    let z : suc n ≡ 0 + suc n = omega arith in
    let e : suc (suc n) ≡ suc n + 1 = omega arith in
    is ∙ ap (λ ls. ls ++ [] ∷ []) so_far ∙ ap (λ k. map f (from_on 0 (suc n)) ++ f k ∷ []) z ∙ sym (one_list_more 0 (suc n) f) ∙ ap (λ k. map f (from_on 0 k)) e

pub many_numbers : (first n : ℕ) → length (from_on first n) ≡ n
many_numbers first zero = refl
many_numbers first (suc n) = ap suc (many_numbers (suc first) n)

-- one act more in one of the lists, which are kept in some form
pub act_added : {Y : Type 0} (shown : Y → List Asked) (ys : List Y) (k : ℕ) (old new : Y) (a : Asked) → k < length ys → old ≡ get_or ys k old → shown new ≡ shown old ++ a ∷ [] → map shown (set ys k new) ≡ set (map shown ys) k (of_index k (map shown ys) ++ a ∷ [])
act_added shown [] k old new a h is grown = absurd (omega (arith, h))
act_added shown (y ∷ ys) zero old new a h is grown = ap (λ x. x ∷ map shown ys) (grown ∙ ap (λ z. shown z ++ a ∷ []) is)
act_added shown (y ∷ ys) (suc k) old new a h is grown = ap (λ xs. shown y ∷ xs) (act_added shown ys k old new a (omega (arith, h)) is grown)

-- Each act goes to one of the lists, by a number that it has.

-- what the lists have, with what each of them gets of the rest, is what they had with what each gets of all
pub record AreGiven {X : Type 0} (number : X → ℕ) (asked : X → Asked) (callers : ℕ) (first lists : List (List Asked)) (rest all : List X) : Type 0 where
  pub many : length lists ≡ callers
  pub each : (k : ℕ) → of_index k lists ++ map asked (filter (λ x. goes_to callers k (number x)) rest) ≡ of_index k first ++ map asked (filter (λ x. goes_to callers k (number x)) all)

module _ {X : Type 0} (number : X → ℕ) (asked : X → Asked) (callers : ℕ) where
  abbrev share : ℕ → List X → List Asked
  share k xs = map asked (filter (λ x. goes_to callers k (number x)) xs)

  pub none_given : (lists : List (List Asked)) (left all : List X) → length lists ≡ callers → left ≡ all → AreGiven number asked callers lists lists left all
  none_given lists left all many same = record { many = many; each = λ k. ap (λ xs. of_index k lists ++ share k xs) same }

  -- one more was given
  pub one_given : (first lists more : List (List Asked)) (x : X) (rest left all : List X) → left ≡ x ∷ rest → number x % callers < length lists
      → more ≡ set lists (number x % callers) (of_index (number x % callers) lists ++ asked x ∷ [])
      → AreGiven number asked callers first lists left all → AreGiven number asked callers first more rest all
  one_given first lists more x rest left all is within grown so_far = record {
    many = ap length grown ∙ length-set lists c (of_index c lists ++ asked x ∷ []) ∙ so_far.many;
    each = λ k. ap (λ ls. of_index k ls ++ share k rest) grown ∙ by k (nat_eq c k) refl ∙ ap (λ xs. of_index k lists ++ share k xs) (sym is) ∙ so_far.each k;
  }
    where
      c : ℕ
      c = number x % callers

      by : (k : ℕ) (t : Bool) → nat_eq c k ≡ t
          → of_index k (set lists c (of_index c lists ++ asked x ∷ [])) ++ share k rest ≡ of_index k lists ++ map asked (cond (nat_eq c k) (x ∷ filter (λ y. goes_to callers k (number y)) rest) (filter (λ y. goes_to callers k (number y)) rest))
      by k true q =
          let same : c ≡ k = eqb-true c k q in
          ap (λ as'. as' ++ share k rest) (subst (λ j. of_index j (set lists c (of_index c lists ++ asked x ∷ [])) ≡ of_index j lists ++ asked x ∷ []) same (set_here lists c (of_index c lists ++ asked x ∷ []) within))
          ∙ append_assoc (of_index k lists) (asked x ∷ []) (share k rest)
          ∙ ap (λ t. of_index k lists ++ map asked (cond t (x ∷ filter (λ y. goes_to callers k (number y)) rest) (filter (λ y. goes_to callers k (number y)) rest))) (sym q)
      by k false q =
          ap (λ as'. as' ++ share k rest) (set_elsewhere lists k c (of_index c lists ++ asked x ∷ []) (λ e. true≢false (sym (eq-eqb c k (sym e)) ∙ q)))
          ∙ ap (λ t. of_index k lists ++ map asked (cond t (x ∷ filter (λ y. goes_to callers k (number y)) rest) (filter (λ y. goes_to callers k (number y)) rest))) (sym q)

  -- all were given
  pub all_given : (first lists : List (List Asked)) (rest all : List X) → length rest ≡ 0 → AreGiven number asked callers first lists rest all → (k : ℕ) → of_index k lists ≡ of_index k first ++ share k all
  all_given first lists [] all none so_far k = sym (append-nil (of_index k lists)) ∙ so_far.each k
  all_given first lists (x ∷ rest) all none so_far k = absurd (omega (arith, none))

-- ticks as they are
pub as_they_are : (as' : List Asked) → map (λ (a : Asked). a) as' ≡ as'
as_they_are [] = refl
as_they_are (a ∷ as') = ap (λ (z : List Asked). a ∷ z) (as_they_are as')

-- What each caller takes.

row_of : (first n k : ℕ) (f : ℕ → List Asked) → k < n → of_index k (map f (from_on first n)) ≡ f (first + k)
row_of first zero k f h = absurd (omega (arith, h))
row_of first (suc n) zero f h = let e : first ≡ first + 0 = omega arith in ap f e
row_of first (suc n) (suc k) f h = let e : suc first + k ≡ first + suc k = omega arith in row_of (suc first) n k f (omega (arith, h)) ∙ ap f e

pub all_dealt : (callers : ℕ) (lines : List Asked) (reports : List Taken) (ticks : List Asked) (first second third : List (List Asked))
    → first ≡ map (λ k. lines_to k lines) (from_on 0 callers) → length third ≡ callers
    → ((k : ℕ) → of_index k second ≡ of_index k first ++ map (λ t. t.asked) (filter (λ t. goes_to callers k t.order) reports))
    → ((k : ℕ) → of_index k third ≡ of_index k second ++ filter (λ a. goes_to callers k a.checkable) ticks)
    → third ≡ dealt callers lines reports ticks
all_dealt callers lines reports ticks first second third begun many reported ticked =
    same_lists 0 callers (dealt_to callers lines reports ticks) third many (λ k h.
    let R : List Asked = map (λ (t : Taken). t.asked) (filter (λ (t : Taken). goes_to callers k t.order) reports) in
    let T : List Asked = filter (λ (a : Asked). goes_to callers k a.checkable) ticks in
    let z : 0 + k ≡ k = omega arith in
    ticked k
    ∙ ap (λ (as' : List Asked). as' ++ T) (reported k ∙ ap (λ (ls : List (List Asked)). of_index k ls ++ R) begun ∙ ap (λ (as' : List Asked). as' ++ R) (row_of 0 callers k (λ j. lines_to j lines) h ∙ ap (λ j. lines_to j lines) z))
    ∙ append_assoc (lines_to k lines) R T
    ∙ ap (dealt_to callers lines reports ticks) (sym z))
