-- The way of a caller by the lists of its entries is its way through the round.
use Rattle.std.proofs.Common.{◌≡◌, ◌<◌, ◌≤◌, ◌+◌, ◌-◌, ℕ, zero, suc, List, [], ◌∷◌, ◌++◌, length, take, map, filter, slice_get, option_map, nat_eq, nat_le, nat_lt, not, cond, Bool, true, false, ◌&&◌, ◌||◌, Some, None, Option, refl, sym, ap, ◌∙◌, subst, arith, length-append, eqb-true, eq-eqb, inl, inr, ◌⊎◌}
use Rattle.std.proofs.lemmas.Bool.{cases_lt}
use Rattle.std.proofs.lemmas.List.{append-nil}
use Rattle.std.proofs.lemmas.Bool.Decides.{nat_tests}
use Rattle.std.specs.List.{list_all}
use Rattle.site_model.specs.declared.entry.Entry.{Entry}
use Rattle.site_model.specs.declared.event.Event.{Event}
use Rattle.site_model.specs.declared.sight.Sight.{Sight}
use Rattle.run_meaning.specs.Turns.{Asked, Histories, of_index}
use Rattle.run_meaning.specs.Rounds.{entries_by, events_on}
use Rattle.run_meaning.proofs.Lists.{get_of_map, get_suc_none, get_within, within, one_at, length_map, keeps_append, kept_at, keeps_fewer, keeps_rising, place_of as placed, take_next}
use Rattle.round_check.specs.declared.walking.Place.{Place}
use Rattle.round_check.specs.Walking.{done_on, is_own, raised, fits, entry_of_next, walk_by, walks}
use Rattle.round_check.specs.Ways.{place_of, is_within, are_within, sees, sees_all, sights_in, next_place, one_more, is_way}

-- Entries of a caller among the first ones.

lt_so : (a b : ℕ) → a < b → nat_lt a b ≡ true
lt_so a b h = grind (arith, nat_tests)

lt_not : (a b : ℕ) → b ≤ a → nat_lt a b ≡ false
lt_not a b h = grind (arith, nat_tests)

le_so : (a b : ℕ) → a ≤ b → nat_le a b ≡ true
le_so a b h = grind (arith, nat_tests)

le_not : (a b : ℕ) → b < a → nat_le a b ≡ false
le_not a b h = grind (arith, nat_tests)

eq_not : (a b : ℕ) → (a ≡ b → ⊥) → nat_eq a b ≡ false
eq_not a b n = by (nat_eq a b) refl
  where
    by : (t : Bool) → nat_eq a b ≡ t → t ≡ false
    by true q = absurd (n (eqb-true a b q))
    by false q = refl

past_and_next : (n c : ℕ) → ((nat_eq n 0 || nat_lt (n - 1) c) && not (nat_lt n c)) ≡ nat_eq c n
past_and_next zero c =
    let z : nat_eq 0 0 ≡ true = eq-eqb 0 0 refl in
    ap (λ b. (b || nat_lt (0 - 1) c) && not (nat_lt 0 c)) z ∙ by (cases_lt 0 c)
  where
    by : (0 < c) ⊎ (c ≤ 0) → not (nat_lt 0 c) ≡ nat_eq c 0
    by (inl lt) = ap not (lt_so 0 c lt) ∙ sym (eq_not c 0 (λ e. omega (arith, e, lt)))
    by (inr le) = ap not (lt_not 0 c le) ∙ sym (eq-eqb c 0 (omega (arith, le)))
past_and_next (suc n) c =
    let e : suc n - 1 ≡ n = omega arith in
    let z : nat_eq (suc n) 0 ≡ false = eq_not (suc n) 0 (λ e. omega (arith, e)) in
    ap (λ m. (nat_eq (suc n) 0 || nat_lt m c) && not (nat_lt (suc n) c)) e ∙ ap (λ b. (b || nat_lt n c) && not (nat_lt (suc n) c)) z ∙ by (cases_lt n c)
  where
    by : (n < c) ⊎ (c ≤ n) → (nat_lt n c && not (nat_lt (suc n) c)) ≡ nat_eq c (suc n)
    by (inl lt) = ap (λ b. b && not (nat_lt (suc n) c)) (lt_so n c lt) ∙ more (cases_lt (suc n) c)
      where
        more : (suc n < c) ⊎ (c ≤ suc n) → not (nat_lt (suc n) c) ≡ nat_eq c (suc n)
        more (inl far) = ap not (lt_so (suc n) c far) ∙ (sym (eq_not c (suc n) (λ e. omega (arith, e, far))))
        more (inr le) = ap not (lt_not (suc n) c le) ∙ sym (eq-eqb c (suc n) (omega (arith, lt, le)))
    by (inr le) = ap (λ b. b && not (nat_lt (suc n) c)) (lt_not n c le) ∙ (sym (eq_not c (suc n) (λ e. omega (arith, e, le))))

get_map_option : {A B : Type 0} (f : A → B) (xs : List A) (n : ℕ) → slice_get (map f xs) n ≡ option_map f (slice_get xs n)
get_map_option f [] n = refl
get_map_option f (x ∷ xs) zero = refl
get_map_option f (x ∷ xs) (suc n) = get_map_option f xs n

module _ (k b : ℕ) (es : List Entry) (numbers : (j : ℕ) (e : Entry) → slice_get es j ≡ Some e → e.number ≡ b + suc j) (count : ℕ) where
  abbrev mine : Entry → Bool
  mine e = nat_eq e.caller k

  abbrev m : ℕ
  m = count - b

  abbrev c : ℕ
  c = length (filter mine (take m es))

  one_within : (j : ℕ) → is_within count (slice_get (map place_of (filter mine es)) j) ≡ nat_lt j c
  one_within j = by (cases_lt j (length (filter mine es)))
    where
      by : (j < length (filter mine es)) ⊎ (length (filter mine es) ≤ j) → is_within count (slice_get (map place_of (filter mine es)) j) ≡ nat_lt j c
      by (inr le) =
          let few = keeps_fewer mine m es in
          ap (is_within count) (get_suc_none (map place_of (filter mine es)) j (subst (λ z. z ≤ j) (sym (length_map place_of (filter mine es))) le))
          ∙ sym (lt_not j c (omega (arith, few, le)))
      by (inl lt) =
          let p = placed mine es j lt in
          let at : slice_get (filter mine es) j ≡ Some p.item = ap (slice_get (filter mine es)) (sym p.nth) ∙ kept_at mine es p.index p.item p.at p.here in
          let number = numbers p.index p.item p.at in
          ap (is_within count) (get_of_map place_of (filter mine es) j p.item at) ∙ which p.index p.item p.at p.here p.nth number (cases_lt j c)
        where
          which : (i : ℕ) (e : Entry) → slice_get es i ≡ Some e → mine e ≡ true → length (filter mine (take i es)) ≡ j → e.number ≡ b + suc i → (j < c) ⊎ (c ≤ j) → nat_le e.number count ≡ nat_lt j c
          which i e at here nth number (inl less) = le_so e.number count (near (cases_lt i m)) ∙ sym (lt_so j c less)
            where
              near : (i < m) ⊎ (m ≤ i) → e.number ≤ count
              near (inl lt) = omega (arith, lt, number)
              near (inr le) = absurd (let r = keeps_rising mine m i es le in omega (arith, r, nth, less))
          which i e at here nth number (inr more) = le_not e.number count (far (cases_lt i m)) ∙ sym (lt_not j c more)
            where
              far : (i < m) ⊎ (m ≤ i) → count < e.number
              far (inr le) = omega (arith, le, number)
              far (inl lt) =
                  let r = keeps_rising mine (suc i) m es (omega (arith, lt)) in
                  let t : filter mine (take (suc i) es) ≡ filter mine (take i es) ++ e ∷ [] = ap (filter mine) (take_next es i e at) ∙ keeps_append mine (take i es) (e ∷ []) ∙ ap (λ q. filter mine (take i es) ++ cond q (e ∷ []) []) here in
                  let l = ap length t in
                  let n = length-append (filter mine (take i es)) (e ∷ []) in
                  let one : length (e ∷ []) ≡ 1 = omega arith in
                  absurd (omega (arith, r, l, n, nth, more, one))

  pub within_is : (n : ℕ) → are_within (map place_of (filter mine es)) n count ≡ nat_eq c n
  within_is n =
      ap (λ t. (nat_eq n 0 || t) && not (is_within count (slice_get (map place_of (filter mine es)) n))) (one_within (n - 1))
      ∙ ap (λ t. (nat_eq n 0 || nat_lt (n - 1) c) && not t) (one_within n)
      ∙ past_and_next n c

-- The ways.

all_same : {A : Type 0} (p q : A → Bool) (xs : List A) → ((x : A) → p x ≡ q x) → list_all p xs ≡ list_all q xs
all_same p q [] h = refl
all_same p q (x ∷ xs) h = ap (λ b. b && list_all p xs) (h x) ∙ ap (λ b. q x && b) (all_same p q xs h)

pub events_append : (c : ℕ) (xs ys : List Asked) → events_on c (xs ++ ys) ≡ events_on c xs ++ events_on c ys
events_append c [] ys = refl
events_append c (x ∷ xs) ys = by (nat_eq x.checkable c) (events_append c xs ys)
  where
    by : (b : Bool) → events_on c (xs ++ ys) ≡ events_on c xs ++ events_on c ys → cond b (x.event ∷ events_on c (xs ++ ys)) (events_on c (xs ++ ys)) ≡ cond b (x.event ∷ events_on c xs) (events_on c xs) ++ events_on c ys
    by true h = ap (λ z. x.event ∷ z) h
    by false h = h

-- one event more
done_more : (done : List Asked) (a : Asked) (n q : ℕ) → n ≡ done_on done q → cond (nat_eq a.checkable q) (suc n) n ≡ done_on (done ++ a ∷ []) q
done_more done a n q is =
    by (nat_eq a.checkable q) ∙ sym (ap length (events_append q done (a ∷ [])))
  where
    by : (b : Bool) → cond b (suc n) n ≡ length (events_on q done ++ cond b (a.event ∷ []) [])
    by true = let l = length-append (events_on q done) (a.event ∷ []) in let one : length (a.event ∷ []) ≡ 1 = omega arith in omega (arith, is, l, one)
    by false = let l = ap length (append-nil (events_on q done)) in omega (arith, is, l)

module _ (before round : Histories) (k : ℕ) (own : ℕ → List Place) (own_is : (p : ℕ) → own p ≡ map place_of (entries_by k (of_index p round)))
    (numbers : (p j : ℕ) (e : Entry) → slice_get (of_index p round) j ≡ Some e → e.number ≡ length (of_index p before) + suc j) where
  sees_is : (so_far : List Asked) (done : ℕ → ℕ) (last : ℕ → ℕ) → ((q : ℕ) → done q ≡ done_on so_far q) → (x : Sight) → sees own done last x ≡ (is_own before round k so_far x && nat_le (last x.checkable) x.count)
  sees_is so_far done last is x =
      let p = x.checkable in
      ap (λ ps. are_within ps (done p) x.count && nat_le (last p) x.count) (own_is p)
      ∙ ap (λ n. are_within (map place_of (entries_by k (of_index p round))) n x.count && nat_le (last p) x.count) (is p)
      ∙ ap (λ b. b && nat_le (last p) x.count) (within_is k (length (of_index p before)) (of_index p round) (numbers p) x.count (done_on so_far p))

  pub way_is : (acts so_far : List Asked) (done : ℕ → ℕ) (last : ℕ → ℕ) → ((q : ℕ) → done q ≡ done_on so_far q) → is_way own done last acts ≡ walks before round k so_far acts last
  way_is [] so_far done last is = refl
  way_is (a ∷ acts) so_far done last is =
      ap (λ o. sees_all own done last o && is_way own (one_more a.checkable done) (raised (sights_in o) last) acts) next_is
      ∙ by (entry_of_next round k so_far a) (λ more. way_is acts (so_far ++ a ∷ []) (one_more a.checkable done) more (λ q. done_more so_far a (done q) q (is q)))
    where
      next_is : next_place own done a.checkable ≡ option_map place_of (entry_of_next round k so_far a)
      next_is =
          ap (λ ps. slice_get ps (done a.checkable)) (own_is a.checkable)
          ∙ ap (slice_get (map place_of (entries_by k (of_index a.checkable round)))) (is a.checkable)
          ∙ get_map_option place_of (entries_by k (of_index a.checkable round)) (done_on so_far a.checkable)

      by : (o : Option Entry) → ((more : ℕ → ℕ) → is_way own (one_more a.checkable done) more acts ≡ walks before round k (so_far ++ a ∷ []) acts more)
          → (sees_all own done last (option_map place_of o) && is_way own (one_more a.checkable done) (raised (sights_in (option_map place_of o)) last) acts) ≡ walk_by before round k so_far last (λ more. walks before round k (so_far ++ a ∷ []) acts more) o
      by None rest = refl
      by (Some e) rest =
          ap (λ b. b && is_way own (one_more a.checkable done) (raised e.sights last) acts) (all_same (sees own done last) (λ x. is_own before round k so_far x && nat_le (last x.checkable) x.count) e.sights (sees_is so_far done last is))
          ∙ ap (λ b. fits before round k so_far last e && b) (rest (raised e.sights last))
