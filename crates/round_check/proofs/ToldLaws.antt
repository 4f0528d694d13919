-- What is told makes a round, and each round is made so.
use Rattle.std.proofs.Common.{◌≡◌, ◌<◌, ◌≤◌, ◌+◌, ◌-◌, ℕ, zero, suc, List, [], ◌∷◌, ◌++◌, length, take, map, slice_get, nat_eq, cond, Bool, true, false, Some, None, Option, refl, sym, ap, ◌∙◌, subst, arith, eqb-true, eq-eqb, inl, inr, ◌⊎◌}
use Rattle.std.proofs.lemmas.Bool.{cases_lt}
use Rattle.std.proofs.lemmas.Bool.Decides.{nat_tests}
use Rattle.site_model.specs.declared.entry.Entry.{Entry}
use Rattle.site_model.specs.declared.event.Event.{Event}
use Rattle.site_model.specs.declared.sight.Sight.{Sight}
use Rattle.run_meaning.specs.Turns.{Asked, Histories, from_on, of_index}
use Rattle.run_meaning.specs.Acts.{Rules}
use Rattle.run_meaning.specs.Rounds.{entries_by, events_on, IsEntryFor, IsRound}
use Rattle.run_meaning.specs.Runs.{no_entries}
use Rattle.run_meaning.proofs.Lists.{get_map, within, length_map, length_from_on, of_index_past, one_at}
use Rattle.round_check.specs.declared.told.Told.{Told}
use Rattle.round_check.specs.Making.{told_of, told_on, made_from, then_made, AreParentsFirst}
use Rattle.round_check.specs.Walking.{done_on, is_own, entry_of_next, walks, is_walked, are_walked}
use Rattle.round_check.specs.Checked.{if_walked, round_told}
use Rattle.round_check.proofs.Growing.{all_at, all_so}
use Rattle.round_check.proofs.MakingSound.{IsPart, made_is_part, nothing_is_part}
use Rattle.round_check.proofs.MakingWhole.{all_made}
use Rattle.round_check.proofs.Following.{IsMet, walk_at, walk_rises, walk_so}

-- Callers.

pub get_from : (first many k : ℕ) → k < many → slice_get (from_on first many) k ≡ Some (first + k)
get_from first zero k h = absurd (omega (arith, h))
get_from first (suc many) zero h = let e : first ≡ first + 0 = omega arith in ap Some e
get_from first (suc many) (suc k) h = let e : suc first + k ≡ first + suc k = omega arith in get_from (suc first) many k (omega (arith, h)) ∙ ap Some e

pub is_from : (many i k : ℕ) → slice_get (from_on 0 many) i ≡ Some k → k < many
is_from many i k h =
    let w = within (from_on 0 many) i k h in
    let l = length_from_on 0 many in
    let e : k ≡ 0 + i = one_at (from_on 0 many) i k (0 + i) h (get_from 0 many i (omega (arith, w, l))) in
    omega (arith, w, l, e)

-- Events.

-- the event of an index is among those on its checkable, behind the ones before it
event_of : (as' : List Asked) (i : ℕ) (a : Asked) → slice_get as' i ≡ Some a → slice_get (events_on a.checkable as') (length (events_on a.checkable (take i as'))) ≡ Some a.event
event_of [] i a h = absurd cc
event_of (b ∷ bs) zero a h =
    let e : b ≡ a = cc in
    subst (λ z. slice_get (cond (nat_eq z.checkable a.checkable) (z.event ∷ events_on a.checkable bs) (events_on a.checkable bs)) 0 ≡ Some a.event) (sym e) (by (nat_eq a.checkable a.checkable) (eq-eqb a.checkable a.checkable refl))
  where
    by : (t : Bool) → t ≡ true → slice_get (cond t (a.event ∷ events_on a.checkable bs) (events_on a.checkable bs)) 0 ≡ Some a.event
    by true h = refl
    by false h = absurd cc
event_of (b ∷ bs) (suc i) a h = by (nat_eq b.checkable a.checkable) (event_of bs i a h)
  where
    by : (t : Bool) → slice_get (events_on a.checkable bs) (length (events_on a.checkable (take i bs))) ≡ Some a.event → slice_get (cond t (b.event ∷ events_on a.checkable bs) (events_on a.checkable bs)) (length (cond t (b.event ∷ events_on a.checkable (take i bs)) (events_on a.checkable (take i bs)))) ≡ Some a.event
    by true h = h
    by false h = h

-- an event on a checkable, behind so many others on it
record IsNth (as' : List Asked) (c n : ℕ) : Type 0 where
  index : ℕ
  asked : Asked
  at : slice_get as' index ≡ Some asked
  here : asked.checkable ≡ c
  nth : length (events_on c (take index as')) ≡ n

nth_on : (as' : List Asked) (c n : ℕ) → n < length (events_on c as') → IsNth as' c n
nth_on [] c n h = absurd (omega (arith, h))
nth_on (a ∷ as') c n h = by (nth_on as' c) (nat_eq a.checkable c) refl n h
  where
    behind_one : (b : Bool) → nat_eq a.checkable c ≡ b → (m : ℕ) → IsNth as' c m → (n : ℕ) → n ≡ length (cond b (a.event ∷ []) []) + m → IsNth (a ∷ as') c n
    behind_one b q m p n e = record {
      index = suc p.index;
      asked = p.asked;
      at = p.at;
      here = p.here;
      nth = ap (λ t. length (cond t (a.event ∷ events_on c (take p.index as')) (events_on c (take p.index as')))) q ∙ sum b (events_on c (take p.index as')) p.nth ∙ sym e;
    }
      where
        sum : (b : Bool) (vs : List Event) → length vs ≡ m → length (cond b (a.event ∷ vs) vs) ≡ length (cond b (a.event ∷ []) []) + m
        sum true vs h = omega (arith, h)
        sum false vs h = omega (arith, h)

    by : ((m : ℕ) → m < length (events_on c as') → IsNth as' c m) → (b : Bool) → nat_eq a.checkable c ≡ b → (n : ℕ) → n < length (cond b (a.event ∷ events_on c as') (events_on c as')) → IsNth (a ∷ as') c n
    by f true q zero h = record { index = 0; asked = a; at = refl; here = eqb-true a.checkable c q; nth = refl }
    by f true q (suc n) h = behind_one true q n (f n (omega (arith, h))) (suc n) (omega arith)
    by f false q n h = behind_one false q n (f n h) n (omega arith)

take_long : {A : Type 0} (n : ℕ) (xs : List A) → length xs ≤ n → take n xs ≡ xs
take_long zero [] h = refl
take_long zero (x ∷ xs) h = absurd (omega (arith, h))
take_long (suc n) [] h = refl
take_long (suc n) (x ∷ xs) h = ap (λ z. x ∷ z) (take_long n xs (omega (arith, h)))

eq_is : (a b : ℕ) → nat_eq a b ≡ true → a ≡ b
eq_is a b h = eqb-true a b h

module _ (r : Rules) (moment : ℕ) (before : Histories) (events : List (List Asked)) where
  -- What is made is a round.

  module _ (order : List Told) (round : Histories) (x : IsPart r moment before events order round) (walked : are_walked before events round ≡ true) where
    way : (k : ℕ) → k < length events → walks before round k [] (of_index k events) (λ _. 0) ≡ true
    way k lt = all_at (is_walked before round events) (from_on 0 (length events)) walked k k (get_from 0 (length events) k lt ∙ (let e : 0 + k ≡ k = omega arith in ap Some e))

    met : (k : ℕ) → k < length events → (i : ℕ) (a : Asked) → slice_get (of_index k events) i ≡ Some a → IsMet before round k (take i (of_index k events)) (λ _. 0) a
    met k lt i a at = walk_at before round k [] (of_index k events) (λ _. 0) (way k lt) i a at

    enough : (k c : ℕ) → k < length events → length (events_on c (of_index k events)) ≤ length (entries_by k (of_index c round))
    enough k c lt = by (cases_lt (length (entries_by k (of_index c round))) (length (events_on c (of_index k events))))
      where
        by : (length (entries_by k (of_index c round)) < length (events_on c (of_index k events))) ⊎ (length (events_on c (of_index k events)) ≤ length (entries_by k (of_index c round))) → length (events_on c (of_index k events)) ≤ length (entries_by k (of_index c round))
        by (inr le) = le
        by (inl less) =
            let n = length (entries_by k (of_index c round)) in
            let p = nth_on (of_index k events) c n less in
            let m = met k lt p.index p.asked p.at in
            let there : slice_get (entries_by k (of_index c round)) (length (events_on c (take p.index (of_index k events)))) ≡ Some m.entry = subst (λ z. slice_get (entries_by k (of_index z round)) (length (events_on z (take p.index (of_index k events)))) ≡ Some m.entry) p.here m.at in
            let w = within (entries_by k (of_index c round)) (length (events_on c (take p.index (of_index k events)))) m.entry there in
            absurd (omega (arith, w, p.nth))

    taken : (k c : ℕ) → k < length events → map (λ e. e.event) (entries_by k (of_index c round)) ≡ events_on c (of_index k events)
    taken k c lt = x.taken k c ∙ take_long (length (entries_by k (of_index c round))) (events_on c (of_index k events)) (enough k c lt)

    -- a caller that has an event is one of them
    one_of_them : (k i : ℕ) (e : Entry) → IsEntryFor (of_index k events) round k i e → k < length events
    one_of_them k i e p = by (cases_lt k (length events))
      where
        by : (k < length events) ⊎ (length events ≤ k) → k < length events
        by (inl lt) = lt
        by (inr le) = let none : slice_get [] i ≡ Some p.asked = ap (λ z. slice_get z i) (sym (of_index_past events k le)) ∙ p.at in absurd cc

    own : (k i m : ℕ) (e : Entry) (y : Sight) → IsEntryFor (of_index k events) round k i e → slice_get e.sights m ≡ Some y → length (entries_by k (take (y.count - length (of_index y.checkable before)) (of_index y.checkable round))) ≡ length (events_on y.checkable (take i (of_index k events)))
    own k i m e y p h =
        let o = met k (one_of_them k i e p) i p.asked p.at in
        let same : o.entry ≡ e = (let w : Some o.entry ≡ Some e = sym o.at ∙ p.made in cc) in
        eq_is (length (entries_by k (take (y.count - length (of_index y.checkable before)) (of_index y.checkable round)))) (done_on (take i (of_index k events)) y.checkable)
        (o.own m y (ap (λ (z : Entry). slice_get z.sights m) same ∙ h))

    pub told_is_round : IsRound r moment before events round
    told_is_round = record {
      whole = x.whole;
      taken = taken;
      callers = x.callers;
      made = x.made;
      ancestors = x.ancestors;
      seen = x.seen;
      rising = λ k i j m n e f y z lt p q u v same. walk_rises before round k [] (of_index k events) (λ _. 0) (way k (one_of_them k i e p)) i j p.asked q.asked e f m n y z lt p.at q.at p.made q.made u v same;
      own = own;
    }

  pub sound : (order : List Told) (round : Histories) → round_told r moment before events order ≡ Some round → IsRound r moment before events round × ((c : ℕ) → map (told_of c) (of_index c round) ≡ told_on c order)
  sound order round h = by (made_from r moment before events order (no_entries r.site)) refl h
    where
      so : (part : Histories) (b : Bool) → made_from r moment before events order (no_entries r.site) ≡ Some part → are_walked before events part ≡ b → cond b (Some part) None ≡ Some round → IsRound r moment before events round × ((c : ℕ) → map (told_of c) (of_index c round) ≡ told_on c order)
      so part false q w g = absurd cc
      so part true q w g =
          let e : part ≡ round = cc in
          let x : IsPart r moment before events order part = made_is_part r moment before events [] order (no_entries r.site) part (nothing_is_part r moment before events) q in
          subst (λ z. IsRound r moment before events z × ((c : ℕ) → map (told_of c) (of_index c z) ≡ told_on c order)) e (told_is_round order part x w, x.told)

      by : (o : Option Histories) → made_from r moment before events order (no_entries r.site) ≡ o → then_made o (if_walked before events) ≡ Some round → IsRound r moment before events round × ((c : ℕ) → map (told_of c) (of_index c round) ≡ told_on c order)
      by None q g = absurd cc
      by (Some part) q g = so part (are_walked before events part) q refl g

  -- A round is made.

  module _ (round : Histories) (x : IsRound r moment before events round) where
    has_entry : (k : ℕ) → k < length events → (i : ℕ) (a : Asked) → slice_get (of_index k events) i ≡ Some a → (e : Entry) × (entry_of_next round k (take i (of_index k events)) a ≡ Some e)
    has_entry k lt i a at =
        let n = length (events_on a.checkable (take i (of_index k events))) in
        let (e, there, is) = get_map (λ (e : Entry). e.event) (entries_by k (of_index a.checkable round)) n a.event (ap (λ z. slice_get z n) (x.taken k a.checkable lt) ∙ event_of (of_index k events) i a at) in
        (e, there)

    for : (k i : ℕ) (a : Asked) (e : Entry) → slice_get (of_index k events) i ≡ Some a → entry_of_next round k (take i (of_index k events)) a ≡ Some e → IsEntryFor (of_index k events) round k i e
    for k i a e at made = record { asked = a; at = at; made = made }

    walked_so : (k : ℕ) → k < length events → is_walked before round events k ≡ true
    walked_so k lt =
        walk_so before round k (of_index k events) (has_entry k lt)
        (λ i m a e y at made h. eq-eqb (length (entries_by k (take (y.count - length (of_index y.checkable before)) (of_index y.checkable round)))) (done_on (take i (of_index k events)) y.checkable) (x.own k i m e y (for k i a e at made) h))
        (λ i j m n a b e f y z less at bt made next u v same. x.rising k i j m n e f y z less (for k i a e at made) (for k j b f bt next) u v same)
        [] (of_index k events) (λ _. 0) refl (λ j n b f y le bt next v. omega arith)

    pub all_walked : are_walked before events round ≡ true
    all_walked = all_so (is_walked before round events) (from_on 0 (length events)) (λ i k h. walked_so k (is_from (length events) i k h))

  pub complete : (order : List Told) (round : Histories) → AreParentsFirst r.ancestors order → ((c : ℕ) → told_on c order ≡ map (told_of c) (of_index c round)) → IsRound r moment before events round → round_told r moment before events order ≡ Some round
  complete order round first same x =
      ap (λ o. then_made o (if_walked before events)) (all_made r moment before events round x order first same)
      ∙ ap (λ b. cond b (Some round) None) (all_walked round x)
