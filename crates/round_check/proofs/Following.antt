-- The ways of callers are followed.
use Rattle.std.proofs.Common.{◌≡◌, ◌<◌, ◌≤◌, ◌+◌, ◌-◌, ℕ, zero, suc, max, List, [], ◌∷◌, ◌++◌, length, take, drop, map, filter, slice_get, nat_eq, nat_le, cond, Bool, true, false, ◌&&◌, Some, None, Option, refl, sym, ap, ◌∙◌, subst, arith, length-append, append_assoc, take_at, eqb-true, eq-eqb, inl, inr, ◌⊎◌}
use Rattle.std.proofs.lemmas.List.{append-nil}
use Rattle.std.proofs.lemmas.Bool.Decides.{nat_tests}
use Rattle.std.specs.List.{list_all}
use Rattle.site_model.specs.declared.entry.Entry.{Entry}
use Rattle.site_model.specs.declared.event.Event.{Event}
use Rattle.site_model.specs.declared.sight.Sight.{Sight}
use Rattle.run_meaning.specs.Turns.{Asked, Histories, of_index}
use Rattle.run_meaning.specs.Rounds.{entries_by, events_on, IsEntryFor}
use Rattle.run_meaning.proofs.Lists.{get_at, one_at}
use Rattle.round_check.specs.Walking.{done_on, is_own, raised, fits, entry_of_next, walk_by, walks}
use Rattle.round_check.proofs.Growing.{both_left, both_right, both_so, all_at, all_so}
use Rattle.round_check.proofs.MakingSound.{le_is}

-- Numbers.

le_max_left : (a b : ℕ) → a ≤ max a b
le_max_left a b = grind (arith, nat_tests)

le_max_right : (a b : ℕ) → b ≤ max a b
le_max_right a b = grind (arith, nat_tests)

max_most : (a b n : ℕ) → a ≤ n → b ≤ n → max a b ≤ n
max_most a b n h k = grind (arith, nat_tests)

-- What was seen at most.

abbrev with_sight : Sight → (ℕ → ℕ) → ℕ → ℕ
with_sight x last q = cond (nat_eq x.checkable q) (max (last q) x.count) (last q)

no_less : (x : Sight) (last : ℕ → ℕ) (q : ℕ) → last q ≤ with_sight x last q
no_less x last q = by (nat_eq x.checkable q)
  where
    by : (b : Bool) → last q ≤ cond b (max (last q) x.count) (last q)
    by true = le_max_left (last q) x.count
    by false = omega arith

pub raised_least : (xs : List Sight) (last : ℕ → ℕ) (p : ℕ) → last p ≤ raised xs last p
raised_least [] last p = omega arith
raised_least (x ∷ xs) last p =
    let a = no_less x last p in
    let b = raised_least xs (with_sight x last) p in
    omega (arith, a, b)

pub raised_counts : (xs : List Sight) (last : ℕ → ℕ) (m : ℕ) (x : Sight) → slice_get xs m ≡ Some x → x.count ≤ raised xs last x.checkable
raised_counts [] last m x h = absurd cc
raised_counts (y ∷ xs) last zero x h =
    let e : y ≡ x = cc in
    let p = x.checkable in
    let here : with_sight y last p ≡ max (last p) x.count = ap (λ (z : Sight). with_sight z last p) e ∙ ap (λ b. cond b (max (last p) x.count) (last p)) (eq-eqb p p refl) in
    let a = raised_least xs (with_sight y last) p in
    let b = le_max_right (last p) x.count in
    omega (arith, here, a, b)
raised_counts (y ∷ xs) last (suc m) x h = raised_counts xs (with_sight y last) m x h

pub raised_most : (xs : List Sight) (last : ℕ → ℕ) (p n : ℕ) → last p ≤ n → ((m : ℕ) (x : Sight) → slice_get xs m ≡ Some x → x.checkable ≡ p → x.count ≤ n) → raised xs last p ≤ n
raised_most [] last p n h k = h
raised_most (x ∷ xs) last p n h k = raised_most xs (with_sight x last) p n (by (nat_eq x.checkable p) refl) (λ m. k (suc m))
  where
    by : (b : Bool) → nat_eq x.checkable p ≡ b → cond b (max (last p) x.count) (last p) ≤ n
    by true q = max_most (last p) x.count n h (k 0 x refl (eqb-true x.checkable p q))
    by false q = h

module _ (before round : Histories) (k : ℕ) where
  -- the entry of an event, which fits there
  pub record IsMet (done : List Asked) (last : ℕ → ℕ) (a : Asked) : Type 0 where
    pub entry : Entry
    pub at : entry_of_next round k done a ≡ Some entry
    pub own : (m : ℕ) (x : Sight) → slice_get entry.sights m ≡ Some x → is_own before round k done x ≡ true
    pub above : (m : ℕ) (x : Sight) → slice_get entry.sights m ≡ Some x → last x.checkable ≤ x.count

  -- and the way from there on
  pub record IsStep (done : List Asked) (a : Asked) (rest : List Asked) (last : ℕ → ℕ) : Type 0 where
    pub met : IsMet done last a
    pub more : walks before round k (done ++ a ∷ []) rest (raised met.entry.sights last) ≡ true

  pub step : (done : List Asked) (a : Asked) (rest : List Asked) (last : ℕ → ℕ) → walks before round k done (a ∷ rest) last ≡ true → IsStep done a rest last
  step done a rest last h = by (entry_of_next round k done a) refl h
    where
      by : (o : Option Entry) → entry_of_next round k done a ≡ o → walk_by before round k done last (λ more. walks before round k (done ++ a ∷ []) rest more) o ≡ true → IsStep done a rest last
      by None q g = absurd cc
      by (Some e) q g =
          let all = both_left (fits before round k done last e) (walks before round k (done ++ a ∷ []) rest (raised e.sights last)) g in
          let each : (m : ℕ) (x : Sight) → slice_get e.sights m ≡ Some x → (is_own before round k done x && nat_le (last x.checkable) x.count) ≡ true = λ m x at. all_at (λ x. is_own before round k done x && nat_le (last x.checkable) x.count) e.sights all m x at in
          record {
            met = record {
              entry = e;
              at = q;
              own = λ m x at. both_left (is_own before round k done x) (nat_le (last x.checkable) x.count) (each m x at);
              above = λ m x at. le_is (last x.checkable) x.count (both_right (is_own before round k done x) (nat_le (last x.checkable) x.count) (each m x at));
            };
            more = both_right (fits before round k done last e) (walks before round k (done ++ a ∷ []) rest (raised e.sights last)) g;
          }

  pub walk_at : (done rest : List Asked) (last : ℕ → ℕ) → walks before round k done rest last ≡ true → (i : ℕ) (a : Asked) → slice_get rest i ≡ Some a → IsMet (done ++ take i rest) last a
  walk_at done [] last h i a at = absurd cc
  walk_at done (b ∷ rest) last h zero a at =
      let e : b ≡ a = cc in
      let s = step done b rest last h in
      subst (λ z. IsMet z last a) (sym (append-nil done)) (subst (IsMet done last) e s.met)
  walk_at done (b ∷ rest) last h (suc i) a at =
      let s = step done b rest last h in
      let m = walk_at (done ++ b ∷ []) rest (raised s.met.entry.sights last) s.more i a at in
      subst (λ z. IsMet z last a) (append_assoc done (b ∷ []) (take i rest))
      (record { entry = m.entry; at = m.at; own = m.own; above = λ n x g. let q = m.above n x g in let w = raised_least s.met.entry.sights last x.checkable in omega (arith, q, w) })

  one_entry : (done : List Asked) (a : Asked) (e f : Entry) → entry_of_next round k done a ≡ Some e → entry_of_next round k done a ≡ Some f → e ≡ f
  one_entry done a e f h g = let w : Some e ≡ Some f = sym h ∙ g in cc

  pub walk_rises : (done rest : List Asked) (last : ℕ → ℕ) → walks before round k done rest last ≡ true → (i j : ℕ) (a b : Asked) (e f : Entry) (m n : ℕ) (x y : Sight) → i < j → slice_get rest i ≡ Some a → slice_get rest j ≡ Some b
      → entry_of_next round k (done ++ take i rest) a ≡ Some e → entry_of_next round k (done ++ take j rest) b ≡ Some f → slice_get e.sights m ≡ Some x → slice_get f.sights n ≡ Some y → x.checkable ≡ y.checkable → x.count ≤ y.count
  walk_rises done [] last h i j a b e f m n x y lt p q made next u v same = absurd cc
  walk_rises done (c ∷ rest) last h zero zero a b e f m n x y lt p q made next u v same = absurd (omega (arith, lt))
  walk_rises done (c ∷ rest) last h zero (suc j) a b e f m n x y lt p q made next u v same =
      let s = step done c rest last h in
      let is : c ≡ a = cc in
      let here : entry_of_next round k done a ≡ Some s.met.entry = ap (entry_of_next round k done) (sym is) ∙ s.met.at in
      let made_here : entry_of_next round k done a ≡ Some e = ap (λ z. entry_of_next round k z a) (sym (append-nil done)) ∙ made in
      let first : e ≡ s.met.entry = one_entry done a e s.met.entry made_here here in
      let last_at = raised s.met.entry.sights last in
      let later = walk_at (done ++ c ∷ []) rest last_at s.more j b q in
      let next_there : entry_of_next round k ((done ++ c ∷ []) ++ take j rest) b ≡ Some f = ap (λ z. entry_of_next round k z b) (append_assoc done (c ∷ []) (take j rest)) ∙ next in
      let second : f ≡ later.entry = one_entry ((done ++ c ∷ []) ++ take j rest) b f later.entry next_there later.at in
      let low = raised_counts s.met.entry.sights last m x (ap (λ (z : Entry). slice_get z.sights m) (sym first) ∙ u) in
      let high = later.above n y (ap (λ (z : Entry). slice_get z.sights n) (sym second) ∙ v) in
      let eq : raised s.met.entry.sights last x.checkable ≡ raised s.met.entry.sights last y.checkable = ap (raised s.met.entry.sights last) same in
      omega (arith, low, high, eq)
  walk_rises done (c ∷ rest) last h (suc i) zero a b e f m n x y lt p q made next u v same = absurd (omega (arith, lt))
  walk_rises done (c ∷ rest) last h (suc i) (suc j) a b e f m n x y lt p q made next u v same =
      let s = step done c rest last h in
      walk_rises (done ++ c ∷ []) rest (raised s.met.entry.sights last) s.more i j a b e f m n x y (omega (arith, lt)) p q
      (ap (λ z. entry_of_next round k z a) (append_assoc done (c ∷ []) (take i rest)) ∙ made) (ap (λ z. entry_of_next round k z b) (append_assoc done (c ∷ []) (take j rest)) ∙ next) u v same

  module _ (events : List Asked)
      (each : (i : ℕ) (a : Asked) → slice_get events i ≡ Some a → (e : Entry) × (entry_of_next round k (take i events) a ≡ Some e))
      (own : (i m : ℕ) (a : Asked) (e : Entry) (x : Sight) → slice_get events i ≡ Some a → entry_of_next round k (take i events) a ≡ Some e → slice_get e.sights m ≡ Some x → is_own before round k (take i events) x ≡ true)
      (rising : (i j m n : ℕ) (a b : Asked) (e f : Entry) (x y : Sight) → i < j → slice_get events i ≡ Some a → slice_get events j ≡ Some b → entry_of_next round k (take i events) a ≡ Some e → entry_of_next round k (take j events) b ≡ Some f
      → slice_get e.sights m ≡ Some x → slice_get f.sights n ≡ Some y → x.checkable ≡ y.checkable → x.count ≤ y.count) where
    -- so much was seen of checkables at most before this event
    abbrev IsLow : ℕ → (ℕ → ℕ) → Type 0
    IsLow i last = (j n : ℕ) (b : Asked) (f : Entry) (y : Sight) → i ≤ j → slice_get events j ≡ Some b → entry_of_next round k (take j events) b ≡ Some f → slice_get f.sights n ≡ Some y → last y.checkable ≤ y.count

    pub walk_so : (done rest : List Asked) (last : ℕ → ℕ) → events ≡ done ++ rest → IsLow (length done) last → walks before round k done rest last ≡ true
    walk_so done [] last whole low = refl
    walk_so done (a ∷ rest) last whole low =
        let i = length done in
        let at : slice_get events i ≡ Some a = ap (λ z. slice_get z i) whole ∙ get_at done rest a in
        let cut : take i events ≡ done = ap (take i) whole ∙ take_at done (a ∷ rest) i refl in
        let (e, made) = each i a at in
        let here : entry_of_next round k done a ≡ Some e = ap (λ z. entry_of_next round k z a) (sym cut) ∙ made in
        let len : length (done ++ a ∷ []) ≡ suc i = length-append done (a ∷ []) ∙ omega arith in
        let next : IsLow (length (done ++ a ∷ [])) (raised e.sights last) = λ j n b f y le p q v. raised_most e.sights last y.checkable y.count (low j n b f y (omega (arith, le, len)) p q v) (λ m x u same. rising i j m n a b e f x y (omega (arith, le, len)) at p made q u v same) in
        let more = walk_so (done ++ a ∷ []) rest (raised e.sights last) (whole ∙ sym (append_assoc done (a ∷ []) rest)) next in
        let fit : fits before round k done last e ≡ true = all_so (λ x. is_own before round k done x && nat_le (last x.checkable) x.count) e.sights (λ m x u. both_so (is_own before round k done x) (nat_le (last x.checkable) x.count) (ap (λ z. is_own before round k z x) (sym cut) ∙ own i m a e x at made u) (so_le (last x.checkable) x.count (low i m a e x (omega arith) at made u))) in
        ap (walk_by before round k done last (λ more. walks before round k (done ++ a ∷ []) rest more)) here
        ∙ both_so (fits before round k done last e) (walks before round k (done ++ a ∷ []) rest (raised e.sights last)) fit more
      where
        so_le : (a b : ℕ) → a ≤ b → nat_le a b ≡ true
        so_le a b h = grind (arith, nat_tests)
