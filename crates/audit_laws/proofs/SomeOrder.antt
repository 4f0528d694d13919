-- Where a round has events, all that its entries say can be taken.
use Rattle.std.proofs.Common.{◌≡◌, ◌+◌, ◌-◌, ◌*◌, ◌/◌, ◌^◌, ◌<◌, ◌≤◌, ℕ, zero, suc, nat_eq, nat_lt, Bool, true, false, cond, List, [], ◌∷◌, ◌++◌, length, take, filter, slice_get, refl, sym, ap, ◌∙◌, subst, arith, Some, ◌⊎◌, inl, inr, eqb-true, eq-eqb, length-append}
use Rattle.std.proofs.lemmas.Bool.{cases_lt}
use Rattle.std.proofs.lemmas.Bool.Decides.{nat_tests}
use Rattle.std.proofs.lemmas.Nat.{div-mul-add}
use native.Mathlib.Nat.{mul-le-mul_right, suc-mul}
use Rattle.site_model.specs.declared.entry.Entry.{Entry}
use Rattle.site_model.specs.declared.event.Event.{Event}
use Rattle.site_model.specs.declared.sight.Sight.{Sight}
use Rattle.run_meaning.specs.Acts.{Rules}
use Rattle.run_meaning.specs.Rounds.{behind, entries_by, events_on, IsEntryFor, IsRound}
use Rattle.run_meaning.specs.Turns.{Asked, Histories, of_index}
use Rattle.run_meaning.proofs.Lists.{get_front, get_map, get_of_map, get_within, of_index_past, within}
use Rattle.site_audit.specs.Spots.{kind_of, kind_spot, own_spot, sight_spot, spots_of}
use Rattle.site_audit.specs.Tracks.{is_earlier, same_track, taken_in, track_of}
use Rattle.audit_laws.specs.Types.{EntryLine, Said, Spot}
use Rattle.audit_laws.specs.Orders.{IsEarlierThing}
use Rattle.audit_laws.specs.Retaken.{asked_in, lines_from, spots_from, AreInKinds, AreOthers, HaveRoom, IsEventOf}
use Rattle.audit_laws.proofs.Places.{get_behind}
use Rattle.audit_laws.proofs.Ranking.{taken_by_rank}
use Rattle.audit_laws.proofs.Retaking.{both_true, fits, thing, IsThing}
use Rattle.audit_laws.proofs.RoundLines.{start}
use Rattle.audit_laws.proofs.SpotPlaces.{on_track}

-- ---- how many pass a test so far

kept_place : {A : Type 0} (test : A → Bool) (xs : List A) (p : ℕ) (x : A) → slice_get xs p ≡ Some x → test x ≡ true → slice_get (filter test xs) (length (filter test (take p xs))) ≡ Some x
kept_place test [] p x h t = absurd cc
kept_place test (y ∷ ys) zero x h t =
    let e : y ≡ x = cc in
    ap (λ b. slice_get (cond b (y ∷ filter test ys) (filter test ys)) 0) (ap test e ∙ t) ∙ h
kept_place test (y ∷ ys) (suc p) x h t = by (test y) (kept_place test ys p x h t)
  where
    by : (b : Bool) → slice_get (filter test ys) (length (filter test (take p ys))) ≡ Some x → slice_get (cond b (y ∷ filter test ys) (filter test ys)) (length (cond b (y ∷ filter test (take p ys)) (filter test (take p ys)))) ≡ Some x
    by true ih = ih
    by false ih = ih

kept_fewer : {A : Type 0} (test : A → Bool) (xs : List A) (p q : ℕ) → p ≤ q → length (filter test (take p xs)) ≤ length (filter test (take q xs))
kept_fewer test xs zero q le = omega arith
kept_fewer test xs (suc p) zero le = absurd (omega (arith, le))
kept_fewer test [] (suc p) (suc q) le = omega arith
kept_fewer test (y ∷ ys) (suc p) (suc q) le = by (test y) (kept_fewer test ys p q (omega (arith, le)))
  where
    by : (b : Bool) → length (filter test (take p ys)) ≤ length (filter test (take q ys)) → length (cond b (y ∷ filter test (take p ys)) (filter test (take p ys))) ≤ length (cond b (y ∷ filter test (take q ys)) (filter test (take q ys)))
    by true ih = omega (arith, ih)
    by false ih = ih

kept_more : {A : Type 0} (test : A → Bool) (xs : List A) (p q : ℕ) (x : A) → p < q → slice_get xs p ≡ Some x → test x ≡ true → length (filter test (take p xs)) < length (filter test (take q xs))
kept_more test xs p zero x lt h t = absurd (omega (arith, lt))
kept_more test [] p (suc q) x lt h t = absurd cc
kept_more test (y ∷ ys) zero (suc q) x lt h t =
    let e : y ≡ x = cc in
    let is : test y ≡ true = ap test e ∙ t in
    let some : length (filter test (y ∷ take q ys)) ≡ suc (length (filter test (take q ys))) = ap (λ b. length (cond b (y ∷ filter test (take q ys)) (filter test (take q ys)))) is in
    omega (arith, some)
kept_more test (y ∷ ys) (suc p) (suc q) x lt h t = by (test y) (kept_more test ys p q x (omega (arith, lt)) h t)
  where
    by : (b : Bool) → length (filter test (take p ys)) < length (filter test (take q ys)) → length (cond b (y ∷ filter test (take p ys)) (filter test (take p ys))) < length (cond b (y ∷ filter test (take q ys)) (filter test (take q ys)))
    by true ih = omega (arith, ih)
    by false ih = ih

-- ---- and how many events are on a checkable

on_fewer : (c : ℕ) (xs : List Asked) (p q : ℕ) → p ≤ q → length (events_on c (take p xs)) ≤ length (events_on c (take q xs))
on_fewer c xs zero q le = omega arith
on_fewer c xs (suc p) zero le = absurd (omega (arith, le))
on_fewer c [] (suc p) (suc q) le = omega arith
on_fewer c (y ∷ ys) (suc p) (suc q) le = by (nat_eq y.checkable c) (on_fewer c ys p q (omega (arith, le)))
  where
    by : (b : Bool) → length (events_on c (take p ys)) ≤ length (events_on c (take q ys)) → length (cond b (y.event ∷ events_on c (take p ys)) (events_on c (take p ys))) ≤ length (cond b (y.event ∷ events_on c (take q ys)) (events_on c (take q ys)))
    by true ih = omega (arith, ih)
    by false ih = ih

on_more : (c : ℕ) (xs : List Asked) (p q : ℕ) (x : Asked) → p < q → slice_get xs p ≡ Some x → x.checkable ≡ c → length (events_on c (take p xs)) < length (events_on c (take q xs))
on_more c xs p zero x lt h t = absurd (omega (arith, lt))
on_more c [] p (suc q) x lt h t = absurd cc
on_more c (y ∷ ys) zero (suc q) x lt h t =
    let e : y ≡ x = cc in
    let is : nat_eq y.checkable c ≡ true = eq-eqb y.checkable c (ap (λ (a : Asked). a.checkable) e ∙ t) in
    let some : length (events_on c (y ∷ take q ys)) ≡ suc (length (events_on c (take q ys))) = ap (λ b. length (cond b (y.event ∷ events_on c (take q ys)) (events_on c (take q ys)))) is in
    omega (arith, some)
on_more c (y ∷ ys) (suc p) (suc q) x lt h t = by (nat_eq y.checkable c) (on_more c ys p q x (omega (arith, lt)) h t)
  where
    by : (b : Bool) → length (events_on c (take p ys)) < length (events_on c (take q ys)) → length (cond b (y.event ∷ events_on c (take p ys)) (events_on c (take p ys))) < length (cond b (y.event ∷ events_on c (take q ys)) (events_on c (take q ys)))
    by true ih = omega (arith, ih)
    by false ih = ih

-- the event that is the one of this number on a checkable
record IsNth (c : ℕ) (xs : List Asked) (m : ℕ) : Type 0 where
  i : ℕ
  a : Asked
  at : slice_get xs i ≡ Some a
  on : a.checkable ≡ c
  is : slice_get (events_on c xs) m ≡ Some a.event
  many : length (events_on c (take i xs)) ≡ m

nth_on : (c : ℕ) (xs : List Asked) (m : ℕ) → m < length (events_on c xs) → IsNth c xs m
nth_on c [] m lt = absurd (omega (arith, lt))
nth_on c (y ∷ ys) m lt = by (nat_eq y.checkable c) refl m lt (nth_on c ys)
  where
    by : (b : Bool) → nat_eq y.checkable c ≡ b → (m : ℕ) → m < length (cond b (y.event ∷ events_on c ys) (events_on c ys)) → ((m : ℕ) → m < length (events_on c ys) → IsNth c ys m) → IsNth c (y ∷ ys) m
    by true e zero lt more = record { i = 0; a = y; at = refl; on = eqb-true y.checkable c e; is = ap (λ b. slice_get (cond b (y.event ∷ events_on c ys) (events_on c ys)) 0) e; many = refl }
    by true e (suc m) lt more =
        let n = more m (omega (arith, lt)) in
        record {
          i = suc n.i;
          a = n.a;
          at = n.at;
          on = n.on;
          is = ap (λ b. slice_get (cond b (y.event ∷ events_on c ys) (events_on c ys)) (suc m)) e ∙ n.is;
          many = ap (λ b. length (cond b (y.event ∷ events_on c (take n.i ys)) (events_on c (take n.i ys)))) e ∙ ap suc n.many;
        }
    by false e m lt more =
        let n = more m lt in
        record {
          i = suc n.i;
          a = n.a;
          at = n.at;
          on = n.on;
          is = ap (λ b. slice_get (cond b (y.event ∷ events_on c ys) (events_on c ys)) m) e ∙ n.is;
          many = ap (λ b. length (cond b (y.event ∷ events_on c (take n.i ys)) (events_on c (take n.i ys)))) e ∙ n.many;
        }

-- ---- how long a caller's events are at most

abbrev total : List (List Asked) → ℕ
total [] = 0
total (es ∷ ess) = length es + total ess

in_total : (k : ℕ) (ess : List (List Asked)) → length (of_index k ess) ≤ total ess
in_total k [] = omega arith
in_total zero (es ∷ ess) = omega arith
in_total (suc k) (es ∷ ess) = let m = in_total k ess in omega (arith, m)

-- ---- spots

record IsSpot (k : ℕ) (xs : List EntryLine) (ss : List Said) (y : Spot) : Type 0 where
  t : ℕ
  x : EntryLine
  s : Said
  j : ℕ
  at : slice_get xs t ≡ Some x
  said : slice_get ss t ≡ Some s
  spot : slice_get (spots_of (k + t) x s) j ≡ Some y

spot_is : (k : ℕ) (xs : List EntryLine) (ss : List Said) (i : ℕ) (y : Spot) → slice_get (spots_from k xs ss) i ≡ Some y → IsSpot k xs ss y
spot_is k [] ss i y h = absurd cc
spot_is k (x ∷ xs) [] i y h = absurd cc
spot_is k (x ∷ xs) (s ∷ ss) i y h = by (cases_lt i (length (spots_of k x s))) (λ n. spot_is (suc k) xs ss n y)
  where
    z : k ≡ k + 0
    z = omega arith

    by : (i < length (spots_of k x s)) ⊎ (length (spots_of k x s) ≤ i) → ((n : ℕ) → slice_get (spots_from (suc k) xs ss) n ≡ Some y → IsSpot (suc k) xs ss y) → IsSpot k (x ∷ xs) (s ∷ ss) y
    by (inl lt) more = record {
      t = 0;
      x = x;
      s = s;
      j = i;
      at = refl;
      said = refl;
      spot = sym (ap (λ n. slice_get (spots_of n x s) i) z) ∙ (sym (get_front (spots_of k x s) (spots_from (suc k) xs ss) i lt) ∙ h);
    }
    by (inr le) more =
        let n = i - length (spots_of k x s) in
        let split : i ≡ length (spots_of k x s) + n = omega (arith, le) in
        let m = more n (sym (get_behind (spots_of k x s) (spots_from (suc k) xs ss) n) ∙ (ap (slice_get (spots_of k x s ++ spots_from (suc k) xs ss)) (sym split) ∙ h)) in
        let e : suc k + m.t ≡ k + suc m.t = omega arith in
        record { t = suc m.t; x = m.x; s = m.s; j = m.j; at = m.at; said = m.said; spot = sym (ap (λ n. slice_get (spots_of n m.x m.s) m.j) e) ∙ m.spot }

some_same : {A : Type 0} (x y : A) → Some x ≡ Some y → x ≡ y
some_same x y e = cc

thing_is : (k : ℕ) (x : EntryLine) (s : Said) (j : ℕ) (y : Spot) → slice_get (spots_of k x s) j ≡ Some y → y.thing ≡ k
thing_is k x s zero y h = sym (ap (λ (z : Spot). z.thing) (some_same (kind_spot k x s) y h))
thing_is k x s (suc zero) y h = sym (ap (λ (z : Spot). z.thing) (some_same (own_spot k x) y h))
thing_is k x s (suc (suc m)) y h = let (v, at, is) = get_map (sight_spot k x.entry.caller) x.entry.sights m y h in sym (ap (λ (z : Spot). z.thing) is)

-- of two spots the earlier one is on the same track, at a lower instant
record AreOnTrack (t u i j : ℕ) : Type 0 where
  same : t ≡ u
  lower : i < j

earlier_is : (p q : Spot) (t i u j : ℕ) → p.at ≡ on_track t i → q.at ≡ on_track u j → i < 2 ^ 80 → j < 2 ^ 80 → is_earlier p q ≡ true → AreOnTrack t u i j
earlier_is p q t i u j e f fits gits h =
    let b = both_true (same_track p q) (nat_lt p.at q.at) h in
    let one : track_of p ≡ t = ap (λ n. n / 2 ^ 80) e ∙ div-mul-add t (2 ^ 80) i fits in
    let two : track_of q ≡ u = ap (λ n. n / 2 ^ 80) f ∙ div-mul-add u (2 ^ 80) j gits in
    let same : t ≡ u = sym one ∙ (eqb-true (track_of p) (track_of q) b.0 ∙ two) in
    let less : nat_lt (on_track t i) (on_track t j) ≡ true = ap (λ n. nat_lt n (on_track t j)) (sym e) ∙ (ap (λ n. nat_lt p.at (on_track n j)) same ∙ (ap (λ n. nat_lt p.at n) (sym f) ∙ b.1)) in
    record { same = same; lower = lower_on t i j less }
  where
    lower_on : (t i j : ℕ) → nat_lt (on_track t i) (on_track t j) ≡ true → i < j
    lower_on t i j e = grind (arith, nat_tests, e)

at_zero : (n : ℕ) → n ≡ on_track 0 n
at_zero n = omega arith

at_sight : (t c : ℕ) → t * 2 ^ 80 + c + 1 ≡ on_track t (c + 1)
at_sight t c = omega arith

module _ (r : Rules) (moment : ℕ) (before : Histories) (events : List (List Asked)) (round : Histories) (said : List Said) (h : IsRound r moment before events round) (room : HaveRoom (length events) (behind before round) (length round)) (many : length said ≡ length (lines_from 0 round)) where
  abbrev pub xs : List EntryLine
  xs = lines_from 0 round

  abbrev pub Thing : ℕ → EntryLine → Type 0
  Thing t x = IsThing r moment before events round said [] h room many t x

  abbrev pub mine : EntryLine → List Asked
  mine x = of_index x.entry.caller events

  -- by which of its caller's events an entry was made
  pub record IsOf (t : ℕ) (x : EntryLine) (i : ℕ) : Type 0 where
    pub at : slice_get xs t ≡ Some x
    pub is : Thing t x
    pub asked : slice_get (mine x) i ≡ Some (asked_in x)
    pub so_far : length (events_on x.checkable (take i (mine x))) ≡ length (entries_by x.entry.caller (take is.place (of_index x.checkable round)))
    pub made : slice_get (entries_by x.entry.caller (of_index x.checkable round)) (length (events_on x.checkable (take i (mine x)))) ≡ Some x.entry
    pub caller : x.entry.caller < length events

  record IsRank (t n : ℕ) : Type 0 where
    x : EntryLine
    i : ℕ
    maker : IsOf t x i
    is : n ≡ x.entry.caller * suc (total events) + i

  same_asked : (a : Asked) (c : ℕ) (e : Event) → a.checkable ≡ c → a.event ≡ e → a ≡ record { checkable = c; event = e }
  same_asked a c e p q = ap (λ c. record { checkable = c; event = a.event }) p ∙ ap (λ e. record { checkable = c; event = e }) q

  pub of_thing : (t : ℕ) (x : EntryLine) → slice_get xs t ≡ Some x → (i : ℕ) × IsOf t x i
  of_thing t x at =
      let y = thing r moment before events round said [] h room many t x at in
      let k = x.entry.caller in
      let c = x.checkable in
      let es = of_index c round in
      let lt = h.callers c y.place x.entry y.at in
      let m = length (entries_by k (take y.place es)) in
      let here : slice_get (entries_by k es) m ≡ Some x.entry = kept_place (λ (e : Entry). nat_eq e.caller k) es y.place x.entry y.at (eq-eqb k k refl) in
      let event : slice_get (events_on c (mine x)) m ≡ Some x.entry.event = sym (ap (λ zs. slice_get zs m) (h.taken k c lt)) ∙ get_of_map (λ (e : Entry). e.event) (entries_by k es) m x.entry here in
      let n = nth_on c (mine x) m (within (events_on c (mine x)) m x.entry.event event) in
      let same : n.a.event ≡ x.entry.event = some_same n.a.event x.entry.event (sym n.is ∙ event) in (
        n.i,
        record {
          at = at;
          is = y;
          asked = n.at ∙ ap Some (same_asked n.a c x.entry.event n.on same);
          so_far = n.many;
          made = ap (slice_get (entries_by k es)) n.many ∙ here;
          caller = lt;
        },
      )

  each : (t : ℕ) → t < length said → (n : ℕ) × IsRank t n
  each t lt =
      let (x, at) = get_within xs t (omega (arith, lt, many)) in
      let o = of_thing t x at in
      (x.entry.caller * suc (total events) + o.0, record { x = x; i = o.0; maker = o.1; is = refl })

  for_entry : (t : ℕ) (x : EntryLine) (i : ℕ) → IsOf t x i → IsEntryFor (mine x) round x.entry.caller i x.entry
  for_entry t x i o = record { asked = asked_in x; at = o.asked; made = o.made }

  pub event_of : (t : ℕ) (x : EntryLine) (i : ℕ) → IsOf t x i → IsEventOf xs events round t x i
  event_of t x i o = record { at = o.at; asked = o.asked; made = o.made }

  short : (x : EntryLine) (t i : ℕ) → IsOf t x i → i ≤ total events
  short x t i o = let a = within (mine x) i (asked_in x) o.asked in let b = in_total x.entry.caller events in omega (arith, a, b)

  small : (t : ℕ) (x : EntryLine) (i : ℕ) → IsOf t x i → x.checkable < 2 ^ 32
  small t x i o = by (cases_lt x.checkable (length round))
    where
      by : (x.checkable < length round) ⊎ (length round ≤ x.checkable) → x.checkable < 2 ^ 32
      by (inl lt) = let fit = room.checkables_fit in omega (arith, lt, fit)
      by (inr le) = absurd (none (sym (ap (λ zs. slice_get zs o.is.place) (of_index_past round x.checkable le)) ∙ o.is.at))
        where
          none : slice_get [] o.is.place ≡ Some x.entry → ⊥
          none e = absurd cc

  -- ---- two entries of one caller

  module _ (a b i j : ℕ) (x y : EntryLine) (p : IsOf a x i) (q : IsOf b y j) (caller : x.entry.caller ≡ y.entry.caller) where
    same_mine : mine x ≡ mine y
    same_mine = ap (λ k. of_index k events) caller

    -- so many of the caller's entries stand among the first of the other's checkable
    abbrev first : ℕ → ℕ
    first n = length (entries_by y.entry.caller (take n (of_index y.checkable round)))

    -- on one checkable
    module _ (same : x.checkable ≡ y.checkable) where
      x_so_far : length (events_on y.checkable (take i (mine y))) ≡ first p.is.place
      x_so_far =
          sym (ap (λ c. length (events_on c (take i (mine x)))) same ∙ ap (λ zs. length (events_on y.checkable (take i zs))) same_mine)
          ∙ (p.so_far ∙ (ap (λ k. length (entries_by k (take p.is.place (of_index x.checkable round)))) caller ∙ ap (λ c. length (entries_by y.entry.caller (take p.is.place (of_index c round)))) same))

      x_there : slice_get (of_index y.checkable round) p.is.place ≡ Some x.entry
      x_there = ap (λ c. slice_get (of_index c round) p.is.place) (sym same) ∙ p.is.at

      by_it : nat_eq x.entry.caller y.entry.caller ≡ true
      by_it = eq-eqb x.entry.caller y.entry.caller caller

      number_of : x.entry.number ≡ length (of_index y.checkable before) + p.is.place + 1
      number_of = p.is.number ∙ ap (λ c. length (of_index c before) + p.is.place + 1) same

      own_own : x.entry.number < y.entry.number → i < j
      own_own lt = by (cases_lt i j)
        where
          by : (i < j) ⊎ (j ≤ i) → i < j
          by (inl up) = up
          by (inr le) =
              let e = number_of in
              let f = q.is.number in
              let more = kept_more (λ (e : Entry). nat_eq e.caller y.entry.caller) (of_index y.checkable round) p.is.place q.is.place x.entry (omega (arith, e, f, lt)) x_there by_it in
              let fewer = on_fewer y.checkable (mine y) j i le in
              let one = x_so_far in
              let two = q.so_far in
              absurd (omega (arith, more, fewer, one, two))

      pub same_place : i ≡ j → a ≡ b
      same_place e = by (cases_lt p.is.place q.is.place) (cases_lt q.is.place p.is.place)
        where
          counts : first p.is.place ≡ first q.is.place
          counts = sym x_so_far ∙ (ap (λ n. length (events_on y.checkable (take n (mine y)))) e ∙ q.so_far)

          by : (p.is.place < q.is.place) ⊎ (q.is.place ≤ p.is.place) → (q.is.place < p.is.place) ⊎ (p.is.place ≤ q.is.place) → a ≡ b
          by (inl lt) o =
              let more = kept_more (λ (e : Entry). nat_eq e.caller y.entry.caller) (of_index y.checkable round) p.is.place q.is.place x.entry lt x_there by_it in
              let c = counts in
              absurd (omega (arith, more, c))
          by (inr le) (inl lt) =
              let more = kept_more (λ (e : Entry). nat_eq e.caller y.entry.caller) (of_index y.checkable round) q.is.place p.is.place y.entry lt q.is.at (eq-eqb y.entry.caller y.entry.caller refl) in
              let c = counts in
              absurd (omega (arith, more, c))
          by (inr le) (inr ge) =
              let one : a ≡ start y.checkable round + p.is.place = p.is.there ∙ ap (λ c. start c round + p.is.place) same in
              let two = q.is.there in
              omega (arith, one, two, le, ge)

  module _ (others : AreOthers r) (kinds : AreInKinds (lines_from 0 round) events round said) where
    -- what an entry has seen
    record IsSeen (x : EntryLine) (v : Sight) (m : ℕ) : Type 0 where
      ancestor : slice_get (r.ancestors x.checkable) m ≡ Some v.checkable
      least : length (of_index v.checkable before) ≤ v.count
      few : v.count < 2 ^ 79
      low : v.checkable < 2 ^ 32

    seen : (t : ℕ) (x : EntryLine) (i m : ℕ) (v : Sight) → IsOf t x i → slice_get x.entry.sights m ≡ Some v → IsSeen x v m
    seen t x i m v o at =
        let s = h.seen x.checkable o.is.place m x.entry v o.is.at at in
        let lo = s.0 in
        let hi = s.1 in
        let both = length-append (of_index v.checkable before) (of_index v.checkable round) in
        let all = fits r moment before events round said [] h room many v.checkable in
        let up : slice_get (r.ancestors x.checkable) m ≡ Some v.checkable = sym (ap (λ zs. slice_get zs m) (h.ancestors x.checkable o.is.place x.entry o.is.at)) ∙ get_of_map (λ (z : Sight). z.checkable) x.entry.sights m v at in
        let low = others.inside x.checkable m v.checkable up in
        let whole = h.whole in
        let fit = room.checkables_fit in
        record { ancestor = up; least = lo; few = omega (arith, hi, both, all); low = omega (arith, low, whole, fit) }

    module _ (a b i j : ℕ) (x y : EntryLine) (p : IsOf a x i) (q : IsOf b y j) (caller : x.entry.caller ≡ y.entry.caller) where
      -- the other has seen an entry
      own_sight : (m : ℕ) (v : Sight) → slice_get y.entry.sights m ≡ Some v → x.checkable ≡ v.checkable → x.entry.number ≤ v.count → i < j
      own_sight m v at same le = by (cases_lt i j)
        where
          c : ℕ
          c = v.checkable

          x_many : length (events_on c (take i (mine y))) ≡ length (entries_by y.entry.caller (take p.is.place (of_index c round)))
          x_many =
              sym (ap (λ c. length (events_on c (take i (mine x)))) same ∙ ap (λ zs. length (events_on c (take i zs))) (same_mine a b i j x y p q caller))
              ∙ (p.so_far ∙ (ap (λ k. length (entries_by k (take p.is.place (of_index x.checkable round)))) caller ∙ ap (λ c. length (entries_by y.entry.caller (take p.is.place (of_index c round)))) same))

          x_at : slice_get (of_index c round) p.is.place ≡ Some x.entry
          x_at = ap (λ c. slice_get (of_index c round) p.is.place) (sym same) ∙ p.is.at

          number : x.entry.number ≡ length (of_index c before) + p.is.place + 1
          number = p.is.number ∙ ap (λ c. length (of_index c before) + p.is.place + 1) same

          by : (i < j) ⊎ (j ≤ i) → i < j
          by (inl up) = up
          by (inr down) =
              let s = seen b y j m v q at in
              let lo = s.least in
              let n = number in
              let more = kept_more (λ (e : Entry). nat_eq e.caller y.entry.caller) (of_index c round) p.is.place (v.count - length (of_index c before)) x.entry (omega (arith, n, lo, le)) x_at (eq-eqb x.entry.caller y.entry.caller caller) in
              let own = h.own y.entry.caller j m y.entry v (for_entry b y j q) at in
              let fewer = on_fewer c (mine y) j i down in
              let one = x_many in
              absurd (omega (arith, more, own, fewer, one))

      -- an entry has not seen the other
      sight_own : (m : ℕ) (v : Sight) → slice_get x.entry.sights m ≡ Some v → y.checkable ≡ v.checkable → v.count < y.entry.number → i < j
      sight_own m v at same lt = by (cases_lt i j) (cases_lt j i)
        where
          s : IsSeen x v m
          s = seen a x i m v p at

          by : (i < j) ⊎ (j ≤ i) → (j < i) ⊎ (i ≤ j) → i < j
          by (inl up) o = up
          by (inr le) (inl down) =
              let lo : length (of_index y.checkable before) ≤ v.count = subst (λ c. length (of_index c before) ≤ v.count) (sym same) s.least in
              let n = q.is.number in
              let fewer = kept_fewer (λ (e : Entry). nat_eq e.caller y.entry.caller) (of_index y.checkable round) (v.count - length (of_index y.checkable before)) q.is.place (omega (arith, n, lo, lt)) in
              let own : length (entries_by y.entry.caller (take (v.count - length (of_index y.checkable before)) (of_index y.checkable round))) ≡ length (events_on y.checkable (take i (mine y))) =
              ap (λ k. length (entries_by k (take (v.count - length (of_index y.checkable before)) (of_index y.checkable round)))) (sym caller)
              ∙ (ap (λ c. length (entries_by x.entry.caller (take (v.count - length (of_index c before)) (of_index c round)))) same
              ∙ (h.own x.entry.caller i m x.entry v (for_entry a x i p) at
              ∙ (ap (λ c. length (events_on c (take i (mine x)))) (sym same) ∙ ap (λ zs. length (events_on y.checkable (take i zs))) (same_mine a b i j x y p q caller)))) in
              let more = on_more y.checkable (mine y) j i (asked_in y) down q.asked refl in
              let two = q.so_far in
              absurd (omega (arith, fewer, own, more, two))
          by (inr le) (inr ge) =
              let e : i ≡ j = omega (arith, le, ge) in
              let asked : asked_in x ≡ asked_in y = some_same (asked_in x) (asked_in y) (sym p.asked ∙ (ap (λ zs. slice_get zs i) (same_mine a b i j x y p q caller) ∙ (ap (slice_get (mine y)) e ∙ q.asked))) in
              let on : x.checkable ≡ y.checkable = ap (λ (z : Asked). z.checkable) asked in
              absurd (others.other x.checkable m (s.ancestor ∙ ap Some (sym same ∙ sym on)))

      -- the other has seen more
      sight_sight : (m n : ℕ) (v w : Sight) → slice_get x.entry.sights m ≡ Some v → slice_get y.entry.sights n ≡ Some w → v.checkable ≡ w.checkable → v.count < w.count → i < j
      sight_sight m n v w at there same lt = by (cases_lt i j) (cases_lt j i)
        where
          by : (i < j) ⊎ (j ≤ i) → (j < i) ⊎ (i ≤ j) → i < j
          by (inl up) o = up
          by (inr le) (inl down) =
              let for_x : IsEntryFor (mine y) round y.entry.caller i x.entry = subst (λ k. IsEntryFor (of_index k events) round k i x.entry) caller (for_entry a x i p) in
              let rise = h.rising y.entry.caller j i n m y.entry x.entry w v down (for_entry b y j q) for_x there at (sym same) in
              absurd (omega (arith, rise, lt))
          by (inr le) (inr ge) =
              let e : i ≡ j = omega (arith, le, ge) in
              let asked : asked_in x ≡ asked_in y = some_same (asked_in x) (asked_in y) (sym p.asked ∙ (ap (λ zs. slice_get zs i) (same_mine a b i j x y p q caller) ∙ (ap (slice_get (mine y)) e ∙ q.asked))) in
              let on : x.checkable ≡ y.checkable = ap (λ (z : Asked). z.checkable) asked in
              let one : a ≡ b = same_place a b i j x y p q caller on e in
              let both : x ≡ y = some_same x y (sym p.at ∙ (ap (slice_get xs) one ∙ q.at)) in
              let w_at : slice_get x.entry.sights n ≡ Some w = ap (λ (z : EntryLine). slice_get z.entry.sights n) both ∙ there in
              let f = seen a x i m v p at in
              let g = seen a x i n w p w_at in
              let place : m ≡ n = others.once x.checkable m n v.checkable f.ancestor (g.ancestor ∙ ap Some (sym same)) in
              let one_sight : v ≡ w = some_same v w (sym at ∙ (ap (slice_get x.entry.sights) place ∙ w_at)) in
              let counts : v.count ≡ w.count = ap (λ (z : Sight). z.count) one_sight in
              absurd (omega (arith, counts, lt))

    -- ---- ranks

    same_caller : (k l i j : ℕ) → k ≡ l → i < j → k * suc (total events) + i < l * suc (total events) + j
    same_caller k l i j e lt = subst (λ n. k * suc (total events) + i < n * suc (total events) + j) e (omega (arith, lt))

    lower_caller : (k l i j : ℕ) → k < l → i ≤ total events → k * suc (total events) + i < l * suc (total events) + j
    lower_caller k l i j lt le = let m = products k l (suc (total events)) lt in omega (arith, m, le)
      where
        products : (k l n : ℕ) → k < l → k * n + n ≤ l * n
        products k l n lt = subst (λ m. m ≤ l * n) (suc-mul k n) (mul-le-mul_right {m = suc k} {n = l} n (omega (arith, lt)))

    below_at : (a b i j c d : ℕ) (x y : EntryLine) (s u : Said) (f g : Spot) → IsOf a x i → IsOf b y j → slice_get said a ≡ Some s → slice_get said b ≡ Some u → slice_get (spots_of (0 + a) x s) c ≡ Some f → slice_get (spots_of (0 + b) y u) d ≡ Some g → is_earlier f g ≡ true
        → x.entry.caller * suc (total events) + i < y.entry.caller * suc (total events) + j
    below_at a b i j zero zero x y s u f g p q s_is u_is f_is g_is e =
        let f_at : f.at ≡ on_track 0 (x.entry.caller * 2 ^ 66 + kind_of x.checkable s) = sym (ap (λ (z : Spot). z.at) (some_same (kind_spot (0 + a) x s) f f_is)) ∙ at_zero (x.entry.caller * 2 ^ 66 + kind_of x.checkable s) in
        let g_at : g.at ≡ on_track 0 (y.entry.caller * 2 ^ 66 + kind_of y.checkable u) = sym (ap (λ (z : Spot). z.at) (some_same (kind_spot (0 + b) y u) g g_is)) ∙ at_zero (y.entry.caller * 2 ^ 66 + kind_of y.checkable u) in
        let k = p.caller in
        let l = q.caller in
        let m = kinds.fit a x s p.at s_is in
        let n = kinds.fit b y u q.at u_is in
        let fit = room.callers_fit in
        let t = earlier_is f g 0 (x.entry.caller * 2 ^ 66 + kind_of x.checkable s) 0 (y.entry.caller * 2 ^ 66 + kind_of y.checkable u) f_at g_at (omega (arith, k, m, fit)) (omega (arith, l, n, fit)) e in
        let lt = t.lower in
        by (cases_lt x.entry.caller y.entry.caller) (cases_lt y.entry.caller x.entry.caller) lt m n
      where
        by : (x.entry.caller < y.entry.caller) ⊎ (y.entry.caller ≤ x.entry.caller) → (y.entry.caller < x.entry.caller) ⊎ (x.entry.caller ≤ y.entry.caller) → x.entry.caller * 2 ^ 66 + kind_of x.checkable s < y.entry.caller * 2 ^ 66 + kind_of y.checkable u → kind_of x.checkable s < 2 ^ 66 → kind_of y.checkable u < 2 ^ 66
            → x.entry.caller * suc (total events) + i < y.entry.caller * suc (total events) + j
        by (inl less) o lt m n = lower_caller x.entry.caller y.entry.caller i j less (short x a i p)
        by (inr le) (inl more) lt m n = absurd (omega (arith, more, lt, m, n))
        by (inr le) (inr ge) lt m n =
            let caller : x.entry.caller ≡ y.entry.caller = omega (arith, le, ge) in
            same_caller x.entry.caller y.entry.caller i j caller (index caller (cases_lt i j))
          where
            index : x.entry.caller ≡ y.entry.caller → (i < j) ⊎ (j ≤ i) → i < j
            index caller (inl up) = up
            index caller (inr down) = let rise = kinds.rise b a j i y x u s (event_of b y j q) (event_of a x i p) (sym caller) u_is s_is down in absurd (omega (arith, rise, caller, lt))
    below_at a b i j zero (suc zero) x y s u f g p q s_is u_is f_is g_is e =
        let f_at : f.at ≡ on_track 0 (x.entry.caller * 2 ^ 66 + kind_of x.checkable s) = sym (ap (λ (z : Spot). z.at) (some_same (kind_spot (0 + a) x s) f f_is)) ∙ at_zero (x.entry.caller * 2 ^ 66 + kind_of x.checkable s) in
        let g_at : g.at ≡ on_track (1 + y.entry.caller * 2 ^ 32 + y.checkable) (y.entry.number * 2) = sym (ap (λ (z : Spot). z.at) (some_same (own_spot (0 + b) y) g g_is)) in
        let k = p.caller in
        let m = kinds.fit a x s p.at s_is in
        let n = q.is.few in
        let fit = room.callers_fit in
        let t = earlier_is f g 0 (x.entry.caller * 2 ^ 66 + kind_of x.checkable s) (1 + y.entry.caller * 2 ^ 32 + y.checkable) (y.entry.number * 2) f_at g_at (omega (arith, k, m, fit)) (omega (arith, n)) e in
        let same = t.same in
        absurd (omega (arith, same))
    below_at a b i j zero (suc (suc d)) x y s u f g p q s_is u_is f_is g_is e =
        let (w, w_at, is) = get_map (sight_spot (0 + b) y.entry.caller) y.entry.sights d g g_is in
        let f_at : f.at ≡ on_track 0 (x.entry.caller * 2 ^ 66 + kind_of x.checkable s) = sym (ap (λ (z : Spot). z.at) (some_same (kind_spot (0 + a) x s) f f_is)) ∙ at_zero (x.entry.caller * 2 ^ 66 + kind_of x.checkable s) in
        let g_at : g.at ≡ on_track (1 + y.entry.caller * 2 ^ 32 + w.checkable) (w.count * 2 + 1) = sym (ap (λ (z : Spot). z.at) is) ∙ at_sight (1 + y.entry.caller * 2 ^ 32 + w.checkable) (w.count * 2) in
        let k = p.caller in
        let m = kinds.fit a x s p.at s_is in
        let n = (seen b y j d w q w_at).few in
        let fit = room.callers_fit in
        let t = earlier_is f g 0 (x.entry.caller * 2 ^ 66 + kind_of x.checkable s) (1 + y.entry.caller * 2 ^ 32 + w.checkable) (w.count * 2 + 1) f_at g_at (omega (arith, k, m, fit)) (omega (arith, n)) e in
        let same = t.same in
        absurd (omega (arith, same))
    below_at a b i j (suc zero) zero x y s u f g p q s_is u_is f_is g_is e =
        let f_at : f.at ≡ on_track (1 + x.entry.caller * 2 ^ 32 + x.checkable) (x.entry.number * 2) = sym (ap (λ (z : Spot). z.at) (some_same (own_spot (0 + a) x) f f_is)) in
        let g_at : g.at ≡ on_track 0 (y.entry.caller * 2 ^ 66 + kind_of y.checkable u) = sym (ap (λ (z : Spot). z.at) (some_same (kind_spot (0 + b) y u) g g_is)) ∙ at_zero (y.entry.caller * 2 ^ 66 + kind_of y.checkable u) in
        let l = q.caller in
        let n = kinds.fit b y u q.at u_is in
        let m = p.is.few in
        let fit = room.callers_fit in
        let t = earlier_is f g (1 + x.entry.caller * 2 ^ 32 + x.checkable) (x.entry.number * 2) 0 (y.entry.caller * 2 ^ 66 + kind_of y.checkable u) f_at g_at (omega (arith, m)) (omega (arith, l, n, fit)) e in
        let same = t.same in
        absurd (omega (arith, same))
    below_at a b i j (suc (suc c)) zero x y s u f g p q s_is u_is f_is g_is e =
        let (v, v_at, is) = get_map (sight_spot (0 + a) x.entry.caller) x.entry.sights c f f_is in
        let f_at : f.at ≡ on_track (1 + x.entry.caller * 2 ^ 32 + v.checkable) (v.count * 2 + 1) = sym (ap (λ (z : Spot). z.at) is) ∙ at_sight (1 + x.entry.caller * 2 ^ 32 + v.checkable) (v.count * 2) in
        let g_at : g.at ≡ on_track 0 (y.entry.caller * 2 ^ 66 + kind_of y.checkable u) = sym (ap (λ (z : Spot). z.at) (some_same (kind_spot (0 + b) y u) g g_is)) ∙ at_zero (y.entry.caller * 2 ^ 66 + kind_of y.checkable u) in
        let l = q.caller in
        let n = kinds.fit b y u q.at u_is in
        let m = (seen a x i c v p v_at).few in
        let fit = room.callers_fit in
        let t = earlier_is f g (1 + x.entry.caller * 2 ^ 32 + v.checkable) (v.count * 2 + 1) 0 (y.entry.caller * 2 ^ 66 + kind_of y.checkable u) f_at g_at (omega (arith, m)) (omega (arith, l, n, fit)) e in
        let same = t.same in
        absurd (omega (arith, same))
    below_at a b i j (suc zero) (suc zero) x y s u f g p q s_is u_is f_is g_is e =
        let f_at : f.at ≡ on_track (1 + x.entry.caller * 2 ^ 32 + x.checkable) (x.entry.number * 2) = sym (ap (λ (z : Spot). z.at) (some_same (own_spot (0 + a) x) f f_is)) in
        let g_at : g.at ≡ on_track (1 + y.entry.caller * 2 ^ 32 + y.checkable) (y.entry.number * 2) = sym (ap (λ (z : Spot). z.at) (some_same (own_spot (0 + b) y) g g_is)) in
        let m = p.is.few in
        let n = q.is.few in
        let t = earlier_is f g (1 + x.entry.caller * 2 ^ 32 + x.checkable) (x.entry.number * 2) (1 + y.entry.caller * 2 ^ 32 + y.checkable) (y.entry.number * 2) f_at g_at (omega (arith, m)) (omega (arith, n)) e in
        let same = t.same in
        let lt = t.lower in
        let k = small a x i p in
        let l = small b y j q in
        let caller : x.entry.caller ≡ y.entry.caller = omega (arith, same, k, l) in
        let on : x.checkable ≡ y.checkable = omega (arith, same, k, l) in
        same_caller x.entry.caller y.entry.caller i j caller (own_own a b i j x y p q caller on (omega (arith, lt)))
    below_at a b i j (suc zero) (suc (suc d)) x y s u f g p q s_is u_is f_is g_is e =
        let (w, w_at, is) = get_map (sight_spot (0 + b) y.entry.caller) y.entry.sights d g g_is in
        let f_at : f.at ≡ on_track (1 + x.entry.caller * 2 ^ 32 + x.checkable) (x.entry.number * 2) = sym (ap (λ (z : Spot). z.at) (some_same (own_spot (0 + a) x) f f_is)) in
        let g_at : g.at ≡ on_track (1 + y.entry.caller * 2 ^ 32 + w.checkable) (w.count * 2 + 1) = sym (ap (λ (z : Spot). z.at) is) ∙ at_sight (1 + y.entry.caller * 2 ^ 32 + w.checkable) (w.count * 2) in
        let z = seen b y j d w q w_at in
        let m = p.is.few in
        let n = z.few in
        let t = earlier_is f g (1 + x.entry.caller * 2 ^ 32 + x.checkable) (x.entry.number * 2) (1 + y.entry.caller * 2 ^ 32 + w.checkable) (w.count * 2 + 1) f_at g_at (omega (arith, m)) (omega (arith, n)) e in
        let same = t.same in
        let lt = t.lower in
        let k = small a x i p in
        let l = z.low in
        let caller : x.entry.caller ≡ y.entry.caller = omega (arith, same, k, l) in
        let on : x.checkable ≡ w.checkable = omega (arith, same, k, l) in
        same_caller x.entry.caller y.entry.caller i j caller (own_sight a b i j x y p q caller d w w_at on (omega (arith, lt)))
    below_at a b i j (suc (suc c)) (suc zero) x y s u f g p q s_is u_is f_is g_is e =
        let (v, v_at, is) = get_map (sight_spot (0 + a) x.entry.caller) x.entry.sights c f f_is in
        let f_at : f.at ≡ on_track (1 + x.entry.caller * 2 ^ 32 + v.checkable) (v.count * 2 + 1) = sym (ap (λ (z : Spot). z.at) is) ∙ at_sight (1 + x.entry.caller * 2 ^ 32 + v.checkable) (v.count * 2) in
        let g_at : g.at ≡ on_track (1 + y.entry.caller * 2 ^ 32 + y.checkable) (y.entry.number * 2) = sym (ap (λ (z : Spot). z.at) (some_same (own_spot (0 + b) y) g g_is)) in
        let z = seen a x i c v p v_at in
        let m = z.few in
        let n = q.is.few in
        let t = earlier_is f g (1 + x.entry.caller * 2 ^ 32 + v.checkable) (v.count * 2 + 1) (1 + y.entry.caller * 2 ^ 32 + y.checkable) (y.entry.number * 2) f_at g_at (omega (arith, m)) (omega (arith, n)) e in
        let same = t.same in
        let lt = t.lower in
        let k = z.low in
        let l = small b y j q in
        let caller : x.entry.caller ≡ y.entry.caller = omega (arith, same, k, l) in
        let on : y.checkable ≡ v.checkable = omega (arith, same, k, l) in
        same_caller x.entry.caller y.entry.caller i j caller (sight_own a b i j x y p q caller c v v_at on (omega (arith, lt)))
    below_at a b i j (suc (suc c)) (suc (suc d)) x y s u f g p q s_is u_is f_is g_is e =
        let (v, v_at, v_is) = get_map (sight_spot (0 + a) x.entry.caller) x.entry.sights c f f_is in
        let (w, w_at, w_is) = get_map (sight_spot (0 + b) y.entry.caller) y.entry.sights d g g_is in
        let f_at : f.at ≡ on_track (1 + x.entry.caller * 2 ^ 32 + v.checkable) (v.count * 2 + 1) = sym (ap (λ (z : Spot). z.at) v_is) ∙ at_sight (1 + x.entry.caller * 2 ^ 32 + v.checkable) (v.count * 2) in
        let g_at : g.at ≡ on_track (1 + y.entry.caller * 2 ^ 32 + w.checkable) (w.count * 2 + 1) = sym (ap (λ (z : Spot). z.at) w_is) ∙ at_sight (1 + y.entry.caller * 2 ^ 32 + w.checkable) (w.count * 2) in
        let z = seen a x i c v p v_at in
        let o = seen b y j d w q w_at in
        let m = z.few in
        let n = o.few in
        let t = earlier_is f g (1 + x.entry.caller * 2 ^ 32 + v.checkable) (v.count * 2 + 1) (1 + y.entry.caller * 2 ^ 32 + w.checkable) (w.count * 2 + 1) f_at g_at (omega (arith, m)) (omega (arith, n)) e in
        let same = t.same in
        let lt = t.lower in
        let k = z.low in
        let l = o.low in
        let caller : x.entry.caller ≡ y.entry.caller = omega (arith, same, k, l) in
        let on : v.checkable ≡ w.checkable = omega (arith, same, k, l) in
        same_caller x.entry.caller y.entry.caller i j caller (sight_sight a b i j x y p q caller c d v w v_at w_at on (omega (arith, lt)))

    below : (a b m n : ℕ) → IsEarlierThing (spots_from 0 xs said) is_earlier (λ z. z.thing) a b → IsRank a m → IsRank b n → m < n
    below a b m n must p q =
        let f = spot_is 0 xs said must.i must.first must.first_is in
        let g = spot_is 0 xs said must.j must.second must.second_is in
        let a_is : f.t ≡ a = (let t = thing_is (0 + f.t) f.x f.s f.j must.first f.spot in let e = must.a_is in omega (arith, t, e)) in
        let b_is : g.t ≡ b = (let t = thing_is (0 + g.t) g.x g.s g.j must.second g.spot in let e = must.b_is in omega (arith, t, e)) in
        let x_is : p.x ≡ f.x = some_same p.x f.x (sym p.maker.at ∙ (ap (slice_get xs) (sym a_is) ∙ f.at)) in
        let y_is : q.x ≡ g.x = some_same q.x g.x (sym q.maker.at ∙ (ap (slice_get xs) (sym b_is) ∙ g.at)) in
        let first : slice_get (spots_of (0 + a) p.x f.s) f.j ≡ Some must.first = ap (λ z. slice_get (spots_of (0 + a) z f.s) f.j) x_is ∙ (ap (λ t. slice_get (spots_of (0 + t) f.x f.s) f.j) (sym a_is) ∙ f.spot) in
        let second : slice_get (spots_of (0 + b) q.x g.s) g.j ≡ Some must.second = ap (λ z. slice_get (spots_of (0 + b) z g.s) g.j) y_is ∙ (ap (λ t. slice_get (spots_of (0 + t) g.x g.s) g.j) (sym b_is) ∙ g.spot) in
        let lt = below_at a b p.i q.i f.j g.j p.x q.x f.s g.s must.first must.second p.maker q.maker (ap (slice_get said) (sym a_is) ∙ f.said) (ap (slice_get said) (sym b_is) ∙ g.said) first second must.earlier in
        let e = p.is in
        let o = q.is in
        omega (arith, lt, e, o)

    inside : (i : ℕ) (y : Spot) → slice_get (spots_from 0 xs said) i ≡ Some y → y.thing < length said
    inside i y at =
        let f = spot_is 0 xs said i y at in
        let t = thing_is (0 + f.t) f.x f.s f.j y f.spot in
        let lt = within said f.t f.s f.said in
        omega (arith, t, lt)

    some_told : (order : List ℕ) × (taken_in (length said) (spots_from 0 xs said) ≡ Some order)
    some_told = taken_by_rank (spots_from 0 xs said) (length said) inside IsRank each below

pub some_order : (r : Rules) (moment : ℕ) (before : Histories) (events : List (List Asked)) (round : Histories) (said : List Said) → IsRound r moment before events round → HaveRoom (length events) (behind before round) (length round) → length said ≡ length (lines_from 0 round) → AreOthers r → AreInKinds (lines_from 0 round) events round said → (order : List ℕ) × (taken_in (length said) (spots_from 0 (lines_from 0 round) said) ≡ Some order)
some_order r moment before events round said h room many others kinds = some_told r moment before events round said h room many others kinds
