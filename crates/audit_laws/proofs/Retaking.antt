-- A round is one of the events that its entries tell, in the order in which they are taken.
use Rattle.std.proofs.Common.{◌≡◌, ◌+◌, ◌-◌, ◌^◌, ◌<◌, ◌≤◌, ◌&&◌, ℕ, zero, suc, nat_eq, Bool, true, false, List, [], ◌∷◌, ◌++◌, length, take, drop, map, filter, slice_get, refl, sym, ap, ◌∙◌, subst, arith, Some, None, Option, ◌⊎◌, inl, inr, eqb-true, eq-eqb, length-append, All}
use Rattle.std.proofs.lemmas.Bool.{cases_lt}
use Rattle.std.proofs.lemmas.List.Elements.{filter-append, All-from_recursion}
use Rattle.std.specs.List.{AllByRecursion}
use Rattle.site_model.specs.declared.entry.Entry.{Entry}
use Rattle.site_model.specs.declared.sight.Sight.{Sight}
use Rattle.run_meaning.specs.Acts.{Rules}
use Rattle.run_meaning.specs.Rounds.{behind, entries_by, events_on, IsEntryFor, IsRound}
use Rattle.run_meaning.specs.Turns.{Asked, Histories, from_on, of_index}
use Rattle.run_meaning.proofs.Lists.{get_at, get_within, length_map, length_from_on, of_index_each, take_whole, within}
use Rattle.site_audit.specs.Spots.{sight_spot, spots_of}
use Rattle.site_audit.specs.Tracks.{is_earlier, taken_in}
use Rattle.audit_laws.specs.Types.{EntryLine, Said, Spot}
use Rattle.audit_laws.specs.Orders.{IsEarlierThing, IsOrder}
use Rattle.audit_laws.specs.Retaken.{all_events, events_by, lines_from, spots_from, GoesByKinds, HaveRoom}
use Rattle.audit_laws.proofs.Places.{all_kept, cut_same, from_at, from_split, get_dropped, get_taken, is_before, kept_in_order, taken_dropped}
use Rattle.audit_laws.proofs.RoundLines.{at_place, entries_at, entries_at_both, event_from, event_in, events_are, entry_of_line, fewer_events, is_on, line_at, on_first_lines, on_lines, passes, places_are, start, start_within, with_one, IsFrom, IsLine}
use Rattle.audit_laws.proofs.SpotPlaces.{kind_kind, own_own, own_sight, sight_own, sight_sight}
use Rattle.audit_laws.proofs.Tracking.{tracks_meet}

pub length_take_some : {A : Type 0} (n : ℕ) (xs : List A) → n ≤ length xs → length (take n xs) ≡ n
length_take_some zero xs h = refl
length_take_some (suc n) [] h = absurd (omega (arith, h))
length_take_some (suc n) (x ∷ xs) h = ap suc (length_take_some n xs (omega (arith, h)))

-- what a test of a line passes
record Passes (xs : List EntryLine) (caller c t : ℕ) : Type 0 where
  x : EntryLine
  is : slice_get xs t ≡ Some x
  by_caller : x.entry.caller ≡ caller
  on : x.checkable ≡ c

pub both_true : (a b : Bool) → (a && b) ≡ true → (a ≡ true) × (b ≡ true)
both_true true true e = (refl, refl)
both_true true false e = absurd cc
both_true false b e = absurd cc

passes_is : (xs : List EntryLine) (caller c t : ℕ) → at_place xs (is_on caller c) t ≡ true → Passes xs caller c t
passes_is xs caller c t e = by (slice_get xs t) refl e
  where
    by : (o : Option EntryLine) → slice_get xs t ≡ o → passes (is_on caller c) o ≡ true → Passes xs caller c t
    by None is e = absurd cc
    by (Some x) is e = let b = both_true (nat_eq x.entry.caller caller) (nat_eq x.checkable c) e in record { x = x; is = is; by_caller = eqb-true x.entry.caller caller b.0; on = eqb-true x.checkable c b.1 }

module _ (r : Rules) (moment : ℕ) (before : Histories) (events : List (List Asked)) (round : Histories) (said : List Said) (order : List ℕ) (h : IsRound r moment before events round) (room : HaveRoom (length events) (behind before round) (length round)) (many : length said ≡ length (lines_from 0 round)) where
  abbrev xs : List EntryLine
  xs = lines_from 0 round

  abbrev Must : ℕ → ℕ → Type 0
  Must a b = IsEarlierThing (spots_from 0 xs said) is_earlier (λ z. z.thing) a b

  -- what an entry of a line is
  pub record IsThing (t : ℕ) (x : EntryLine) : Type 0 where
    pub place : ℕ
    pub at : slice_get (of_index x.checkable round) place ≡ Some x.entry
    pub there : t ≡ start x.checkable round + place
    pub number : x.entry.number ≡ length (of_index x.checkable before) + place + 1
    pub few : x.entry.number < 2 ^ 79

  pub fits : (c : ℕ) → length (of_index c before) + length (of_index c round) < 2 ^ 64
  fits c = let a = room.entries_fit c in let b = length-append (of_index c before) (of_index c round) in omega (arith, a, b)

  pub thing : (t : ℕ) (x : EntryLine) → slice_get xs t ≡ Some x → IsThing t x
  thing t x is =
      let l : IsLine 0 round t x = line_at 0 round t x is in
      let e : l.c ≡ x.checkable = (let i = l.is in omega (arith, i)) in
      let at : slice_get (of_index x.checkable round) l.place ≡ Some x.entry = subst (λ c. slice_get (of_index c round) l.place ≡ Some x.entry) e l.at in
      let there : t ≡ start x.checkable round + l.place = subst (λ c. t ≡ start c round + l.place) e l.there in
      let m = h.made x.checkable l.place x.entry at in
      let lt = within (of_index x.checkable round) l.place x.entry at in
      let long = length-append (of_index x.checkable before) (take l.place (of_index x.checkable round)) in
      let front = length_take_some l.place (of_index x.checkable round) (omega (arith, lt)) in
      let made : x.entry.number ≡ length (of_index x.checkable before ++ take l.place (of_index x.checkable round)) + 1 = ap (λ (e : Entry). e.number) m.made in
      let number : x.entry.number ≡ length (of_index x.checkable before) + l.place + 1 = omega (arith, made, long, front) in
      let all = fits x.checkable in
      record { place = l.place; at = at; there = there; number = number; few = omega (arith, number, lt, all) }

  pub said_at : (t : ℕ) (x : EntryLine) → slice_get xs t ≡ Some x → (s : Said) × (slice_get said t ≡ Some s)
  said_at t x is = let lt = within xs t x is in get_within said t (omega (arith, lt, many))

  module _ (o : IsOrder Must (length said) order) where
    -- the entries of one caller and checkable are taken in their order
    own_order : (caller c : ℕ) → filter (at_place xs (is_on caller c)) order ≡ filter (at_place xs (is_on caller c)) (from_on 0 (length said))
    own_order caller c = kept_in_order Must (length said) order o (at_place xs (is_on caller c)) rule
      where
        rule : (a b : ℕ) → a < b → at_place xs (is_on caller c) a ≡ true → at_place xs (is_on caller c) b ≡ true → b < length said → Must a b
        rule a b lt p q inside =
            let x = passes_is xs caller c a p in
            let y = passes_is xs caller c b q in
            let s = said_at a x.x x.is in
            let u = said_at b y.x y.is in
            let same : x.x.checkable ≡ y.x.checkable = x.on ∙ sym y.on in
            let t = thing a x.x x.is in
            let v = thing b y.x y.is in
            let ta = t.there in
            let tb : b ≡ start x.x.checkable round + v.place = v.there ∙ ap (λ k. start k round + v.place) (sym same) in
            let na = t.number in
            let nb : y.x.entry.number ≡ length (of_index x.x.checkable before) + v.place + 1 = v.number ∙ ap (λ k. length (of_index k before) + v.place + 1) (sym same) in
            own_own xs said a b x.x y.x s.0 u.0 x.is y.is s.1 u.1 (x.by_caller ∙ sym y.by_caller) same (omega (arith, ta, tb, na, nb, lt)) v.few

    -- they are the entries of the round
    entries_are : (caller c : ℕ) → entries_at xs (filter (at_place xs (is_on caller c)) order) ≡ entries_by caller (of_index c round)
    entries_are caller c =
        let z : 0 + c ≡ c = omega arith in
        ap (entries_at xs) (own_order caller c ∙ ap (λ n. filter (at_place xs (is_on caller c)) (from_on 0 n)) many)
        ∙ (places_are (is_on caller c) xs (length xs) (omega arith)
        ∙ (ap (λ zs. map entry_of_line (filter (is_on caller c) zs)) (take_whole xs)
        ∙ (ap (λ k. map entry_of_line (filter (is_on caller k) xs)) (sym z) ∙ on_lines caller 0 c round)))

    abbrev told : List (List Asked)
    told = all_events xs (length events) order

    told_many : length told ≡ length events
    told_many = length_map (λ caller. events_by xs caller order) (from_on 0 (length events)) ∙ length_from_on 0 (length events)

    told_of : (caller : ℕ) → caller < length events → of_index caller told ≡ events_by xs caller order
    told_of caller lt = let z : 0 + caller ≡ caller = omega arith in of_index_each (λ k. events_by xs k order) 0 (length events) caller lt ∙ ap (λ k. events_by xs k order) z

    taken : (k c : ℕ) → k < length told → map (λ e. e.event) (entries_by k (of_index c round)) ≡ events_on c (of_index k told)
    taken k c lt =
        ap (map event_in) (sym (entries_are k c))
        ∙ (sym (events_are xs k c order) ∙ sym (ap (events_on c) (told_of k (omega (arith, lt, told_many)))))

    -- an entry that an event made
    record IsFound (caller i : ℕ) (e : Entry) : Type 0 where
      p : ℕ
      t : ℕ
      x : EntryLine
      at : slice_get order p ≡ Some t
      is : slice_get xs t ≡ Some x
      by_caller : x.entry.caller ≡ caller
      entry : x.entry ≡ e
      taken_is : take i (events_by xs caller order) ≡ events_by xs caller (take p order)
      count : i ≡ length (events_by xs caller (take p order))

    found : (caller i : ℕ) (e : Entry) → IsEntryFor (events_by xs caller order) round caller i e → IsFound caller i e
    found caller i e f =
        let m : IsFrom xs caller order i f.asked = event_from xs caller order i f.asked f.at in
        let c = f.asked.checkable in
        let on : m.x.checkable ≡ c = ap (λ (a : Asked). a.checkable) m.asked in
        let test = at_place xs (is_on caller c) in
        let front = take m.p order in
        let own : test m.t ≡ true = ap (passes (is_on caller c)) m.is ∙ (ap (λ u. u && nat_eq m.x.checkable c) m.by_caller ∙ eq-eqb m.x.checkable c on) in
        let split : filter test order ≡ filter test front ++ filter test (m.t ∷ drop (suc m.p) order) = cut_there test m.p m.t order m.at in
        let kept : filter test (m.t ∷ drop (suc m.p) order) ≡ m.t ∷ filter test (drop (suc m.p) order) = first_kept test m.t (drop (suc m.p) order) own in
        let all : entries_by caller (of_index c round) ≡ entries_at xs (filter test front) ++ (m.x.entry ∷ entries_at xs (filter test (drop (suc m.p) order))) =
        sym (entries_are caller c) ∙ (ap (entries_at xs) (split ∙ ap (λ zs. filter test front ++ zs) kept) ∙ (entries_at_both xs (filter test front) (m.t ∷ filter test (drop (suc m.p) order)) ∙ ap (λ o. entries_at xs (filter test front) ++ with_one o (entries_at xs (filter test (drop (suc m.p) order)))) m.is)) in
        let number : length (events_on c (take i (events_by xs caller order))) ≡ length (entries_at xs (filter test front)) =
        ap (λ zs. length (events_on c zs)) m.before ∙ (ap length (events_are xs caller c front) ∙ length_map event_in (entries_at xs (filter test front))) in
        let here : Some m.x.entry ≡ Some e =
        sym (get_at (entries_at xs (filter test front)) (entries_at xs (filter test (drop (suc m.p) order))) m.x.entry)
        ∙ (sym (ap (λ zs. slice_get zs (length (entries_at xs (filter test front)))) all) ∙ (ap (slice_get (entries_by caller (of_index c round))) (sym number) ∙ f.made)) in
        record {
          p = m.p;
          t = m.t;
          x = m.x;
          at = m.at;
          is = m.is;
          by_caller = eqb-true m.x.entry.caller caller m.by_caller;
          entry = cc;
          taken_is = m.before;
          count =
              (let lt = within (events_by xs caller order) i f.asked f.at in
              sym (length_take_some i (events_by xs caller order) (omega (arith, lt))) ∙ ap length m.before);
        }
      where
        first_kept : (test : ℕ → Bool) (t : ℕ) (ts : List ℕ) → test t ≡ true → filter test (t ∷ ts) ≡ t ∷ filter test ts
        first_kept test t ts e = rw e refl

        drop_at : (p t : ℕ) (ts : List ℕ) → slice_get ts p ≡ Some t → drop p ts ≡ t ∷ drop (suc p) ts
        drop_at p t [] e = absurd cc
        drop_at zero t (u ∷ ts) e = let same : u ≡ t = cc in ap (λ z. z ∷ ts) same
        drop_at (suc p) t (u ∷ ts) e = drop_at p t ts e

        cut_there : (test : ℕ → Bool) (p t : ℕ) (ts : List ℕ) → slice_get ts p ≡ Some t → filter test ts ≡ filter test (take p ts) ++ filter test (t ∷ drop (suc p) ts)
        cut_there test p t ts e = ap (filter test) (sym (taken_dropped p ts)) ∙ (filter-append test (take p ts) (drop p ts) ∙ ap (λ zs. filter test (take p ts) ++ filter test zs) (drop_at p t ts e))

    -- a later event stands behind an earlier one
    later : (caller i j : ℕ) (e f : Entry) (x : IsFound caller i e) (y : IsFound caller j f) → i < j → x.p < y.p
    later caller i j e f x y lt = by (cases_lt x.p y.p)
      where
        by : (x.p < y.p) ⊎ (y.p ≤ x.p) → x.p < y.p
        by (inl up) = up
        by (inr le) =
            let fewer = fewer_events xs caller y.p x.p order le in
            let a = x.count in
            let b = y.count in
            absurd (omega (arith, fewer, a, b, lt))

    -- how much an entry has seen of a checkable
    seen_few : (t : ℕ) (x : EntryLine) (m : ℕ) (v : Sight) → slice_get xs t ≡ Some x → slice_get x.entry.sights m ≡ Some v → (length (of_index v.checkable before) ≤ v.count) × (v.count ≤ length (of_index v.checkable before) + length (of_index v.checkable round)) × (v.count < 2 ^ 79)
    seen_few t x m v is at =
        let y = thing t x is in
        let s = h.seen x.checkable y.place m x.entry v y.at at in
        let lo = s.0 in
        let hi = s.1 in
        let both = length-append (of_index v.checkable before) (of_index v.checkable round) in
        let all = fits v.checkable in
        (lo, omega (arith, hi, both), omega (arith, hi, both, all))

    rising_found : (caller i j m n : ℕ) (e f : Entry) (v w : Sight) → i < j → IsFound caller i e → IsFound caller j f → slice_get e.sights m ≡ Some v → slice_get f.sights n ≡ Some w → v.checkable ≡ w.checkable → v.count ≤ w.count
    rising_found caller i j m n e f v w lt x y at there same = by (cases_lt w.count v.count)
      where
        by : (w.count < v.count) ⊎ (v.count ≤ w.count) → v.count ≤ w.count
        by (inr le) = le
        by (inl less) =
            let p = said_at x.t x.x x.is in
            let q = said_at y.t y.x y.is in
            let x_at : slice_get x.x.entry.sights m ≡ Some v = ap (λ (e : Entry). slice_get e.sights m) x.entry ∙ at in
            let y_at : slice_get y.x.entry.sights n ≡ Some w = ap (λ (e : Entry). slice_get e.sights n) y.entry ∙ there in
            let must = sight_sight xs said y.t x.t y.x x.x q.0 p.0 y.is x.is q.1 p.1 n m w v y_at x_at (y.by_caller ∙ sym x.by_caller) (sym same) less (seen_few x.t x.x m v x.is x_at).2 in
            let back = is_before Must (length said) order o y.t x.t y.p x.p must y.at x.at in
            let up = later caller i j e f x y lt in
            absurd (omega (arith, back, up))

    -- what stands before an event of a caller on a checkable is what it has seen
    own_found : (caller i m : ℕ) (e : Entry) (v : Sight) → IsFound caller i e → slice_get e.sights m ≡ Some v
        → length (entries_by caller (take (v.count - length (of_index v.checkable before)) (of_index v.checkable round))) ≡ length (events_on v.checkable (take i (events_by xs caller order)))
    own_found caller i m e v x at =
        sym (ap (λ zs. length (events_on c zs)) x.taken_is
        ∙ (ap length (events_are xs caller c (take x.p order))
        ∙ (length_map event_in (entries_at xs (filter test (take x.p order)))
        ∙ (ap (λ zs. length (entries_at xs zs)) same
        ∙ ap length (places_are (is_on caller c) xs q (start_within 0 c n round n_fits)
        ∙ (ap (λ k. map entry_of_line (filter (is_on caller k) (take q xs))) (sym z) ∙ on_first_lines caller 0 c n round n_fits))))))
      where
        c : ℕ
        c = v.checkable

        z : 0 + c ≡ c
        z = omega arith

        test : ℕ → Bool
        test = at_place xs (is_on caller c)

        n : ℕ
        n = v.count - length (of_index c before)

        x_at : slice_get x.x.entry.sights m ≡ Some v
        x_at = ap (λ (e : Entry). slice_get e.sights m) x.entry ∙ at

        seen : (length (of_index c before) ≤ v.count) × (v.count ≤ length (of_index c before) + length (of_index c round)) × (v.count < 2 ^ 79)
        seen = seen_few x.t x.x m v x.is x_at

        n_fits : n ≤ length (of_index c round)
        n_fits = let a = seen.0 in let b = seen.1 in omega (arith, a, b)

        q : ℕ
        q = start c round + n

        q_fits : q ≤ length said
        q_fits = let w = start_within 0 c n round n_fits in omega (arith, w, many)

        -- those before the event are seen
        front : (j a : ℕ) → slice_get (take x.p order) j ≡ Some a → test a ≡ true → a < q
        front j a there t = by (cases_lt a q)
          where
            by : (a < q) ⊎ (q ≤ a) → a < q
            by (inl lt) = lt
            by (inr le) =
                let g = get_taken x.p order j a there in
                let y = passes_is xs caller c a t in
                let w = thing a y.x y.is in
                let wt : a ≡ start c round + w.place = w.there ∙ ap (λ k. start k round + w.place) y.on in
                let wn : y.x.entry.number ≡ length (of_index c before) + w.place + 1 = w.number ∙ ap (λ k. length (of_index k before) + w.place + 1) y.on in
                let lo = seen.0 in
                let p = said_at x.t x.x x.is in
                let s = said_at a y.x y.is in
                let must = sight_own xs said x.t a x.x y.x p.0 s.0 x.is y.is p.1 s.1 m v x_at (x.by_caller ∙ sym y.by_caller) y.on (omega (arith, le, wt, wn, lo)) w.few in
                let back = is_before Must (length said) order o x.t a x.p j must x.at g.0 in
                let lt = g.1 in
                absurd (omega (arith, back, lt))

        -- and those behind it aren't
        rest : (j a : ℕ) → slice_get (drop x.p order) j ≡ Some a → test a ≡ true → q ≤ a
        rest j a there t = by (cases_lt a q)
          where
            by : (a < q) ⊎ (q ≤ a) → q ≤ a
            by (inr le) = le
            by (inl lt) =
                let g = get_dropped x.p order j a there in
                let y = passes_is xs caller c a t in
                let w = thing a y.x y.is in
                let wt : a ≡ start c round + w.place = w.there ∙ ap (λ k. start k round + w.place) y.on in
                let wn : y.x.entry.number ≡ length (of_index c before) + w.place + 1 = w.number ∙ ap (λ k. length (of_index k before) + w.place + 1) y.on in
                let lo = seen.0 in
                let p = said_at x.t x.x x.is in
                let s = said_at a y.x y.is in
                let must = own_sight xs said a x.t y.x x.x s.0 p.0 y.is x.is s.1 p.1 m v x_at (y.by_caller ∙ sym x.by_caller) y.on (omega (arith, lt, wt, wn, lo)) seen.2 in
                let back = is_before Must (length said) order o a x.t (x.p + j) x.p must g x.at in
                absurd (omega (arith, back))

        split : from_on 0 (length said) ≡ from_on 0 q ++ from_on q (length said - q)
        split = let e : length said ≡ q + (length said - q) = omega (arith, q_fits) in let f : 0 + q ≡ q = omega arith in ap (from_on 0) e ∙ (from_split 0 q (length said - q) ∙ ap (λ k. from_on 0 q ++ from_on k (length said - q)) f)

        whole : filter test (take x.p order) ++ filter test (drop x.p order) ≡ filter test (from_on 0 q) ++ filter test (from_on q (length said - q))
        whole =
            sym (filter-append test (take x.p order) (drop x.p order))
            ∙ (ap (filter test) (taken_dropped x.p order)
            ∙ (own_order caller c ∙ (ap (filter test) split ∙ filter-append test (from_on 0 q) (from_on q (length said - q)))))

        same : filter test (take x.p order) ≡ filter test (from_on 0 q)
        same =
            cut_same q (filter test (take x.p order)) (filter test (drop x.p order)) (filter test (from_on 0 q)) (filter test (from_on q (length said - q))) whole
            (all_kept test (λ a. a < q) (take x.p order) front)
            (all_kept test (λ a. a < q) (from_on 0 q) (λ j a there t. let f = from_at 0 q j a there in let is = f.0 in let lt = f.1 in omega (arith, is, lt)))
            (all_kept test (λ a. q ≤ a) (drop x.p order) rest)
            (all_kept test (λ a. q ≤ a) (from_on q (length said - q)) (λ j a there t. let f = from_at q (length said - q) j a there in let is = f.0 in omega (arith, is)))

    -- a caller that there is
    caller_there : (caller i : ℕ) (e : Entry) → IsFound caller i e → caller < length events
    caller_there caller i e x =
        let y = thing x.t x.x x.is in
        let lt = h.callers x.x.checkable y.place x.x.entry y.at in
        let same = x.by_caller in
        omega (arith, lt, same)

    nobody : (caller : ℕ) (xss : List (List Asked)) → length xss ≤ caller → of_index caller xss ≡ []
    nobody caller [] le = refl
    nobody zero (ys ∷ xss) le = absurd (omega (arith, le))
    nobody (suc caller) (ys ∷ xss) le = nobody caller xss (omega (arith, le))

    made_for : (caller i : ℕ) (e : Entry) → IsEntryFor (of_index caller told) round caller i e → IsFound caller i e × (caller < length events)
    made_for caller i e f = by (cases_lt caller (length events))
      where
        by : (caller < length events) ⊎ (length events ≤ caller) → IsFound caller i e × (caller < length events)
        by (inl lt) = (found caller i e (subst (λ zs. IsEntryFor zs round caller i e) (told_of caller lt) f), lt)
        by (inr le) = absurd (none (subst (λ zs. IsEntryFor zs round caller i e) (nobody caller told (omega (arith, le, told_many))) f))
          where
            none : IsEntryFor [] round caller i e → ⊥
            none g = let at : slice_get [] i ≡ Some g.asked = g.at in absurd cc

    round_of_told : IsRound r moment before told round
    round_of_told = record {
      whole = h.whole;
      taken = taken;
      callers = λ c i e at. let lt = h.callers c i e at in omega (arith, lt, told_many);
      made = h.made;
      ancestors = h.ancestors;
      seen = h.seen;
      rising = λ k i j m n e f v w lt x y at there same. rising_found k i j m n e f v w lt (made_for k i e x).0 (made_for k j f y).0 at there same;
      own = λ k i m e v x at. let y = made_for k i e x in own_found k i m e v y.0 at ∙ ap (λ zs. length (events_on v.checkable (take i zs))) (sym (told_of k y.1));
    }

-- ---- each spot is that of an entry

all_both : (n : ℕ) (xs ys : List Spot) → AllByRecursion (λ x. x.thing < n) xs → AllByRecursion (λ x. x.thing < n) ys → AllByRecursion (λ x. x.thing < n) (xs ++ ys)
all_both n [] ys h g = g
all_both n (x ∷ xs) ys h g = (h.0, all_both n xs ys h.1 g)

sights_within : (k n caller : ℕ) (vs : List Sight) → k < n → AllByRecursion (λ x. x.thing < n) (map (sight_spot k caller) vs)
sights_within k n caller [] lt = tt
sights_within k n caller (v ∷ vs) lt = (lt, sights_within k n caller vs lt)

spots_within : (k n : ℕ) (ls : List EntryLine) (ss : List Said) → k + length ss ≤ n → AllByRecursion (λ x. x.thing < n) (spots_from k ls ss)
spots_within k n [] ss le = tt
spots_within k n (x ∷ ls) [] le = tt
spots_within k n (x ∷ ls) (s ∷ ss) le =
    let lt : k < n = omega (arith, le) in
    all_both n (spots_of k x s) (spots_from (suc k) ls ss) (lt, (lt, sights_within k n x.entry.caller x.entry.sights lt)) (spots_within (suc k) n ls ss (omega (arith, le)))

pub things_within : (ls : List EntryLine) (ss : List Said) → All (λ x. x.thing < length ss) (spots_from 0 ls ss)
things_within ls ss = All-from_recursion (λ x. x.thing < length ss) (spots_from 0 ls ss) (spots_within 0 (length ss) ls ss (omega arith))

pub told_round : (r : Rules) (moment : ℕ) (before : Histories) (events : List (List Asked)) (round : Histories) (said : List Said) (order : List ℕ) → IsRound r moment before events round → HaveRoom (length events) (behind before round) (length round) → length said ≡ length (lines_from 0 round) → taken_in (length said) (spots_from 0 (lines_from 0 round) said) ≡ Some order → IsRound r moment before (all_events (lines_from 0 round) (length events) order) round
told_round r moment before events round said order h room many e =
    round_of_told r moment before events round said order h room many
    (tracks_meet (length said) (spots_from 0 (lines_from 0 round) said) order e (things_within (lines_from 0 round) said))

pub by_kinds : (ls : List EntryLine) (said : List Said) (order : List ℕ) → taken_in (length said) (spots_from 0 ls said) ≡ Some order → GoesByKinds ls said order
by_kinds ls said order e = λ i j a b x y s r i_is j_is a_is b_is s_is r_is lt fit.
    is_before (λ c d. IsEarlierThing (spots_from 0 ls said) is_earlier (λ z. z.thing) c d) (length said) order (tracks_meet (length said) (spots_from 0 ls said) order e (things_within ls said)) a b i j
    (kind_kind ls said a b x y s r a_is b_is s_is r_is lt fit) i_is j_is
