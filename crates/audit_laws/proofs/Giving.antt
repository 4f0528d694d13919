-- What a turn orders: each order has a number of its own, and of a checkable at most one is outstanding.
use Rattle.std.proofs.Common.{◌≡◌, ◌<◌, ◌≤◌, ◌+◌, ◌&&◌, ◌||◌, ℕ, zero, suc, List, [], ◌∷◌, ◌++◌, length, map, slice_get, nat_eq, nat_lt, nat_le, not, cond, Bool, true, false, Option, Some, None, refl, sym, ap, ◌∙◌, subst, arith, eq-eqb, eqb-true, length-append}
use Rattle.std.specs.Prelude.{⊤}
use Rattle.std.specs.List.{list_any, AllByRecursion}
use Rattle.std.proofs.lemmas.List.{append-nil, map-append}
use Rattle.std.proofs.lemmas.List.Folds.{list_any-append}
use Rattle.std.proofs.lemmas.Option.{slice_get_within}
use Rattle.site_model.specs.PlainSite.{PlainCheck, PlainSite}
use Rattle.site_model.specs.declared.entry.Entry.{Entry}
use Rattle.site_model.specs.declared.event.Event.{Event}
use Rattle.site_model.specs.declared.event.Event.TheVariants as event
use Rattle.site_model.specs.declared.view.View.{View}
use Rattle.run_meaning.specs.Dealing.{checkable_of, line_events, still}
use Rattle.run_meaning.specs.Lookback.{ask_commands}
use Rattle.run_meaning.specs.Meaning.{basis_of}
use Rattle.run_meaning.specs.Reachability.{Outlook}
use Rattle.run_meaning.specs.Runs.{Basis, IsTurn, Stage, TurnLog, lines_of, reports_of, stage_after}
use Rattle.run_meaning.specs.Schedule.{again_at, Due, Walk, Watch, due_from, gets_order, goes_first, is_waiting, ordering, outlook_after, put_due, schedule, skipping, walk_from, walk_over, walk_with, watch_from, watch_with, watches_after, watches_from}
use Rattle.run_meaning.specs.Turns.{Command, Feed, Histories, Ordered, Outstanding, Plans, ReadTurn, Slot, from_on, of_index}
use Rattle.run_meaning.specs.View.{view_of}
use Rattle.run_meaning.proofs.Lookback.{all_given, given, one_given}
use Rattle.run_meaning.proofs.Outstanding.{AreSingle, is_report, none_still, round_reports, single_still, waits_still}

-- Tests that are false.

unequal : (a b : ℕ) → nat_eq a b ≡ false → nat_eq b a ≡ false
unequal a b h = by (nat_eq b a) refl
  where
    by : (t : Bool) → nat_eq b a ≡ t → t ≡ false
    by true q = let e : true ≡ false = sym (eq-eqb a b (sym (eqb-true b a q))) ∙ h in e
    by false q = refl

left_false : (a b : Bool) → (a || b) ≡ false → a ≡ false
left_false true b h = h
left_false false b h = refl

right_false : (a b : Bool) → (a || b) ≡ false → b ≡ false
right_false true b h = absurd cc
right_false false b h = h

either_false : (a b : Bool) → a ≡ false → b ≡ false → (a || b) ≡ false
either_false true b h k = h
either_false false b h k = k

swapped : (a b c : Bool) → (a || (b || c)) ≡ (b || (a || c))
swapped true true c = refl
swapped true false c = refl
swapped false b c = refl

lower : (k n : ℕ) → k < n → nat_eq n k ≡ false
lower k n h = by (nat_eq n k) refl
  where
    by : (t : Bool) → nat_eq n k ≡ t → t ≡ false
    by true q = let e = eqb-true n k q in absurd (omega (arith, e, h))
    by false q = refl

-- Those that are due: no order of them is outstanding, and each stands there once.

abbrev is_due : List Due → ℕ → Bool
is_due ds k = list_any (λ d. nat_eq d.checkable k) ds

abbrev AreFree : List Due → List Outstanding → Type 0
AreFree [] os = ⊤
AreFree (d ∷ ds) os = (is_waiting os d.checkable ≡ false) × (is_due ds d.checkable ≡ false) × AreFree ds os

due_put : (d : Due) (ds : List Due) (k : ℕ) → is_due (put_due d ds) k ≡ (nat_eq d.checkable k || is_due ds k)
due_put d [] k = refl
due_put d (e ∷ es) k = by (goes_first d e) (due_put d es k)
  where
    by : (t : Bool) → is_due (put_due d es) k ≡ (nat_eq d.checkable k || is_due es k) → is_due (cond t (d ∷ e ∷ es) (e ∷ put_due d es)) k ≡ (nat_eq d.checkable k || (nat_eq e.checkable k || is_due es k))
    by true f = refl
    by false f = ap (λ b. nat_eq e.checkable k || b) f ∙ swapped (nat_eq e.checkable k) (nat_eq d.checkable k) (is_due es k)

free_put : (d : Due) (ds : List Due) (os : List Outstanding) → AreFree ds os → is_waiting os d.checkable ≡ false → is_due ds d.checkable ≡ false → AreFree (put_due d ds) os
free_put d [] os free waits due = (waits, refl, tt)
free_put d (e ∷ es) os free waits due = by (goes_first d e) (free_put d es os free.2 waits (right_false (nat_eq e.checkable d.checkable) (is_due es d.checkable) due))
  where
    by : (t : Bool) → AreFree (put_due d es) os → AreFree (cond t (d ∷ e ∷ es) (e ∷ put_due d es)) os
    by true f = (waits, due, free)
    by false f = (
      free.0,
      due_put d es e.checkable ∙ either_false (nat_eq d.checkable e.checkable) (is_due es e.checkable) (unequal e.checkable d.checkable (left_false (nat_eq e.checkable d.checkable) (is_due es d.checkable) due)) free.1,
      f,
    )

none_lower : (moment first : ℕ) (ws : List Watch) (k : ℕ) → k < first → is_due (due_from moment first ws) k ≡ false
none_lower moment first [] k h = refl
none_lower moment first (w ∷ ws) k h = by (not w.waiting && nat_le w.slot.next moment) (none_lower moment (suc first) ws k (omega arith))
  where
    by : (t : Bool) → is_due (due_from moment (suc first) ws) k ≡ false → is_due (cond t (put_due (record { since = w.slot.next; checkable = first }) (due_from moment (suc first) ws)) (due_from moment (suc first) ws)) k ≡ false
    by true f = due_put (record { since = w.slot.next; checkable = first }) (due_from moment (suc first) ws) k ∙ either_false (nat_eq first k) (is_due (due_from moment (suc first) ws) k) (lower k first h) f
    by false f = f

free_from : (moment first : ℕ) (ws : List Watch) (os : List Outstanding) → ((i : ℕ) (w : Watch) → slice_get ws i ≡ Some w → w.waiting ≡ is_waiting os (first + i)) → AreFree (due_from moment first ws) os
free_from moment first [] os h = tt
free_from moment first (w ∷ ws) os h =
    by w.waiting refl (nat_le w.slot.next moment) (free_from moment (suc first) ws os (λ i v at. let e : first + suc i ≡ suc first + i = omega arith in h (suc i) v at ∙ ap (is_waiting os) e))
  where
    here : w.waiting ≡ is_waiting os first
    here = let e : first + 0 ≡ first = omega arith in h 0 w refl ∙ ap (is_waiting os) e

    by : (t : Bool) → w.waiting ≡ t → (u : Bool) → AreFree (due_from moment (suc first) ws) os → AreFree (cond (not t && u) (put_due (record { since = w.slot.next; checkable = first }) (due_from moment (suc first) ws)) (due_from moment (suc first) ws)) os
    by true q u f = f
    by false q false f = f
    by false q true f = free_put (record { since = w.slot.next; checkable = first }) (due_from moment (suc first) ws) os f (sym here ∙ q) (none_lower moment (suc first) ws first (omega arith))

-- One order more.

abbrev one : ℕ → ℕ → Outstanding
one n j = record { order = n; checkable = j }

none_waits : (os : List Outstanding) (n j k : ℕ) → is_waiting os k ≡ false → nat_eq j k ≡ false → is_waiting (os ++ one n j ∷ []) k ≡ false
none_waits os n j k h q =
    list_any-append (λ (o : Outstanding). nat_eq o.checkable k) os (one n j ∷ [])
    ∙ either_false (is_waiting os k) (nat_eq j k || false) h (either_false (nat_eq j k) false q refl)

free_more : (ds : List Due) (os : List Outstanding) (n j : ℕ) → AreFree ds os → is_due ds j ≡ false → AreFree ds (os ++ one n j ∷ [])
free_more [] os n j free due = tt
free_more (d ∷ ds) os n j free due = (
  none_waits os n j d.checkable free.0 (unequal d.checkable j (left_false (nat_eq d.checkable j) (is_due ds j) due)),
  free.1,
  free_more ds os n j free.2 (right_false (nat_eq d.checkable j) (is_due ds j) due),
)

none_more : (os : List Outstanding) (n j p : ℕ) → checkable_of p os ≡ None → nat_eq n p ≡ false → checkable_of p (os ++ one n j ∷ []) ≡ None
none_more [] n j p h q = ap (λ t. cond t (Some j) None) q
none_more (x ∷ os) n j p h q = by (nat_eq x.order p) h (λ h. none_more os n j p h q)
  where
    by : (t : Bool) → cond t (Some x.checkable) (checkable_of p os) ≡ None → (checkable_of p os ≡ None → checkable_of p (os ++ one n j ∷ []) ≡ None) → cond t (Some x.checkable) (checkable_of p (os ++ one n j ∷ [])) ≡ None
    by true h f = absurd cc
    by false h f = f h

not_there : (x : Outstanding) (os : List Outstanding) (n : ℕ) → checkable_of n (x ∷ os) ≡ None → (nat_eq x.order n ≡ false) × (checkable_of n os ≡ None)
not_there x os n h = by (nat_eq x.order n) h
  where
    by : (t : Bool) → cond t (Some x.checkable) (checkable_of n os) ≡ None → (t ≡ false) × (checkable_of n os ≡ None)
    by true h = absurd cc
    by false h = (refl, h)

single_more : (os : List Outstanding) (n j : ℕ) → AreSingle os → is_waiting os j ≡ false → checkable_of n os ≡ None → AreSingle (os ++ one n j ∷ [])
single_more [] n j single waits new = (refl, refl, tt)
single_more (x ∷ os) n j single waits new =
    let (other, gone) = not_there x os n new in (
      none_waits os n j x.checkable single.0 (unequal x.checkable j (left_false (nat_eq x.checkable j) (is_waiting os j) waits)),
      none_more os n j x.order single.1 (unequal x.order n other),
      single_more os n j single.2 (right_false (nat_eq x.checkable j) (is_waiting os j) waits) gone,
    )

-- no two are of one checkable or of one order, and each order is one of those that were given
pub record AreNumbered (given : ℕ) (os : List Outstanding) : Type 0 where
  pub single : AreSingle os
  pub fresh : (n : ℕ) → given < n → checkable_of n os ≡ None

numbered_more : (g : ℕ) (os : List Outstanding) (j : ℕ) → AreNumbered g os → is_waiting os j ≡ false → AreNumbered (g + 1) (os ++ one (g + 1) j ∷ [])
numbered_more g os j new waits = record {
  single = single_more os (g + 1) j new.single waits (new.fresh (g + 1) (omega arith));
  fresh = λ n h. none_more os (g + 1) j n (new.fresh n (omega (arith, h))) (unequal n (g + 1) (lower (g + 1) n h));
}

-- ---- the walk

abbrev pub number_of : Ordered → ℕ
number_of o = o.number

-- its orders have the numbers behind those that were given, and are of checkables of the site
pub record AreCounted (g many : ℕ) (orders : List Ordered) : Type 0 where
  pub numbers : map number_of orders ≡ from_on (g + 1) (length orders)
  pub inside : AllByRecursion (λ o. o.checkable < many) orders

record IsSoFar (os : List Outstanding) (g many : ℕ) (w : Walk) : Type 0 where
  numbered : AreNumbered w.given (all_given os w)
  counted : AreCounted g many w.orders
  count : w.given ≡ g + length w.orders

from_more : (k n : ℕ) → from_on k (suc n) ≡ from_on k n ++ (k + n) ∷ []
from_more k zero = let e : k ≡ k + 0 = omega arith in ap (λ m. m ∷ []) e
from_more k (suc n) = let e : suc k + n ≡ k + suc n = omega arith in ap (λ ms. k ∷ ms) (from_more (suc k) n) ∙ ap (λ m. k ∷ (from_on (suc k) n ++ m ∷ [])) e

all_more : {A : Type 0} (P : A → Type 0) (xs : List A) (x : A) → AllByRecursion P xs → P x → AllByRecursion P (xs ++ x ∷ [])
all_more P [] x h p = (p, tt)
all_more P (y ∷ xs) x h p = (h.0, all_more P xs x h.1 p)

counted_more : (g many : ℕ) (orders : List Ordered) (o : Ordered) → AreCounted g many orders → o.number ≡ g + 1 + length orders → o.checkable < many → AreCounted g many (orders ++ o ∷ [])
counted_more g many orders o h e lt = record {
  numbers =
      map-append number_of orders (o ∷ [])
      ∙ (ap (λ ns. ns ++ o.number ∷ []) h.numbers
      ∙ (ap (λ m. from_on (g + 1) (length orders) ++ m ∷ []) e
      ∙ (sym (from_more (g + 1) (length orders)) ∙ ap (from_on (g + 1)) (sym more))));
  inside = all_more (λ (x : Ordered). x.checkable < many) orders o h.inside lt;
}
  where
    more : length (orders ++ o ∷ []) ≡ suc (length orders)
    more = let l = length-append orders (o ∷ []) in omega (arith, l)

walk_so_far : (command : ℕ → Command) (o : Outlook) (ds : List Due) (os : List Outstanding) (g : ℕ) (w : Walk) → AreFree ds (all_given os w) → IsSoFar os g (length o.site.checkables) w → IsSoFar os g (length o.site.checkables) (walk_over command o ds w)
walk_so_far command o [] os g w free so = so
walk_so_far command o (d ∷ ds) os g w free so =
    by (nat_lt w.outstanding o.site.max_orders) (slice_get o.site.checkables d.checkable) refl (λ w. walk_so_far command o ds os g w)
  where
    Onward : Walk → Type 0
    Onward w = IsSoFar os g (length o.site.checkables) (walk_over command o ds w)

    taken : (p : PlainCheck) → slice_get o.site.checkables d.checkable ≡ Some p → (gets : Bool) → ((w : Walk) → AreFree ds (all_given os w) → IsSoFar os g (length o.site.checkables) w → Onward w) → Onward (cond gets (ordering command d.checkable w) (skipping p d.checkable o.moment w))
    taken p at true onward =
        let more = one_given command d.checkable os w in
        let made : Ordered = record { number = w.given + 1; checkable = d.checkable; command = command d.checkable } in
        let l = length-append w.orders (made ∷ []) in
        let c = so.count in
        onward (ordering command d.checkable w)
        (subst (AreFree ds) (sym more) (free_more ds (all_given os w) (w.given + 1) d.checkable free.2 free.1))
        (record {
          numbered = subst (AreNumbered (w.given + 1)) (sym more) (numbered_more w.given (all_given os w) d.checkable so.numbered free.0);
          counted = counted_more g (length o.site.checkables) w.orders made so.counted (omega (arith, c)) (slice_get_within o.site.checkables d.checkable p at);
          count = omega (arith, c, l);
        })
    taken p at false onward = onward (skipping p d.checkable o.moment w) free.2 (record { numbered = so.numbered; counted = so.counted; count = so.count })

    by : (t : Bool) (x : Option PlainCheck) → slice_get o.site.checkables d.checkable ≡ x → ((w : Walk) → AreFree ds (all_given os w) → IsSoFar os g (length o.site.checkables) w → Onward w) → IsSoFar os g (length o.site.checkables) (cond t (walk_over command o ds (walk_with command o d x w)) w)
    by false x at onward = so
    by true None at onward = onward w free.2 so
    by true (Some p) at onward = taken p at (gets_order o d p w) onward

-- ---- who waits after a round

and_false : (b : Bool) → (b && false) ≡ false
and_false true = refl
and_false false = refl

and_true : (b : Bool) → (b && true) ≡ b
and_true true = refl
and_true false = refl

and_either : (a b c : Bool) → ((a && not b) && not c) ≡ (a && not (b || c))
and_either true true c = refl
and_either true false c = refl
and_either false b c = refl

kept_or_not : (w v : Watch) → v.waiting ≡ false → (cond w.waiting w v).waiting ≡ (w.waiting && true)
kept_or_not w v h = by w.waiting refl
  where
    by : (t : Bool) → w.waiting ≡ t → (cond t w v).waiting ≡ (t && true)
    by true q = q
    by false q = h

event_waits : (c : PlainCheck) (v : View) (moment : ℕ) (e : Event) (w : Watch) → (watch_with c v moment e w).waiting ≡ (w.waiting && not (is_report e))
event_waits c v moment (event.Result status true output perf) w = kept_or_not w (record { slot = record { next = again_at c v moment; forced = w.slot.forced }; waiting = false }) refl
event_waits c v moment (event.Result status false output perf) w = sym (and_false w.waiting)
event_waits c v moment (event.Check at force) w = kept_or_not w (record { slot = record { next = at; forced = w.slot.forced || force }; waiting = false }) refl
event_waits c v moment event.Tick w = sym (and_true w.waiting)
event_waits c v moment (event.Ack sticky notify) w = sym (and_true w.waiting)
event_waits c v moment event.Unack w = sym (and_true w.waiting)
event_waits c v moment (event.Down start finish fixed duration) w = sym (and_true w.waiting)
event_waits c v moment (event.Undown number) w = sym (and_true w.waiting)
event_waits c v moment (event.Checks on) w = sym (and_true w.waiting)
event_waits c v moment (event.Notes on) w = sym (and_true w.waiting)

entries_wait : (c : PlainCheck) (history es : List Entry) (w : Watch) → (watch_from c history es w).waiting ≡ (w.waiting && not (list_any (λ (e : Entry). is_report e.event) es))
entries_wait c history [] w = sym (and_true w.waiting)
entries_wait c history (e ∷ es) w =
    entries_wait c (history ++ e ∷ []) es (watch_with c (view_of c (history ++ e ∷ [])) e.moment e.event w)
    ∙ (ap (λ b. b && not (list_any (λ (e : Entry). is_report e.event) es)) (event_waits c (view_of c (history ++ e ∷ [])) e.moment e.event w)
    ∙ and_either w.waiting (is_report e.event) (list_any (λ (e : Entry). is_report e.event) es))

watches_wait : (first : ℕ) (cs : List PlainCheck) (ss : List Slot) (os : List Outstanding) (before round : Histories) (i : ℕ) (w : Watch) → slice_get (watches_from first cs ss os before round) i ≡ Some w
    → w.waiting ≡ (is_waiting os (first + i) && not (list_any (λ (e : Entry). is_report e.event) (of_index (first + i) round)))
watches_wait first [] ss os before round i w h = absurd cc
watches_wait first (d ∷ cs) [] os before round i w h = absurd cc
watches_wait first (d ∷ cs) (t ∷ ss) os before round zero w h =
    let own : Watch = watch_from d (of_index first before) (of_index first round) (record { slot = t; waiting = is_waiting os first }) in
    let e : own ≡ w = cc in
    let z : first ≡ first + 0 = omega arith in
    ap (λ (x : Watch). x.waiting) (sym e)
    ∙ (entries_wait d (of_index first before) (of_index first round) (record { slot = t; waiting = is_waiting os first })
    ∙ ap (λ n. is_waiting os n && not (list_any (λ (e : Entry). is_report e.event) (of_index n round))) z)
watches_wait first (d ∷ cs) (t ∷ ss) os before round (suc i) w h =
    let z : suc first + i ≡ first + suc i = omega arith in
    watches_wait (suc first) cs ss os before round i w h
    ∙ ap (λ n. is_waiting os n && not (list_any (λ (e : Entry). is_report e.event) (of_index n round))) z

-- ---- a turn

-- what a turn of some callers gives
pub record GivesOrders (s : PlainSite) (given : ℕ) (orders : List Ordered) (after : List Outstanding) : Type 0 where
  pub numbered : AreNumbered (given + length orders) after
  pub counted : AreCounted given (length s.checkables) orders

module _ (s : PlainSite) (holds : ℕ → ℕ → Bool) (command : ℕ → Command) (feed : Feed) (callers : ℕ) (some : 1 ≤ callers) (st : Stage) (t : ReadTurn) (l : TurnLog) (turn : IsTurn (basis_of s holds command feed) callers st t l) (asked : ask_commands (lines_of (basis_of s holds command feed) st t l.moment) ≡ true) (numbered : AreNumbered st.plans.given st.plans.outstanding) where
  abbrev b : Basis
  b = basis_of s holds command feed

  abbrev left : List Outstanding
  left = still (reports_of st t) st.plans.outstanding

  abbrev watches : List Watch
  watches = watches_after s st.plans st.histories l.round

  abbrev o : Outlook
  o = outlook_after s holds l.moment st.histories l.round

  abbrev first : Walk
  first = walk_from st.plans watches

  abbrev last : Walk
  last = walk_over command o (due_from l.moment 0 watches) first

  none_yet : all_given left first ≡ left
  none_yet = append-nil left

  waits_so : (i : ℕ) (w : Watch) → slice_get watches i ≡ Some w → w.waiting ≡ is_waiting (all_given left first) (0 + i)
  waits_so i w at =
      watches_wait 0 s.checkables st.plans.slots st.plans.outstanding st.histories l.round i w at
      ∙ (ap (λ a. is_waiting st.plans.outstanding (0 + i) && not a) (round_reports b.rules l.moment st.histories l.round callers (line_events (lines_of b st t l.moment)) st.plans.outstanding (reports_of st t) (0 + i) some asked turn.round)
      ∙ (sym (waits_still (reports_of st t) st.plans.outstanding (0 + i) numbered.single) ∙ ap (λ os. is_waiting os (0 + i)) (sym none_yet)))

  start : IsSoFar left st.plans.given (length s.checkables) first
  start = record {
    numbered = subst (AreNumbered st.plans.given) (sym none_yet) (record { single = single_still (reports_of st t) st.plans.outstanding numbered.single; fresh = λ n h. none_still (reports_of st t) st.plans.outstanding n (numbered.fresh n h) });
    counted = record { numbers = refl; inside = tt };
    count = omega arith;
  }

  ends : IsSoFar left st.plans.given (length s.checkables) last
  ends = walk_so_far command o (due_from l.moment 0 watches) left st.plans.given first (free_from l.moment 0 watches (all_given left first) waits_so) start

  orders_are : last.orders ≡ l.orders
  orders_are = sym turn.orders

  pub turn_gives : GivesOrders s st.plans.given l.orders (stage_after b st t l).plans.outstanding
  turn_gives =
      let many : last.given ≡ st.plans.given + length l.orders = ends.count ∙ ap (λ orders. st.plans.given + length orders) orders_are in
      record {
        numbered = subst (λ g. AreNumbered g (left ++ map given l.orders)) many (subst (λ orders. AreNumbered last.given (left ++ map given orders)) orders_are ends.numbered);
        counted = subst (AreCounted st.plans.given (length s.checkables)) orders_are ends.counted;
      }

-- ---- each order is of its checkable's command

abbrev pub IsOfCommand : (ℕ → Command) → Ordered → Type 0
IsOfCommand command o = o.command ≡ command o.checkable

walk_commands : (command : ℕ → Command) (o : Outlook) (ds : List Due) (w : Walk) → AllByRecursion (IsOfCommand command) w.orders → AllByRecursion (IsOfCommand command) (walk_over command o ds w).orders
walk_commands command o [] w h = h
walk_commands command o (d ∷ ds) w h = by (nat_lt w.outstanding o.site.max_orders) (slice_get o.site.checkables d.checkable) (λ w. walk_commands command o ds w)
  where
    Onward : Walk → Type 0
    Onward w = AllByRecursion (IsOfCommand command) (walk_over command o ds w).orders

    taken : (p : PlainCheck) (gets : Bool) → ((w : Walk) → AllByRecursion (IsOfCommand command) w.orders → Onward w) → Onward (cond gets (ordering command d.checkable w) (skipping p d.checkable o.moment w))
    taken p true onward = onward (ordering command d.checkable w) (all_more (IsOfCommand command) w.orders (record { number = w.given + 1; checkable = d.checkable; command = command d.checkable }) h refl)
    taken p false onward = onward (skipping p d.checkable o.moment w) h

    by : (t : Bool) (x : Option PlainCheck) → ((w : Walk) → AllByRecursion (IsOfCommand command) w.orders → Onward w) → AllByRecursion (IsOfCommand command) (cond t (walk_over command o ds (walk_with command o d x w)) w).orders
    by false x onward = h
    by true None onward = onward w h
    by true (Some p) onward = taken p (gets_order o d p w) onward

pub orders_commanded : (s : PlainSite) (holds : ℕ → ℕ → Bool) (command : ℕ → Command) (plans : Plans) (moment : ℕ) (before round : Histories) → AllByRecursion (IsOfCommand command) (schedule s holds command plans moment before round).orders
orders_commanded s holds command plans moment before round =
    walk_commands command (outlook_after s holds moment before round) (due_from moment 0 (watches_after s plans before round)) (walk_from plans (watches_after s plans before round)) tt
