-- Through a whole run, the schedule and the stage keep what looking back gives.
use Rattle.std.proofs.Common.{◌≡◌, ◌<◌, ◌≤◌, ◌+◌, ◌&&◌, ◌||◌, ℕ, suc, List, [], ◌∷◌, ◌++◌, length, filter, map, slice_get, nat_eq, nat_lt, nat_le, not, cond, Bool, true, false, Option, Some, None, refl, sym, ap, ◌∙◌, subst, arith, eq-eqb, eqb-true, length-append}
use Rattle.std.specs.Prelude.{⊤}
use Rattle.std.specs.List.{list_any}
use Rattle.std.proofs.lemmas.List.{append-nil}
use Rattle.std.proofs.lemmas.List.Folds.{list_any-append}
use Rattle.site_model.specs.PlainSite.{PlainCheck, PlainSite}
use Rattle.run_meaning.specs.Turns.{Asked, Command, Feed, Histories, Line, Outstanding, ReadTurn, is_command, of_index}
use Rattle.run_meaning.specs.Reachability.{Outlook}
use Rattle.run_meaning.specs.Dealing.{Taken, checkable_of, line_events, still, taken_reports}
use Rattle.run_meaning.specs.Meaning.{basis_of}
use Rattle.run_meaning.specs.Runs.{Basis, Stage, TurnLog, IsTurn, IsRunFrom, IsRun, begun_by, lines_of, reports_of, stage_after, stage_by, start}
use Rattle.run_meaning.specs.Schedule.{Due, Walk, Watch, due_from, gets_order, goes_first, is_waiting, ordering, outlook_after, put_due, skipping, walk_from, walk_over, walk_with, watch_from, watches_after}
use Rattle.run_meaning.specs.Lookback.{AskCommands, Mark, ask_commands, back_after, back_by, is_outstanding, marks_of, since, slot_back}
use Rattle.run_meaning.proofs.Counting.{AreWithin, IsCounted, as_many_wait, as_many_watches, fewer_still, walk_counted, within_still}
use Rattle.run_meaning.proofs.Dealing.{events_append}
use Rattle.run_meaning.proofs.Lists.{get_of_map, length_map, one_at}
use Rattle.run_meaning.proofs.Lookback.{Agrees, all_given, entries_kept, given, one_given, walk_kept, watch_at, watch_back, watch_of}
use Rattle.run_meaning.proofs.Outstanding.{AreSingle, none_still, outstanding_after, round_reports, single_still, waits_still}

-- Those that are due.

abbrev is_due : List Due → ℕ → Bool
is_due ds k = list_any (λ d. nat_eq d.checkable k) ds

-- no order of them is outstanding, and each stands there once
abbrev AreFree : List Due → List Outstanding → Type 0
AreFree [] os = ⊤
AreFree (d ∷ ds) os = (is_waiting os d.checkable ≡ false) × (is_due ds d.checkable ≡ false) × AreFree ds os

unequal : (a b : ℕ) → nat_eq a b ≡ false → nat_eq b a ≡ false
unequal a b h = by (nat_eq b a) refl
  where
    by : (t : Bool) → nat_eq b a ≡ t → t ≡ false
    by true q = let e : true ≡ false = sym (eq-eqb a b (sym (eqb-true b a q))) ∙ h in e
    by false q = refl

left_false : (a b : Bool) → (a || b) ≡ false → a ≡ false
left_false true b h = h
left_false false b h = refl

right_false : (a b : Bool) → (a || b) ≡ false → b ≡ false
right_false true b h = absurd cc
right_false false b h = h

either_false : (a b : Bool) → a ≡ false → b ≡ false → (a || b) ≡ false
either_false true b h k = h
either_false false b h k = k

swapped : (a b c : Bool) → (a || (b || c)) ≡ (b || (a || c))
swapped true true c = refl
swapped true false c = refl
swapped false b c = refl

due_put : (d : Due) (ds : List Due) (k : ℕ) → is_due (put_due d ds) k ≡ (nat_eq d.checkable k || is_due ds k)
due_put d [] k = refl
due_put d (e ∷ es) k = by (goes_first d e) (due_put d es k)
  where
    by : (t : Bool) → is_due (put_due d es) k ≡ (nat_eq d.checkable k || is_due es k) → is_due (cond t (d ∷ e ∷ es) (e ∷ put_due d es)) k ≡ (nat_eq d.checkable k || (nat_eq e.checkable k || is_due es k))
    by true f = refl
    by false f = ap (λ b. nat_eq e.checkable k || b) f ∙ swapped (nat_eq e.checkable k) (nat_eq d.checkable k) (is_due es k)

free_put : (d : Due) (ds : List Due) (os : List Outstanding) → AreFree ds os → is_waiting os d.checkable ≡ false → is_due ds d.checkable ≡ false → AreFree (put_due d ds) os
free_put d [] os free waits due = (waits, refl, tt)
free_put d (e ∷ es) os free waits due = by (goes_first d e) (free_put d es os free.2 waits (right_false (nat_eq e.checkable d.checkable) (is_due es d.checkable) due))
  where
    by : (t : Bool) → AreFree (put_due d es) os → AreFree (cond t (d ∷ e ∷ es) (e ∷ put_due d es)) os
    by true f = (waits, due, free)
    by false f = (
      free.0,
      due_put d es e.checkable ∙ either_false (nat_eq d.checkable e.checkable) (is_due es e.checkable) (unequal e.checkable d.checkable (left_false (nat_eq e.checkable d.checkable) (is_due es d.checkable) due)) free.1,
      f,
    )

lower : (k n : ℕ) → k < n → nat_eq n k ≡ false
lower k n h = by (nat_eq n k) refl
  where
    by : (t : Bool) → nat_eq n k ≡ t → t ≡ false
    by true q = let e = eqb-true n k q in absurd (omega (arith, e, h))
    by false q = refl

none_lower : (moment first : ℕ) (ws : List Watch) (k : ℕ) → k < first → is_due (due_from moment first ws) k ≡ false
none_lower moment first [] k h = refl
none_lower moment first (w ∷ ws) k h = by (not w.waiting && nat_le w.slot.next moment) (none_lower moment (suc first) ws k (omega arith))
  where
    by : (t : Bool) → is_due (due_from moment (suc first) ws) k ≡ false → is_due (cond t (put_due (record { since = w.slot.next; checkable = first }) (due_from moment (suc first) ws)) (due_from moment (suc first) ws)) k ≡ false
    by true f = due_put (record { since = w.slot.next; checkable = first }) (due_from moment (suc first) ws) k ∙ either_false (nat_eq first k) (is_due (due_from moment (suc first) ws) k) (lower k first h) f
    by false f = f

free_from : (moment first : ℕ) (ws : List Watch) (os : List Outstanding) → ((i : ℕ) (w : Watch) → slice_get ws i ≡ Some w → w.waiting ≡ is_waiting os (first + i)) → AreFree (due_from moment first ws) os
free_from moment first [] os h = tt
free_from moment first (w ∷ ws) os h =
    by w.waiting refl (nat_le w.slot.next moment) (free_from moment (suc first) ws os (λ i v at. let e : first + suc i ≡ suc first + i = omega arith in h (suc i) v at ∙ ap (is_waiting os) e))
  where
    here : w.waiting ≡ is_waiting os first
    here = let e : first + 0 ≡ first = omega arith in h 0 w refl ∙ ap (is_waiting os) e

    by : (t : Bool) → w.waiting ≡ t → (u : Bool) → AreFree (due_from moment (suc first) ws) os → AreFree (cond (not t && u) (put_due (record { since = w.slot.next; checkable = first }) (due_from moment (suc first) ws)) (due_from moment (suc first) ws)) os
    by true q u f = f
    by false q false f = f
    by false q true f = free_put (record { since = w.slot.next; checkable = first }) (due_from moment (suc first) ws) os f (sym here ∙ q) (none_lower moment (suc first) ws first (omega arith))

-- One order more.

abbrev one : ℕ → ℕ → Outstanding
one n j = record { order = n; checkable = j }

none_waits : (os : List Outstanding) (n j k : ℕ) → is_waiting os k ≡ false → nat_eq j k ≡ false → is_waiting (os ++ one n j ∷ []) k ≡ false
none_waits os n j k h q =
    list_any-append (λ (o : Outstanding). nat_eq o.checkable k) os (one n j ∷ [])
    ∙ either_false (is_waiting os k) (nat_eq j k || false) h (either_false (nat_eq j k) false q refl)

free_more : (ds : List Due) (os : List Outstanding) (n j : ℕ) → AreFree ds os → is_due ds j ≡ false → AreFree ds (os ++ one n j ∷ [])
free_more [] os n j free due = tt
free_more (d ∷ ds) os n j free due = (
  none_waits os n j d.checkable free.0 (unequal d.checkable j (left_false (nat_eq d.checkable j) (is_due ds j) due)),
  free.1,
  free_more ds os n j free.2 (right_false (nat_eq d.checkable j) (is_due ds j) due),
)

none_more : (os : List Outstanding) (n j p : ℕ) → checkable_of p os ≡ None → nat_eq n p ≡ false → checkable_of p (os ++ one n j ∷ []) ≡ None
none_more [] n j p h q = ap (λ t. cond t (Some j) None) q
none_more (x ∷ os) n j p h q = by (nat_eq x.order p) h (λ h. none_more os n j p h q)
  where
    by : (t : Bool) → cond t (Some x.checkable) (checkable_of p os) ≡ None → (checkable_of p os ≡ None → checkable_of p (os ++ one n j ∷ []) ≡ None) → cond t (Some x.checkable) (checkable_of p (os ++ one n j ∷ [])) ≡ None
    by true h f = absurd cc
    by false h f = f h

not_there : (x : Outstanding) (os : List Outstanding) (n : ℕ) → checkable_of n (x ∷ os) ≡ None → (nat_eq x.order n ≡ false) × (checkable_of n os ≡ None)
not_there x os n h = by (nat_eq x.order n) h
  where
    by : (t : Bool) → cond t (Some x.checkable) (checkable_of n os) ≡ None → (t ≡ false) × (checkable_of n os ≡ None)
    by true h = absurd cc
    by false h = (refl, h)

single_more : (os : List Outstanding) (n j : ℕ) → AreSingle os → is_waiting os j ≡ false → checkable_of n os ≡ None → AreSingle (os ++ one n j ∷ [])
single_more [] n j single waits new = (refl, refl, tt)
single_more (x ∷ os) n j single waits new =
    let (other, gone) = not_there x os n new in (
      none_waits os n j x.checkable single.0 (unequal x.checkable j (left_false (nat_eq x.checkable j) (is_waiting os j) waits)),
      none_more os n j x.order single.1 (unequal x.order n other),
      single_more os n j single.2 (right_false (nat_eq x.checkable j) (is_waiting os j) waits) gone,
    )

-- The walk gives each checkable one order at most, and each order a number of its own.

record AreNew (given : ℕ) (os : List Outstanding) : Type 0 where
  single : AreSingle os
  fresh : (n : ℕ) → given < n → checkable_of n os ≡ None

new_more : (g : ℕ) (os : List Outstanding) (j : ℕ) → AreNew g os → is_waiting os j ≡ false → AreNew (g + 1) (os ++ one (g + 1) j ∷ [])
new_more g os j new waits = record {
  single = single_more os (g + 1) j new.single waits (new.fresh (g + 1) (omega arith));
  fresh = λ n h. none_more os (g + 1) j n (new.fresh n (omega (arith, h))) (unequal n (g + 1) (lower (g + 1) n h));
}

walk_new : (command : ℕ → Command) (o : Outlook) (ds : List Due) (os : List Outstanding) (w : Walk) → AreFree ds (all_given os w) → AreNew w.given (all_given os w) → AreNew (walk_over command o ds w).given (all_given os (walk_over command o ds w))
walk_new command o [] os w free new = new
walk_new command o (d ∷ ds) os w free new =
    by (nat_lt w.outstanding o.site.max_orders) (slice_get o.site.checkables d.checkable) (λ w. walk_new command o ds os w)
  where
    Onward : Walk → Type 0
    Onward w = AreNew (walk_over command o ds w).given (all_given os (walk_over command o ds w))

    taken : (p : PlainCheck) (gets : Bool) → ((w : Walk) → AreFree ds (all_given os w) → AreNew w.given (all_given os w) → Onward w) → Onward (cond gets (ordering command d.checkable w) (skipping p d.checkable o.moment w))
    taken p true onward =
        let more = one_given command d.checkable os w in
        onward (ordering command d.checkable w)
        (subst (AreFree ds) (sym more) (free_more ds (all_given os w) (w.given + 1) d.checkable free.2 free.1))
        (subst (AreNew (w.given + 1)) (sym more) (new_more w.given (all_given os w) d.checkable new free.0))
    taken p false onward = onward (skipping p d.checkable o.moment w) free.2 new

    by : (t : Bool) (x : Option PlainCheck) → ((w : Walk) → AreFree ds (all_given os w) → AreNew w.given (all_given os w) → Onward w) → AreNew (cond t (walk_over command o ds (walk_with command o d x w)) w).given (all_given os (cond t (walk_over command o ds (walk_with command o d x w)) w))
    by false x onward = new
    by true None onward = onward w free.2 new
    by true (Some p) onward = taken p (gets_order o d p w) onward

-- orders are counted
counted : (command : ℕ → Command) (o : Outlook) (ds : List Due) (w : Walk) (g : ℕ) → w.given ≡ g + length w.orders → (walk_over command o ds w).given ≡ g + length (walk_over command o ds w).orders
counted command o [] w g h = h
counted command o (d ∷ ds) w g h = by (nat_lt w.outstanding o.site.max_orders) (slice_get o.site.checkables d.checkable) (λ w. counted command o ds w g)
  where
    Onward : Walk → Type 0
    Onward w = (walk_over command o ds w).given ≡ g + length (walk_over command o ds w).orders

    taken : (p : PlainCheck) (gets : Bool) → ((w : Walk) → w.given ≡ g + length w.orders → Onward w) → Onward (cond gets (ordering command d.checkable w) (skipping p d.checkable o.moment w))
    taken p true onward =
        let e = length-append w.orders (record { number = w.given + 1; checkable = d.checkable; command = command d.checkable } ∷ []) in
        onward (ordering command d.checkable w) (omega (arith, e, h))
    taken p false onward = onward (skipping p d.checkable o.moment w) h

    by : (t : Bool) (x : Option PlainCheck) → ((w : Walk) → w.given ≡ g + length w.orders → Onward w) → (cond t (walk_over command o ds (walk_with command o d x w)) w).given ≡ g + length (cond t (walk_over command o ds (walk_with command o d x w)) w).orders
    by false x onward = h
    by true None onward = onward w h
    by true (Some p) onward = taken p (gets_order o d p w) onward

-- A turn, and a run.

module _ (s : PlainSite) (holds : ℕ → ℕ → Bool) (command : ℕ → Command) (feed : Feed) (callers : ℕ) (some : 1 ≤ callers) where
  abbrev b : Basis
  b = basis_of s holds command feed

  -- the stage keeps what looking back gives, of each checkable
  pub record Keeps (st : Stage) (back : ℕ → PlainCheck → List Mark) : Type 0 where
    new : AreNew st.plans.given st.plans.outstanding
    pub slot : (k : ℕ) (c : PlainCheck) → slice_get s.checkables k ≡ Some c → slice_get st.plans.slots k ≡ Some (slot_back c (back k c))
    pub outstanding : (k : ℕ) (c : PlainCheck) → slice_get s.checkables k ≡ Some c → is_waiting st.plans.outstanding k ≡ is_outstanding (back k c)

  module _ (st : Stage) (t : ReadTurn) (l : TurnLog) (back : ℕ → PlainCheck → List Mark) (turn : IsTurn b callers st t l) (asked : ask_commands (lines_of b st t l.moment) ≡ true) (keeps : Keeps st back) where
    abbrev os : List Outstanding
    os = st.plans.outstanding

    abbrev left : List Outstanding
    left = still (reports_of st t) os

    abbrev watches : List Watch
    watches = watches_after s st.plans st.histories l.round

    abbrev o : Outlook
    o = outlook_after s holds l.moment st.histories l.round

    abbrev first : Walk
    first = walk_from st.plans watches

    abbrev last : Walk
    last = walk_over command o (due_from l.moment 0 watches) first

    abbrev past : ℕ → PlainCheck → List Mark
    past k c = since (back k c) (marks_of c (of_index k st.histories) (of_index k l.round))

    watch_is : (k : ℕ) (c : PlainCheck) → slice_get s.checkables k ≡ Some c → slice_get watches k ≡ Some (watch_back c (past k c))
    watch_is k c is =
        let z : 0 + k ≡ k = omega arith in
        let waits = ap (is_waiting os) z ∙ keeps.outstanding k c is in
        watch_at 0 s.checkables st.plans.slots os st.histories l.round k c (slot_back c (back k c)) is (keeps.slot k c is)
        ∙ ap (λ w. Some (watch_from c (of_index (0 + k) st.histories) (of_index (0 + k) l.round) (record { slot = slot_back c (back k c); waiting = w }))) waits
        ∙ ap (λ n. Some (watch_from c (of_index n st.histories) (of_index n l.round) (watch_back c (back k c)))) z
        ∙ ap (λ w. Some w) (entries_kept c (of_index k st.histories) (of_index k l.round) (back k c))

    waits_is : (k : ℕ) (c : PlainCheck) → slice_get s.checkables k ≡ Some c → is_waiting left k ≡ is_outstanding (past k c)
    waits_is k c is =
        let any = round_reports b.rules l.moment st.histories l.round callers (line_events (lines_of b st t l.moment)) os (reports_of st t) k some asked turn.round in
        waits_still (reports_of st t) os k keeps.new.single
        ∙ ap (λ a. a && not (list_any (λ (t : Taken). nat_eq t.asked.checkable k) (taken_reports os (reports_of st t)))) (keeps.outstanding k c is)
        ∙ ap (λ a. is_outstanding (back k c) && not a) (sym any)
        ∙ sym (outstanding_after c (of_index k st.histories) (of_index k l.round) (back k c))

    none_yet : all_given left first ≡ left
    none_yet = append-nil left

    agrees : (k : ℕ) (c : PlainCheck) → slice_get s.checkables k ≡ Some c → Agrees k c left first (past k c)
    agrees k c is = record {
      slot = get_of_map (λ (w : Watch). w.slot) watches k (watch_back c (past k c)) (watch_is k c is);
      outstanding = ap (λ z. is_waiting z k) none_yet ∙ waits_is k c is;
    }

    free : AreFree (due_from l.moment 0 watches) (all_given left first)
    free = free_from l.moment 0 watches (all_given left first) each
      where
        each : (i : ℕ) (w : Watch) → slice_get watches i ≡ Some w → w.waiting ≡ is_waiting (all_given left first) (0 + i)
        each i w at =
            let (c, is) = watch_of 0 s.checkables st.plans.slots os st.histories l.round i w at in
            let z : i ≡ 0 + i = omega arith in
            ap (λ (w : Watch). w.waiting) (one_at watches i w (watch_back c (past i c)) at (watch_is i c is)) ∙ sym (waits_is i c is) ∙ ap (λ os. is_waiting os i) (sym none_yet) ∙ ap (is_waiting (all_given left first)) z

    outstanding_is : (stage_after b st t l).plans.outstanding ≡ all_given left last
    outstanding_is = ap (λ orders. left ++ map given orders) turn.orders

    pub turn_keeps : Keeps (stage_after b st t l) (λ k c. back_after s holds command st l k c (back k c))
    turn_keeps = record {
      new =
          let news = walk_new command o (due_from l.moment 0 watches) left first free (subst (AreNew st.plans.given) (sym none_yet) (record { single = single_still (reports_of st t) os keeps.new.single; fresh = λ n h. none_still (reports_of st t) os n (keeps.new.fresh n h) })) in
          let many : last.given ≡ st.plans.given + length l.orders = counted command o (due_from l.moment 0 watches) first st.plans.given (omega arith) ∙ ap (λ orders. st.plans.given + length orders) (sym turn.orders) in
          subst (λ g. AreNew g (stage_after b st t l).plans.outstanding) many (subst (AreNew last.given) (sym outstanding_is) news);
      slot = λ k c is. (walk_kept command o (due_from l.moment 0 watches) k c left first (past k c) is (agrees k c is)).slot;
      outstanding = λ k c is. ap (λ z. is_waiting z k) outstanding_is ∙ (walk_kept command o (due_from l.moment 0 watches) k c left first (past k c) is (agrees k c is)).outstanding;
    }

  -- no more orders are outstanding than may be, each of a checkable of the site
  pub record AreFew (st : Stage) : Type 0 where
    pub few : length st.plans.outstanding ≤ s.max_orders
    inside : AreWithin (length s.checkables) st.plans.outstanding
    slots : length st.plans.slots ≡ length s.checkables

  module _ (st : Stage) (t : ReadTurn) (l : TurnLog) (back : ℕ → PlainCheck → List Mark) (turn : IsTurn b callers st t l) (asked : ask_commands (lines_of b st t l.moment) ≡ true) (keeps : Keeps st back) (few : AreFew st) where
    abbrev still_out : List Outstanding
    still_out = still (reports_of st t) st.plans.outstanding

    abbrev seen : List Watch
    seen = watches_after s st.plans st.histories l.round

    abbrev outlook : Outlook
    outlook = outlook_after s holds l.moment st.histories l.round

    many_seen : length seen ≡ length s.checkables
    many_seen = as_many_watches 0 s.checkables st.plans.slots st.plans.outstanding st.histories l.round few.slots

    many_wait : length (filter (λ (w : Watch). w.waiting) seen) ≡ length still_out
    many_wait =
        as_many_wait seen still_out (single_still (reports_of st t) st.plans.outstanding keeps.new.single)
        (subst (λ n. AreWithin n still_out) (sym many_seen) (within_still (length s.checkables) (reports_of st t) st.plans.outstanding few.inside))
        (λ i w at. let (c, is) = watch_of 0 s.checkables st.plans.slots st.plans.outstanding st.histories l.round i w at in
        let z : i ≡ 0 + i = omega arith in
        ap (λ (w : Watch). w.waiting) (one_at seen i w (watch_back c (past st t l back turn asked keeps i c)) at (watch_is st t l back turn asked keeps i c is)) ∙ sym (waits_is st t l back turn asked keeps i c is) ∙ ap (is_waiting still_out) z)

    begins : IsCounted outlook still_out (length s.checkables) (walk_from st.plans seen)
    begins = record {
      many = many_wait ∙ ap length (sym (append-nil still_out));
      few = (let a = fewer_still (reports_of st t) st.plans.outstanding in let b = few.few in omega (arith, many_wait, a, b));
      inside = subst (AreWithin (length s.checkables)) (sym (append-nil still_out)) (within_still (length s.checkables) (reports_of st t) st.plans.outstanding few.inside);
      slots = length_map (λ (w : Watch). w.slot) seen ∙ many_seen;
    }

    turn_few : AreFew (stage_after b st t l)
    turn_few =
        let ends = walk_counted command outlook (due_from l.moment 0 seen) still_out (length s.checkables) (walk_from st.plans seen) begins in
        let is = outstanding_is st t l back turn asked keeps in
        record {
          few = (let e = ap length is in let m = ends.many in let f = ends.few in omega (arith, e, m, f));
          inside = subst (AreWithin (length s.checkables)) (sym is) ends.inside;
          slots = ends.slots;
        }

  both_ask : (ls ms : List Line) → ask_commands ls ≡ true → ask_commands ms ≡ true → ask_commands (ls ++ ms) ≡ true
  both_ask ls ms h k =
      ap (λ z. not (list_any (λ (a : Asked). not (is_command a.event)) z)) (events_append ls ms)
      ∙ ap not (list_any-append (λ (a : Asked). not (is_command a.event)) (line_events ls) (line_events ms))
      ∙ by (list_any (λ (a : Asked). not (is_command a.event)) (line_events ls)) (list_any (λ (a : Asked). not (is_command a.event)) (line_events ms)) h k
    where
      by : (x y : Bool) → not x ≡ true → not y ≡ true → not (x || y) ≡ true
      by true y h k = h
      by false y h k = k

  run_keeps : (ts : List ReadTurn) (ls : List TurnLog) (st : Stage) (back : ℕ → PlainCheck → List Mark) → IsRunFrom b callers st ts ls → AskCommands feed ts → Keeps st back → Keeps (stage_by b st ts ls) (λ k c. back_by s holds command feed k c (back k c) st ts ls)
  run_keeps [] ls st back run asked keeps = keeps
  run_keeps (t ∷ ts) [] st back run asked keeps = keeps
  run_keeps (t ∷ ts) (l ∷ ls) st back run asked keeps =
      run_keeps ts ls (stage_after b st t l) (λ k c. back_after s holds command st l k c (back k c)) run.1 (record { fed = asked.fed; own = λ i t at. asked.own (suc i) t at })
      (turn_keeps st t l back run.0 (both_ask (feed (begun_by st l.moment)) t.lines (asked.fed (begun_by st l.moment)) (asked.own 0 t refl)) keeps)

  run_few : (ts : List ReadTurn) (ls : List TurnLog) (st : Stage) (back : ℕ → PlainCheck → List Mark) → IsRunFrom b callers st ts ls → AskCommands feed ts → Keeps st back → AreFew st → AreFew (stage_by b st ts ls)
  run_few [] ls st back run asked keeps few = few
  run_few (t ∷ ts) [] st back run asked keeps few = few
  run_few (t ∷ ts) (l ∷ ls) st back run asked keeps few =
      let ask = both_ask (feed (begun_by st l.moment)) t.lines (asked.fed (begun_by st l.moment)) (asked.own 0 t refl) in
      run_few ts ls (stage_after b st t l) (λ k c. back_after s holds command st l k c (back k c)) run.1 (record { fed = asked.fed; own = λ i t at. asked.own (suc i) t at })
      (turn_keeps st t l back run.0 ask keeps) (turn_few st t l back run.0 ask keeps few)

  start_keeps : (before : Histories) → Keeps (start s before) (λ k c. [])
  start_keeps before = record {
    new = record { single = tt; fresh = λ n h. refl };
    slot = λ k c is. get_of_map (λ (_ : PlainCheck). record { next = 0; forced = false }) s.checkables k c is;
    outstanding = λ k c is. refl;
  }

  pub from_start : (before : Histories) (ts : List ReadTurn) (ls : List TurnLog) → IsRun b callers (start s before) ts ls → AskCommands feed ts → Keeps (stage_by b (start s before) ts ls) (λ k c. back_by s holds command feed k c [] (start s before) ts ls)
  from_start before ts ls run asked = run_keeps ts ls (start s before) (λ k c. []) run.turns asked (start_keeps before)

  pub few_from_start : (before : Histories) (ts : List ReadTurn) (ls : List TurnLog) → IsRun b callers (start s before) ts ls → AskCommands feed ts → AreFew (stage_by b (start s before) ts ls)
  few_from_start before ts ls run asked =
      run_few ts ls (start s before) (λ k c. []) run.turns asked (start_keeps before)
      (record { few = omega arith; inside = λ i o at. absurd cc; slots = length_map (λ (_ : PlainCheck). record { next = 0; forced = false }) s.checkables })
