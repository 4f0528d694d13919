-- What the schedule keeps of a checkable is what looking back gives: its slot, and whether an order of it is outstanding.
use Rattle.std.proofs.Common.{◌≡◌, ◌≢◌, ◌+◌, ◌&&◌, ◌||◌, ℕ, zero, suc, List, [], ◌∷◌, ◌++◌, map, slice_get, nat_eq, nat_lt, not, cond, Bool, true, false, Option, Some, None, refl, sym, ap, ◌∙◌, arith, eq-eqb, eqb-true, append_assoc}
use Rattle.std.proofs.lemmas.List.{map-append}
use Rattle.std.proofs.lemmas.List.Folds.{list_any-append}
use Rattle.site_model.specs.PlainSite.{PlainCheck}
use Rattle.site_model.specs.declared.entry.Entry.{Entry}
use Rattle.site_model.specs.declared.event.Event.{Event}
use Rattle.site_model.specs.declared.event.Event.TheVariants as event
use Rattle.site_model.specs.declared.view.View.{View}
use Rattle.run_meaning.specs.View.{view_of}
use Rattle.run_meaning.specs.Turns.{Command, Histories, Ordered, Outstanding, Slot, of_index}
use Rattle.run_meaning.specs.Reachability.{Outlook}
use Rattle.run_meaning.specs.Schedule.{Due, Walk, Watch, gets_order, is_waiting, later_by, ordering, skipping, walk_over, walk_with, watch_from, watch_with, watches_from, with_change}
use Rattle.run_meaning.specs.Lookback.{Mark, happened, ordered, skipped, forced_back, is_outstanding, marks_of, marks_on, next_back, or_before, set_by, since, slot_back, step_with, steps_over}
use Rattle.run_meaning.proofs.Lists.{one_at}

-- Entries.

-- what is kept of a checkable to which this came
abbrev pub watch_back : PlainCheck → List Mark → Watch
watch_back c back = record { slot = slot_back c back; waiting = is_outstanding back }

result_kept : (c : PlainCheck) (v : View) (moment status : ℕ) (passive : Bool) (output perf : List ℕ) (waiting : Bool) (next : ℕ) (forced : Bool) →
    watch_with c v moment (event.Result status passive output perf) (record { slot = record { next = next; forced = forced }; waiting = waiting })
    ≡ record { slot = record { next = or_before (set_by c moment v waiting (event.Result status passive output perf)) next; forced = forced }; waiting = passive && waiting }
result_kept c v moment status true output perf true next forced = refl
result_kept c v moment status true output perf false next forced = refl
result_kept c v moment status false output perf waiting next forced = refl

check_kept : (c : PlainCheck) (v : View) (moment at : ℕ) (force waiting : Bool) (next : ℕ) (forced : Bool) →
    watch_with c v moment (event.Check at force) (record { slot = record { next = next; forced = forced }; waiting = waiting })
    ≡ record { slot = record { next = or_before (set_by c moment v waiting (event.Check at force)) next; forced = forced || (not waiting && force) }; waiting = waiting }
check_kept c v moment at force true next true = refl
check_kept c v moment at force true next false = refl
check_kept c v moment at force false next forced = refl

nothing_kept : (c : PlainCheck) (back : List Mark) (f : Bool) → forced_back back ≡ f → watch_back c back ≡ record { slot = record { next = next_back c back; forced = forced_back back || false }; waiting = is_outstanding back }
nothing_kept c back true e = ap (λ (f : Bool). record { slot = record { next = next_back c back; forced = f }; waiting = is_outstanding back }) (e ∙ sym (ap (λ f. f || false) e))
nothing_kept c back false e = ap (λ (f : Bool). record { slot = record { next = next_back c back; forced = f }; waiting = is_outstanding back }) (e ∙ sym (ap (λ f. f || false) e))

one_kept : (c : PlainCheck) (moment : ℕ) (e : Event) (v : View) (back : List Mark) → watch_with c v moment e (watch_back c back) ≡ watch_back c (happened moment e v ∷ back)
one_kept c moment (event.Result status passive output perf) v back =
    result_kept c v moment status passive output perf (is_outstanding back) (next_back c back) (forced_back back)
    ∙ ap (λ (f : Bool). record { slot = record { next = or_before (set_by c moment v (is_outstanding back) (event.Result status passive output perf)) (next_back c back); forced = f }; waiting = passive && is_outstanding back }) (or_none (forced_back back))
  where
    or_none : (f : Bool) → f ≡ (f || false)
    or_none true = refl
    or_none false = refl
one_kept c moment (event.Check at force) v back = check_kept c v moment at force (is_outstanding back) (next_back c back) (forced_back back)
one_kept c moment event.Tick v back = nothing_kept c back (forced_back back) refl
one_kept c moment (event.Ack sticky notify) v back = nothing_kept c back (forced_back back) refl
one_kept c moment event.Unack v back = nothing_kept c back (forced_back back) refl
one_kept c moment (event.Down start finish fixed duration) v back = nothing_kept c back (forced_back back) refl
one_kept c moment (event.Undown number) v back = nothing_kept c back (forced_back back) refl
one_kept c moment (event.Checks on) v back = nothing_kept c back (forced_back back) refl
one_kept c moment (event.Notes on) v back = nothing_kept c back (forced_back back) refl

pub entries_kept : (c : PlainCheck) (history es : List Entry) (back : List Mark) → watch_from c history es (watch_back c back) ≡ watch_back c (since back (marks_of c history es))
entries_kept c history [] back = refl
entries_kept c history (e ∷ es) back =
    let v = view_of c (history ++ e ∷ []) in
    ap (watch_from c (history ++ e ∷ []) es) (one_kept c e.moment e.event v back)
    ∙ entries_kept c (history ++ e ∷ []) es (happened e.moment e.event v ∷ back)

-- Slots by index.

pub watch_at : (first : ℕ) (cs : List PlainCheck) (ss : List Slot) (os : List Outstanding) (before round : Histories) (i : ℕ) (c : PlainCheck) (s : Slot) → slice_get cs i ≡ Some c → slice_get ss i ≡ Some s →
    slice_get (watches_from first cs ss os before round) i ≡ Some (watch_from c (of_index (first + i) before) (of_index (first + i) round) (record { slot = s; waiting = is_waiting os (first + i) }))
watch_at first [] ss os before round i c s h k = absurd cc
watch_at first (d ∷ cs) [] os before round i c s h k = absurd cc
watch_at first (d ∷ cs) (t ∷ ss) os before round zero c s h k =
    let ec : d ≡ c = cc in
    let es : t ≡ s = cc in
    let z : first ≡ first + 0 = omega arith in
    ap (λ n. Some (watch_from d (of_index n before) (of_index n round) (record { slot = t; waiting = is_waiting os n }))) z
    ∙ ap (λ x. Some (watch_from x (of_index (first + 0) before) (of_index (first + 0) round) (record { slot = t; waiting = is_waiting os (first + 0) }))) ec
    ∙ ap (λ x. Some (watch_from c (of_index (first + 0) before) (of_index (first + 0) round) (record { slot = x; waiting = is_waiting os (first + 0) }))) es
watch_at first (d ∷ cs) (t ∷ ss) os before round (suc i) c s h k =
    let z : suc first + i ≡ first + suc i = omega arith in
    watch_at (suc first) cs ss os before round i c s h k
    ∙ ap (λ n. Some (watch_from c (of_index n before) (of_index n round) (record { slot = s; waiting = is_waiting os n }))) z

-- where a watch stands, stand a checkable and a slot
pub watch_of : (first : ℕ) (cs : List PlainCheck) (ss : List Slot) (os : List Outstanding) (before round : Histories) (i : ℕ) (w : Watch) → slice_get (watches_from first cs ss os before round) i ≡ Some w → (c : PlainCheck) × (slice_get cs i ≡ Some c)
watch_of first [] ss os before round i w h = absurd cc
watch_of first (d ∷ cs) [] os before round i w h = absurd cc
watch_of first (d ∷ cs) (t ∷ ss) os before round zero w h = (d, refl)
watch_of first (d ∷ cs) (t ∷ ss) os before round (suc i) w h = watch_of (suc first) cs ss os before round i w h

changed : (k : ℕ) (f : Slot → Slot) (ss : List Slot) (s : Slot) → slice_get ss k ≡ Some s → slice_get (with_change k f ss) k ≡ Some (f s)
changed k f [] s h = absurd cc
changed zero f (t ∷ ss) s h = let e : t ≡ s = cc in ap (λ t. Some (f t)) e
changed (suc k) f (t ∷ ss) s h = changed k f ss s h

unchanged : (j k : ℕ) (f : Slot → Slot) (ss : List Slot) → j ≢ k → slice_get (with_change j f ss) k ≡ slice_get ss k
unchanged j k f [] h = refl
unchanged zero zero f (t ∷ ss) h = absurd (h refl)
unchanged zero (suc k) f (t ∷ ss) h = refl
unchanged (suc j) zero f (t ∷ ss) h = refl
unchanged (suc j) (suc k) f (t ∷ ss) h = unchanged j k f ss (λ e. h (ap suc e))

differs : (j k : ℕ) → nat_eq j k ≡ false → j ≢ k
differs j k h e = let f : true ≡ false = sym (eq-eqb j k e) ∙ h in absurd cc

-- The walk.

-- an order that was given is outstanding
abbrev pub given : Ordered → Outstanding
given o = record { order = o.number; checkable = o.checkable }

-- all that are outstanding on a walk
abbrev pub all_given : List Outstanding → Walk → List Outstanding
all_given os w = os ++ map given w.orders

-- what the walk keeps of the checkable of index k is what looking back gives
pub record Agrees (k : ℕ) (c : PlainCheck) (os : List Outstanding) (w : Walk) (back : List Mark) : Type 0 where
  pub slot : slice_get w.slots k ≡ Some (slot_back c back)
  pub outstanding : is_waiting (all_given os w) k ≡ is_outstanding back

pub one_given : (command : ℕ → Command) (j : ℕ) (os : List Outstanding) (w : Walk) → all_given os (ordering command j w) ≡ all_given os w ++ record { order = w.given + 1; checkable = j } ∷ []
one_given command j os w =
    ap (λ z. os ++ z) (map-append given w.orders (record { number = w.given + 1; checkable = j; command = command j } ∷ []))
    ∙ sym (append_assoc os (map given w.orders) (record { order = w.given + 1; checkable = j } ∷ []))

-- an order more
waits_more : (command : ℕ → Command) (j k : ℕ) (os : List Outstanding) (w : Walk) → is_waiting (all_given os (ordering command j w)) k ≡ (is_waiting (all_given os w) k || (nat_eq j k || false))
waits_more command j k os w =
    ap (λ z. is_waiting z k) (one_given command j os w)
    ∙ list_any-append (λ (o : Outstanding). nat_eq o.checkable k) (all_given os w) (record { order = w.given + 1; checkable = j } ∷ [])

or_true : (b : Bool) → (b || (true || false)) ≡ true
or_true true = refl
or_true false = refl

or_false : (b : Bool) → (b || (false || false)) ≡ b
or_false true = refl
or_false false = refl

pub walk_kept : (command : ℕ → Command) (o : Outlook) (ds : List Due) (k : ℕ) (c : PlainCheck) (os : List Outstanding) (w : Walk) (back : List Mark) → slice_get o.site.checkables k ≡ Some c → Agrees k c os w back →
    Agrees k c os (walk_over command o ds w) (since back (marks_on k (steps_over command o ds w)))
walk_kept command o [] k c os w back is agrees = agrees
walk_kept command o (d ∷ ds) k c os w back is agrees =
    by (nat_lt w.outstanding o.site.max_orders) (slice_get o.site.checkables d.checkable) refl (λ w back. walk_kept command o ds k c os w back is)
  where
    Onward : Walk → List Mark → Type 0
    Onward w back = Agrees k c os (walk_over command o ds w) (since back (marks_on k (steps_over command o ds w)))

    taken : (p : PlainCheck) → slice_get o.site.checkables d.checkable ≡ Some p → (gets : Bool) (same : Bool) → nat_eq d.checkable k ≡ same → ((w : Walk) (back : List Mark) → Agrees k c os w back → Onward w back) →
        Agrees k c os (walk_over command o ds (cond gets (ordering command d.checkable w) (skipping p d.checkable o.moment w)))
        (since back (cond same (cond gets ordered (skipped o.moment) ∷ marks_on k (steps_over command o ds (cond gets (ordering command d.checkable w) (skipping p d.checkable o.moment w)))) (marks_on k (steps_over command o ds (cond gets (ordering command d.checkable w) (skipping p d.checkable o.moment w))))))
    taken p at true true same onward =
        onward (ordering command d.checkable w) (ordered ∷ back) (record {
          slot = ap (λ j. slice_get (with_change j (λ (s : Slot). record s { forced = false }) w.slots) k) (eqb-true d.checkable k same) ∙ changed k (λ (s : Slot). record s { forced = false }) w.slots (slot_back c back) agrees.slot;
          outstanding = waits_more command d.checkable k os w ∙ ap (λ b. is_waiting (all_given os w) k || (b || false)) same ∙ or_true (is_waiting (all_given os w) k);
        })
    taken p at true false same onward =
        onward (ordering command d.checkable w) back (record {
          slot = unchanged d.checkable k (λ (s : Slot). record s { forced = false }) w.slots (differs d.checkable k same) ∙ agrees.slot;
          outstanding = waits_more command d.checkable k os w ∙ ap (λ b. is_waiting (all_given os w) k || (b || false)) same ∙ or_false (is_waiting (all_given os w) k) ∙ agrees.outstanding;
        })
    taken p at false true same onward =
        let j = eqb-true d.checkable k same in
        let e : p ≡ c = one_at o.site.checkables k p c (ap (slice_get o.site.checkables) (sym j) ∙ at) is in
        onward (skipping p d.checkable o.moment w) (skipped o.moment ∷ back) (record {
          slot =
              ap (λ j. slice_get (with_change j (λ (s : Slot). record s { next = later_by o.moment p.check_secs }) w.slots) k) j
              ∙ ap (λ (p : PlainCheck). slice_get (with_change k (λ (s : Slot). record s { next = later_by o.moment p.check_secs }) w.slots) k) e
              ∙ changed k (λ (s : Slot). record s { next = later_by o.moment c.check_secs }) w.slots (slot_back c back) agrees.slot;
          outstanding = agrees.outstanding;
        })
    taken p at false false same onward =
        onward (skipping p d.checkable o.moment w) back (record {
          slot = unchanged d.checkable k (λ (s : Slot). record s { next = later_by o.moment p.check_secs }) w.slots (differs d.checkable k same) ∙ agrees.slot;
          outstanding = agrees.outstanding;
        })

    by : (t : Bool) (x : Option PlainCheck) → slice_get o.site.checkables d.checkable ≡ x → ((w : Walk) (back : List Mark) → Agrees k c os w back → Onward w back) →
        Agrees k c os (cond t (walk_over command o ds (walk_with command o d x w)) w) (since back (marks_on k (cond t (step_with o d w x (steps_over command o ds (walk_with command o d x w))) [])))
    by false x at onward = agrees
    by true None at onward = onward w back agrees
    by true (Some p) at onward = taken p at (gets_order o d p w) (nat_eq d.checkable k) refl onward
