-- One step of the walk over those that are due.
use Rattle.std.proofs.Common.{◌≡◌, ◌≢◌, ◌<◌, ◌&&◌, ◌||◌, not, ℕ, zero, suc, ◌+◌, List, [], ◌∷◌, ◌++◌, length, map, set, slice_get, nat_lt, nat_le, cond, Bool, true, false, Some, refl, sym, ap, ◌∙◌, arith}
use Rattle.std.proofs.lemmas.List.{map-append}
use Rattle.std.proofs.lemmas.Bool.Decides.{nat_tests}
use Rattle.check_slots.specs.Watches.{IsFirstDue, due_at, is_due}
use Rattle.run_meaning.specs.Reachability.{Outlook}
use Rattle.run_meaning.specs.Schedule as meant
use Rattle.run_meaning.specs.Schedule.{Watch, due_from, gets_order, is_forced, is_off, is_waiting, later_by, ordering, skipping, view_of_index, walk_over, walk_with, with_change}
use Rattle.run_meaning.specs.Turns as turns
use Rattle.run_meaning.specs.Turns.{Command, Outstanding, Slot}
use Rattle.run_meaning.proofs.Lists.{get_of_map, within}
use Rattle.site_model.specs.PlainSite.{PlainCheck}
use Rattle.check_plan.specs.Plans.{slots_in}
use Rattle.check_plan.specs.Walks.{Standing, ordered_as, outstanding_as, rest_of, walk_at}
use Rattle.check_plan.specs.declared.ordered.Ordered.{Ordered}

-- Watches by their places.

pub set_here : {A : Type 0} (xs : List A) (k : ℕ) (x y : A) → slice_get xs k ≡ Some x → slice_get (set xs k y) k ≡ Some y
set_here [] k x y h = absurd cc
set_here (z ∷ zs) zero x y h = refl
set_here (z ∷ zs) (suc k) x y h = set_here zs k x y h

pub set_there : {A : Type 0} (xs : List A) (k i : ℕ) (y : A) → k ≢ i → slice_get (set xs k y) i ≡ slice_get xs i
set_there [] k i y h = refl
set_there (z ∷ zs) zero zero y h = absurd (h refl)
set_there (z ∷ zs) zero (suc i) y h = refl
set_there (z ∷ zs) (suc k) zero y h = refl
set_there (z ∷ zs) (suc k) (suc i) y h = set_there zs k i y (λ e. h (ap suc e))

pub set_same : {A : Type 0} (xs : List A) (k : ℕ) (x : A) → slice_get xs k ≡ Some x → set xs k x ≡ xs
set_same [] k x h = refl
set_same (z ∷ zs) zero x h = let e : z ≡ x = cc in ap (λ y. y ∷ zs) (sym e)
set_same (z ∷ zs) (suc k) x h = ap (λ ys. z ∷ ys) (set_same zs k x h)

pub changed_slots : (ws : List Watch) (k : ℕ) (w left : Watch) (f : Slot → Slot) → slice_get ws k ≡ Some w → f w.slot ≡ left.slot → with_change k f (slots_in ws) ≡ slots_in (set ws k left)
changed_slots [] k w left f at is = refl
changed_slots (x ∷ ws) zero w left f at is =
    let same : x ≡ w = cc in
    ap (λ s. s ∷ slots_in ws) (ap (λ (v : Watch). f v.slot) same ∙ is)
changed_slots (x ∷ ws) (suc k) w left f at is = ap (λ ss. x.slot ∷ ss) (changed_slots ws k w left f at is)

-- The first that is due.

pub first_is_due : (moment : ℕ) (ws : List Watch) (k : ℕ) (first : IsFirstDue moment ws k) → is_due moment first.watch ≡ true
first_is_due moment ws k first = by (is_due moment first.watch) refl
  where
    by : (t : Bool) → is_due moment first.watch ≡ t → t ≡ true
    by true q = refl
    by false q =
        let n = ap length (first.leads first.watch q) in
        let m = ap (λ xs. length (due_from moment 0 xs)) (set_same ws k first.watch first.at) in
        absurd (omega (arith, n, m))

pub not_waiting : (moment : ℕ) (w : Watch) → is_due moment w ≡ true → w.waiting ≡ false
not_waiting moment w h = by w.waiting refl
  where
    by : (t : Bool) → w.waiting ≡ t → t ≡ false
    by false q = refl
    by true q = let e : false ≡ true = sym (ap (λ t. not t && nat_le w.slot.next moment) q) ∙ h in absurd cc

-- one that stands aside, or has an order
abbrev pub aside : ℕ → Watch
aside next = record { slot = record { next = next; forced = false }; waiting = true }

module _ (o : Outlook) (x : Standing) (k : ℕ) (first : IsFirstDue o.moment x.plan.watches k) (room : x.outstanding < o.site.max_orders) (c : PlainCheck) (is : slice_get o.site.checkables k ≡ Some c) where
  abbrev ws : List Watch
  ws = x.plan.watches

  abbrev w : Watch
  w = first.watch

  free : w.waiting ≡ false
  free = not_waiting o.moment w (first_is_due o.moment ws k first)

  pub inside : k < length ws
  inside = within ws k w first.at

  pub fewer : (next : ℕ) → length (due_from o.moment 0 (set ws k (aside next))) < length (due_from o.moment 0 ws)
  fewer next = let n = ap length (first.leads (aside next) refl) in omega (arith, n)

  abbrev test : Bool
  test = w.slot.forced || not (is_off o k c (view_of_index k o.seen))

  abbrev taken : (ℕ → Command) → Bool → meant.Walk
  taken command t = cond t (ordering command k (walk_at command x)) (skipping c k o.moment (walk_at command x))

  gets : (command : ℕ → Command) → gets_order o (due_at k w) c (walk_at command x) ≡ test
  gets command = ap (λ s. is_forced s || not (is_off o k c (view_of_index k o.seen))) (get_of_map (λ (v : Watch). v.slot) ws k w first.at)

  open_test : nat_lt x.outstanding o.site.max_orders ≡ true
  open_test = grind (arith, nat_tests, room)

  -- what the walk comes to, from behind this one on
  rest_is : (command : ℕ → Command) (next : ℕ) → rest_of command o x ≡ walk_over command o (due_from o.moment 0 (set ws k (aside next))) (taken command test)
  rest_is command next =
      let ds = due_from o.moment 0 (set ws k (aside next)) in
      let m = walk_at command x in
      ap (λ ds. walk_over command o ds m) (first.leads (aside next) refl)
      ∙ ap (λ t. cond t (walk_over command o ds (walk_with command o (due_at k w) (slice_get o.site.checkables k) m)) m) open_test
      ∙ ap (λ p. walk_over command o ds (walk_with command o (due_at k w) p m)) is
      ∙ ap (λ t. walk_over command o ds (taken command t)) (gets command)

  abbrev walk_of : List turns.Ordered → List Slot → ℕ → ℕ → meant.Walk
  walk_of os ss g n = record { orders = os; slots = ss; given = g; outstanding = n }

  same_walk : (as' bs : List turns.Ordered) (ss ts : List Slot) (g n : ℕ) → as' ≡ bs → ss ≡ ts → walk_of as' ss g n ≡ walk_of bs ts g n
  same_walk as' bs ss ts g n e f = ap (λ os. walk_of os ss g n) e ∙ ap (λ qs. walk_of bs qs g n) f

  -- An order.

  abbrev new : Ordered
  new = record { number = x.plan.orders.given + 1; checkable = k }

  abbrev pub given_next : Standing
  given_next = record {
    plan = record {
      watches = set ws k (aside w.slot.next);
      orders = record { given = x.plan.orders.given + 1; outstanding = x.plan.orders.outstanding ++ outstanding_as new ∷ [] };
    };
    orders = x.orders ++ new ∷ [];
    passed = x.passed;
    outstanding = x.outstanding + 1;
  }

  ordered_is : (command : ℕ → Command) → ordering command k (walk_at command x) ≡ walk_at command given_next
  ordered_is command =
      same_walk (map (ordered_as command) x.orders ++ ordered_as command new ∷ []) (map (ordered_as command) (x.orders ++ new ∷ [])) (with_change k (λ s. record s { forced = false }) (slots_in ws)) (slots_in (set ws k (aside w.slot.next))) (x.plan.orders.given + 1) (x.outstanding + 1)
      (sym (map-append (ordered_as command) x.orders (new ∷ [])))
      (changed_slots ws k w (aside w.slot.next) (λ s. record s { forced = false }) first.at refl)

  pub rest_given : test ≡ true → (command : ℕ → Command) → rest_of command o given_next ≡ rest_of command o x
  rest_given gets_one command =
      sym (rest_is command w.slot.next
      ∙ ap (λ t. walk_over command o (due_from o.moment 0 (set ws k (aside w.slot.next))) (taken command t)) gets_one
      ∙ ap (walk_over command o (due_from o.moment 0 (set ws k (aside w.slot.next)))) (ordered_is command))

  -- One that is passed over.

  abbrev later : ℕ
  later = later_by o.moment c.check_secs

  abbrev pub passed_next : Standing
  passed_next = record {
    plan = record { watches = set ws k (aside later); orders = x.plan.orders };
    orders = x.orders;
    passed = x.passed ++ k ∷ [];
    outstanding = x.outstanding;
  }

  not_forced : test ≡ false → w.slot.forced ≡ false
  not_forced held = by w.slot.forced refl
    where
      by : (t : Bool) → w.slot.forced ≡ t → t ≡ false
      by false q = refl
      by true q = let e : true ≡ false = sym (ap (λ t. t || not (is_off o k c (view_of_index k o.seen))) q) ∙ held in absurd cc

  skipped_is : test ≡ false → (command : ℕ → Command) → skipping c k o.moment (walk_at command x) ≡ walk_at command passed_next
  skipped_is held command =
      ap (λ ss. walk_of (map (ordered_as command) x.orders) ss x.plan.orders.given x.outstanding)
      (changed_slots ws k w (aside later) (λ s. record s { next = later }) first.at (ap (λ t. record { next = later; forced = t }) (not_forced held)))

  pub rest_passed : test ≡ false → (command : ℕ → Command) → rest_of command o passed_next ≡ rest_of command o x
  rest_passed held command =
      sym (rest_is command later
      ∙ ap (λ t. walk_over command o (due_from o.moment 0 (set ws k (aside later))) (taken command t)) held
      ∙ ap (walk_over command o (due_from o.moment 0 (set ws k (aside later)))) (skipped_is held command))
