-- How many orders are outstanding: as many as checkables wait for one, and never more than may be.
use Rattle.std.proofs.Common.{◌≡◌, ◌<◌, ◌≤◌, ◌+◌, ◌||◌, ℕ, zero, suc, List, [], ◌∷◌, ◌++◌, length, filter, slice_get, nat_eq, nat_lt, not, cond, Bool, true, false, Option, Some, None, refl, sym, ap, ◌∙◌, subst, arith, eqb-true, length-append, inl, inr, ◌⊎◌}
use Rattle.std.proofs.lemmas.Bool.{ltb-true}
use Rattle.std.proofs.lemmas.List.Filters.{length-filter_both}
use Rattle.std.proofs.lemmas.List.Sorted.{length_permutation}
use Rattle.site_model.specs.PlainSite.{PlainCheck}
use Rattle.run_meaning.specs.Turns.{Command, Histories, Outstanding, Reported, Slot}
use Rattle.run_meaning.specs.Dealing.{still, without}
use Rattle.run_meaning.specs.Reachability.{Outlook}
use Rattle.run_meaning.specs.Schedule.{Due, Walk, Watch, gets_order, is_waiting, later_by, ordering, skipping, walk_over, walk_with, watches_from, with_change}
use Rattle.run_meaning.proofs.Lists.{within}
use Rattle.run_meaning.proofs.Lookback.{all_given, one_given}
use Rattle.run_meaning.proofs.Outstanding.{AreSingle}
use Rattle.run_meaning.proofs.Parts.{get_kept, in_parts, part, parts}
use Rattle.run_meaning.proofs.Shares.{get_either}

abbrev of_checkable : Outstanding → ℕ
of_checkable o = o.checkable

-- Of a checkable one is outstanding or none.

one_or_none : (k : ℕ) (os : List Outstanding) → AreSingle os → length (part of_checkable k os) ≡ cond (is_waiting os k) 1 0
one_or_none k [] single = refl
one_or_none k (x ∷ os) single = by (nat_eq x.checkable k) refl (one_or_none k os single.2)
  where
    by : (t : Bool) → nat_eq x.checkable k ≡ t → length (part of_checkable k os) ≡ cond (is_waiting os k) 1 0 → length (cond t (x ∷ part of_checkable k os) (part of_checkable k os)) ≡ cond (t || is_waiting os k) 1 0
    by true e f = let w : is_waiting os k ≡ false = ap (is_waiting os) (sym (eqb-true x.checkable k e)) ∙ single.0 in ap suc (f ∙ ap (λ b. cond b 1 0) w)
    by false e f = f

waiting_parts : (first : ℕ) (ws : List Watch) (os : List Outstanding) → AreSingle os → ((i : ℕ) (w : Watch) → slice_get ws i ≡ Some w → w.waiting ≡ is_waiting os (first + i)) → length (filter (λ w. w.waiting) ws) ≡ length (parts of_checkable first (length ws) os)
waiting_parts first [] os single h = refl
waiting_parts first (w ∷ ws) os single h =
    by w.waiting refl (waiting_parts (suc first) ws os single (λ i v at. let e : first + suc i ≡ suc first + i = omega arith in h (suc i) v at ∙ ap (is_waiting os) e))
  where
    here : w.waiting ≡ is_waiting os first
    here = let e : first + 0 ≡ first = omega arith in h 0 w refl ∙ ap (is_waiting os) e

    by : (t : Bool) → w.waiting ≡ t → length (filter (λ (w : Watch). w.waiting) ws) ≡ length (parts of_checkable (suc first) (length ws) os) → length (cond t (w ∷ filter (λ (w : Watch). w.waiting) ws) (filter (λ (w : Watch). w.waiting) ws)) ≡ length (part of_checkable first os ++ parts of_checkable (suc first) (length ws) os)
    by true q f =
        let p : length (part of_checkable first os) ≡ 1 = one_or_none first os single ∙ ap (λ b. cond b 1 0) (sym here ∙ q) in
        let a = length-append (part of_checkable first os) (parts of_checkable (suc first) (length ws) os) in
        omega (arith, p, a, f)
    by false q f =
        let p : length (part of_checkable first os) ≡ 0 = one_or_none first os single ∙ ap (λ b. cond b 1 0) (sym here ∙ q) in
        let a = length-append (part of_checkable first os) (parts of_checkable (suc first) (length ws) os) in
        omega (arith, p, a, f)

-- all are of the first so many checkables
abbrev pub AreWithin : ℕ → List Outstanding → Type 0
AreWithin n os = (i : ℕ) (o : Outstanding) → slice_get os i ≡ Some o → o.checkable < n

pub as_many_wait : (ws : List Watch) (os : List Outstanding) → AreSingle os → AreWithin (length ws) os → ((i : ℕ) (w : Watch) → slice_get ws i ≡ Some w → w.waiting ≡ is_waiting os (0 + i)) → length (filter (λ w. w.waiting) ws) ≡ length os
as_many_wait ws os single inside h =
    waiting_parts 0 ws os single h
    ∙ length_permutation os (parts of_checkable 0 (length ws) os) (in_parts of_checkable (length ws) 0 os (λ i o at. let q = inside i o at in (omega arith, omega (arith, q))))

-- Fewer after reports.

fewer : (n : ℕ) (os : List Outstanding) → length (without n os) ≤ length os
fewer n os = let e = length-filter_both (λ (o : Outstanding). nat_eq o.order n) (λ o. not (nat_eq o.order n)) (λ o. refl) os in omega (arith, e)

pub fewer_still : (rs : List Reported) (os : List Outstanding) → length (still rs os) ≤ length os
fewer_still [] os = omega arith
fewer_still (r ∷ rs) os = let a = fewer r.order os in let b = fewer_still rs (without r.order os) in omega (arith, a, b)

pub within_still : (n : ℕ) (rs : List Reported) (os : List Outstanding) → AreWithin n os → AreWithin n (still rs os)
within_still n [] os h = h
within_still n (r ∷ rs) os h = within_still n rs (without r.order os) (λ i o at. let (j, there, is) = get_kept (λ (o : Outstanding). not (nat_eq o.order r.order)) os i o at in h j o there)

-- Slots stay as many.

pub as_many_watches : (first : ℕ) (cs : List PlainCheck) (ss : List Slot) (os : List Outstanding) (before round : Histories) → length ss ≡ length cs → length (watches_from first cs ss os before round) ≡ length cs
as_many_watches first [] ss os before round h = refl
as_many_watches first (c ∷ cs) [] os before round h = absurd (omega (arith, h))
as_many_watches first (c ∷ cs) (s ∷ ss) os before round h = ap suc (as_many_watches (suc first) cs ss os before round (omega (arith, h)))

length_change : (k : ℕ) (f : Slot → Slot) (ss : List Slot) → length (with_change k f ss) ≡ length ss
length_change k f [] = refl
length_change zero f (s ∷ ss) = refl
length_change (suc k) f (s ∷ ss) = ap suc (length_change k f ss)

-- The walk.

-- it counts what is outstanding, which is no more than may be, each of a checkable of the site
pub record IsCounted (o : Outlook) (os : List Outstanding) (n : ℕ) (w : Walk) : Type 0 where
  pub many : w.outstanding ≡ length (all_given os w)
  pub few : w.outstanding ≤ o.site.max_orders
  pub inside : AreWithin (length o.site.checkables) (all_given os w)
  pub slots : length w.slots ≡ n

below : (a b : ℕ) → nat_lt a b ≡ true → a < b
below a b h = ltb-true a b h

within_more : (n : ℕ) (os : List Outstanding) (order j : ℕ) → AreWithin n os → j < n → AreWithin n (os ++ record { order = order; checkable = j } ∷ [])
within_more n os order j h lt i o at = by (get_either os (record { order = order; checkable = j } ∷ []) i o at)
  where
    one : (i : ℕ) → slice_get (record { order = order; checkable = j } ∷ []) i ≡ Some o → o.checkable < n
    one zero g = let e : record { order = order; checkable = j } ≡ o = cc in subst (λ (o : Outstanding). o.checkable < n) e lt
    one (suc i) g = absurd cc

    by : (slice_get os i ≡ Some o) ⊎ ((k : ℕ) × (slice_get (record { order = order; checkable = j } ∷ []) k ≡ Some o)) → o.checkable < n
    by (inl g) = h i o g
    by (inr (k, g)) = one k g

pub walk_counted : (command : ℕ → Command) (o : Outlook) (ds : List Due) (os : List Outstanding) (n : ℕ) (w : Walk) → IsCounted o os n w → IsCounted o os n (walk_over command o ds w)
walk_counted command o [] os n w h = h
walk_counted command o (d ∷ ds) os n w h = by (nat_lt w.outstanding o.site.max_orders) refl (slice_get o.site.checkables d.checkable) refl (λ w. walk_counted command o ds os n w)
  where
    Onward : Walk → Type 0
    Onward w = IsCounted o os n (walk_over command o ds w)

    taken : (p : PlainCheck) → slice_get o.site.checkables d.checkable ≡ Some p → nat_lt w.outstanding o.site.max_orders ≡ true → (gets : Bool) → ((w : Walk) → IsCounted o os n w → Onward w) → Onward (cond gets (ordering command d.checkable w) (skipping p d.checkable o.moment w))
    taken p at room true onward =
        let more = one_given command d.checkable os w in
        let a = ap length more ∙ length-append (all_given os w) (record { order = w.given + 1; checkable = d.checkable } ∷ []) in
        let lt = below w.outstanding o.site.max_orders room in
        onward (ordering command d.checkable w) (record {
          many = omega (arith, a, h.many);
          few = omega (arith, lt);
          inside = subst (AreWithin (length o.site.checkables)) (sym more) (within_more (length o.site.checkables) (all_given os w) (w.given + 1) d.checkable h.inside (within o.site.checkables d.checkable p at));
          slots = length_change d.checkable (λ (s : Slot). record s { forced = false }) w.slots ∙ h.slots;
        })
    taken p at room false onward =
        onward (skipping p d.checkable o.moment w) (record {
          many = h.many;
          few = h.few;
          inside = h.inside;
          slots = length_change d.checkable (λ (s : Slot). record s { next = later_by o.moment p.check_secs }) w.slots ∙ h.slots;
        })

    by : (t : Bool) → nat_lt w.outstanding o.site.max_orders ≡ t → (x : Option PlainCheck) → slice_get o.site.checkables d.checkable ≡ x → ((w : Walk) → IsCounted o os n w → Onward w) → IsCounted o os n (cond t (walk_over command o ds (walk_with command o d x w)) w)
    by false room x at onward = h
    by true room None at onward = onward w h
    by true room (Some p) at onward = taken p at room (gets_order o d p w) onward
