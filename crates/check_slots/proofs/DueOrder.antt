-- Those that are due, in their order: the first of them, and the others once that one isn't due any more.
use Rattle.std.proofs.Common.{◌≡◌, ◌≢◌, ℕ, zero, suc, ◌+◌, ◌<◌, ◌≤◌, Bool, true, false, cond, List, [], ◌∷◌, set, slice_get, Some, refl, sym, ap, ◌∙◌, subst, arith}
use Rattle.std.proofs.lemmas.Bool.Decides.{nat_tests}
use Rattle.run_meaning.specs.Schedule.{Due, Watch, due_from, goes_first, put_due}
use Rattle.check_slots.specs.Watches.{due_at, is_due}

-- Two of them.

pub first_of_two : (d e : Due) → (d.since ≤ e.since) → (d.since ≡ e.since → d.checkable < e.checkable) → goes_first d e ≡ true
first_of_two d e h k = grind (arith, nat_tests, h, k)

never_both : (d e : Due) → goes_first d e ≡ true → goes_first e d ≡ false
never_both d e h = grind (arith, nat_tests, h)

-- One before all of a list.

abbrev Leads : Due → List Due → Type 0
Leads d [] = Unit {0}
Leads d (e ∷ es) = goes_first d e ≡ true

put_front : (d : Due) (es : List Due) → Leads d es → put_due d es ≡ d ∷ es
put_front d [] h = refl
put_front d (e ∷ es) h = ap (λ t. cond t (d ∷ e ∷ es) (e ∷ put_due d es)) h

put_behind : (d e : Due) (es : List Due) → goes_first e d ≡ true → put_due d (e ∷ es) ≡ e ∷ put_due d es
put_behind d e es h = ap (λ t. cond t (d ∷ e ∷ es) (e ∷ put_due d es)) (never_both e d h)

leads_put : (d e : Due) (es : List Due) → goes_first d e ≡ true → Leads d es → Leads d (put_due e es)
leads_put d e [] h l = h
leads_put d e (f ∷ fs) h l = by (goes_first e f)
  where
    by : (t : Bool) → Leads d (cond t (e ∷ f ∷ fs) (f ∷ put_due e fs))
    by true = h
    by false = l

-- it goes before each that is due
abbrev LeadsAll : ℕ → ℕ → List Watch → Due → Type 0
LeadsAll moment k ws d = (x : ℕ) (v : Watch) → slice_get ws x ≡ Some v → is_due moment v ≡ true → goes_first d (due_at (k + x) v) ≡ true

further : (moment k : ℕ) (w : Watch) (ws : List Watch) (d : Due) → LeadsAll moment k (w ∷ ws) d → LeadsAll moment (suc k) ws d
further moment k w ws d all x v at due =
    let same : k + suc x ≡ suc k + x = omega arith in
    subst (λ n. goes_first d (due_at n v) ≡ true) same (all (suc x) v at due)

leads_from : (moment k : ℕ) (ws : List Watch) (d : Due) → LeadsAll moment k ws d → Leads d (due_from moment k ws)
leads_from moment k [] d all = tt
leads_from moment k (w ∷ ws) d all = by (is_due moment w) refl (leads_from moment (suc k) ws d (further moment k w ws d all))
  where
    by : (t : Bool) → is_due moment w ≡ t → Leads d (due_from moment (suc k) ws) → Leads d (cond t (put_due (due_at k w) (due_from moment (suc k) ws)) (due_from moment (suc k) ws))
    by true q rest =
        let here : k + 0 ≡ k = omega arith in
        leads_put d (due_at k w) (due_from moment (suc k) ws) (subst (λ n. goes_first d (due_at n w) ≡ true) here (all 0 w refl q)) rest
    by false q rest = rest

-- The first of all that are due.

abbrev LeadsOthers : ℕ → ℕ → List Watch → ℕ → Due → Type 0
LeadsOthers moment k ws i d = (x : ℕ) (v : Watch) → x ≢ i → slice_get ws x ≡ Some v → is_due moment v ≡ true → goes_first d (due_at (k + x) v) ≡ true

pub next_due : (moment k i : ℕ) (ws : List Watch) (w left : Watch) → slice_get ws i ≡ Some w → is_due moment w ≡ true → is_due moment left ≡ false → LeadsOthers moment k ws i (due_at (k + i) w)
    → due_from moment k ws ≡ due_at (k + i) w ∷ due_from moment k (set ws i left)
next_due moment k i [] w left at due not_left all = absurd cc
next_due moment k zero (x ∷ ws) w left at due not_left all =
    let here : x ≡ w = cc in
    let place : k + 0 ≡ k = omega arith in
    let rest = due_from moment (suc k) ws in
    let others : LeadsAll moment (suc k) ws (due_at k w) = (λ y v there is.
    let same : k + suc y ≡ suc k + y = omega arith in
    let one : goes_first (due_at (k + 0) w) (due_at (k + suc y) v) ≡ true = all (suc y) v (λ e. absurd (omega (arith, e))) there is in
    subst (λ n. goes_first (due_at k w) (due_at n v) ≡ true) same (subst (λ n. goes_first (due_at n w) (due_at (k + suc y) v) ≡ true) place one)) in
    ap (λ v. cond (is_due moment v) (put_due (due_at k v) rest) rest) here
    ∙ ap (λ t. cond t (put_due (due_at k w) rest) rest) due
    ∙ put_front (due_at k w) rest (leads_from moment (suc k) ws (due_at k w) others)
    ∙ ap (λ n. due_at n w ∷ rest) (sym place)
    ∙ ap (λ t. due_at (k + 0) w ∷ cond t (put_due (due_at k left) rest) rest) (sym not_left)
next_due moment k (suc i) (y ∷ ws) w left at due not_left all =
    let place : suc k + i ≡ k + suc i = omega arith in
    let d = due_at (k + suc i) w in
    let others : LeadsOthers moment (suc k) ws i (due_at (suc k + i) w) = (λ x v apart there is.
    let same : k + suc x ≡ suc k + x = omega arith in
    let one : goes_first d (due_at (k + suc x) v) ≡ true = all (suc x) v (λ e. apart (let f : x ≡ i = omega (arith, e) in f)) there is in
    subst (λ n. goes_first (due_at n w) (due_at (suc k + x) v) ≡ true) (sym place) (subst (λ n. goes_first d (due_at n v) ≡ true) same one)) in
    let rest : due_from moment (suc k) ws ≡ d ∷ due_from moment (suc k) (set ws i left) =
    next_due moment (suc k) i ws w left at due not_left others ∙ ap (λ n. due_at n w ∷ due_from moment (suc k) (set ws i left)) place in
    by d (is_due moment y) refl rest all
  where
    by : (d : Due) (t : Bool) → is_due moment y ≡ t → due_from moment (suc k) ws ≡ d ∷ due_from moment (suc k) (set ws i left) → LeadsOthers moment k (y ∷ ws) (suc i) d
        → cond t (put_due (due_at k y) (due_from moment (suc k) ws)) (due_from moment (suc k) ws) ≡ d ∷ cond t (put_due (due_at k y) (due_from moment (suc k) (set ws i left))) (due_from moment (suc k) (set ws i left))
    by d false q rest first = rest
    by d true q rest first =
        let here : k + 0 ≡ k = omega arith in
        let lead : goes_first d (due_at k y) ≡ true = subst (λ n. goes_first d (due_at n y) ≡ true) here (first 0 y (λ e. absurd (omega (arith, e))) refl q) in
        ap (put_due (due_at k y)) rest ∙ put_behind (due_at k y) d (due_from moment (suc k) (set ws i left)) lead

-- Where none is due.

pub none_due : (moment k : ℕ) (ws : List Watch) → ((x : ℕ) (v : Watch) → slice_get ws x ≡ Some v → is_due moment v ≡ false) → due_from moment k ws ≡ []
none_due moment k [] all = refl
none_due moment k (w ∷ ws) all =
    ap (λ t. cond t (put_due (due_at k w) (due_from moment (suc k) ws)) (due_from moment (suc k) ws)) (all 0 w refl) ∙ none_due moment (suc k) ws (λ x. all (suc x))
