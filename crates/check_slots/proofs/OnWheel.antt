-- What the wheel has of the watches.
use Rattle.std.proofs.Common.{◌≡◌, ℕ, zero, suc, ◌+◌, ◌-◌, ◌<◌, ◌≤◌, ◌&&◌, nat_le, not, Bool, true, false, cond, List, [], ◌∷◌, length, map, filter, set, replicate, slice_get, is_some, Option, Some, None, Result, Ok, Err, refl, sym, ap, ◌∙◌, subst, arith}
use Rattle.std.specs.Prelude.{IfNone, IfSome, OnErr, OnOk}
use Rattle.std.specs.Result.{result_ok}
use Rattle.std.proofs.lemmas.Bool.Decides.{nat_tests}
use Rattle.std.proofs.lemmas.List.Sums.{sum_by-cons}
use Rattle.std.proofs.lemmas.List.{get_or-set_same, map-set, set-get_or, set-set}
use Rattle.run_meaning.specs.Schedule as meant
use Rattle.run_meaning.specs.Schedule.{due_from, goes_first}
use Rattle.wheel_links.specs.Due.{IsNextDue, IsNoneDue}
use Rattle.wheel_links.specs.Members.{IsMember, Members, insert, member_count, moment_of, remove}
use Rattle.check_slots.specs.Watches.{IsFirstDue, due_at, first_watch, is_due, member_of, watch_as}
use Rattle.check_slots.specs.declared.watch.Watch.{Watch}
use Rattle.check_slots.proofs.DueOrder.{first_of_two, next_due, none_due}

-- Members.

-- one that is on the wheel is of a checkable that doesn't wait
record IsOn (each : List Watch) (k moment : ℕ) : Type 0 where
  pub watch : Watch
  pub at : slice_get each k ≡ Some watch
  pub free : watch.waiting ≡ false
  pub next : watch.next ≡ moment

is_on : (each : List Watch) (k moment : ℕ) → moment_of (map member_of each) k ≡ Some moment → IsOn each k moment
is_on [] k moment h = absurd cc
is_on (w ∷ ws) zero moment h = by w.waiting refl
  where
    by : (t : Bool) → w.waiting ≡ t → IsOn (w ∷ ws) zero moment
    by true q = let both : None ≡ Some moment = sym (ap (λ t. cond t None (Some w.next)) q) ∙ h in absurd cc
    by false q =
        let both : Some w.next ≡ Some moment = sym (ap (λ t. cond t None (Some w.next)) q) ∙ h in
        record { watch = w; at = refl; free = q; next = cc }
is_on (w ∷ ws) (suc k) moment h =
    let x = is_on ws k moment h in record { watch = x.watch; at = x.at; free = x.free; next = x.next }

-- one that is due is on the wheel
on_wheel : (each : List Watch) (k moment : ℕ) (v : meant.Watch) → slice_get (map watch_as each) k ≡ Some v → is_due moment v ≡ true → moment_of (map member_of each) k ≡ Some v.slot.next
on_wheel [] k moment v h due = absurd cc
on_wheel (w ∷ ws) zero moment v h due =
    let same : watch_as w ≡ v = cc in
    by w.waiting refl (ap (is_due moment) same ∙ due) ∙ ap (λ (x : meant.Watch). Some x.slot.next) same
  where
    by : (t : Bool) → w.waiting ≡ t → is_due moment (watch_as w) ≡ true → member_of w ≡ Some w.next
    by true q d = let both : false ≡ true = sym (ap (λ t. not t && nat_le w.next moment) q) ∙ d in absurd cc
    by false q d = ap (λ t. cond t None (Some w.next)) q
on_wheel (w ∷ ws) (suc k) moment v h due = on_wheel ws k moment v h due

at_map : (each : List Watch) (k : ℕ) (w : Watch) → slice_get each k ≡ Some w → slice_get (map watch_as each) k ≡ Some (watch_as w)
at_map [] k w h = absurd cc
at_map (x ∷ xs) zero w h = let same : x ≡ w = cc in ap (λ y. Some (watch_as y)) same
at_map (x ∷ xs) (suc k) w h = at_map xs k w h

-- The first of those that are due.

first_due : (each : List Watch) (moment k : ℕ) → IsNextDue (map member_of each) moment k → IsFirstDue moment (map watch_as each) k
first_due each moment k is =
    let on = is_on each k is.moment is.member in
    let w = watch_as on.watch in
    let at : slice_get (map watch_as each) k ≡ Some w = at_map each k on.watch on.at in
    let next = on.next in
    let late = is.due in
    let free = on.free in
    let due : is_due moment w ≡ true = ap (λ t. not t && nat_le on.watch.next moment) free ∙ grind (arith, nat_tests, next, late) in
    let place : 0 + k ≡ k = omega arith in
    record {
      watch = w;
      at = at;
      leads = λ left gone.
          next_due moment 0 k (map watch_as each) w left at due gone
          (λ x v apart there is_due_too.
          let other : 0 + x ≡ x = omega arith in
          let behind = is.first x v.slot.next (on_wheel each x moment v there is_due_too) in
          first_of_two (due_at (0 + k) w) (due_at (0 + x) v) (let a = behind.0 in omega (arith, a, next)) (λ e. let b : k ≤ x = behind.1 (sym next ∙ e) in grind (arith, b, apart)))
          ∙ ap (λ n. due_at n w ∷ due_from moment 0 (set (map watch_as each) k left)) place;
    }

pub first_is : (members : Members) (each : List Watch) (watches : List meant.Watch) (moment k : ℕ) → members ≡ map member_of each → map watch_as each ≡ watches → IsNextDue members moment k → IsFirstDue moment watches k
first_is members each watches moment k on is next = subst (λ ws. IsFirstDue moment ws k) is (first_due each moment k (subst (λ ms. IsNextDue ms moment k) on next))

pub none_is : (members : Members) (each : List Watch) (watches : List meant.Watch) (moment : ℕ) → members ≡ map member_of each → map watch_as each ≡ watches → IsNoneDue members moment → due_from moment 0 watches ≡ []
none_is members each watches moment on is none =
    subst (λ ws. due_from moment 0 ws ≡ []) is (none_due moment 0 (map watch_as each) (λ x v at. by x v at (is_due moment v) refl))
  where
    by : (x : ℕ) (v : meant.Watch) → slice_get (map watch_as each) x ≡ Some v → (t : Bool) → is_due moment v ≡ t → is_due moment v ≡ false
    by x v at false q = q
    by x v at true q =
        let late : moment < v.slot.next = none x v.slot.next (ap (λ ms. moment_of ms x) on ∙ on_wheel each x moment v at q) in
        absurd (not_late v late v.waiting q)
      where
        not_late : (v : meant.Watch) → moment < v.slot.next → (t : Bool) → (not t && nat_le v.slot.next moment) ≡ true → ⊥
        not_late v late true h = absurd cc
        not_late v late false h = grind (arith, nat_tests, late, h)

-- How many wait.

count_waiting : (each : List Watch) → member_count (map member_of each) + length (filter (λ (w : meant.Watch). w.waiting) (map watch_as each)) ≡ length each
count_waiting [] = refl
count_waiting (w ∷ ws) =
    ap (λ n. n + length (filter (λ (x : meant.Watch). x.waiting) (map watch_as (w ∷ ws)))) (sum_by-cons (λ (o : Option ℕ). cond (is_some o) 1 0) (member_of w) (map member_of ws))
    ∙ by w.waiting (count_waiting ws)
  where
    rest : ℕ
    rest = member_count (map member_of ws)

    more : List meant.Watch
    more = filter (λ (x : meant.Watch). x.waiting) (map watch_as ws)

    by : (t : Bool) → rest + length more ≡ length ws
        → cond (is_some (cond {A = Option ℕ} t None (Some w.next))) 1 0 + rest + length (cond t (watch_as w ∷ more) more) ≡ length (w ∷ ws)
    by true h = omega (arith, h)
    by false h = omega (arith, h)

pub waiting_is : (members : Members) (each : List Watch) (watches : List meant.Watch) (n count : ℕ) → members ≡ map member_of each → map watch_as each ≡ watches → n ≡ length each → count ≡ member_count members
    → n - count ≡ length (filter (λ (w : meant.Watch). w.waiting) watches)
waiting_is members each watches n count on is all some =
    let sum = count_waiting each in
    let held : member_count members ≡ member_count (map member_of each) = ap member_count on in
    let many : n - count ≡ length (filter (λ (w : meant.Watch). w.waiting) (map watch_as each)) = omega (arith, sum, held, all, some) in
    many ∙ ap (λ ws. length (filter (λ (w : meant.Watch). w.waiting) ws)) is

-- One set.

pub after_remove : {E : Type 0} (r : Result ℕ E) (old new : Members) (k : ℕ) → result_ok r ≡ moment_of old k → OnErr r (new ≡ old) → OnOk r (new ≡ remove old k) → new ≡ set old k None
after_remove (Ok m) old new k had same gone = gone
after_remove (Err e) old new k had same gone = same ∙ sym (ap (λ o. set old k o) had ∙ set-get_or old k None)

pub after_place : {T E : Type 0} (r : Result T E) (old new : Members) (k moment : ℕ) → moment_of old k ≡ None → OnErr r (IsMember old k) → OnOk r (new ≡ insert old k moment) → new ≡ set old k (Some moment)
after_place (Ok x) old new k moment free there put = put
after_place (Err e) old new k moment free there put = absurd (no (moment_of old k) free there)
  where
    no : (o : Option ℕ) → o ≡ None → is_some o ≡ true → ⊥
    no None e h = absurd cc
    no (Some m) e h = absurd cc

-- what is off the wheel and placed again
pub placed_again : (old off new : Members) (k moment : ℕ) → k < length old → off ≡ set old k None → (moment_of off k ≡ None → new ≡ set off k (Some moment)) → new ≡ set old k (Some moment)
placed_again old off new k moment within is put =
    put (ap (λ ms. moment_of ms k) is ∙ get_or-set_same old k None None within) ∙ ap (λ ms. set ms k (Some moment)) is ∙ set-set old k None (Some moment)

pub still_on : (old new : Members) (each : List Watch) (k : ℕ) (w : Watch) → old ≡ map member_of each → new ≡ set old k (member_of w) → new ≡ map member_of (set each k w)
still_on old new each k w on is = is ∙ ap (λ ms. set ms k (member_of w)) on ∙ sym (map-set member_of each k w)

-- All of them at first.

abbrev pub placed : ℕ → ℕ → Members
placed zero n = replicate n None
placed (suc i) zero = []
placed (suc i) (suc n) = Some 0 ∷ placed i n

pub place_more : (i n : ℕ) → i < n → set (placed i n) i (Some 0) ≡ placed (suc i) n
place_more i zero h = absurd (omega (arith, h))
place_more zero (suc n) h = refl
place_more (suc i) (suc n) h = ap (λ ms. Some 0 ∷ ms) (place_more i n (omega (arith, h)))

pub none_there : (i n : ℕ) → i < n → moment_of (placed i n) i ≡ None
none_there i zero h = absurd (omega (arith, h))
none_there zero (suc n) h = refl
none_there (suc i) (suc n) h = none_there i n (omega (arith, h))

pub placed_length : (i n : ℕ) → length (placed i n) ≡ n
placed_length zero zero = refl
placed_length zero (suc n) = ap suc (placed_length zero n)
placed_length (suc i) zero = refl
placed_length (suc i) (suc n) = ap suc (placed_length i n)

pub all_placed : (n : ℕ) (w : Watch) → watch_as w ≡ first_watch → placed n n ≡ map member_of (replicate n w)
all_placed zero w h = refl
all_placed (suc n) w h =
    let free : w.waiting ≡ false = ap (λ (x : meant.Watch). x.waiting) h in
    let next : w.next ≡ 0 = ap (λ (x : meant.Watch). x.slot.next) h in
    ap (λ o. o ∷ placed n n) (sym (ap (λ t. cond t None (Some w.next)) free ∙ ap Some next)) ∙ ap (λ ms. member_of w ∷ ms) (all_placed n w h)

pub all_first : (n : ℕ) (w : Watch) → watch_as w ≡ first_watch → map watch_as (replicate n w) ≡ replicate n first_watch
all_first zero w h = refl
all_first (suc n) w h = ap (λ x. x ∷ map watch_as (replicate n w)) h ∙ ap (λ xs. first_watch ∷ xs) (all_first n w h)

-- Answers.

pub if_none : {X : Type 0} (P Q : Type 0) → (P → Q) → (o : Option X) → IfNone o P → IfNone o Q
if_none P Q step None h = step h
if_none P Q step (Some x) h = tt

pub if_some : {X : Type 0} (P Q : X → Type 0) → ((x : X) → P x → Q x) → (o : Option X) → IfSome o P → IfSome o Q
if_some P Q step None h = tt
if_some P Q step (Some x) h = step x h
