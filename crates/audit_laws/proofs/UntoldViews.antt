-- Without the texts of results a checkable shows the same.
use Rattle.std.proofs.Common.{◌≡◌, ℕ, ◌+◌, ◌*◌, ◌&&◌, not, is_some, Bool, cond, List, [], ◌∷◌, ◌++◌, length, map, reverse, take, refl, sym, ap, ap₂, ◌∙◌, Option, Some, None}
use Rattle.std.proofs.lemmas.List.{length-map, map-append, reverse-append}
use Rattle.site_model.specs.PlainSite.{PlainCheck}
use Rattle.site_model.specs.declared.ack.Ack.{Ack}
use Rattle.site_model.specs.declared.entry.Entry.{Entry}
use Rattle.site_model.specs.declared.event.Event.{Event}
use Rattle.site_model.specs.declared.event.Event.TheVariants as event
use Rattle.site_model.specs.declared.state.State.{State}
use Rattle.site_model.specs.declared.view.View.{View}
use Rattle.log_text.specs.EntryTwo.{untold, without_texts}
use Rattle.downtime_book.specs.Calls.{is_live_in, downtimes}
use Rattle.downtime_book.specs.Naming.{named}
use Rattle.run_meaning.specs.Downtimes.{call_in, calls_from, in_effect, is_live}
use Rattle.run_meaning.specs.View.{ack_of, ack_with, attempt_at, change, changes, changes_back, change_with, checks_in, flapping_back, flapping_value, flapping_with, hard_at, is_change, is_hard_problem, last_status, leave_hard_problem, notes_in, or_before, problems, problems_with, same_state, state_after, state_by, state_of, status_in, switched, switched_to, view_back, view_of, weight_from}

-- ---- lists

pub map_reverse : {A B : Type 0} (f : A → B) (xs : List A) → reverse (map f xs) ≡ map f (reverse xs)
map_reverse f [] = refl
map_reverse f (x ∷ xs) =
    reverse-append (f x ∷ []) (map f xs)
    ∙ (ap (λ ys. ys ++ f x ∷ []) (map_reverse f xs)
    ∙ (sym (map-append f (reverse xs) (x ∷ [])) ∙ ap (map f) (sym (reverse-append (x ∷ []) xs))))

-- entries without texts
abbrev pub bare : List Entry → List Entry
bare es = map untold es

-- ---- events

pub same_status : (e : Event) → status_in (without_texts e) ≡ status_in e
same_status (event.Result status passive output perf) = refl
same_status e = refl

same_checks : (e : Event) → checks_in (without_texts e) ≡ checks_in e
same_checks (event.Result status passive output perf) = refl
same_checks e = refl

same_notes : (e : Event) → notes_in (without_texts e) ≡ notes_in e
same_notes (event.Result status passive output perf) = refl
same_notes e = refl

same_ack : (c : PlainCheck) (e : Event) (taken : Bool) (before : State) (a : Ack) → ack_with c (without_texts e) taken before a ≡ ack_with c e taken before a
same_ack c (event.Result status passive output perf) taken before a = refl
same_ack c e taken before a = refl

same_call : (c : PlainCheck) (number moment : ℕ) (e : Event) (taken : Bool) → call_in c number moment (without_texts e) taken ≡ call_in c number moment e taken
same_call c number moment (event.Result status passive output perf) taken = refl
same_call c number moment e taken = refl

-- ---- looking back

statuses : (back : List Entry) → last_status (bare back) ≡ last_status back
statuses [] = refl
statuses (e ∷ back) = ap₂ or_before (same_status e.event) (statuses back)

states : (c : PlainCheck) (back : List Entry) → state_of c (bare back) ≡ state_of c back
states c back = ap (state_after c) (statuses back)

problems_same : (c : PlainCheck) (back : List Entry) → problems c (bare back) ≡ problems c back
problems_same c [] = refl
problems_same c (e ∷ back) = ap₂ (problems_with c) (same_status e.event) (problems_same c back)

leaves : (c : PlainCheck) (back : List Entry) → leave_hard_problem c (bare back) ≡ leave_hard_problem c back
leaves c back = ap₂ (λ n s. is_hard_problem (hard_at c n) s) (problems_same c back) (states c back)

changes_same : (c : PlainCheck) (e : Entry) (back : List Entry) → changes c (untold e) (bare back) ≡ changes c e back
changes_same c e back =
    ap₂ (λ t u. t && u) (ap is_some (same_status e.event))
    (ap₂ (λ t u. t && not u) (leaves c (e ∷ back)) (ap₂ (λ t u. t && u) (leaves c back) (ap₂ same_state (states c back) (states c (e ∷ back)))))

change_same : (c : PlainCheck) (back : List Entry) → change c (bare back) ≡ change c back
change_same c [] = refl
change_same c (e ∷ back) = ap₂ (λ t n. cond t e.moment n) (changes_same c e back) (change_same c back)

acks : (c : PlainCheck) (back : List Entry) → ack_of c (bare back) ≡ ack_of c back
acks c [] = refl
acks c (e ∷ back) =
    same_ack c e.event e.taken (state_of c (bare back)) (ack_of c (bare back))
    ∙ ap₂ (ack_with c e.event e.taken) (states c back) (acks c back)

switches : (switch : Event → Option Bool) → ((e : Event) → switch (without_texts e) ≡ switch e) → (back : List Entry) → switched switch (bare back) ≡ switched switch back
switches switch same [] = refl
switches switch same (e ∷ back) = ap₂ switched_to (same e.event) (switches switch same back)

is_change_same : (c : PlainCheck) (s : ℕ) (back : List Entry) → is_change c s (bare back) ≡ is_change c s back
is_change_same c s back = ap₂ (λ t u. is_some t && not (same_state u (state_by c.host s))) (statuses back) (states c back)

with_change : (c : PlainCheck) (o : Option ℕ) (back : List Entry) (xs ys : List Bool) → xs ≡ ys → change_with c o (bare back) xs ≡ change_with c o back ys
with_change c None back xs ys e = e
with_change c (Some s) back xs ys e = ap₂ (λ x zs. x ∷ zs) (is_change_same c s back) e

changes_back_same : (c : PlainCheck) (back : List Entry) → changes_back c (bare back) ≡ changes_back c back
changes_back_same c [] = refl
changes_back_same c (e ∷ back) =
    ap (λ o. change_with c o (bare back) (changes_back c (bare back))) (same_status e.event)
    ∙ with_change c (status_in e.event) back (changes_back c (bare back)) (changes_back c back) (changes_back_same c back)

values_same : (c : PlainCheck) (back : List Entry) → flapping_value c (bare back) ≡ flapping_value c back
values_same c back = ap (λ xs. 50 * weight_from 1 (take 20 xs)) (changes_back_same c back)

flaps : (c : PlainCheck) (back : List Entry) → flapping_back c (bare back) ≡ flapping_back c back
flaps c [] = refl
flaps c (e ∷ back) =
    ap (λ o. flapping_with c o (flapping_value c (bare (e ∷ back))) (flapping_back c (bare back))) (same_status e.event)
    ∙ ap₂ (flapping_with c (status_in e.event)) (values_same c (e ∷ back)) (flaps c back)

-- a view of its parts
abbrev seen_by : PlainCheck → ℕ → Option ℕ → ℕ → ℕ → Ack → Bool → Bool → Bool → View
seen_by c n status problems change ack checks notes flapping = record {
  count = n;
  has_result = is_some status;
  state = state_after c status;
  hard = hard_at c problems;
  attempt = attempt_at c problems;
  change = change;
  ack = ack;
  checks_on = c.active && checks;
  notes_on = c.notify && notes;
  flapping = c.flapping && flapping;
}

module _ (c : PlainCheck) (back : List Entry) where
  parts : seen_by c (length (bare back)) (last_status (bare back)) (problems c (bare back)) (change c (bare back)) (ack_of c (bare back)) (switched checks_in (bare back)) (switched notes_in (bare back)) (flapping_back c (bare back))
      ≡ seen_by c (length back) (last_status back) (problems c back) (change c back) (ack_of c back) (switched checks_in back) (switched notes_in back) (flapping_back c back)
  parts =
      ap (λ n. seen_by c n (last_status (bare back)) (problems c (bare back)) (change c (bare back)) (ack_of c (bare back)) (switched checks_in (bare back)) (switched notes_in (bare back)) (flapping_back c (bare back))) (length-map back untold)
      ∙ (ap₂ (λ o p. seen_by c (length back) o p (change c (bare back)) (ack_of c (bare back)) (switched checks_in (bare back)) (switched notes_in (bare back)) (flapping_back c (bare back))) (statuses back) (problems_same c back)
      ∙ (ap₂ (λ m a. seen_by c (length back) (last_status back) (problems c back) m a (switched checks_in (bare back)) (switched notes_in (bare back)) (flapping_back c (bare back))) (change_same c back) (acks c back)
      ∙ (ap₂ (λ x y. seen_by c (length back) (last_status back) (problems c back) (change c back) (ack_of c back) x y (flapping_back c (bare back))) (switches checks_in same_checks back) (switches notes_in same_notes back)
      ∙ ap (seen_by c (length back) (last_status back) (problems c back) (change c back) (ack_of c back) (switched checks_in back) (switched notes_in back)) (flaps c back))))

views_back : (c : PlainCheck) (back : List Entry) → view_back c (bare back) ≡ view_back c back
views_back c back = parts c back

pub views : (c : PlainCheck) (history : List Entry) → view_of c (bare history) ≡ view_of c history
views c history = ap (view_back c) (map_reverse untold history) ∙ views_back c (reverse history)

-- ---- downtimes

calls : (c : PlainCheck) (n : ℕ) (es : List Entry) → calls_from c n (bare es) ≡ calls_from c n es
calls c n [] = refl
calls c n (e ∷ es) = ap₂ (λ xs ys. xs ++ ys) (same_call c n e.moment e.event e.taken) (calls c (n + 1) es)

pub lives : (c : PlainCheck) (history : List Entry) (number moment : ℕ) → is_live c (bare history) number moment ≡ is_live c history number moment
lives c history number moment = ap (λ xs. is_live_in xs number moment) (calls c 1 history)

pub effects : (c : PlainCheck) (history : List Entry) (moment : ℕ) → in_effect c (bare history) moment ≡ in_effect c history moment
effects c history moment = ap (λ xs. named moment (downtimes xs)) (calls c 1 history)
