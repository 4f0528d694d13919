-- Books and the entries that they stand for.
use Rattle.std.proofs.Common.{◌≡◌, ◌≢◌, ◌≤◌, ◌||◌, ◌&&◌, ◌++◌, ◌+◌, ℕ, zero, suc, nat_eq, not, Bool, true, false, cond, List, [], ◌∷◌, length, map, reverse, get_or, slice_get, Option, Some, None, All, IsSomeAnd, refl, sym, ap, ◌∙◌, arith, subst}
use Rattle.std.specs.Prelude.{is_some}
use Rattle.std.proofs.lemmas.List.{reverse-append}
use Rattle.std.proofs.lemmas.List.Elements.{All-nil, All-cons, All-tail, All-head, All-map, All-weaker}
use Rattle.site_model.specs.PlainSite.{PlainCheck, PlainSite}
use Rattle.site_model.specs.Sound.{AreDistinct}
use Rattle.site_model.specs.declared.decision.Decision.{Decision}
use Rattle.site_model.specs.declared.entry.Entry.{Entry}
use Rattle.site_model.specs.declared.notify_spec.NotifySpec.{NotifySpec}
use Rattle.run_meaning.specs.Decisions.{has_received, is_among, is_well, problem_sent}
use Rattle.run_meaning.specs.View.{status_in}
use Rattle.notify_rules.specs.Sent.{user_of, number_of, untold, told_by, forgotten, forgetting, noted, last_sent, notes_from, HaveDistinct, HasUsers, TellOnce, Contents, Remembers, StandsFor, Follows, NeverFall}
use Rattle.notify_rules.specs.declared.listeners.Listener.{Listener}
use Rattle.notify_rules.specs.declared.sent_note.SentNote.{SentNote}
use Rattle.notify_rules.proofs.Telling.{users_kept}

-- Distinct numbers.

distinct_cons : (n : ℕ) (ns : List ℕ) → All (λ k. n ≢ k) ns → AreDistinct ns → AreDistinct (n ∷ ns)
distinct_cons n ns others once zero zero d before within e = omega (arith, before)
distinct_cons n ns others once zero (suc j) d before within e = others j d (omega (arith, within)) e
distinct_cons n ns others once (suc i) zero d before within e = omega (arith, before)
distinct_cons n ns others once (suc i) (suc j) d before within e = once i j d (omega (arith, before)) (omega (arith, within)) e

one_or_none : (P : ℕ → Type 0) (b : Bool) (n : ℕ) (ns : List ℕ) → P n → All P ns → All P (cond b (n ∷ []) [] ++ ns)
one_or_none P true n ns here rest = All-cons P n ns here rest
one_or_none P false n ns here rest = rest

from_on : (c n : ℕ) (notes : List NotifySpec) → All (λ k. n ≤ k) (notes_from c n notes)
from_on c n [] = All-nil (λ k. n ≤ k)
from_on c n (note ∷ notes) =
    one_or_none (λ k. n ≤ k) (nat_eq note.checkable c) n (notes_from c (suc n) notes) (omega arith)
    (All-weaker (λ k. suc n ≤ k) (λ k. n ≤ k) (λ k h. omega (arith, h)) (notes_from c (suc n) notes) (from_on c (suc n) notes))

pub distinct_from : (c n : ℕ) (notes : List NotifySpec) → AreDistinct (notes_from c n notes)
distinct_from c n [] = λ i j d before within e. omega (arith, within)
distinct_from c n (note ∷ notes) =
    let rest = notes_from c (suc n) notes in
    elim (nat_eq note.checkable c) as (λ b. AreDistinct (cond b (n ∷ []) [] ++ rest)) [
      | true ↦
          distinct_cons n rest (All-weaker (λ k. suc n ≤ k) (λ k. n ≢ k) (λ k h e. omega (arith, h, e)) rest (from_on c (suc n) notes)) (distinct_from c (suc n) notes)
      | false ↦ distinct_from c (suc n) notes
    ]

pub distinct_notes : (b : Contents) (s : PlainSite) (c : ℕ) (check : PlainCheck) (h : List Entry) → StandsFor b s c check h → AreDistinct (map number_of b.notes)
distinct_notes b s c check h stands = subst AreDistinct (sym stands.notes) (distinct_from c 0 s.notifies)

-- A book of no entries.

abbrev pub row : ℕ → NotifySpec → SentNote
row n note = record { notification = n; problem = None; listeners = map untold note.users }

-- each is the row of the notification that it names
abbrev pub IsMade : List NotifySpec → SentNote → Type 0
IsMade notes r = (note : NotifySpec) × (slice_get notes r.notification ≡ Some note) × (r ≡ row r.notification note)

untold_users : (us : List ℕ) → map user_of (map untold us) ≡ us
untold_users [] = refl
untold_users (u ∷ us) = ap (λ vs. u ∷ vs) (untold_users us)

all_untold : (check : PlainCheck) (n : ℕ) (us : List ℕ) → All (λ (l : Listener). l.told ≡ has_received check n l.user []) (map untold us)
all_untold check n us = All-map (λ (l : Listener). l.told ≡ has_received check n l.user []) untold us (λ k d within. refl)

all_at : {X : Type 0} (P : X → Type 0) (xs : List X) → All P xs → (k : ℕ) (x : X) → slice_get xs k ≡ Some x → P x
all_at P [] h k x e = absurd cc
all_at P (y ∷ ys) h zero x e = let same : y ≡ x = cc in subst P same (All-head P y ys h)
all_at P (y ∷ ys) h (suc k) x e = all_at P ys (All-tail P y ys h) k x e

once_at : (s : PlainSite) → TellOnce s → (k : ℕ) (note : NotifySpec) → slice_get s.notifies k ≡ Some note → AreDistinct note.users
once_at s once k note at = all_at (λ (n : NotifySpec). AreDistinct n.users) s.notifies once k note at

pub stands_empty : (s : PlainSite) (c : ℕ) (check : PlainCheck) (b : Contents) → TellOnce s → b.host ≡ check.host → map number_of b.notes ≡ notes_from c 0 s.notifies → All (IsMade s.notifies) b.notes → StandsFor b s c check []
stands_empty s c check b tell host numbers made = record {
  host = host;
  notes = numbers;
  users = All-weaker (IsMade s.notifies) (HasUsers s.notifies) (λ r own. has_users r own.0 own.1 own.2) b.notes made;
  once = All-weaker (IsMade s.notifies) (λ r. AreDistinct (map user_of r.listeners)) (λ r own. subst AreDistinct (sym (users_are r own.0 own.2)) (once_at s tell r.notification own.0 own.1)) b.notes made;
  in_order = tt;
  remembers = All-weaker (IsMade s.notifies) (Remembers check []) (λ r own. remembers r own.0 own.2) b.notes made;
}
  where
    users_are : (r : SentNote) (note : NotifySpec) → r ≡ row r.notification note → map user_of r.listeners ≡ note.users
    users_are r note is = ap (λ (x : SentNote). map user_of x.listeners) is ∙ untold_users note.users

    has_users : (r : SentNote) (note : NotifySpec) → slice_get s.notifies r.notification ≡ Some note → r ≡ row r.notification note → HasUsers s.notifies r
    has_users r note at is = subst (λ (o : Option NotifySpec). IsSomeAnd o (λ other. map user_of r.listeners ≡ other.users)) (sym at) (users_are r note is)

    remembers : (r : SentNote) (note : NotifySpec) → r ≡ row r.notification note → Remembers check [] r
    remembers r note is = record {
      problem = ap (λ (x : SentNote). x.problem) is;
      told = subst (All (λ (l : Listener). l.told ≡ has_received check r.notification l.user [])) (sym (ap (λ (x : SentNote). x.listeners) is)) (all_untold check r.notification note.users);
    }

-- One entry more.

or_comm : (a b : Bool) → (a || b) ≡ (b || a)
or_comm true true = refl
or_comm true false = refl
or_comm false true = refl
or_comm false false = refl

-- what an entry makes of what is kept of a notification
abbrev pub kept : Bool → ℕ → List Decision → SentNote → SentNote
kept well m ds r = cond well (forgetting (noted m ds r)) (noted m ds r)

kept_number : (well : Bool) (m : ℕ) (ds : List Decision) (r : SentNote) → (kept well m ds r).notification ≡ r.notification
kept_number true m ds r = refl
kept_number false m ds r = refl

forgotten_users : (ls : List Listener) → map user_of (map forgotten ls) ≡ map user_of ls
forgotten_users [] = refl
forgotten_users (l ∷ ls) = ap (λ us. l.user ∷ us) (forgotten_users ls)

kept_users : (well : Bool) (m : ℕ) (ds : List Decision) (r : SentNote) → map user_of (kept well m ds r).listeners ≡ map user_of r.listeners
kept_users true m ds r = forgotten_users (map (told_by (problem_sent r.notification ds)) r.listeners) ∙ users_kept (problem_sent r.notification ds) r.listeners
kept_users false m ds r = users_kept (problem_sent r.notification ds) r.listeners

kept_numbers : (well : Bool) (m : ℕ) (ds : List Decision) (rs : List SentNote) → map number_of (map (kept well m ds) rs) ≡ map number_of rs
kept_numbers well m ds [] = refl
kept_numbers well m ds (r ∷ rs) = rw (kept_number well m ds r, kept_numbers well m ds rs) refl

kept_has : (notes : List NotifySpec) (well : Bool) (m : ℕ) (ds : List Decision) (r : SentNote) → HasUsers notes r → HasUsers notes (kept well m ds r)
kept_has notes well m ds r h = by (slice_get notes r.notification) refl h
  where
    by : (o : Option NotifySpec) → slice_get notes r.notification ≡ o → IsSomeAnd o (λ note. map user_of r.listeners ≡ note.users) → HasUsers notes (kept well m ds r)
    by None e g = absurd g
    by (Some note) e g =
        subst (λ (o : Option NotifySpec). IsSomeAnd o (λ other. map user_of (kept well m ds r).listeners ≡ other.users))
        (sym (ap (slice_get notes) (kept_number well m ds r) ∙ e)) (kept_users well m ds r ∙ g)

module _ (check : PlainCheck) (e : Entry) (back : List Entry) where
  abbrev well : Bool
  well = is_well check (status_in e.event)

  kept_problem : (b : Bool) (r : SentNote) → r.problem ≡ last_sent r.notification back → (kept b e.moment e.decisions r).problem ≡ last_sent r.notification (e ∷ back)
  kept_problem true r h = ap (λ p. cond (is_some (problem_sent r.notification e.decisions)) (Some e.moment) p) h
  kept_problem false r h = ap (λ p. cond (is_some (problem_sent r.notification e.decisions)) (Some e.moment) p) h

  kept_told : (b : Bool) → b ≡ well → (r : SentNote) → All (λ l. l.told ≡ has_received check r.notification l.user back) r.listeners →
      All (λ l. l.told ≡ has_received check r.notification l.user (e ∷ back)) (kept b e.moment e.decisions r).listeners
  kept_told true is r h =
      All-map (λ l. l.told ≡ has_received check r.notification l.user (e ∷ back)) forgotten (map (told_by (problem_sent r.notification e.decisions)) r.listeners)
      (λ k d within. unreceived (get_or (map (told_by (problem_sent r.notification e.decisions)) r.listeners) k d).user)
    where
      unreceived : (u : ℕ) → false ≡ has_received check r.notification u (e ∷ back)
      unreceived u = ap (λ b. not b && (is_among u (problem_sent r.notification e.decisions) || has_received check r.notification u back)) is
  kept_told false is r h =
      let sent = problem_sent r.notification e.decisions in
      All-map (λ l. l.told ≡ has_received check r.notification l.user (e ∷ back)) (told_by sent) r.listeners
      (All-weaker (λ l. l.told ≡ has_received check r.notification l.user back) (λ l. (told_by sent l).told ≡ has_received check r.notification l.user (e ∷ back))
      (λ l told. or_comm l.told (is_among l.user sent) ∙ ap (λ b. is_among l.user sent || b) told ∙ ap (λ b. not b && (is_among l.user sent || has_received check r.notification l.user back)) is) r.listeners h)

  kept_remembers : (b : Bool) → b ≡ well → (r : SentNote) → Remembers check back r → Remembers check (e ∷ back) (kept b e.moment e.decisions r)
  kept_remembers b is r h = subst_number (kept_number b e.moment e.decisions r)
    where
      subst_number : (kept b e.moment e.decisions r).notification ≡ r.notification → Remembers check (e ∷ back) (kept b e.moment e.decisions r)
      subst_number same = record {
        problem = kept_problem b r h.problem ∙ ap (λ n. last_sent n (e ∷ back)) (sym same);
        told = subst (λ (n : ℕ). All (λ l. l.told ≡ has_received check n l.user (e ∷ back)) (kept b e.moment e.decisions r).listeners) (sym same) (kept_told b is r h.told);
      }

pub stands_noted : (old new : Contents) (s : PlainSite) (c : ℕ) (check : PlainCheck) (h : List Entry) (e : Entry) (b : Bool) → StandsFor old s c check h → Follows e (reverse h) → b ≡ is_well check (status_in e.event) →
    new.host ≡ old.host → new.notes ≡ map (kept b e.moment e.decisions) old.notes → StandsFor new s c check (h ++ e ∷ [])
stands_noted old new s c check h e b before follows well host is =
    let back : reverse (h ++ e ∷ []) ≡ e ∷ reverse h = reverse-append h (e ∷ []) in
    record {
      host = host ∙ before.host;
      notes = ap (map number_of) is ∙ kept_numbers b e.moment e.decisions old.notes ∙ before.notes;
      users = subst (All (HasUsers s.notifies)) (sym is) (All-map (HasUsers s.notifies) (kept b e.moment e.decisions) old.notes (All-weaker (HasUsers s.notifies) (λ r. HasUsers s.notifies (kept b e.moment e.decisions r)) (kept_has s.notifies b e.moment e.decisions) old.notes before.users));
      once = subst HaveDistinct (sym is) (All-map (λ r. AreDistinct (map user_of r.listeners)) (kept b e.moment e.decisions) old.notes (All-weaker (λ r. AreDistinct (map user_of r.listeners)) (λ r. AreDistinct (map user_of (kept b e.moment e.decisions r).listeners)) (λ r once. subst AreDistinct (sym (kept_users b e.moment e.decisions r)) once) old.notes before.once));
      in_order = subst NeverFall (sym back) (follows, before.in_order);
      remembers = subst (λ (es : List Entry). All (Remembers check es) new.notes) (sym back) (subst (All (Remembers check (e ∷ reverse h))) (sym is) (All-map (Remembers check (e ∷ reverse h)) (kept b e.moment e.decisions) old.notes (All-weaker (Remembers check (reverse h)) (λ r. Remembers check (e ∷ reverse h) (kept b e.moment e.decisions r)) (kept_remembers check e (reverse h) b well) old.notes before.remembers)));
    }
