-- What a book of sent notifications keeps, and the entries that it stands for.
use Rattle.std.specs.Prelude.{◌≡◌, ℕ, suc, ◌<◌, ◌≤◌, ◌||◌, ◌++◌, Bool, true, false, List, [], ◌∷◌, length, map, reverse, nat_eq, slice_get, is_some, Option, Some, None, All, IsSomeAnd, MatchOption, if◌then◌else◌}
use Rattle.std.specs.List.{list_any}
use Rattle.site_model.specs.PlainSite.{PlainCheck, PlainSite}
use Rattle.site_model.specs.Sound.{AreDistinct}
use Rattle.site_model.specs.declared.decision.Decision.{Decision}
use Rattle.site_model.specs.declared.entry.Entry.{Entry}
use Rattle.site_model.specs.declared.notify_spec.NotifySpec.{NotifySpec}
use Rattle.run_meaning.specs.Decisions.{problem_sent, is_among, has_received}
use Rattle.run_meaning.specs.Turns.{of_index}
use Rattle.notify_rules.specs.declared.listeners.Listener.{Listener}
use Rattle.notify_rules.specs.declared.sent_note.SentNote.{SentNote}

-- a place is that of one which passes; without a place there is none
abbrev pub IsAt : {X : Type 0} → (X → Bool) → List X → Option ℕ → Type 0
IsAt test xs place = MatchOption place (list_any test xs ≡ false) (λ p. IsSomeAnd (slice_get xs p) (λ x. test x ≡ true))

-- Listeners.

abbrev pub user_of : Listener → ℕ
user_of l = l.user

abbrev pub untold : ℕ → Listener
untold u = record { user = u; told = false }

-- told also where the user is among these
abbrev pub told_by : Option (List ℕ) → Listener → Listener
told_by users l = record { user = l.user; told = l.told || is_among l.user users }

abbrev pub forgotten : Listener → Listener
forgotten l = record { user = l.user; told = false }

abbrev pub is_user : ℕ → Listener → Bool
is_user u l = nat_eq l.user u

-- Notifications.

abbrev pub number_of : SentNote → ℕ
number_of r = r.notification

-- after a problem was sent to these users
abbrev pub taken : ℕ → List ℕ → SentNote → SentNote
taken moment users r = record { notification = r.notification; problem = Some moment; listeners = map (told_by (Some users)) r.listeners }

-- after a result without a problem
abbrev pub forgetting : SentNote → SentNote
forgetting r = record { notification = r.notification; problem = r.problem; listeners = map forgotten r.listeners }

abbrev pub noted_so : ℕ → Option (List ℕ) → SentNote → SentNote
noted_so moment users r = record {
  notification = r.notification;
  problem = if is_some users then Some moment else r.problem;
  listeners = map (told_by users) r.listeners;
}

-- after these decisions at a moment
abbrev pub noted : ℕ → List Decision → SentNote → SentNote
noted moment ds r = noted_so moment (problem_sent r.notification ds) r

abbrev pub is_note : ℕ → SentNote → Bool
is_note n r = nat_eq n r.notification

-- the listeners of each are distinct users
abbrev pub HaveDistinct : List SentNote → Type 0
HaveDistinct rs = All (λ r. AreDistinct (map user_of r.listeners)) rs

-- Looking back over entries, the newest first.

-- when a Problem of this notification was sent last
abbrev pub last_sent : ℕ → List Entry → Option ℕ
last_sent n [] = None
last_sent n (e ∷ back) = if is_some (problem_sent n e.decisions) then Some e.moment else last_sent n back

-- no entry is before one of these
abbrev pub Follows : Entry → List Entry → Type 0
Follows e back = All (λ x. x.moment ≤ e.moment) back

-- moments don't fall
abbrev pub NeverFall : List Entry → Type 0
NeverFall [] = Unit {0}
NeverFall (e ∷ back) = Follows e back × NeverFall back

-- what is kept of a notification is what looking back gives
pub record Remembers (check : PlainCheck) (back : List Entry) (r : SentNote) : Type 0 where
  pub problem : r.problem ≡ last_sent r.notification back
  pub told : All (λ l. l.told ≡ has_received check r.notification l.user back) r.listeners

-- Books.

-- what clauses see of a book: the host of its checkable, and what is kept of each notification
pub record Contents : Type 0 where
  pub host : Option ℕ
  pub notes : List SentNote

-- which of these notifications, from this index on, are of the checkable of index c
abbrev pub notes_from : ℕ → ℕ → List NotifySpec → List ℕ
notes_from c n [] = []
notes_from c n (note ∷ notes) = (if nat_eq note.checkable c then n ∷ [] else []) ++ notes_from c (suc n) notes

-- these are the notifications of each checkable
pub record IsNoteIndex (s : PlainSite) (rows : List (List ℕ)) : Type 0 where
  pub many : length rows ≡ length s.checkables
  pub own : (c : ℕ) → c < length s.checkables → of_index c rows ≡ notes_from c 0 s.notifies

-- each notification names each user once
abbrev pub TellOnce : PlainSite → Type 0
TellOnce s = All (λ note. AreDistinct note.users) s.notifies

-- the listeners are the users of the notification, in its order
abbrev pub HasUsers : List NotifySpec → SentNote → Type 0
HasUsers notes r = IsSomeAnd (slice_get notes r.notification) (λ note. map user_of r.listeners ≡ note.users)

-- the book stands for these entries, the oldest first, of the checkable of index c
pub record StandsFor (b : Contents) (s : PlainSite) (c : ℕ) (check : PlainCheck) (history : List Entry) : Type 0 where
  pub host : b.host ≡ check.host
  pub notes : map number_of b.notes ≡ notes_from c 0 s.notifies
  pub users : All (HasUsers s.notifies) b.notes
  pub once : HaveDistinct b.notes
  pub in_order : NeverFall (reverse history)
  pub remembers : All (Remembers check (reverse history)) b.notes
