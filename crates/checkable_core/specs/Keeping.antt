-- What is kept of entries for the next one.
use Rattle.std.specs.Prelude.{◌≡◌, ℕ, ◌<◌, ◌≤◌, Bool, true, false, List, length, Some}
use Rattle.check_state.specs.Stands as shown
use Rattle.downtime_book.specs.Contents as book
use Rattle.notify_rules.specs.Sent as sent
use Rattle.run_meaning.specs.Dealing.{last_moment}
use Rattle.run_meaning.specs.Downtimes.{calls_from}
use Rattle.run_meaning.specs.View.{is_problem, state_by, status_in}
use Rattle.site_model.specs.PlainSite.{PlainCheck, PlainSite}
use Rattle.site_model.specs.declared.entry.Entry.{Entry}
use Rattle.site_model.specs.declared.event.Event.{Event}
use Rattle.site_model.specs.declared.event.Event.TheVariants as event
use Rattle.checkable_core.specs.Contents.{check_at}
use Rattle.checkable_core.specs.declared.running.Running.{Running}

-- it is what these entries of the checkable of index k leave
pub record Keeps (r : Running) (s : PlainSite) (k : ℕ) (check : PlainCheck) (history : List Entry) : Type 0 where
  pub status : shown.StandsFor r.status check history
  pub last : r.last ≡ last_moment history
  pub book : book.StandsFor r.book (calls_from check 1 history)
  pub latest : r.book.latest ≤ last_moment history
  pub sent : sent.StandsFor r.sent s k check history

-- the same of a checkable of the site
pub record IsKept (s : PlainSite) (k : ℕ) (r : Running) (history : List Entry) : Type 0 where
  pub within : k < length s.checkables
  pub keeps : Keeps r s k (check_at s k) history

-- whether a result is a problem; nothing of other events
abbrev pub IsProblemOf : PlainCheck → Event → Bool → Type 0
IsProblemOf check v problem = (status : ℕ) → status_in v ≡ Some status → problem ≡ is_problem (state_by check.host status)

-- whether an event begins a downtime or ends one
abbrev pub moves_downtimes : Event → Bool
moves_downtimes (event.Down start finish fixed duration) = true
moves_downtimes (event.Undown number) = true
moves_downtimes v = false
