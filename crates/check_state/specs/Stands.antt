-- What a running status stands for.
use Rattle.std.specs.Prelude.{◌≡◌, ℕ, List, reverse, Bool, min, Some}
use Rattle.site_model.specs.PlainSite.{PlainCheck}
use Rattle.site_model.specs.declared.entry.Entry.{Entry}
use Rattle.site_model.specs.declared.event.Event.{Event}
use Rattle.site_model.specs.declared.event.Event.TheVariants as event
use Rattle.run_meaning.specs.View.{view_of, changes_back, problems, status_in}
use Rattle.check_state.specs.Slots.{padded}
use Rattle.check_state.specs.declared.status.Status.{Status}

-- it is what these entries of a checkable show
pub record StandsFor (s : Status) (c : PlainCheck) (history : List Entry) : Type 0 where
  pub view : s.view ≡ view_of c history
  pub active : s.active ≡ c.active
  pub notify : s.notify ≡ c.notify
  pub changes : s.changes.slots ≡ padded 20 (changes_back c (reverse history))
  pub problems : s.problems ≡ min (problems c (reverse history)) c.max

-- the entry is a result of this status at this moment
pub record IsResult (e : Entry) (at status : ℕ) : Type 0 where
  pub moment : e.moment ≡ at
  pub result : status_in e.event ≡ Some status

-- the entry is this event; where the event may have no effect on the view, the entry says whether it had
abbrev pub IsTakenAs : Event → Bool → Bool → Type 0
IsTakenAs (event.Ack sticky notify) taken said = taken ≡ said
IsTakenAs event.Unack taken said = taken ≡ said
IsTakenAs e taken said = Unit {0}

pub record IsSwitch (e : Entry) (v : Event) (said : Bool) : Type 0 where
  pub event : e.event ≡ v
  pub taken : IsTakenAs v e.taken said
