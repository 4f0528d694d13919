-- What is kept of checkables, in the words of the schedule.
use Rattle.std.specs.Prelude.{◌≡◌, ◌&&◌, not, ℕ, nat_le, Bool, false, List, ◌∷◌, Option, Some, None, slice_get, slice_set, if◌then◌else◌}
use Rattle.run_meaning.specs.Schedule as meant
use Rattle.run_meaning.specs.Schedule.{Due, due_from}
use Rattle.check_slots.specs.declared.watch.Watch.{Watch}

abbrev pub watch_as : Watch → meant.Watch
watch_as w = record { slot = record { next = w.next; forced = w.forced }; waiting = w.waiting }

-- before the first check
abbrev pub first_watch : meant.Watch
first_watch = record { slot = record { next = 0; forced = false }; waiting = false }

-- the moment of one that is on the wheel
abbrev pub member_of : Watch → Option ℕ
member_of w = if w.waiting then None else Some w.next

-- whether a checkable is due at a moment
abbrev pub is_due : ℕ → meant.Watch → Bool
is_due moment w = not w.waiting && nat_le w.slot.next moment

abbrev pub due_at : ℕ → meant.Watch → Due
due_at k w = record { since = w.slot.next; checkable = k }

-- it is due, and leads those that are due: they are this one, and then those that are due once it isn't any more
pub record IsFirstDue (moment : ℕ) (watches : List meant.Watch) (k : ℕ) : Type 0 where
  pub watch : meant.Watch
  pub at : slice_get watches k ≡ Some watch
  pub leads : (left : meant.Watch) → is_due moment left ≡ false → due_from moment 0 watches ≡ due_at k watch ∷ due_from moment 0 (slice_set watches k left)
