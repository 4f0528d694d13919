-- What recurring downtimes give at the turns of a run.
use Rattle.std.specs.Prelude.{ℕ, ◌+◌, Bool, true, is_some, List, [], ◌∷◌, map, Option, Some, None, if◌then◌else◌}
use Rattle.jiff_tz.specs.declared.tzif.Tzif.{Tzif}
use Rattle.site_model.specs.PlainSite.{PlainSite}
use Rattle.checkable_core.specs.Contents.{check_at}
use Rattle.run_meaning.specs.Downtimes.{in_effect}
use Rattle.run_meaning.specs.Turns.{Histories, of_index}
use Rattle.down_recur.specs.Due.{due_of}
use Rattle.down_recur.specs.declared.segment.Segment.{Segment}
use Rattle.down_recur.specs.Bookings.{booking_by}
use Rattle.down_recur.specs.Lines.{line_text}
use Rattle.down_recur.specs.declared.recurring.Recurring.{Recurring}

-- segments are given up to a day before they begin; those that are triggered once they begin
abbrev pub lead : Option ℕ → ℕ
lead None = 86_400
lead (Some k) = 0

-- whether the checkable by whose downtimes it is triggered has one in effect
abbrev pub is_triggered : PlainSite → Histories → ℕ → Option ℕ → Bool
is_triggered s histories moment None = true
is_triggered s histories moment (Some k) = is_some (in_effect (check_at s k) (of_index k histories) moment)

-- The segments that are due at a moment. A segment that begins before `done` was given, or ended before something was given.
abbrev pub due_at : Option Tzif → ℕ → Recurring → List Segment
due_at zone moment r = due_of zone r.spans r.done (moment + lead r.trigger) moment

abbrev pub given_at : PlainSite → Option Tzif → Histories → ℕ → Recurring → List Segment
given_at s zone histories moment r = if is_triggered s histories moment r.trigger then due_at zone moment r else []

-- once something is given nothing is that begins before it, or as early
abbrev pub done_after : ℕ → List Segment → ℕ → ℕ
done_after till [] done = done
done_after till (segment ∷ more) done = till + 1

abbrev pub after_at : PlainSite → Option Tzif → Histories → ℕ → Recurring → Recurring
after_at s zone histories moment r =
    record r { done = done_after (moment + lead r.trigger) (given_at s zone histories moment r) r.done }

-- the lines of what is given
abbrev pub lines_of : ℕ → Recurring → List Segment → List (List ℕ)
lines_of moment r segments = map (λ segment. line_text moment r (booking_by r.trigger r moment segment)) segments

abbrev pub lines_at : PlainSite → Option Tzif → Histories → ℕ → Recurring → List (List ℕ)
lines_at s zone histories moment r = lines_of moment r (given_at s zone histories moment r)
