-- Entries one after another on a checkable, by what views and downtimes look at.
use Rattle.std.specs.Prelude.{ℕ, suc, zero, ◌+◌, ◌*◌, Bool, true, false, List, [], ◌∷◌}
use Rattle.site_model.specs.declared.decision.Decision.{Decision}
use Rattle.site_model.specs.declared.entry.Entry.{Entry}
use Rattle.site_model.specs.declared.event.Event.{Event}
use Rattle.site_model.specs.declared.state.State.TheVariants as state
use Rattle.run_examples.specs.Turns.{of_status, swing}

-- an entry of this event, of which nothing else is looked at
abbrev pub entry : ℕ → Event → Bool → Entry
entry moment e taken = record { caller = 0; number = 1; moment = moment; event = e; taken = taken; state = state.Okay; hard = true; attempt = 1; sights = []; decisions = [] }

abbrev pub at : ℕ → Event → Entry
at moment e = entry moment e true

abbrev pub void : ℕ → Event → Entry
void moment e = entry moment e false

-- with what was decided at it
abbrev pub deciding : List Decision → Entry → Entry
deciding ds e = record e { decisions = ds }

-- results at every tenth second from this one on
abbrev pub results_from : ℕ → List ℕ → List Entry
results_from moment [] = []
results_from moment (s ∷ ss) = at moment (of_status s) ∷ results_from (moment + 10) ss

abbrev pub results : List ℕ → List Entry
results ss = results_from 10 ss

-- one status so many times
abbrev pub again : ℕ → ℕ → List ℕ
again zero s = []
again (suc n) s = s ∷ again n s

-- so many of these results, the newest first
abbrev pub swung : ℕ → List Entry
swung zero = []
swung (suc n) = at (10 * suc n) (of_status (swing (suc n))) ∷ swung n
