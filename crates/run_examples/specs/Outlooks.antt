-- What holds checkables back, where their ancestors show this.
use Rattle.std.specs.Prelude.{ℕ, Bool, true, false, List, [], ◌∷◌, Option, Some, None}
use Rattle.site_model.specs.PlainSite.{PlainSite, plain_site}
use Rattle.site_model.specs.declared.ack.Ack.TheVariants as ack
use Rattle.site_model.specs.declared.depend_spec.DependSpec.{DependSpec}
use Rattle.site_model.specs.declared.kind_set.KindSet.{KindSet}
use Rattle.site_model.specs.declared.state.State.{State}
use Rattle.site_model.specs.declared.state.State.TheVariants as state
use Rattle.site_model.specs.declared.state_set.StateSet.{StateSet}
use Rattle.run_meaning.specs.Acts.{Seen}
use Rattle.run_meaning.specs.Reachability.{Purpose, Reach, for_checks, for_notes, reach_of}
use Rattle.run_examples.specs.Sites.{holds, host, service}

-- a parent lets its child through where it is up or well
abbrev pub well : StateSet
well = record { okay = true; warning = false; critical = false; unknown = false; up = true; down = false }

-- problems alone
abbrev pub only : KindSet
only = record { problem = true; recovery = false; acknowledgement = false; custom = false; downtime_start = false; downtime_end = false; downtime_removed = false; flapping_start = false; flapping_end = false }

-- a dependency of a child on a parent, in a group or in none
abbrev pub depends : ℕ → ℕ → Option (List ℕ) → DependSpec
depends child parent group = record { name = 6 ∷ child ∷ parent ∷ []; child = child; parent = parent; group = group; checks = true; notes = true; ignore_soft = true; states = well; period = None }

-- it counts for nothing
abbrev pub off : DependSpec → DependSpec
off d = record d { checks = false; notes = false }

-- in this group
abbrev pub g : Option (List ℕ)
g = Some (7 ∷ [])

-- what a checkable with a result shows
abbrev pub shows : ℕ → State → Bool → Seen
shows k s hard = record {
  checkable = k;
  view = record { count = 1; has_result = true; state = s; hard = hard; attempt = 1; change = 0; ack = ack.Off; checks_on = true; notes_on = true; flapping = false };
}

abbrev pub up : ℕ → Seen
up k = shows k state.Up true

abbrev pub down : ℕ → Seen
down k = shows k state.Down true

-- down, but not for sure
abbrev pub going_down : ℕ → Seen
going_down k = shows k state.Down false

-- a host without results
abbrev pub unchecked : ℕ → Seen
unchecked k = record { checkable = k; view = record ((up k).view) { has_result = false } }

-- four hosts and a service of the first, with these dependencies
abbrev pub hosts : List DependSpec → PlainSite
hosts ds = record (plain_site (host ∷ host ∷ host ∷ host ∷ service 1 ∷ []) []) { depends = ds }

-- how one is reached
abbrev pub reached_for : Purpose → List DependSpec → List Seen → ℕ → Reach
reached_for purpose ds seen k = reach_of (record { site = hosts ds; holds = holds; purpose = purpose; moment = 0; seen = seen }) k

abbrev pub reached : List DependSpec → List Seen → ℕ → Reach
reached ds seen k = reached_for for_notes ds seen k

abbrev pub checked : List DependSpec → List Seen → ℕ → Reach
checked ds seen k = reached_for for_checks ds seen k
