-- Lists of entries that a checkable of a site may have.
use Rattle.std.specs.Prelude.{◌≡◌, ℕ, ◌<◌, ◌≤◌, Bool, true, false, List, [], ◌∷◌, length, map, All}
use Rattle.run_meaning.specs.Turns.{from_on}
use Rattle.site_model.specs.PlainSite.{PlainSite}
use Rattle.site_model.specs.Sound.{IsIndex}
use Rattle.site_model.specs.declared.decision.Decision.{Decision}
use Rattle.site_model.specs.declared.entry.Entry.{Entry}
use Rattle.site_model.specs.declared.event.Event.{Event}
use Rattle.site_model.specs.declared.event.Event.TheVariants as event
use Rattle.site_model.specs.declared.outcome.Outcome.{Outcome}
use Rattle.site_model.specs.declared.outcome.Outcome.TheVariants as outcome

-- a fixed downtime has no duration, a flexible one has one
abbrev pub IsDuration : Bool → ℕ → Type 0
IsDuration true duration = duration ≡ 0
IsDuration false duration = 0 < duration

-- a result's status is one of the four, and a downtime ends after its start
abbrev pub IsLawful : Event → Type 0
IsLawful (event.Result status passive output perf) = status ≤ 3
IsLawful (event.Down start finish fixed duration) = (start < finish) × IsDuration fixed duration
IsLawful v = Unit {0}

-- what an outcome names is the site's
abbrev pub NamesOwn : PlainSite → Outcome → Type 0
NamesOwn s (outcome.Sent users) = All (IsIndex (length s.users)) users
NamesOwn s (outcome.Dependency depend) = IsIndex (length s.depends) depend
NamesOwn s (outcome.Host host) = IsIndex (length s.checkables) host
NamesOwn s o = Unit {0}

pub record DecidesOwn (s : PlainSite) (d : Decision) : Type 0 where
  pub notification : IsIndex (length s.notifies) d.notification
  pub outcome : NamesOwn s d.outcome

-- an entry with a lawful event, which names what is the site's
pub record IsEntryOf (s : PlainSite) (e : Entry) : Type 0 where
  pub event : IsLawful e.event
  pub sights : All (λ sight. IsIndex (length s.checkables) sight.checkable) e.sights
  pub decisions : All (DecidesOwn s) e.decisions

-- no moment is before this one, nor before that of an entry ahead of it
abbrev pub Rises : ℕ → List Entry → Type 0
Rises from [] = Unit {0}
Rises from (e ∷ es) = (from ≤ e.moment) × Rises e.moment es

-- the entries are numbered from 1, their moments don't fall, and each is one of the site
pub record IsHistory (s : PlainSite) (history : List Entry) : Type 0 where
  pub numbers : map (λ e. e.number) history ≡ from_on 1 (length history)
  pub moments : Rises 0 history
  pub entries : All (IsEntryOf s) history
