-- An entry: what an event makes of a checkable, given the entries that it has.
use Rattle.std.specs.Prelude.{ℕ, ◌+◌, List, [], ◌∷◌, ◌++◌, length, Bool, true}
use Rattle.site_model.specs.PlainSite.{PlainCheck, PlainSite}
use Rattle.site_model.specs.declared.decision.Decision.{Decision}
use Rattle.site_model.specs.declared.entry.Entry.{Entry}
use Rattle.site_model.specs.declared.event.Event.{Event}
use Rattle.site_model.specs.declared.event.Event.TheVariants as event
use Rattle.site_model.specs.declared.sight.Sight.{Sight}
use Rattle.site_model.specs.declared.view.View.{View}
use Rattle.run_meaning.specs.View.{view_of, best_state, has_effect}

-- an event as a caller takes it: when, and how far it has seen the checkables on which this one depends
pub record Act : Type 0 where
  pub caller : ℕ
  pub moment : ℕ
  pub event : Event
  pub sights : List Sight

-- what a checkable showed at a sight of it
pub record Seen : Type 0 where
  pub checkable : ℕ
  pub view : View

-- whether the downtime that the entry of this number began is live at a moment, by the entries of its checkable
abbrev pub Live : Type 0
Live = PlainCheck → List Entry → ℕ → ℕ → Bool

-- What entries are made by: their site, and the rules that have definitions of their own (`Meaning` gives all of them).
pub record Rules : Type 0 where
  pub site : PlainSite
  pub is_live : Live
  -- the checkables on which one depends, ascending
  pub ancestors : ℕ → List ℕ
  -- what is decided at an entry of a checkable, by those before it and by what was seen
  pub decisions : ℕ → PlainCheck → List Entry → Entry → List Seen → List Decision

-- whether an event has an effect
abbrev pub is_taken : Live → PlainCheck → List Entry → ℕ → Event → Bool
is_taken live c history moment (event.Undown number) = live c history number moment
is_taken live c history moment e = has_effect (view_of c history) e

-- the entry of an act as far as the act itself tells it
abbrev pub noted : PlainCheck → ℕ → Bool → Act → Entry
noted c number taken a = record {
  caller = a.caller;
  number = number;
  moment = a.moment;
  event = a.event;
  taken = taken;
  state = best_state c;
  hard = true;
  attempt = 1;
  sights = a.sights;
  decisions = [];
}

-- with the state that the checkable shows after it
abbrev pub showing : View → Entry → Entry
showing v e = record e { state = v.state; hard = v.hard; attempt = v.attempt }

-- before anything is decided
abbrev pub draft_of : Live → PlainCheck → List Entry → Act → Entry
draft_of live c history a =
    let e = noted c (length history + 1) (is_taken live c history a.moment a.event) a in
    showing (view_of c (history ++ e ∷ [])) e

-- the entry that an act makes of a checkable with these entries, by what it has seen
abbrev pub entry_of : Rules → ℕ → PlainCheck → List Entry → List Seen → Act → Entry
entry_of r k c history seen a = let e = draft_of r.is_live c history a in record e { decisions = r.decisions k c history e seen }
