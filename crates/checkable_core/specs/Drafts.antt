-- What an event makes of a checkable before anything is decided.
use Rattle.std.specs.Prelude.{◌≡◌, ℕ, List, [], ◌∷◌, ◌++◌}
use Rattle.check_state.specs.Stands.{StandsFor}
use Rattle.run_meaning.specs.Acts.{is_taken}
use Rattle.run_meaning.specs.Downtimes.{is_live}
use Rattle.site_model.specs.PlainSite.{PlainCheck}
use Rattle.site_model.specs.declared.entry.Entry.{Entry}
use Rattle.site_model.specs.declared.event.Event.{Event}
use Rattle.checkable_core.specs.declared.draft.Draft.{Draft}

-- it is what this event at this moment makes of a checkable with these entries
pub record Drafts (d : Draft) (check : PlainCheck) (history : List Entry) (moment : ℕ) (v : Event) : Type 0 where
  pub taken : d.taken ≡ is_taken is_live check history moment v
  pub status : (e : Entry) → e.event ≡ v → e.moment ≡ moment → e.taken ≡ d.taken → StandsFor d.status check (history ++ e ∷ [])
