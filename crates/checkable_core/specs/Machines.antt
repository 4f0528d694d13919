-- A checkable as the machine of a turn lock.
use Rattle.std.specs.Prelude.{◌≡◌, ℕ, ◌≤◌, List, ◌++◌, map}
use Rattle.depend_graph.specs.Graph.{IsGraphOf}
use Rattle.run_meaning.specs.Dealing.{last_moment}
use Rattle.run_meaning.specs.Reachability.{ancestors}
use Rattle.run_meaning.specs.View.{view_of}
use Rattle.site_model.specs.PlainSite.{site_view}
use Rattle.site_model.specs.declared.entry.Entry.{Entry}
use Rattle.site_model.specs.declared.view.View.{View}
use Rattle.checkable_core.specs.Contents.{Contents, check_at, with_entry}
use Rattle.checkable_core.specs.Entries.{entry_made}
use Rattle.checkable_core.specs.declared.deed.Deed.{Deed}
use Rattle.checkable_core.specs.declared.machine.SiteMachine.{SiteMachine}

-- the machine's checkable, without an entry later than the machine's moment
pub record IsFit (m : SiteMachine) (k : Contents) : Type 0 where
  pub site : site_view k.site ≡ site_view m.site.now
  pub index : k.index ≡ m.checkable
  pub graph : IsGraphOf (site_view m.site.now) m.graph.now
  pub moment : last_moment k.entries ≤ m.moment

-- a deed at the machine's moment, whose sights are those of the ancestors
pub record IsDeedFor (m : SiteMachine) (d : Deed) : Type 0 where
  pub moment : d.moment ≡ m.moment
  pub sights : map (λ (s : ℕ × View). s.0) d.sights ≡ ancestors (site_view m.site.now) m.checkable

-- the entry that a caller's deed makes
abbrev pub entry_by : SiteMachine → Contents → ℕ → Deed → Entry
entry_by m k caller d =
    entry_made (site_view m.site.now) m.zone.now m.checkable k.entries caller d.moment d.event d.sights

-- what an entry makes of it
abbrev pub after_entry : SiteMachine → Contents → Entry → Contents
after_entry m k e = with_entry k e

-- what is seen of it
abbrev pub glance_by : SiteMachine → Contents → View
glance_by m k = view_of (check_at (site_view k.site) k.index) k.entries

-- with these entries behind its own
abbrev pub with_entries : Contents → List Entry → Contents
with_entries k es = record k { entries = k.entries ++ es }
