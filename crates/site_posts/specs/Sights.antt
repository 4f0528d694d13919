-- What the ancestors of a checkable show.
use Rattle.std.specs.Prelude.{ℕ, List, map}
use Rattle.checkable_core.specs.Contents.{check_at}
use Rattle.run_meaning.specs.Reachability.{ancestors}
use Rattle.run_meaning.specs.Turns.{Histories, of_index}
use Rattle.run_meaning.specs.View.{view_of}
use Rattle.site_model.specs.PlainSite.{PlainSite}
use Rattle.site_model.specs.declared.view.View.{View}

-- what a checkable of a site shows by its entries, with its index
abbrev pub shown_by : PlainSite → Histories → ℕ → ℕ × View
shown_by s histories p = (p, view_of (check_at s p) (of_index p histories))

-- what the ancestors of one show, ascending
abbrev pub shown : PlainSite → Histories → ℕ → List (ℕ × View)
shown s histories c = map (shown_by s histories) (ancestors s c)
