-- What clauses see of the feed of a site's recurring downtimes.
use Rattle.std.specs.Prelude.{ℕ, List, map, Option}
use Rattle.std.specs.List.{flat_map}
use Rattle.jiff_tz.specs.declared.tzif.Tzif.{Tzif}
use Rattle.site_model.specs.PlainSite.{site_view}
use Rattle.site_model.specs.declared.site.Site.{Site}
use Rattle.run_meaning.specs.Turns.{Histories}
use Rattle.down_recur.specs.Giving.{after_at, lines_at}
use Rattle.down_recur.specs.Recurrings.{recurrings}
use Rattle.down_recur.specs.declared.recurring.Recurring.{Recurring}

-- the site and the zone that it was made for, and what recurs
pub record Contents : Type 0 where
  pub site : Site
  pub zone : Option Tzif
  pub recurrings : List Recurring

-- before the first turn
abbrev pub begun : Site → Option Tzif → Contents
begun site zone = record { site = site; zone = zone; recurrings = recurrings (site_view site) }

-- the lines that it gives where these entries stand, at a moment: those of each object in committed order
unfoldable pub gives : Contents → Histories → ℕ → List (List ℕ)
gives k histories moment = flat_map (lines_at (site_view k.site) k.zone histories moment) k.recurrings

-- and what it is afterwards
unfoldable pub after : Contents → Histories → ℕ → Contents
after k histories moment =
    record k { recurrings = map (after_at (site_view k.site) k.zone histories moment) k.recurrings }
