-- What recurring downtimes give over the turns of a run.
use Rattle.std.specs.Prelude.{ℕ, List, map, Option}
use Rattle.std.specs.List.{flat_map}
use Rattle.jiff_tz.specs.declared.tzif.Tzif.{Tzif}
use Rattle.run_meaning.specs.Turns.{Histories}
use Rattle.site_model.specs.PlainSite.{PlainSite}
use Rattle.down_recur.specs.Giving.{after_at, lines_at}
use Rattle.down_recur.specs.Recurrings.{recurrings}
use Rattle.down_recur.specs.declared.recurring.Recurring.{Recurring}
use Rattle.site_run.specs.Feeds.{Fed, lines_fed}

-- the lines of what recurs, in committed order, at a moment at which these are the entries
abbrev pub lines_now : PlainSite → Option Tzif → List Recurring → Histories → ℕ → List (List ℕ)
lines_now s zone recurring histories moment = flat_map (lines_at s zone histories moment) recurring

-- and what recurs afterwards
abbrev pub recurring_after : PlainSite → Option Tzif → List Recurring → Histories → ℕ → List Recurring
recurring_after s zone recurring histories moment = map (after_at s zone histories moment) recurring

-- the lines that the recurring downtimes of a site in a zone give before each turn's own
abbrev pub recurring_lines : PlainSite → Option Tzif → Fed
recurring_lines s zone = lines_fed (lines_now s zone) (recurring_after s zone) (recurrings s)
