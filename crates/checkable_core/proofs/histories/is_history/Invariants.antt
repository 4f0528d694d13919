-- The rest decides.
use Rattle.std.proofs.Common.{◌≡◌, drop}
use Rattle.site_model.specs.PlainSite.{site_view}
use Rattle.checkable_core.specs.HistoryTests.{is_history_from}
use Rattle.checkable_core.proofs.histories.is_history.Given as goal

abbrev pub invariant-loop-index : goal.invariant-loop-index
invariant-loop-index l = is_history_from (site_view l.site) l.index l.last (drop l.index l.entries) ≡ is_history_from (site_view l.site) 0 0 l.entries
