-- The lines so far, followed by those of the rest, are all.
use Rattle.std.proofs.Common.{◌≡◌, ◌++◌, map, drop}
use Rattle.site_model.specs.PlainSite.{site_view}
use Rattle.run_text.specs.LogText.{styled_entry}
use Rattle.engine_log.proofs.entries.add_entries.Given as goal

abbrev pub invariant-loop-entry : goal.invariant-loop-entry
invariant-loop-entry l =
    l.lines ++ map (styled_entry l.style (site_view l.site) l.checkable) (drop l.entry-index l.entries) ≡ l.initial.lines ++ map (styled_entry l.style (site_view l.site) l.checkable) l.fn.entries
