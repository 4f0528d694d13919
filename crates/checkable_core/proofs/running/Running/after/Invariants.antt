-- So far it is kept of the entries before, and the ones that are left go on in order.
use Rattle.std.proofs.Common.{take, drop}
use Rattle.run_meaning.specs.Dealing.{last_moment}
use Rattle.site_model.specs.PlainSite.{site_view}
use Rattle.checkable_core.specs.Histories.{Rises}
use Rattle.checkable_core.specs.Keeping.{IsKept}
use Rattle.checkable_core.proofs.running.Running.after.Given as goal

abbrev pub invariant-loop-entry : goal.invariant-loop-entry
invariant-loop-entry l = record {
  kept : IsKept (site_view l.site) l.checkable l.running (take l.entry-index l.entries);
  order : Rises (last_moment (take l.entry-index l.entries)) (drop l.entry-index l.entries);
}
